use Rattle.std.proofs.Common.{rules, ap, ◌∙◌}
use Rattle.std.proofs.lemmas.Fn.{filter_same}
use Rattle.std.specs.Prelude.{not}
use Rattle.pp_cert.specs.Notes.{is_bundle_of, without_bundle}
use Rattle.pp_annotate.proofs.Splices.{filter_scattered}
use Rattle.pp_annotate.proofs.entries.scattered.Goals as goal

pub returns : goal.returns
returns c =
    filter_same _ (λ e. not (is_bundle_of c.args.slot e)) _ (λ x b f' k. search rules) _ _ c.retain.ensures.filtered
    ∙ filter_scattered c.args.slot _
    ∙ ap (without_bundle c.args.slot) c.in_ok-after.ensures.items
