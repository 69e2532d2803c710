use Rattle.std.proofs.Common.{rules, ap, ◌∙◌}
use Rattle.std.proofs.lemmas.Fn.{filter_same}
use Rattle.std.specs.Prelude.{not}
use Rattle.pp_cert.specs.Notes.{is_slot, without_page}
use Rattle.pp_annotate.proofs.Splices.{filter_is}
use Rattle.pp_annotate.proofs.entries.removed.Goals as goal

pub returns : goal.returns
returns c =
    filter_same _ (λ e. not (is_slot c.args.slot e)) _ (λ x b f' k. search rules) _ _ c.retain.ensures.filtered
    ∙ filter_is c.args.slot _
    ∙ ap (without_page c.args.slot) c.in_ok-after.ensures.items
