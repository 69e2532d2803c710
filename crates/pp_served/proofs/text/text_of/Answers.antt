use Rattle.std.proofs.Common.{◌≡◌, ◌∙◌, length, count_by, sym, ap, subst}
use Rattle.pp_segments.specs.Segments.{is_submit}
use Rattle.pp_served.proofs.Named.{counted_alike}
use Rattle.pp_served.proofs.text.text_of.Goals as goal

pub segment_text-requires : goal.segment_text-requires
segment_text-requires c =
    subst (λ es. length c.prepared.result.now ≡ count_by is_submit es) (sym c.events.ensures.items)
    (ap length c.prepared.ensures ∙ c.known.ensures ∙ sym (counted_alike c.args.segment.now.events))
