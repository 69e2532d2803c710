-- Each submit of a segment has its place.
use Rattle.std.proofs.Common.{◌≡◌, ◌∙◌, ℕ, ◌+◌, cond, List, [], ◌∷◌, length, count_by, refl, sym, arith}
use Rattle.std.proofs.lemmas.List.Sums.{sum_by-cons}
use Rattle.pp_model.specs.declared.event.Event.{Event}
use Rattle.pp_model.specs.declared.event.Event.TheVariants.{Submit, Step}
use Rattle.pp_ledger.specs.Segments.{Segment, count_submits}
use Rattle.pp_segments.specs.Segments.{is_submit, IsNamed}
use Rattle.pp_served.specs.Texts.{told_of}

abbrev one_if_submit : Event → ℕ
one_if_submit e = cond (is_submit e) 1 0

pub counted_alike : (es : List Event) → count_by is_submit es ≡ count_submits es
counted_alike [] = refl
counted_alike (Submit k ∷ es) =
    let here : count_by is_submit (Submit k ∷ es) ≡ 1 + count_by is_submit es
    = sum_by-cons one_if_submit (Submit k) es in
    omega (arith, here, counted_alike es)
counted_alike (Step m reply ∷ es) =
    let here : count_by is_submit (Step m reply ∷ es) ≡ 0 + count_by is_submit es
    = sum_by-cons one_if_submit (Step m reply) es in
    omega (arith, here, counted_alike es)

pub is_named : (g : Segment) → length g.prepared ≡ count_submits g.events → IsNamed (told_of g)
is_named g h = h ∙ sym (counted_alike g.events)
