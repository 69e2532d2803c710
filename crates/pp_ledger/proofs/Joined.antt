-- Segments that were taken out one after the other are a true journal.
use Rattle.std.proofs.Common.{◌≡◌, ◌∙◌, ℕ, ◌+◌, Some, List, [], ◌∷◌, ◌++◌, length, map, drop}
use Rattle.std.proofs.Common.{refl, sym, ap, subst, arith}
use Rattle.std.proofs.lemmas.List.{map-append, drop-append-le, drop_all}
use Rattle.std.proofs.Math.Seq.{drop-append_seam}
use Rattle.std.specs.Prelude.{slice_get}
use Rattle.pp_cert.specs.Accepted.{Acceptance}
use Rattle.pp_model.specs.Pool.{State}
use Rattle.pp_model.specs.Segments.{AreSegments, segments_end}
use Rattle.pp_model.proofs.Segments.{segments_join}
use Rattle.pp_core.proofs.PlanTies.{Places, more_places}
use Rattle.pp_ledger.specs.Segments.{count_submits}
use Rattle.pp_ledger.specs.Taken.{Taken, AreTaken, segments_of, plans_at_end, all_prepared, AreHeaded}
use Rattle.pp_ledger.specs.Taken.{TakenAreAJournal}
use Rattle.pp_ledger.proofs.Added.{Adds, adds_none, adds_both, adds_length, plans_follow, plans_submitted, plans_counted}

are_segments : (o : State) (number : ℕ) (plans : List Acceptance) (xs : List Taken) → AreTaken o number plans xs
    → AreSegments o (segments_of xs)
are_segments o number plans [] h = tt
are_segments o number plans (x ∷ xs) h =
    (h.0.segment.told, are_segments x.end (number + 1) x.ledger.vault.core.plans xs h.1)

-- ---- what their heads tell

headed : (o : State) (number count : ℕ) (plans : List Acceptance) (xs : List Taken) → count ≡ length o.plans
    → AreTaken o number plans xs → AreHeaded number count xs
headed o number count plans [] e h = tt
headed o number count plans (x ∷ xs) e h =
    let g = h.0.segment in
    let submits = plans_submitted o x.end x.ledger.segment.events g.told in (
      record {
        number = h.0.number;
        plans_before = g.plans_before ∙ sym e;
        places = omega (arith, plans_counted x.ledger o x.end g, g.plans_before, submits);
      },
      headed x.end (number + 1) (count + count_submits x.ledger.segment.events) x.ledger.vault.core.plans xs
          (omega (arith, e, submits)) h.1,
    )

-- ---- which plans they name

-- Plans are only prepared and submitted, and stay.
prepared_grow : (o : State) (number : ℕ) (plans : List Acceptance) (xs : List Taken) → AreTaken o number plans xs
    → Adds plans (plans_at_end plans xs)
prepared_grow o number plans [] h = adds_none plans plans refl
prepared_grow o number plans (x ∷ xs) h =
    let now = x.ledger.vault.core.plans in
    adds_both plans now (plans_at_end now xs) (h.0.more, h.0.plans) (prepared_grow x.end (number + 1) now xs h.1)

submitted_grow : (o : State) (number : ℕ) (plans : List Acceptance) (xs : List Taken) → AreTaken o number plans xs
    → Adds o.plans (segments_end o (segments_of xs)).plans
submitted_grow o number plans [] h = adds_none o.plans o.plans refl
submitted_grow o number plans (x ∷ xs) h =
    adds_both o.plans x.end.plans (segments_end x.end (segments_of xs)).plans
    (plans_follow o x.end x.ledger.segment.events h.0.segment.told)
    (submitted_grow x.end (number + 1) x.ledger.vault.core.plans xs h.1)

-- What comes between two places of a list, and behind the second.
between : (a b c : List Acceptance) → Adds a b → Adds b c
    → drop (length a) c ≡ drop (length a) b ++ drop (length b) c
between a b c ab bc =
    ap (drop (length a)) bc.1
    ∙ drop-append-le (length a) b bc.0 (adds_length a b ab)
    ∙ ap (λ r. drop (length a) b ++ r) (sym (ap (drop (length b)) bc.1 ∙ drop-append_seam b bc.0))

-- The places of both name the plans of both, one behind the other.
both_places : (ps : List Acceptance) (ws vs : List ℕ) (bs cs : List Acceptance) → Places ps ws bs → Places ps vs cs
    → Places ps (ws ++ vs) (bs ++ cs)
both_places ps ws vs bs cs h k =
    map-append (slice_get ps) ws vs ∙ (λ i. h i ++ k i) ∙ sym (map-append (λ (a : Acceptance). Some a) bs cs)

named : (o : State) (number : ℕ) (plans : List Acceptance) (xs : List Taken) → AreTaken o number plans xs
    → Places (plans_at_end plans xs) (all_prepared xs) (drop (length o.plans) (segments_end o (segments_of xs)).plans)
named o number plans [] h = ap (map Some) (sym (drop_all (length o.plans) o.plans (omega arith)))
named o number plans (x ∷ xs) h =
    let now = x.ledger.vault.core.plans in
    let end = (segments_end x.end (segments_of xs)).plans in
    let grown = prepared_grow x.end (number + 1) now xs h.1 in
    let here = drop (length o.plans) x.end.plans in
    let first : Places (plans_at_end now xs) x.ledger.segment.prepared here =
    subst (λ ps. Places ps x.ledger.segment.prepared here) (sym grown.1)
    (more_places now grown.0 x.ledger.segment.prepared here h.0.segment.prepared) in
    both_places (plans_at_end now xs) x.ledger.segment.prepared (all_prepared xs) here
    (drop (length x.end.plans) end) first
    (named x.end (number + 1) now xs h.1)
    ∙ ap (map Some) (sym (between o.plans x.end.plans end
    (plans_follow o x.end x.ledger.segment.events h.0.segment.told)
    (submitted_grow x.end (number + 1) now xs h.1)))

pub taken_join : (o : State) → TakenAreAJournal o
taken_join o number plans xs h = record {
  told = segments_join o (segments_of xs) (are_segments o number plans xs h);
  headed = headed o number (length o.plans) plans xs refl h;
  prepared = named o number plans xs h;
}
