-- A pool that is at rest: there is no next turn, no slot holds or loads a page, and dirty pages are cached.
use Rattle.std.proofs.Common.{◌≡◌, ◌∙◌, ◌⊎◌, ℕ, zero, suc, ◌+◌, Bool, true, false, Option, Some, None, List, length, refl, sym, ap}
use Rattle.std.proofs.Common.{subst, inl, inr, arith}
use Rattle.std.specs.Prelude.{nat_lt, sum_by, replicate, IsTrue, IsSome}
use Rattle.std.proofs.lemmas.Bool.{false≢true}
use Rattle.std.proofs.lemmas.List.Sums.{sum_by-cons}
use Rattle.pp_model.specs.declared.turn.Turn.{Turn}
use Rattle.pp_model.specs.Pool.{State, opening, is_dirty}
use Rattle.pp_model.specs.Holders.{times, takes, pins_of}
use Rattle.pp_arc.specs.FourLists.{is_cached}
use Rattle.pp_model.specs.Turns.{next_turn, IsUnderWay}
use Rattle.pp_model.specs.Renewing.{is_at_rest, renewed, renewed_unless}
use Rattle.pp_model.specs.Reached.{IsReached}
use Rattle.pp_model.specs.Laws.{IsWrittenBack, RestHasNoTurn, RestHoldsNothing, RestKeepsDirty, RenewalOpens}
use Rattle.pp_model.proofs.Rest.{Rests, rests, nobody_runs, nothing_under_way, is_rest, can_renew}
use Rattle.pp_model.proofs.Counts.{counted}
use Rattle.pp_model.proofs.FrameLaws.{dirty_are_kept}
use Rattle.pp_model.proofs.Turns.{next_while_under_way}

none_next : (s : State) → IsReached s → Rests s → (o : Option Turn) → next_turn s ≡ o → next_turn s ≡ None
none_next s h r None e = e
none_next s h r (Some turn) e =
    absurd (nothing_under_way s r
    ((next_while_under_way s h).0 (subst (λ (o : Option Turn). IsSome o) (sym e) refl)))

nothing_goes_on : (s : State) → IsReached s → next_turn s ≡ None → IsUnderWay s → ⊥
nothing_goes_on s h e way =
    false≢true (subst (λ (o : Option Turn). IsSome o) e ((next_while_under_way s h).1 way))

pub rest_has_no_turn : (s : State) → IsReached s → RestHasNoTurn s
rest_has_no_turn s h = (
  λ e. none_next s h (rests s e) (next_turn s) refl,
  λ e. is_rest s (nothing_goes_on s h e),
)

idle_pins : (q n : ℕ) → sum_by (λ seat. times q (takes seat)) (replicate n None) ≡ 0
idle_pins q zero = refl
idle_pins q (suc n) =
    omega (arith, sum_by-cons (λ seat. times q (takes seat)) None (replicate n None), idle_pins q n)

pub rest_holds_nothing : (s : State) → RestHoldsNothing s
rest_holds_nothing s e page =
    let r = rests s e in
    let none : pins_of s page ≡ 0 =
    ap (sum_by (λ seat. times page (takes seat))) r.seats ∙ idle_pins page (length s.seats) in
    ap (nat_lt 0) none

pub rest_keeps_dirty : (s : State) → IsReached s → RestKeepsDirty s
rest_keeps_dirty s h e page dirty = go (dirty_are_kept s h page dirty)
  where
    go : IsTrue (is_cached s.lists page) ⊎ IsWrittenBack s page → IsTrue (is_cached s.lists page)
    go (inl here) = here
    go (inr (w, r, slot, other, at, is)) = absurd (nobody_runs s (rests s e) w r at)

-- ---- renewals

-- A renewal leads to the opening state, but for lists and notes.
pub renewal_opens : (s : State) → IsReached s → RenewalOpens s
renewal_opens s h = record {
  done = λ e. ap (λ o. renewed_unless o s) e ∙ opens (can_renew s e).rests;
  refused = λ error e. ap (λ o. renewed_unless o s) e;
}
  where
    opens : Rests s → renewed s ≡ record (opening s.settings) { lists = s.lists; notes = s.notes }
    opens r =
        let seats : s.seats ≡ replicate s.settings.workers None =
        r.seats ∙ ap (λ n. replicate n None) (counted s h).workers in
        λ i. record (renewed s) { seats = seats i; flush = r.flush i }
