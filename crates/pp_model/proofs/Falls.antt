-- Each done move lowers the bound.
use Rattle.std.proofs.Common.{◌≡◌, ◌∙◌, ℕ, ◌+◌, ◌-◌, ◌*◌, ◌≤◌, Some, None, List, [], ◌∷◌, ◌++◌, length, sym, ap, arith}
use Rattle.std.specs.Prelude.{filter, not, unwrap_or}
use Rattle.std.proofs.lemmas.List.{length-append}
use Rattle.pp_settings.specs.Layout.{Geometry}
use Rattle.pp_plan.specs.declared.action.Action.{Action}
use Rattle.pp_settings.specs.Limits.{most_slots}
use Rattle.pp_cert.specs.Accepted.{IsAccepted}
use Rattle.pp_cert.specs.Held.{Holding, holding_at, held}
use Rattle.pp_model.specs.Pool.{Stage, acting, writing, reading, leaving, Running}
use Rattle.pp_model.specs.Holders.{given_back, is_among, holdings, held_slots}
use Rattle.pp_model.specs.Budget.{left_in, left_to}
use Rattle.pp_model.specs.Outcome.{at_stage, having_done}
use Rattle.pp_model.specs.Turns.{Asks}
use Rattle.pp_model.specs.Fixing.{fixes}
use Rattle.pp_model.specs.Moves.{asked_by}
use Rattle.pp_model.proofs.Seats.{IsSeat, begins_more}
use Rattle.pp_model.proofs.Effects.{unwound_fills}
use Rattle.pp_model.proofs.KeptSlots.{filled_at}
use Rattle.pp_model.proofs.HeldSlots.{count_of, few_held, held_set}
use Rattle.pp_model.proofs.HoldingSteps.{within_seat}

-- ---- what one worker has left

pub left_at : (r : Running) (g : Stage) → r.stage ≡ g
    → left_to (Some r) ≡ left_in g (r.accepted.steps - length r.done) (held_slots most_slots (holdings r))
left_at r g e = ap (λ x. left_in x (r.accepted.steps - length r.done) (held_slots most_slots (holdings r))) e

pub step_left : (r : Running) (a : Action) → IsAccepted r.accepted → Asks r a → length r.done + 1 ≤ r.accepted.steps
step_left r a h asks = omega (arith, h.steps (r.done ++ a ∷ []) (begins_more r a asks), length-append r.done (a ∷ []))

pub acts_left : (g : Geometry) (r : Running) (a : Action) → IsSeat g r → r.stage ≡ acting → Asks r a
    → left_to (Some (having_done r a)) + 1 ≤ left_to (Some r)
acts_left g r a h e asks = omega (
  arith,
  step_left r a h.accepted asks,
  length-append r.done
      (a ∷ []),
  left_at r acting e,
)

pub loads_left : (g : Geometry) (r : Running) (slot page : ℕ) → IsSeat g r → r.stage ≡ reading slot page
    → Asks r (fixes (asked_by r) slot page)
    → left_to (Some (having_done r (fixes (asked_by r) slot page))) + 1 ≤ left_to (Some r)
loads_left g r slot page h e asks =
    let a = fixes (asked_by r) slot page in
    omega (arith, step_left r a h.accepted asks, length-append r.done (a ∷ []), left_at r (reading slot page) e)

pub loses_left : (g : Geometry) (r : Running) (slot page : ℕ) (k : Stage) → IsSeat g r → given_back k ≡ [] → r.stage ≡ k
    → Asks r (fixes (asked_by r) slot page) → 3 * (r.accepted.steps - length r.done) + 31 ≤ left_to (Some r)
    → left_to (Some (at_stage r (leaving []))) + 1 ≤ left_to (Some r)
loses_left g r slot page k h none e asks left =
    let same : holdings (at_stage r (leaving [])) ≡ holdings r =
    ap (λ given. filter (λ x. not (is_among given x)) (unwrap_or (held r.done) [])) (sym (ap given_back e ∙ none)) in
    let few = few_held most_slots (holdings r) in
    omega (arith, step_left r (fixes (asked_by r) slot page) h.accepted asks, ap (held_slots most_slots) same, few, left)

pub gives_left : (g : Geometry) (r : Running) (slot : ℕ) (given : List ℕ) (h : Holding) → IsSeat g r
    → r.stage ≡ leaving given
    → holding_at (holdings r) slot ≡ Some h → left_to (Some (at_stage r (leaving (slot ∷ given)))) + 1 ≤ left_to
    (Some r)
gives_left g r slot given h seat e found =
    let few = (within_seat g r slot h seat found).few in
    let set =
    held_set most_slots slot None (holdings r) (holdings (at_stage r (leaving (slot ∷ given)))) few
    (filled_at slot [] (holdings r) (holdings (at_stage r (leaving (slot ∷ given)))) (unwound_fills r slot given e)) in
    omega (arith, set, ap count_of found, left_at r (leaving given) e)

pub some_left : (r : Running) → 1 ≤ left_to (Some r)
some_left r = go r.stage
  where
    go : (g : Stage) → 1 ≤ left_in g (r.accepted.steps - length r.done) (held_slots most_slots (holdings r))
    go acting = omega arith
    go (writing slot page v) = omega arith
    go (reading slot page) = omega arith
    go (leaving given) = omega arith
