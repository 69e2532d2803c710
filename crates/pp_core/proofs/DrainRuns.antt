-- A run by turns, and where it ends.
use Rattle.std.proofs.Common.{◌≡◌, ◌∙◌, ℕ, suc, ◌+◌, ◌<◌, ◌≤◌, ◌^◌, Bool, true, false, cond, Option, Some, None, List}
use Rattle.std.proofs.Common.{[], ◌∷◌, ◌++◌, length, not, refl, sym, ap, subst, inl, inr, arith, length-append}
use Rattle.std.specs.Prelude.{◌↔◌, IsSome, nat_lt, slice_get, count_by}
use Rattle.std.proofs.lemmas.Bool.Decides.{nat_tests}
use Rattle.std.proofs.lemmas.List.Sums.{sum_by-cons}
use Rattle.pp_model.specs.declared.moves.Move.{Move}
use Rattle.pp_model.specs.declared.reply.Reply.{Reply}
use Rattle.pp_model.specs.declared.turn.Turn.{Turn}
use Rattle.pp_model.specs.Pool.{Running, Flush as FlushInFlight, State}
use Rattle.pp_model.specs.Moves.{seat_of, is_refusal, reply_of, next_of}
use Rattle.pp_model.specs.Reached.{IsReached}
use Rattle.pp_model.specs.Runs.{state_after}
use Rattle.pp_model.specs.Turns.{next_turn, IsUnderWay}
use Rattle.pp_model.specs.Laws.{is_with, workers_with, endings_of}
use Rattle.pp_model.proofs.Accounts.{plans_are_accounted}
use Rattle.pp_model.proofs.Reaching.{holds}
use Rattle.pp_model.proofs.BoundLaws.{Taken, taken_kept}
use Rattle.pp_model.proofs.MarkBounds.{need_is_small, bound_within}
use Rattle.pp_model.proofs.Spans.{events_small}
use Rattle.pp_core.specs.Parts.{Parts}
use Rattle.pp_core.specs.StandsFor.{StandsFor, IsKept, Moves}
use Rattle.pp_core.specs.Draining.{Host, IsNextMove, GoesByTurns, Drains, Rests, CanBeMade, DecidesIn}

-- ---- one move more

after_more : (s : State) (ms : List Move) (m : Move)
    → state_after s (ms ++ m ∷ []) ≡ next_of (state_after s ms) m
after_more s [] m = refl
after_more s (n ∷ ms) m = after_more (next_of s n) ms m

turns_more : {H : Type 0} (host : Host H) (s : State) (h : H) (ms : List Move) (i : H) (m : Move) (j : H)
    → GoesByTurns host s h ms i → IsNextMove host (state_after s ms) i m j → GoesByTurns host s h (ms ++ m ∷ []) j
turns_more host s h [] i m j goes next = (j, subst (λ z. IsNextMove host s z m j) goes next, refl)
turns_more host s h (n ∷ ms) i m j goes next =
    (goes.0, goes.1, turns_more host (next_of s n) goes.0 ms i m j goes.2 next)

-- So many moves lead from each state and host at the start to what is kept and to the host that there is now.
abbrev pub Leads : {H : Type 0} → Host H → (old : Parts) → H → (new : Parts) → (count : ℕ) → H → Type 0
Leads host old h new count i = (s : State) → StandsFor old s → Drains host s h new count i

pub leads_nowhere : {H : Type 0} (host : Host H) (f : Parts) (h : H) → Leads host f h f 0 h
leads_nowhere host f h = λ s st. record { moves = []; many = refl; by_turns = refl; leads = st }

pub leads_on : {H : Type 0} (host : Host H) (old f g : Parts) (h i j : H) (count : ℕ) (turn : Turn) (m : Move)
    (reply : Reply) → Leads host old h f count i → ((s : State) → StandsFor f s → Some turn ≡ next_turn s)
    → CanBeMade f m → DecidesIn host f turn i m j → Moves f m reply g → Leads host old h g (count + 1) j
leads_on host old f g h i j count turn m reply leads next can decided step = λ s st.
    let d = leads s st in
    let mid = state_after s d.moves in
    record {
      moves = d.moves ++ m ∷ [];
      many = omega (arith, d.many, length-append d.moves (m ∷ []));
      by_turns = turns_more host s h d.moves i m j d.by_turns (record {
        possible = can mid d.leads;
        turn = turn;
        next = sym (next mid d.leads);
        decided = decided mid d.leads;
      });
      leads = subst (StandsFor g) (sym (after_more s d.moves m)) (step.stands mid d.leads);
    }

-- A move that can be made isn't refused, so the bound falls.
pub spends : (f g : Parts) (m : Move) (reply : Reply) → IsKept f → CanBeMade f m → Moves f m reply g
    → g.budget + cond (is_refusal reply) 0 1 ≤ f.budget → g.budget + 1 ≤ f.budget
spends f g m reply kept can step le =
    let s = kept.state in
    let st = kept.stands in
    let there : not (is_refusal (reply_of s m)) ≡ true = can s st in
    let same : is_refusal reply ≡ is_refusal (reply_of s m) = ap is_refusal (step.replies s st) in
    let done : is_refusal reply ≡ false = same ∙ not_true (is_refusal (reply_of s m)) there in
    subst (λ (b : Bool). g.budget + cond b 0 1 ≤ f.budget) done le
  where
    not_true : (b : Bool) → not b ≡ true → b ≡ false
    not_true true e = cc
    not_true false e = refl

-- The bound is small.
pub budget_small : (f : Parts) → IsKept f → f.budget < 2 ^ 62
budget_small f kept =
    let s = kept.state in
    let st = kept.stands in
    omega (arith, st.budget, bound_within s st.reached, need_is_small s st.reached, events_small s.settings.span)

-- ---- the end

idle_now : (s : State) (w : ℕ) (x : Option Running) → (IsUnderWay s → ⊥) → seat_of s w ≡ Some x → x ≡ None
idle_now s w None over at = refl
idle_now s w (Some r) over at = absurd (over (inr (inl (w, r, at))))

flush_now : (s : State) (o : Option FlushInFlight) → (IsUnderWay s → ⊥) → s.flush ≡ o → o ≡ None
flush_now s None over e = refl
flush_now s (Some x) over e = absurd (over (inr (inr (subst (λ o. IsSome o) (sym e) refl))))

all_taken : (s : State) (b : Bool) → nat_lt s.taken (length s.plans) ≡ b → s.taken ≤ length s.plans
    → (IsUnderWay s → ⊥) → s.taken ≡ length s.plans
all_taken s true e le over =
    let lt : s.taken < length s.plans = grind (arith, nat_tests) in absurd (over (inl lt))
all_taken s false e le over = grind (arith, nat_tests)

-- Where each seat is idle, no worker has the plan.
with_nobody : (number : ℕ) (seats : List (Option Running))
    → ((w : ℕ) (x : Option Running) → slice_get seats w ≡ Some x → x ≡ None) → count_by (is_with number) seats ≡ 0
with_nobody number [] idle = refl
with_nobody number (x ∷ xs) idle =
    let here = ap {B = ℕ} (λ z. cond (is_with number z) 1 0) (idle 0 x refl) in
    omega (
      arith,
      sum_by-cons (λ z. cond (is_with number z) 1 0) x xs,
      here,
      with_nobody number xs (λ w. idle (suc w)),
    )

-- A plan that was taken, and that no worker has, was ended once.
ended_once : (s : State) (number : ℕ) → IsReached s → s.taken ≡ length s.plans
    → ((w : ℕ) (x : Option Running) → seat_of s w ≡ Some x → x ≡ None) → number < length s.plans
    → endings_of s number ≡ 1
ended_once s number h taken idle lt =
    let one : workers_with s number + endings_of s number ≡ 1 =
    (plans_are_accounted s h).taken number (omega (arith, taken, lt)) in
    let none : workers_with s number ≡ 0 = with_nobody number s.seats idle in
    omega (arith, one, none)

-- Where there is no next turn, all is at rest.
pub rests : (f : Parts) (o : Option Turn) → o ≡ None → ((s : State) → StandsFor f s → IsSome o ↔ IsUnderWay s)
    → Rests f
rests f o none is = λ s st.
    let over : IsUnderWay s → ⊥ = (λ u. let some : IsSome o = (is s st).1 u in cc) in
    let le : s.taken ≤ length s.plans = holds Taken s taken_kept st.reached in
    let taken : s.taken ≡ length s.plans = all_taken s (nat_lt s.taken (length s.plans)) refl le over in
    record {
      none_waits = taken;
      all_idle = λ w x at. idle_now s w x over at;
      all_ended = λ number lt. ended_once s number st.reached taken (λ w x at. idle_now s w x over at) lt;
      no_flush = flush_now s s.flush over refl;
    }
