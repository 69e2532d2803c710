-- Workers that leave their plan, and idle ones: a leaving worker can give back each slot that it holds, and finish
-- where it holds none. Where all are idle and a plan waits, each can take it.
use Rattle.std.proofs.Common.{◌≡◌, ℕ, ◌≤◌, ◌<◌, true, Option, Some, None, List, [], ◌∷◌, length}
use Rattle.std.proofs.Common.{zero, suc, not, refl, sym, ap, subst, arith}
use Rattle.std.specs.Prelude.{slice_get, IsTrue, IsSome}
use Rattle.std.proofs.lemmas.Bool.Decides.{nat_tests}
use Rattle.pp_plan.specs.declared.action.Ask.TheVariants as ask
use Rattle.pp_cert.specs.Accepted.{Acceptance}
use Rattle.pp_cert.specs.Held.{Holding, holding_at}
use Rattle.pp_cert.specs.declared.note.Held.{Held}
use Rattle.pp_cert.specs.declared.note.Held.TheVariants.{Free, S, X}
use Rattle.pp_model.specs.declared.moves.Move.TheVariants as move
use Rattle.pp_model.specs.Pool.{acting, leaving, Running, State, mark_at}
use Rattle.pp_model.specs.Holders.{holdings}
use Rattle.pp_model.specs.Budget.{peak_of, running_peaks}
use Rattle.pp_model.specs.Outcome.{released}
use Rattle.pp_model.specs.Leaving.{unwound, unwind_where, unwind_in, unwind_by, finish_asked, finish_holding, finish_in}
use Rattle.pp_model.specs.Leaving.{finish_by}
use Rattle.pp_model.specs.Taking.{has_room, take_where, take_by}
use Rattle.pp_model.specs.Moves.{asked_by, seat_of, is_refusal, IsPossible}
use Rattle.pp_model.specs.Turns.{CanLeave, is_idle}
use Rattle.pp_model.specs.Reached.{IsReached}
use Rattle.pp_model.proofs.Seats.{good}
use Rattle.pp_model.proofs.TurnsErrands.{Passes, all_zero}

-- ---- leaving

-- Giving back a slot that holds a page isn't refused.
unwound_passes : (s : State) (w : ℕ) (r : Running) (slot : ℕ) (given : List ℕ) (h : Holding) (u : Held) → h.held ≡ u
    → Passes (unwind_where s w r slot given (Some h))
unwound_passes s w r slot given h Free e =
    subst (λ u. IsTrue (not (is_refusal (unwound u (mark_at (released s h.held h.page) h.page))))) (sym e) refl
unwound_passes s w r slot given h S e =
    subst (λ u. IsTrue (not (is_refusal (unwound u (mark_at (released s h.held h.page) h.page))))) (sym e) refl
unwound_passes s w r slot given h X e =
    subst (λ u. IsTrue (not (is_refusal (unwound u (mark_at (released s h.held h.page) h.page))))) (sym e) refl

held_passes : (s : State) (w : ℕ) (r : Running) (slot : ℕ) (given : List ℕ) (o : Option Holding) → IsSome o
    → Passes (unwind_where s w r slot given o)
held_passes s w r slot given None some = absurd cc
held_passes s w r slot given (Some h) some = unwound_passes s w r slot given h h.held refl

-- A leaving worker can give back each slot that it holds, and finish where it holds none.
pub a_leaving_worker_can_leave : (s : State) (w : ℕ) (r : Running) (given : List ℕ) → seat_of s w ≡ Some (Some r)
    → r.stage ≡ leaving given → CanLeave s w r
a_leaving_worker_can_leave s w r given e f = record {
  each = λ slot some.
      subst (λ o. Passes (unwind_by s w slot o)) (sym e)
      (subst (λ g. Passes (unwind_in s w slot r g)) (sym f)
      (held_passes s w r slot given (holding_at (holdings r) slot) some));
  last = λ none.
      subst (λ o. Passes (finish_by s w o)) (sym e)
      (subst (λ g. Passes (finish_in s w r g)) (sym f)
      (subst (λ hs. Passes (finish_holding s w r hs)) (sym none) refl));
}

-- A worker whose plan is at its end can finish.
pub a_worker_at_its_end_can_finish : (s : State) (w : ℕ) (r : Running) → seat_of s w ≡ Some (Some r)
    → r.stage ≡ acting → asked_by r ≡ ask.End → IsPossible s (move.Finish w)
a_worker_at_its_end_can_finish s w r e f end =
    subst (λ o. Passes (finish_by s w o)) (sym e)
    (subst (λ g. Passes (finish_in s w r g)) (sym f) (subst (λ x. Passes (finish_asked s w r x)) (sym end) refl))

-- ---- taking

-- Every worker is idle.
abbrev pub AllIdle : State → Type 0
AllIdle s = (w : ℕ) (x : Option Running) → seat_of s w ≡ Some x → is_idle x ≡ true

-- Then the running peaks are 0.
idle_peak : (x : Option Running) → is_idle x ≡ true → peak_of x ≡ 0
idle_peak None e = refl
idle_peak (Some r) e = cc

none_run : (s : State) → AllIdle s → running_peaks s ≡ 0
none_run s idle = all_zero peak_of s.seats (λ i x e. idle_peak x (idle i x e))

-- The peak of a plan that was submitted is at most the frames.
pub each_plan_fits_alone : (s : State) → IsReached s → (k : ℕ) (a : Acceptance) → slice_get s.plans k ≡ Some a
    → a.peak ≤ s.settings.layout.frames
each_plan_fits_alone s h k a e =
    let plan = (good s h).plans k a e in
    omega (arith, plan.accepted.peak, ap (λ g. g.frames) plan.layout)

-- The first plan that waits.
waiting_plan : (xs : List Acceptance) (k : ℕ) → k < length xs → (a : Acceptance) × (slice_get xs k ≡ Some a)
waiting_plan [] k lt = absurd (omega arith)
waiting_plan (x ∷ xs) zero lt = (x, refl)
waiting_plan (x ∷ xs) (suc k) lt = waiting_plan xs k (omega arith)

-- Its peak fits, so taking it isn't refused.
idle_takes : (s : State) → IsReached s → AllIdle s → (w : ℕ) (x : Option Running) (k : ℕ) (a : Acceptance)
    → is_idle x ≡ true → slice_get s.plans k ≡ Some a → Passes (take_by s w (Some x) (Some a))
idle_takes s h idle w None k a e next =
    let room : has_room s a ≡ true =
    (let fits = each_plan_fits_alone s h k a next in let none = none_run s idle in grind (arith, nat_tests)) in
    subst (λ b. Passes (take_where s w a b)) (sym room) refl
idle_takes s h idle w (Some r) k a e next = cc

-- Where all workers are idle and a plan waits, an idle worker can take it.
pub a_waiting_plan_fits_when_all_are_idle : (s : State) → IsReached s → AllIdle s → s.taken < length s.plans → (w : ℕ)
    → seat_of s w ≡ Some None → IsPossible s (move.Take w)
a_waiting_plan_fits_when_all_are_idle s h idle lt w e =
    let next = waiting_plan s.plans s.taken lt in
    subst (λ o. Passes (take_by s w o (slice_get s.plans s.taken))) (sym e)
    (subst (λ o. Passes (take_by s w (Some None) o)) (sym next.1)
    (idle_takes s h idle w None s.taken next.0 refl next.1))
