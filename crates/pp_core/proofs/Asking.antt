-- What a worker is at, on the core's side and on the state's.
use Rattle.std.proofs.Common.{◌≡◌, ◌∙◌, ℕ, Option, Some, None, List, refl, sym, ap}
use Rattle.std.specs.Prelude.{slice_get, option_map}
use Rattle.pp_plan.specs.declared.action.Ask.{Ask}
use Rattle.pp_cert.specs.Accepted.{Acceptance}
use Rattle.pp_model.specs.declared.refusals.Cause.{Cause}
use Rattle.pp_model.specs.Pool.{Stage, acting, writing, reading, leaving, Running, State}
use Rattle.pp_model.specs.Outcome.{Outcome, off_plan}
use Rattle.pp_model.specs.Moves.{act_by, act_in, seat_of}
use Rattle.pp_core.specs.declared.seat.Phase.{Phase}
use Rattle.pp_core.specs.declared.seat.Phase.TheVariants.{Acting, Writing, Reading, Leaving}
use Rattle.pp_core.specs.declared.seat.Seat.{Seat}
use Rattle.pp_core.specs.Parts.{Parts}
use Rattle.pp_core.specs.StandsFor.{FitsStage, FitsRunning, FitsSeat, StandsFor, Asks, CannotAct}
use Rattle.pp_core.specs.Effects.{phase_of, acting_fault, Runs, IsIn}
use Rattle.pp_core.proofs.Crew.{seat_from, seat_none}

-- ---- phases

-- Where the phase is known, so is the seat.
pub record InPhase (f : Parts) (w : ℕ) (p : Phase) : Type 0 where
  pub seat : Seat
  pub is_in : IsIn f w seat
  pub phase : seat.phase ≡ p

seat_in_phase : (f : Parts) (w : ℕ) (p : Phase) (o : Option (Option Seat)) → slice_get f.seats w ≡ o
    → option_map (option_map (λ (x : Seat). x.phase)) o ≡ Some (Some p) → InPhase f w p
seat_in_phase f w p None e h = cc
seat_in_phase f w p (Some None) e h = cc
seat_in_phase f w p (Some (Some x)) e h = record { seat = x; is_in = e; phase = cc }

pub in_phase : (f : Parts) (w : ℕ) (p : Phase) → Some (Some p) ≡ phase_of f w → InPhase f w p
in_phase f w p e = seat_in_phase f w p (slice_get f.seats w) refl (sym e)

-- What the core and the state have of one worker.
pub record Both (f : Parts) (s : State) (w : ℕ) (x : Seat) : Type 0 where
  pub running : Running
  pub there : seat_of s w ≡ Some (Some running)
  pub fits : FitsRunning f.plans x running

both_of : (f : Parts) (s : State) (w : ℕ) (x : Seat) (y : Option Running) → seat_of s w ≡ Some y
    → FitsSeat f.plans (Some x) y → Both f s w x
both_of f s w x None e h = absurd h
both_of f s w x (Some r) e h = record { running = r; there = e; fits = h }

pub both : (f : Parts) (s : State) (w : ℕ) (x : Seat) → StandsFor f s → IsIn f w x → Both f s w x
both f s w x st e =
    let there = seat_from f.plans f.seats s.seats w (Some x) st.seats e in
    both_of f s w x there.0 there.1 there.2

-- ---- acting

stage_acts : (p : Phase) (g : Stage) → p ≡ Acting → FitsStage p g → g ≡ acting
stage_acts Acting acting e h = refl
stage_acts Acting (writing slot page victim) e h = absurd h
stage_acts Acting (reading slot page) e h = absurd h
stage_acts Acting (leaving given) e h = absurd h
stage_acts (Writing s p v) g e h = cc
stage_acts (Reading s p) g e h = cc
stage_acts Leaving g e h = cc

pub runs : (f : Parts) (s : State) (w : ℕ) (x : Seat) (r : Running) → StandsFor f s → IsIn f w x
    → FitsRunning f.plans x r → Runs f w x r.accepted
runs f s w x r st is_in fits = record {
  is_in = is_in;
  plan = fits.plan;
}

pub asks_this : (f : Parts) (w : ℕ) (ask : Ask) → Some (Some Acting) ≡ phase_of f w
    → ((x : Seat) → IsIn f w x → ask ≡ x.ask) → Asks f w ask
asks_this f w ask e tells = λ s st.
    let at = in_phase f w Acting e in
    let two = both f s w at.seat st at.is_in in
    let r = two.running in (
      r,
      record { seat = two.there; stage = stage_acts at.seat.phase r.stage at.phase two.fits.phase },
      sym (tells at.seat at.is_in ∙ two.fits.ask),
    )

-- ---- not acting

-- A worker that doesn't act is told why.
act_elsewhere : (s : State) (act : Running → Outcome) (r : Running) (p : Phase) (g : Stage) (cause : Cause)
    → FitsStage p g → acting_fault (Some (Some p)) ≡ Some cause → act_in s act r g ≡ off_plan s cause
act_elsewhere s act r Acting g cause h e = cc
act_elsewhere s act r (Writing slot page v) acting cause h e = absurd h
act_elsewhere s act r (Writing slot page v) (writing t x u) cause h e = ap (off_plan s) cc
act_elsewhere s act r (Writing slot page v) (reading t x) cause h e = absurd h
act_elsewhere s act r (Writing slot page v) (leaving given) cause h e = absurd h
act_elsewhere s act r (Reading slot page) acting cause h e = absurd h
act_elsewhere s act r (Reading slot page) (writing t x u) cause h e = absurd h
act_elsewhere s act r (Reading slot page) (reading t x) cause h e = ap (off_plan s) cc
act_elsewhere s act r (Reading slot page) (leaving given) cause h e = absurd h
act_elsewhere s act r Leaving acting cause h e = absurd h
act_elsewhere s act r Leaving (writing t x u) cause h e = absurd h
act_elsewhere s act r Leaving (reading t x) cause h e = absurd h
act_elsewhere s act r Leaving (leaving given) cause h e = ap (off_plan s) cc

cannot_seat : (ps : List Acceptance) (s : State) (act : Running → Outcome) (x : Option Seat) (y : Option Running) (cause : Cause)
    → FitsSeat ps x y → acting_fault (Some (option_map (λ (z : Seat). z.phase) x)) ≡ Some cause
    → act_by s act (Some y) ≡ off_plan s cause
cannot_seat ps s act None None cause h e = ap (off_plan s) cc
cannot_seat ps s act None (Some r) cause h e = absurd h
cannot_seat ps s act (Some x) None cause h e = absurd h
cannot_seat ps s act (Some x) (Some r) cause h e = act_elsewhere s act r x.phase r.stage cause h.phase e

cannot_by : (f : Parts) (w : ℕ) (cause : Cause) (o : Option (Option Seat)) → slice_get f.seats w ≡ o
    → acting_fault (option_map (option_map (λ (x : Seat). x.phase)) o) ≡ Some cause → CannotAct f w cause
cannot_by f w cause None e h = λ s act st.
    ap (act_by s act) (seat_none f.plans f.seats s.seats w st.seats e) ∙ ap (off_plan s) cc
cannot_by f w cause (Some x) e h = λ s act st.
    let there = seat_from f.plans f.seats s.seats w x st.seats e in
    ap (act_by s act) there.1 ∙ cannot_seat f.plans s act x there.0 cause there.2 h

pub cannot : (f : Parts) (w : ℕ) (cause : Cause) → acting_fault (phase_of f w) ≡ Some cause → CannotAct f w cause
cannot f w cause e = cannot_by f w cause (slice_get f.seats w) refl e

acts_by : (o : Option (Option Phase)) → acting_fault o ≡ None → Some (Some Acting) ≡ o
acts_by None e = cc
acts_by (Some None) e = cc
acts_by (Some (Some Acting)) e = refl
acts_by (Some (Some (Writing slot page v))) e = cc
acts_by (Some (Some (Reading slot page))) e = cc
acts_by (Some (Some Leaving)) e = cc

pub acts : (f : Parts) (w : ℕ) → acting_fault (phase_of f w) ≡ None → Some (Some Acting) ≡ phase_of f w
acts f w e = acts_by (phase_of f w) e
