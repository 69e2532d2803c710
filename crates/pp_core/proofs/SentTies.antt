-- A worker sends an errand out, or goes to another stage: the seats that the core keeps fit those of the state.
use Rattle.std.proofs.Common.{◌≡◌, ◌∙◌, ℕ, Some, List, sym, ap, subst}
use Rattle.std.specs.Prelude.{slice_set}
use Rattle.pp_plan.specs.declared.action.Action.{Action}
use Rattle.pp_settings.specs.Limits.{most_slots}
use Rattle.pp_cert.specs.Accepted.{Acceptance}
use Rattle.pp_arc.specs.FourLists.{FourLists}
use Rattle.pp_model.specs.Pool.{Stage, Running, State}
use Rattle.pp_model.specs.Holders.{holdings, held_slots, given_back}
use Rattle.pp_model.specs.Outcome.{at_stage}
use Rattle.pp_model.specs.Moves.{seat_of}
use Rattle.pp_model.proofs.HoldingSteps.{stage_holds}
use Rattle.pp_core.specs.declared.seat.Phase.{Phase}
use Rattle.pp_core.specs.declared.seat.Seat.{Seat}
use Rattle.pp_core.specs.Parts.{Parts}
use Rattle.pp_core.specs.StandsFor.{FitsStage, FitsRunning, FitsCrew, StandsFor}
use Rattle.pp_core.specs.Effects.{IsIn, CanAct, Acted}
use Rattle.pp_core.proofs.Crew.{seat_set}
use Rattle.pp_core.proofs.SlotTies.{Tell}
use Rattle.pp_core.proofs.ActTies.{fits_running}

pub staged_fits : (plans : List Acceptance) (x : Seat) (r : Running) (p : Phase) (g : Stage) → FitsRunning plans x r
    → given_back g ≡ given_back r.stage → FitsStage p g
    → FitsRunning plans (record x { phase = p }) (at_stage r g)
staged_fits plans x r p g fits same stage =
    let holds : holdings (at_stage r g) ≡ holdings r = stage_holds r g same in
    record {
      number = fits.number;
      plan = fits.plan;
      cursor = fits.cursor;
      ask = fits.ask;
      actions = fits.actions;
      holds = fits.holds ∙ ap (held_slots most_slots) (sym holds);
      width = fits.width;
      slots = subst (Tell x.slots) (sym holds) fits.slots;
      phase = stage;
    }

pub staged_crew : (f : Parts) (s : State) (w : ℕ) (x : Seat) (r : Running) (p : Phase) (g : Stage) → StandsFor f s
    → IsIn f w x → seat_of s w ≡ Some (Some r) → given_back g ≡ given_back r.stage → FitsStage p g
    → FitsCrew f.plans (slice_set f.seats w (Some (record x { phase = p }))) (slice_set s.seats w (Some (at_stage r g)))
staged_crew f s w x r p g st is_in e same stage =
    let fits = fits_running f s w x r st is_in e in
    seat_set f.plans f.seats s.seats w (Some (record x { phase = p })) (Some (at_stage r g)) st.seats
    (staged_fits f.plans x r p g fits same stage)

-- What is said of seats and plans stays said where the lists are others.
pub can_act_listed : (f : Parts) (l : FourLists) (w : ℕ) (a : Action) → CanAct f w a → CanAct
    (record f { lists = l }) w a
can_act_listed f l w a h = record {
  seat = h.seat;
  accepted = h.accepted;
  runs = record { is_in = h.runs.is_in; plan = h.runs.plan };
  can = h.can;
}

pub acted_listed : (f g : Parts) (l : FourLists) (w : ℕ) (a : Action) → Acted (record f { lists = l }) g w a
    → Acted f g w a
acted_listed f g l w a h = record {
  seat = h.seat;
  accepted = h.accepted;
  runs = record { is_in = h.runs.is_in; plan = h.runs.plan };
  after = h.after;
  did = h.did;
  seats = h.seats;
}
