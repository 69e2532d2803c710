-- An action of a worker, in two steps: the cursor goes on, and the counters and slots are changed.
use Rattle.std.proofs.Common.{◌≡◌, ◌+◌, List, [], ◌∷◌, ◌++◌, sym, ap, subst, ◌∙◌}
use Rattle.pp_plan.specs.declared.action.Action.{Action}
use Rattle.pp_plan.specs.Terms.{Terms}
use Rattle.pp_cursor.specs.Cursor.{StandsFor}
use Rattle.pp_cursor.specs.Asked.{asked}
use Rattle.pp_core.specs.declared.seat.Phase.TheVariants.{Acting}
use Rattle.pp_core.specs.declared.seat.Seat.{Seat}
use Rattle.pp_core.specs.Slots.{slots_after, count_after}
use Rattle.pp_core.specs.Seats.{Did, counted}

pub did : (plan : Terms) (x y z : Seat) (a : Action)
    → ((before : List Action) → StandsFor plan x.cursor before → StandsFor plan y.cursor (before ++ a ∷ []))
    → ((before : List Action) → StandsFor plan x.cursor before → y.ask ≡ asked plan (before ++ a ∷ []))
    → y ≡ record x { cursor = y.cursor; ask = y.ask } → x.phase ≡ Acting → z ≡ counted a y → Did plan x z a
did plan x y z a goes asks same acts e =
    subst (λ (v : Seat). Did plan x v a) (sym e) (record {
      number = ap (λ (v : Seat). v.plan) same;
      place = ap (λ (v : Seat). v.place) same;
      cursor = goes;
      ask = asks;
      actions = ap (λ (v : Seat). v.actions + 1) same;
      holds = ap (λ (v : Seat). count_after a v.slots v.holds) same;
      slots = ap (λ (v : Seat). slots_after a v.slots) same;
      phase = ap (λ (v : Seat). v.phase) same ∙ acts;
    })
