use Rattle.std.proofs.Common.{◌≡◌, ◌∙◌, true, Some, rules, ap, subst}
use Rattle.pp_model.specs.Pool.{State}
use Rattle.pp_vault.specs.StandsFor.{StandsFor}
use Rattle.pp_hall.specs.Halls as halls
use Rattle.pp_hall.specs.Seatings.{is_wanted}
use Rattle.pp_steps.specs.declared.step.Step.{Step}
use Rattle.pp_steps.specs.Calls.{flusher_told, flush_went}
use Rattle.pp_steps.specs.Lines as lines
use Rattle.pp_steps.specs.Parts.{Parts}
use Rattle.pp_steps.specs.Ringing.{AreRings}
use Rattle.pp_steps.specs.Sites.{SameOut}
use Rattle.pp_steps.specs.StepsOf.{step_of_flush, takes}
use Rattle.pp_steps.specs.Turning.{FlushesOver}
use Rattle.pp_steps.proofs.Turns.{flushed_steps, flushes_on, over_same}
use Rattle.pp_steps.proofs.steps.Steps.go_flushing.Goals as goal

pub invariant_of-self-2 : goal.invariant_of-self-2
invariant_of-self-2 c =
    let x : Parts = record {
      hall = c.self.inside.hall.value;
      plans = c.self.inside.plans.items;
      line = c.self.inside.line;
      seats = c.self.inside.seats;
      flushed = c.self.inside.flushed;
      flusher = c.self.inside.flusher;
    } in
    let out : SameOut x.hall c.replace_with-away.new.dest.value = search rules in
    flushed_steps x c.replace_with-away.new.dest.value c.take.new.self out c.self.invariant c.take.ensures.after

pub returns : goal.returns
returns c =
    let old = c.args.self.now in
    let f = c.in-Some.away in
    let left = c.replace_with-away.result.0 in
    let turned = c.replace_with-away.result.1 in
    let told = c.replace_with-away.result.2 in
    let could = c.can_flush-could_flush.result in
    let h : halls.Parts = c.replace_with-away.new.dest.value in
    let out : old.flusher ≡ Some f = search rules in
    let may : takes (step_of_flush f.flusher.flushing) c.args.argument ≡ true = search rules in
    let turns : FlushesOver c.tell.new.self.flusher old.hall turned told h left.flusher = search rules in
    let new_is : c.put_away-2.new.self ≡ record old { hall = h; flusher = Some left } = search rules in
    let can : (s : State) → StandsFor old.hall.seating.vault s → could ≡ is_wanted 0 s = search rules in
    flushes_on old f left c.args.argument turned told h could c.went_by.result c.rings.result c.put_away-2.new.self out may
    (over_same (flusher_told f c.args.argument) c.tell.new.self.flusher left.flusher old.hall h turned told c.tell.ensures.told turns)
    new_is
    (subst (λ (l : lines.Parts). AreRings l told c.rings.result) (ap (λ (x : Parts). x.line) new_is) c.rings.ensures)
    can
    (c.went_by.ensures ∙ ap (λ (next : Step). flush_went turned next could) c.of_flush-next.ensures)
