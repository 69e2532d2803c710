use Rattle.std.proofs.Common.{◌≡◌, ◌∙◌, true, None, Some, refl, sym, ap, subst}
use Rattle.std.proofs.lemmas.Bool.{false≢true}
use Rattle.pp_vault.specs.Stages.{is_chair}
use Rattle.pp_hall.specs.declared.told.Told.{Told}
use Rattle.pp_steps.specs.Calls.{SendsHome}
use Rattle.pp_steps.specs.Lines as lines
use Rattle.pp_steps.specs.Lines.{waiter_at}
use Rattle.pp_steps.specs.Parts.{Parts}
use Rattle.pp_steps.specs.Ringing.{AreRings}
use Rattle.pp_steps.specs.Seats.{seated_at}
use Rattle.pp_steps.specs.Sites.{nobody_told}
use Rattle.pp_steps.proofs.Home.{chair_leaves}
use Rattle.pp_steps.proofs.steps.Steps.leave.Goals as goal
use Rattle.pp_steps.proofs.steps.Steps.leave.Goals.{in-Idle, in_default-matches}

pub returns-else-not-matches : goal.returns-else-not-matches
returns-else-not-matches c =
    let x = c.args.self.now in
    let s = c.in-Some-get.seated.now in
    let waits : waiter_at x.line c.args.pass ≡ None =
    ap (λ (p : Parts). waiter_at p.line c.args.pass) (sym c.self.view_is) ∙ sym c.get.ensures ∙ c.in_default.is in
    let there : seated_at x.seats c.args.pass ≡ Some s =
    ap (λ (p : Parts). seated_at p.seats c.args.pass) (sym c.self.view_is) ∙ c.in-Some-get.ensures.some in
    let idle : is_chair s.worker.hand.stage ≡ true =
    elim c.match-matches.branch [
      | in-Idle w ↦ ap is_chair w.in-Idle.is
      | in_default-matches w ↦ absurd (false≢true (sym w.matches-is ∙ c.if-not-matches.false))
    ] in
    let home : SendsHome x c.args.pass s nobody_told c.send_home-told.result c.send_home-told.new.self =
    subst (λ (t : Told). SendsHome x c.args.pass s t c.send_home-told.result c.send_home-told.new.self) c.nobody.ensures
    (c.send_home-told.ensures s there) in
    chair_leaves x c.args.pass s c.send_home-told.result c.rings-in-Some-get.result _ c.send_home-told.new.self waits
    (sym c.is_flushers.ensures ∙ c.if-is_flushers.false) there idle home
    (subst (λ (l : lines.Parts). AreRings l c.send_home-told.result c.rings-in-Some-get.result)
    (ap (λ (p : Parts). p.line) home.new_is) c.rings-in-Some-get.ensures) refl
