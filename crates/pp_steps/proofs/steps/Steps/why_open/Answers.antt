use Rattle.std.proofs.Common.{◌≡◌, ◌∙◌, None, sym, ap, subst}
use Rattle.std.specs.Prelude.{is_some}
use Rattle.std.proofs.lemmas.Bool.{false≢true}
use Rattle.pp_steps.specs.Parts.{Parts}
use Rattle.pp_steps.specs.Seats.{AllFree}
use Rattle.pp_steps.proofs.steps.Steps.why_open.Goals as goal
use Rattle.pp_steps.proofs.steps.Steps.why_open.Goals.{then-not-is_empty-via-then-not-is_empty, then-not-is_empty-via-else-not-is_empty+then-is_some}

pub returns-then-not-is_empty : goal.returns-then-not-is_empty
returns-then-not-is_empty c = λ home.
    elim c.then-not-is_empty.branch [
      | then-not-is_empty-via-then-not-is_empty w ↦
          c.is_empty.ensures.some w.if-not-is_empty.true
          (subst (λ seats. AllFree seats) (sym (ap (λ (p : Parts). p.seats) c.self.view_is)) home.seats)
      | then-not-is_empty-via-else-not-is_empty+then-is_some w ↦
          let none : c.self.inside.flusher ≡ None = ap (λ (p : Parts). p.flusher) c.self.view_is ∙ home.flusher in
          false≢true (ap is_some (sym none) ∙ sym w.is_some.ensures ∙ w.if-is_some.true)
    ]
