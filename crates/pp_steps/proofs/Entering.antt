-- Who comes to the queue.
use Rattle.std.proofs.Common.{◌≡◌, ◌+◌, ◌-◌, ℕ, false, Some, inl, inr, subst, arith}
use Rattle.std.specs.Prelude.{slice_get}
use Rattle.pp_hall.specs.declared.error.EnterError.{EnterError}
use Rattle.pp_hall.specs.declared.error.EnterError.TheVariants.{Stopped, TooLarge, Full}
use Rattle.pp_hall.specs.Calls as hall
use Rattle.pp_steps.specs.declared.line.Waiter.{Waiter}
use Rattle.pp_steps.specs.declared.pass.Pass.{Pass}
use Rattle.pp_steps.specs.declared.plans.KeptPlan.{KeptPlan}
use Rattle.pp_steps.specs.Lines as lines
use Rattle.pp_steps.specs.Parts.{Parts}
use Rattle.pp_steps.specs.Calls.{IsFullFor}

-- A hall that goes on refuses a plan that is kept only where no more may wait.
pub full_for : (old : Parts) (plan : ℕ) (kind : KeptPlan) (why : EnterError) → slice_get old.plans plan ≡ Some kind
    → old.hall.waiters.is_stopped ≡ false → hall.EnterFails old.hall kind.peak why → IsFullFor old plan
full_for old plan kind Stopped there on f = cc
full_for old plan kind TooLarge there on f = record { goes_on = on; kind = kind; there = there; full = inr (inl f) }
full_for old plan kind Full there on f = record { goes_on = on; kind = kind; there = there; full = inr (inr f) }

-- Who was put into a place of the line is in the place of its pass.
pub put_there : (l l' : lines.Parts) (at : ℕ) (pass : Pass) (w : Waiter) → pass.bell ≡ l.first + at
    → l' ≡ lines.put_at l at pass.turn w → l' ≡ lines.put_at l (pass.bell - l.first) pass.turn w
put_there l l' at pass w bell put =
    let same : at ≡ pass.bell - l.first = omega (arith, bell) in
    subst (λ n. l' ≡ lines.put_at l n pass.turn w) same put
