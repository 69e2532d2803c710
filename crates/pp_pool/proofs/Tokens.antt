-- Whose tokens an answer gives.
use Rattle.std.proofs.Common.{◌≡◌, ◌∙◌, ◌≤◌, ℕ, Bool, List, length, Some, None, refl, sym, ap, subst}
use Rattle.std.specs.Prelude.{is_ok}
use Rattle.pp_vault.specs.declared.tokens.Duty.{Duty}
use Rattle.pp_vault.specs.declared.tokens.Duty.TheVariants.{Read, Write, Flush}
use Rattle.pp_vault.specs.declared.tokens.Errand.{Errand}
use Rattle.pp_vault.specs.declared.tokens.Leaver.{Leaver}
use Rattle.pp_vault.specs.declared.tokens.Returned.{Returned}
use Rattle.pp_vault.specs.declared.tokens.Session.{Session}
use Rattle.pp_vault.specs.declared.guards.PinGuard.{PinGuard}
use Rattle.pp_vault.specs.declared.guards.BundleGuard.{BundleGuard}
use Rattle.pp_vault.specs.declared.guards.WriteGuard.{WriteGuard}
use Rattle.pp_vault.specs.declared.guards.Guard.{Guard}
use Rattle.pp_vault.specs.declared.guards.Guard.TheVariants as guard
use Rattle.pp_vault.specs.declared.answering.Answered.{Answered}
use Rattle.pp_vault.specs.declared.answering.Answered.TheVariants as answered
use Rattle.pp_vault.specs.Parts.{Parts}
use Rattle.pp_vault.specs.StandsFor.{IsKept}
use Rattle.pp_vault.specs.Uses.{LatchesExclusive}
use Rattle.pp_vault.specs.Duties.{duty_worker, duty_slot}
use Rattle.pp_vault.specs.Fixes.{IsSent}
use Rattle.pp_vault.specs.Events.{Does}
use Rattle.pp_vault.specs.Leaves.{GivesBack, give_back_call}
use Rattle.pp_vault.specs.Answers.{DutyEnds, duty_call, AnswerComesTo, answer_call}

pub sent_worker : (old new : Parts) (w page : ℕ) (image : List ℕ) (d : Duty) → IsSent old new w page image d
    → duty_worker d ≡ Some w
sent_worker old new w page image (Read v slot p) h = ap Some h.0
sent_worker old new w page image (Write v slot p victim) h = ap Some h.0
sent_worker old new w page image (Flush p) h = absurd h

pub latched_long : (old new : Parts) (x y : Session) (g : PinGuard) (h : WriteGuard) → LatchesExclusive old x g new y h
    → IsKept new → 64 ≤ length h.image
latched_long old new x y g h latches kept =
    subst (λ n. 64 ≤ n) (sym latches.guard.long) kept.stands.images.wide

pub back_same : (old new : Parts) (x : Leaver) (g : Guard) (y : Leaver) → GivesBack old x g new y → y ≡ x
back_same old new x (guard.Pin g) y h = h.still.same
back_same old new x (guard.Read g) y h = h.still.same
back_same old new x (guard.Write g) y h = h.still.same
back_same old new x (guard.Bundle g) y h = h.still.same

-- What giving a slot back does.
pub back_does : (old new : Parts) (x : Leaver) (g : Guard) (y : Leaver) → GivesBack old x g new y
    → Does old (give_back_call old x g) new
back_does old new x (guard.Pin g) y h = h.still.does
back_does old new x (guard.Read g) y h = h.still.does
back_does old new x (guard.Write g) y h = h.still.does
back_does old new x (guard.Bundle g) y h = h.still.does

-- What the answer of a device does.
ends_does : (old new : Parts) (d : Duty) (image : List ℕ) (ok : Bool) (out : Answered) → DutyEnds old d image ok out new
    → Does old (duty_call old.page_bytes d image ok) new
ends_does old new (Read w slot page) image ok (answered.Got x g) h = h.0
ends_does old new (Read w slot page) image ok (answered.Opened x g) h = h.0
ends_does old new (Read w slot page) image ok (answered.Joined x) h = h.0
ends_does old new (Read w slot page) image ok (answered.Lost x) h = h.0
ends_does old new (Read w slot page) image ok (answered.Away errand) h = absurd h
ends_does old new (Read w slot page) image ok (answered.Flushed clean) h = absurd h
ends_does old new (Write w slot page victim) image ok (answered.Away errand) h = h.1
ends_does old new (Write w slot page victim) image ok (answered.Lost x) h = h.1
ends_does old new (Write w slot page victim) image ok (answered.Got x g) h = absurd h
ends_does old new (Write w slot page victim) image ok (answered.Opened x g) h = absurd h
ends_does old new (Write w slot page victim) image ok (answered.Joined x) h = absurd h
ends_does old new (Write w slot page victim) image ok (answered.Flushed clean) h = absurd h
ends_does old new (Flush page) image ok (answered.Flushed clean) h = h.does
ends_does old new (Flush page) image ok (answered.Got x g) h = absurd h
ends_does old new (Flush page) image ok (answered.Opened x g) h = absurd h
ends_does old new (Flush page) image ok (answered.Joined x) h = absurd h
ends_does old new (Flush page) image ok (answered.Away errand) h = absurd h
ends_does old new (Flush page) image ok (answered.Lost x) h = absurd h

pub answer_does : (old new : Parts) (returned : Returned) (out : Answered) → AnswerComesTo old returned out new
    → Does old (answer_call old.page_bytes returned) new
answer_does old new returned out h = ends_does old new returned.duty returned.image (is_ok returned.answer) out h

pub no_slot : (d : Duty) → duty_worker d ≡ None → duty_slot d ≡ None
no_slot (Read w slot page) e = cc
no_slot (Write w slot page victim) e = cc
no_slot (Flush page) e = refl

module _ (old new : Parts) (image : List ℕ) (ok : Bool) where
  pub got_worker : (d : Duty) (x : Session) (g : PinGuard) → DutyEnds old d image ok (answered.Got x g) new
      → duty_worker d ≡ Some x.worker
  got_worker (Read w slot page) x g h = ap Some (sym h.1.session.worker)
  got_worker (Write w slot page victim) x g h = absurd h
  got_worker (Flush page) x g h = absurd h

  -- The guard is of that worker too.
  pub got_guard : (d : Duty) (x : Session) (g : PinGuard) → DutyEnds old d image ok (answered.Got x g) new
      → g.worker ≡ x.worker
  got_guard (Read w slot page) x g h = h.1.guard.worker ∙ sym h.1.session.worker
  got_guard (Write w slot page victim) x g h = absurd h
  got_guard (Flush page) x g h = absurd h

  pub got_slot : (d : Duty) (x : Session) (g : PinGuard) → DutyEnds old d image ok (answered.Got x g) new
      → duty_slot d ≡ Some g.slot
  got_slot (Read w slot page) x g h = ap Some (sym h.1.of_slot)
  got_slot (Write w slot page victim) x g h = absurd h
  got_slot (Flush page) x g h = absurd h

  pub opened_worker : (d : Duty) (x : Session) (g : BundleGuard) → DutyEnds old d image ok (answered.Opened x g) new
      → duty_worker d ≡ Some x.worker
  opened_worker (Read w slot page) x g h = ap Some (sym h.1.session.worker)
  opened_worker (Write w slot page victim) x g h = absurd h
  opened_worker (Flush page) x g h = absurd h

  pub opened_guard : (d : Duty) (x : Session) (g : BundleGuard) → DutyEnds old d image ok (answered.Opened x g) new
      → g.worker ≡ x.worker
  opened_guard (Read w slot page) x g h = h.1.guard.worker ∙ sym h.1.session.worker
  opened_guard (Write w slot page victim) x g h = absurd h
  opened_guard (Flush page) x g h = absurd h

  pub opened_slot : (d : Duty) (x : Session) (g : BundleGuard) → DutyEnds old d image ok (answered.Opened x g) new
      → duty_slot d ≡ Some g.slot
  opened_slot (Read w slot page) x g h = ap Some (sym h.1.of_slot)
  opened_slot (Write w slot page victim) x g h = absurd h
  opened_slot (Flush page) x g h = absurd h

  pub joined_worker : (d : Duty) (x : Session) → DutyEnds old d image ok (answered.Joined x) new
      → duty_worker d ≡ Some x.worker
  joined_worker (Read w slot page) x h = ap Some (sym h.1.session.worker)
  joined_worker (Write w slot page victim) x h = absurd h
  joined_worker (Flush page) x h = absurd h

  pub away_worker : (d : Duty) (errand : Errand) → DutyEnds old d image ok (answered.Away errand) new
      → duty_worker errand.duty ≡ duty_worker d
  away_worker (Read w slot page) errand h = absurd h
  away_worker (Write w slot page victim) errand h = ap duty_worker h.2.duty
  away_worker (Flush page) errand h = absurd h

  pub away_slot : (d : Duty) (errand : Errand) → DutyEnds old d image ok (answered.Away errand) new
      → duty_slot errand.duty ≡ duty_slot d
  away_slot (Read w slot page) errand h = absurd h
  away_slot (Write w slot page victim) errand h = ap duty_slot h.2.duty
  away_slot (Flush page) errand h = absurd h

  pub lost_worker : (d : Duty) (x : Leaver) → DutyEnds old d image ok (answered.Lost x) new
      → duty_worker d ≡ Some x.worker
  lost_worker (Read w slot page) x h = ap Some (sym h.1.worker)
  lost_worker (Write w slot page victim) x h = ap Some (sym h.2.worker)
  lost_worker (Flush page) x h = absurd h

  pub flushed_worker : (d : Duty) (clean : Bool) → DutyEnds old d image ok (answered.Flushed clean) new
      → duty_worker d ≡ None
  flushed_worker (Read w slot page) clean h = absurd h
  flushed_worker (Write w slot page victim) clean h = absurd h
  flushed_worker (Flush page) clean h = refl
