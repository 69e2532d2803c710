-- Bodies of pages that are lent to a host by their address.
use Rattle.std.specs.Prelude.{◌≡◌, ℕ, true, false, Option, None, Some, List, length}
use Rattle.pp_device.specs.Image.{body_of}
use Rattle.pp_vault.specs.declared.guards.Guard.{Guard}
use Rattle.pp_vault.specs.declared.guards.Guard.TheVariants as guard
use Rattle.pp_vault.specs.declared.guards.ReadGuard.{ReadGuard}
use Rattle.pp_vault.specs.declared.guards.WriteGuard.{WriteGuard}
use Rattle.pp_vault.specs.Holding.{placed}
use Rattle.pp_vault.specs.Looks.{may_see, ShowsBody}
use Rattle.pp_vault.specs.Parts as vault
use Rattle.pp_vault.specs.StandsFor.{StandsFor}
use Rattle.pp_model.specs.Pool.{State}
use Rattle.pp_steps.specs.declared.error.PassError.{PassError}
use Rattle.pp_steps.specs.declared.error.PassError.TheVariants as pass_error
use Rattle.pp_steps.specs.declared.lent.Lent.{Lent}
use Rattle.pp_steps.specs.declared.pass.Pass.{Pass}
use Rattle.pp_steps.specs.declared.seated.Seated.{Seated}
use Rattle.pp_steps.specs.Bytes.{no_errand}
use Rattle.pp_steps.specs.Parts.{Parts}
use Rattle.pp_steps.specs.Seats.{seated_at}

-- So many bytes are lent as the body has that the vault shows of the guard's page, which is latched S.
pub record LendsShared (v : vault.Parts) (g : ReadGuard) (lent : Lent) : Type 0 where
  pub fits : (s : State) → StandsFor v s → may_see g s ≡ true
  pub body : List ℕ
  pub shown : ShowsBody v g.page body
  pub length_is : lent.length ≡ length body

-- The guard of a latch S isn't one of the vault's.
abbrev pub IsForeign : vault.Parts → ReadGuard → Type 0
IsForeign v g = (s : State) → StandsFor v s → may_see g s ≡ false

-- So many bytes are lent as the body of the page in the slot has, which is latched.
abbrev pub LendsSlot : vault.Parts → Option Guard → Lent → Type 0
LendsSlot v (Some (guard.Read g)) lent = LendsShared v g lent
LendsSlot v (Some (guard.Write g)) lent = lent.length ≡ length (body_of g.image)
LendsSlot v _ lent = ⊥

-- Why the page in such a slot isn't lent: it isn't latched, or it is latched S by a guard that isn't one of the vault's.
abbrev pub CannotLend : vault.Parts → Option Guard → Type 0
CannotLend v (Some (guard.Read g)) = IsForeign v g
CannotLend v (Some (guard.Write g)) = ⊥
CannotLend v _ = Unit {0}

-- One with this pass runs, and the page in its slot is lent.
pub record LendsBody (x : Parts) (pass : Pass) (slot : ℕ) (lent : Lent) : Type 0 where
  pub seated : Seated
  pub there : seated_at x.seats pass ≡ Some seated
  pub lends : LendsSlot x.hall.seating.vault (placed seated.worker.hand.guards slot) lent

-- Why it isn't: nobody runs with the pass, or the page in the slot can't be lent.
abbrev pub LendFails : Option Seated → Parts → Pass → (slot : ℕ) → PassError → Type 0
LendFails None x pass slot error = error ≡ no_errand x pass
LendFails (Some s) x pass slot error =
    (error ≡ pass_error.WrongStep) × CannotLend x.hall.seating.vault (placed s.worker.hand.guards slot)
