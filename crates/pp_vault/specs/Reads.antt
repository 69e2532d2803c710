-- What a reading comes to that is begun or ended by one call: two calls, one behind the other, and all that holds of each.
use Rattle.std.specs.Prelude.{ℕ, Bool, ◌&&◌, ◌==◌}
use Rattle.pp_plan.specs.declared.mode.Mode.TheVariants as mode
use Rattle.pp_cert.specs.declared.note.Held.TheVariants.{S}
use Rattle.pp_model.specs.declared.moves.Move.TheVariants.{Fix, Latch, Unlatch, Unfix}
use Rattle.pp_model.specs.declared.reply.Reply.TheVariants.{Hit, Latched, Unlatched, Did}
use Rattle.pp_model.specs.Pool.{State}
use Rattle.pp_core.specs.Reading.{can_read, can_end_read}
use Rattle.pp_vault.specs.declared.tokens.Session.{Session}
use Rattle.pp_vault.specs.declared.guards.PinGuard.{PinGuard}
use Rattle.pp_vault.specs.declared.guards.ReadGuard.{ReadGuard}
use Rattle.pp_vault.specs.declared.fixing.Fixed.TheVariants.{Got}
use Rattle.pp_vault.specs.Parts.{Parts}
use Rattle.pp_vault.specs.Headline.{Holds}
use Rattle.pp_vault.specs.Fits.{fix_slot, fix_call, latch_call, unlatch_call, unfix_call}
use Rattle.pp_vault.specs.Events.{Tells}
use Rattle.pp_vault.specs.Fixes.{FixAnswers}
use Rattle.pp_vault.specs.Uses.{LatchesShared, UnlatchesShared, Unfixes}

-- Whether the session can read the page at once: its worker can fix it into the slot that the session tells, which is a hit, and
-- latch it S then.
abbrev pub may_read : Session → (page : ℕ) → State → Bool
may_read x page s = can_read s x.worker (fix_slot x.ask) page

-- Whether the session and the guard can end a reading at once: the guard is of the session's worker, and that can take the latch
-- off the guard's page and unfix it then.
abbrev pub may_end_read : Session → ReadGuard → State → Bool
may_end_read x g s = (g.worker == x.worker) && can_end_read s x.worker g.slot g.page

-- Of session x there are session y and guard h: a fix, which was a hit, and then the latch S, each as a call of its own. Between
-- them are parts with a session and a guard, of which all holds that holds of a vault.
pub record Reads (old : Parts) (x : Session) (page : ℕ) (new : Parts) (y : Session) (h : ReadGuard)
    (frame : ℕ) : Type 0 where
  pub between : Parts
  pub session : Session
  pub guard : PinGuard
  pub holds : Holds between
  pub fixes : FixAnswers old x page (Got session guard) between
  pub fix_told : Tells old (fix_call x.worker (fix_slot x.ask) page) (Fix x.worker page, Hit frame h.mark)
  pub latches : LatchesShared between session guard new y h
  pub latch_told : Tells between (latch_call mode.S session.worker guard.worker guard.slot guard.page)
      (Latch x.worker, Latched h.mark)

-- Of session x and guard g there is session y: the unlatch, and then the unfix, each as a call of its own.
pub record EndsRead (old : Parts) (x : Session) (g : ReadGuard) (new : Parts) (y : Session) (mark : ℕ) : Type 0 where
  pub between : Parts
  pub session : Session
  pub guard : PinGuard
  pub holds : Holds between
  pub unlatches : UnlatchesShared old x g between session guard
  pub unlatch_told : Tells old (unlatch_call S x.worker g.worker g.slot g.page) (Unlatch x.worker, Unlatched mark)
  pub unfixes : Unfixes between session guard new y
  pub unfix_told : Tells between (unfix_call session.worker guard.worker guard.slot guard.page) (Unfix x.worker, Did)
