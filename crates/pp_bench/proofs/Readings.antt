-- Whose the tokens are that a reading gives, which a book begins or ends by one call.
use Rattle.std.proofs.Common.{◌≡◌, ◌∙◌, ℕ}
use Rattle.pp_vault.specs.declared.tokens.Session.{Session}
use Rattle.pp_vault.specs.declared.guards.ReadGuard.{ReadGuard}
use Rattle.pp_vault.specs.Fits.{fix_slot}
use Rattle.pp_pool.specs.Parts.{Parts}
use Rattle.pp_pool.specs.Performs.{Performs}
use Rattle.pp_pool.specs.Readings.{ReadsBy, EndsReadBy}

-- The session is the same worker's, and the guard is of the slot that the session before named.
module _ (old : Parts) (x : Session) (page : ℕ) (new : Parts) (y : Session) (h : ReadGuard) (frame : ℕ)
    (reads : ReadsBy Performs old x page new y h frame) where
  pub read_worker : y.worker ≡ x.worker
  read_worker = reads.latch_fits.tokens.0 ∙ reads.fix_fits.tokens.0

  pub read_slot : h.slot ≡ fix_slot x.ask
  read_slot = reads.latch_fits.tokens.1 ∙ reads.fix_fits.tokens.3

-- So it is the same worker's when a reading has ended.
pub end_worker : (old : Parts) (x : Session) (g : ReadGuard) (new : Parts) (y : Session) (mark : ℕ)
    → EndsReadBy Performs old x g new y mark → y.worker ≡ x.worker
end_worker old x g new y mark ends = ends.unfix_fits.tokens ∙ ends.unlatch_fits.tokens.0
