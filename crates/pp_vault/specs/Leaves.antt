-- What giving a slot back comes to.
use Rattle.std.specs.Prelude.{◌≡◌, ℕ, true}
use Rattle.pp_cert.specs.declared.note.Held.{Held}
use Rattle.pp_cert.specs.declared.note.Held.TheVariants.{Free, S, X}
use Rattle.pp_model.specs.Pool.{State}
use Rattle.pp_core.specs.Queries.{is_leaving}
use Rattle.pp_vault.specs.declared.tokens.Leaver.{Leaver}
use Rattle.pp_vault.specs.declared.guards.WriteGuard.{WriteGuard}
use Rattle.pp_vault.specs.declared.guards.Guard.{Guard}
use Rattle.pp_vault.specs.declared.guards.Guard.TheVariants.{Pin, Read, Write, Bundle}
use Rattle.pp_vault.specs.Parts.{Parts}
use Rattle.pp_vault.specs.StandsFor.{StandsFor}
use Rattle.pp_vault.specs.Calls.{Call}
use Rattle.pp_vault.specs.Fits.{unwind_call, unwind_bundle_call}
use Rattle.pp_vault.specs.Events.{Does}
use Rattle.pp_vault.specs.ImageMoves.{ImagesStay}
use Rattle.pp_vault.specs.Tokens.{is_long}
use Rattle.pp_vault.specs.Uses.{IsPutBack}

-- The call is done; the worker's token comes back, and the worker still leaves its plan.
pub record StillLeaves (old : Parts) (call : State → Call) (x : Leaver) (new : Parts) (y : Leaver) : Type 0 where
  pub does : Does old call new
  pub same : y ≡ x
  pub leaves : (s : State) → StandsFor new s → is_leaving s x.worker ≡ true

-- The slot isn't latched X: all images stay.
pub record GivesSlot (old : Parts) (x : Leaver) (of slot page : ℕ) (held : Held) (new : Parts)
    (y : Leaver) : Type 0 where
  pub still : StillLeaves old (unwind_call true held x.worker of slot page) x new y
  pub images : ImagesStay old new

-- The slot is latched X: the guard's image is back in the page's frame.
pub record GivesImage (old : Parts) (x : Leaver) (g : WriteGuard) (new : Parts) (y : Leaver) : Type 0 where
  pub still : StillLeaves old (unwind_call (is_long old g.image) X x.worker g.worker g.slot g.page) x new y
  pub image : IsPutBack old new g.page g.image

-- The slot is a bundle: all its pages are given back, and all images stay.
pub record GivesBundle (old : Parts) (x : Leaver) (of slot : ℕ) (new : Parts) (y : Leaver) : Type 0 where
  pub still : StillLeaves old (unwind_bundle_call x.worker of slot) x new y
  pub images : ImagesStay old new

-- What the call comes to, by the guard.
abbrev pub give_back_call : Parts → Leaver → Guard → State → Call
give_back_call v x (Pin g) = unwind_call true Free x.worker g.worker g.slot g.page
give_back_call v x (Read g) = unwind_call true S x.worker g.worker g.slot g.page
give_back_call v x (Write g) = unwind_call (is_long v g.image) X x.worker g.worker g.slot g.page
give_back_call v x (Bundle g) = unwind_bundle_call x.worker g.worker g.slot

-- What it does, by the guard: one of a page that is latched X has its image put back, and else all images stay.
abbrev pub GivesBack : (old : Parts) → Leaver → Guard → (new : Parts) → Leaver → Type 0
GivesBack old x (Pin g) new y = GivesSlot old x g.worker g.slot g.page Free new y
GivesBack old x (Read g) new y = GivesSlot old x g.worker g.slot g.page S new y
GivesBack old x (Write g) new y = GivesImage old x g new y
GivesBack old x (Bundle g) new y = GivesBundle old x g.worker g.slot new y
