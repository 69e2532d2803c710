-- What unfix, scatter, latch, unlatch and giving a slot back come to.
use Rattle.std.specs.Prelude.{◌≡◌, ℕ, ◌+◌, Some, List}
use Rattle.pp_cert.specs.declared.note.Held.TheVariants.{S}
use Rattle.pp_plan.specs.declared.mode.Mode.TheVariants as mode
use Rattle.pp_model.specs.Pool.{State, frame_of, known_mark}
use Rattle.pp_device.specs.Image.{with_head}
use Rattle.pp_vault.specs.declared.tokens.Session.{Session}
use Rattle.pp_vault.specs.declared.guards.PinGuard.{PinGuard}
use Rattle.pp_vault.specs.declared.guards.ReadGuard.{ReadGuard}
use Rattle.pp_vault.specs.declared.guards.WriteGuard.{WriteGuard}
use Rattle.pp_vault.specs.declared.guards.BundleGuard.{BundleGuard}
use Rattle.pp_vault.specs.Parts.{Parts}
use Rattle.pp_vault.specs.StandsFor.{StandsFor}
use Rattle.pp_vault.specs.Fits.{unfix_call, scatter_call, latch_call, unlatch_call, put_back_call}
use Rattle.pp_vault.specs.Events.{Does}
use Rattle.pp_vault.specs.ImageMoves.{TakenOut, PutIn, ImagesStay}
use Rattle.pp_vault.specs.Tokens.{is_long, SessionFits, PinFits, ReadFits, WriteFits}

-- ---- an image that a writer gives back

-- It is in its page's frame, with its body as the writer left it, and with the page's mark, raised by one, in its head.
abbrev pub IsPutBack : (old new : Parts) → (page : ℕ) → (image : List ℕ) → Type 0
IsPutBack old new page image =
    (s : State) → StandsFor old s → (frame : ℕ) × (mark : ℕ) × (frame_of s page ≡ Some frame)
    × (known_mark s page ≡ Some mark) × PutIn old new frame (with_head image page (mark + 1))

-- ---- calls: of session x and guard g there are a new session y and a new guard h

-- The guard is spent.
pub record Unfixes (old : Parts) (x : Session) (g : PinGuard) (new : Parts) (y : Session) : Type 0 where
  pub does : Does old (unfix_call x.worker g.worker g.slot g.page) new
  pub session : SessionFits new x.worker y
  pub images : ImagesStay old new

-- All pages of the bundle are unfixed, and its guard is spent.
pub record Scatters (old : Parts) (x : Session) (g : BundleGuard) (new : Parts) (y : Session) : Type 0 where
  pub does : Does old (scatter_call x.worker g.worker g.slot) new
  pub session : SessionFits new x.worker y
  pub images : ImagesStay old new

-- The page is latched S, and its image stays in its frame.
pub record LatchesShared (old : Parts) (x : Session) (g : PinGuard) (new : Parts) (y : Session)
    (h : ReadGuard) : Type 0 where
  pub does : Does old (latch_call mode.S x.worker g.worker g.slot g.page) new
  pub session : SessionFits new x.worker y
  pub guard : ReadFits new x.worker h
  pub same : (h.slot ≡ g.slot) × (h.page ≡ g.page)
  pub images : ImagesStay old new

-- The page is latched X, and its image goes from the page's frame into the guard.
pub record LatchesExclusive (old : Parts) (x : Session) (g : PinGuard) (new : Parts) (y : Session)
    (h : WriteGuard) : Type 0 where
  pub does : Does old (latch_call mode.X x.worker g.worker g.slot g.page) new
  pub session : SessionFits new x.worker y
  pub guard : WriteFits new x.worker h
  pub same : (h.slot ≡ g.slot) × (h.page ≡ g.page)
  pub image : (s : State) → StandsFor old s
      → (frame : ℕ) × (frame_of s g.page ≡ Some frame) × TakenOut old new frame h.image

-- The latch S is off the page.
pub record UnlatchesShared (old : Parts) (x : Session) (g : ReadGuard) (new : Parts) (y : Session)
    (h : PinGuard) : Type 0 where
  pub does : Does old (unlatch_call S x.worker g.worker g.slot g.page) new
  pub session : SessionFits new x.worker y
  pub guard : PinFits new x.worker h
  pub same : (h.slot ≡ g.slot) × (h.page ≡ g.page)
  pub images : ImagesStay old new

-- The latch X is off the page, and the guard's image is back in the page's frame.
pub record UnlatchesExclusive (old : Parts) (x : Session) (g : WriteGuard) (new : Parts) (y : Session)
    (h : PinGuard) : Type 0 where
  pub does : Does old (put_back_call (is_long old g.image) x.worker g.worker g.slot g.page) new
  pub session : SessionFits new x.worker y
  pub guard : PinFits new x.worker h
  pub same : (h.slot ≡ g.slot) × (h.page ≡ g.page)
  pub image : IsPutBack old new g.page g.image
