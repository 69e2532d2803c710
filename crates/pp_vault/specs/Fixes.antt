-- What a fix of a vault comes to.
use Rattle.std.specs.Prelude.{◌≡◌, ℕ, true, Some, List, ◌∷◌}
use Rattle.pp_plan.specs.declared.action.Ask.TheVariants as ask
use Rattle.pp_model.specs.declared.moves.Move.TheVariants.{Fix}
use Rattle.pp_model.specs.declared.reply.Reply.TheVariants.{Hit, MustRead, MustWrite}
use Rattle.pp_model.specs.Pool.{State, frame_of}
use Rattle.pp_model.specs.Moves.{reply_of, next_of}
use Rattle.pp_model.specs.Ready.{Vacates}
use Rattle.pp_core.specs.Queries.{ask_of, bundle_of}
use Rattle.pp_vault.specs.declared.tokens.Session.{Session}
use Rattle.pp_vault.specs.declared.tokens.Duty.{Duty}
use Rattle.pp_vault.specs.declared.tokens.Duty.TheVariants.{Read, Write, Flush}
use Rattle.pp_vault.specs.declared.guards.PinGuard.{PinGuard}
use Rattle.pp_vault.specs.declared.guards.BundleGuard.{BundleGuard}
use Rattle.pp_vault.specs.declared.fixing.Fixed.{Fixed}
use Rattle.pp_vault.specs.declared.fixing.Fixed.TheVariants.{Got, Opened, Joined, Away}
use Rattle.pp_vault.specs.Parts.{Parts}
use Rattle.pp_vault.specs.StandsFor.{StandsFor}
use Rattle.pp_vault.specs.ImageMoves.{TakenOut, ImagesStay}
use Rattle.pp_vault.specs.Fits.{is_gathered, IsEmpty, fix_slot, fix_call}
use Rattle.pp_vault.specs.Events.{Does}
use Rattle.pp_vault.specs.Tokens.{SessionFits, PinFits, BundleFits, ErrandFits}

-- ---- fix

-- The page was cached: the slot that the plan names holds it, and no image has moved.
pub record IsHit (old new : Parts) (w page : ℕ) (x : Session) (g : PinGuard) : Type 0 where
  pub replies : (s : State) → StandsFor old s
      → (frame : ℕ) × (mark : ℕ) × (reply_of s (Fix w page) ≡ Hit frame mark)
      × (frame_of (next_of s (Fix w page)) page ≡ Some frame)
  pub asked : (s : State) → StandsFor old s → (region : ℕ) × (ask_of s w ≡ Some (ask.Fix g.slot region))
  pub was : (s : State) → StandsFor old s → IsEmpty s w g.slot
  pub session : SessionFits new w x
  pub guard : PinFits new w g
  pub of_page : g.page ≡ page
  pub images : ImagesStay old new

-- The page has come into the bundle of worker w's slot, before those that were in it.
abbrev pub Gathers : (old new : Parts) → (w slot page : ℕ) → Type 0
Gathers old new w slot page =
    (s t : State) → StandsFor old s → StandsFor new t → bundle_of t w slot ≡ page ∷ bundle_of s w slot

-- The page was cached: it is the first of the bundle that the plan names, which held nothing, and no image has moved.
pub record OpensBundle (old new : Parts) (w page : ℕ) (x : Session) (g : BundleGuard) : Type 0 where
  pub replies : (s : State) → StandsFor old s
      → (frame : ℕ) × (mark : ℕ) × (reply_of s (Fix w page) ≡ Hit frame mark)
      × (frame_of (next_of s (Fix w page)) page ≡ Some frame)
  pub asked : (s : State) → StandsFor old s → (region : ℕ) × (ask_of s w ≡ Some (ask.Gather g.slot region))
  pub was : (s : State) → StandsFor old s → IsEmpty s w g.slot
  pub session : SessionFits new w x
  pub guard : BundleFits new w g
  pub gathers : Gathers old new w g.slot page
  pub images : ImagesStay old new

-- The page was cached: it is one more of the bundle that the plan names, which held a page, and no image has moved.
pub record JoinsBundle (old new : Parts) (w slot page : ℕ) (x : Session) : Type 0 where
  pub replies : (s : State) → StandsFor old s
      → (frame : ℕ) × (mark : ℕ) × (reply_of s (Fix w page) ≡ Hit frame mark)
      × (frame_of (next_of s (Fix w page)) page ≡ Some frame)
  pub asked : (s : State) → StandsFor old s → (region : ℕ) × (ask_of s w ≡ Some (ask.Gather slot region))
  pub was : (s : State) → StandsFor old s → is_gathered s w slot ≡ true
  pub session : SessionFits new w x
  pub gathers : Gathers old new w slot page
  pub images : ImagesStay old new

-- A device has to work: the page gets a frame, and the errand has the image that was in it. Where a victim is written
-- back, the frame was the victim's. Where the page is read at once, no page was ready in the frame, or one that was has
-- left it.
abbrev pub IsSent : (old new : Parts) → (w page : ℕ) → (image : List ℕ) → Duty → Type 0
IsSent old new w page image (Read v slot p) =
    (v ≡ w) × (p ≡ page) × ((s : State) → StandsFor old s → (frame : ℕ)
    × (reply_of s (Fix w page) ≡ MustRead frame) × (frame_of (next_of s (Fix w page)) page ≡ Some frame)
    × Vacates s (next_of s (Fix w page)) frame × TakenOut old new frame image)
IsSent old new w page image (Write v slot p victim) =
    (v ≡ w) × (p ≡ page) × ((s : State) → StandsFor old s → (frame : ℕ)
    × (reply_of s (Fix w page) ≡ MustWrite frame victim) × (frame_of (next_of s (Fix w page)) page ≡ Some frame)
    × (frame_of s victim ≡ Some frame) × TakenOut old new frame image)
IsSent old new w page image (Flush p) = ⊥

-- What a fix comes to, where it isn't refused: the guard of the slot that the session tells, or of the bundle that it opens
-- there; one page more in that bundle; or an errand; each with what the call does.
abbrev pub FixAnswers : (old : Parts) → Session → (page : ℕ) → Fixed → (new : Parts) → Type 0
FixAnswers old x page (Got session guard) new =
    Does old (fix_call x.worker (fix_slot x.ask) page) new × IsHit old new x.worker page session guard
    × (guard.slot ≡ fix_slot x.ask)
FixAnswers old x page (Opened session guard) new =
    Does old (fix_call x.worker (fix_slot x.ask) page) new × OpensBundle old new x.worker page session guard
    × (guard.slot ≡ fix_slot x.ask)
FixAnswers old x page (Joined session) new =
    Does old (fix_call x.worker (fix_slot x.ask) page) new
    × JoinsBundle old new x.worker (fix_slot x.ask) page session
FixAnswers old x page (Away errand) new =
    Does old (fix_call x.worker (fix_slot x.ask) page) new × IsSent old new x.worker page errand.image errand.duty
    × ErrandFits new errand
