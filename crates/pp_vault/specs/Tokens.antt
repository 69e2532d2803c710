-- Which tokens a vault gives out.
use Rattle.std.specs.Prelude.{◌≡◌, ◌==◌, ℕ, Bool, true, Some, None, option_map, List, length}
use Rattle.pp_cert.specs.declared.note.Held.TheVariants.{Free, S, X}
use Rattle.pp_model.specs.Pool.{State, known_mark}
use Rattle.pp_core.specs.Queries.{ask_of, held_of, errand_of, flushed_page}
use Rattle.pp_device.specs.Image.{head_of}
use Rattle.pp_vault.specs.declared.tokens.Session.{Session}
use Rattle.pp_vault.specs.declared.tokens.Duty.{Duty}
use Rattle.pp_vault.specs.declared.tokens.Duty.TheVariants.{Read, Write, Flush}
use Rattle.pp_vault.specs.declared.tokens.Errand.{Errand}
use Rattle.pp_vault.specs.declared.guards.PinGuard.{PinGuard}
use Rattle.pp_vault.specs.declared.guards.ReadGuard.{ReadGuard}
use Rattle.pp_vault.specs.declared.guards.WriteGuard.{WriteGuard}
use Rattle.pp_vault.specs.declared.guards.BundleGuard.{BundleGuard}
use Rattle.pp_vault.specs.Parts.{Parts}
use Rattle.pp_vault.specs.StandsFor.{StandsFor}
use Rattle.pp_vault.specs.Fits.{is_acting, is_gathered, IsEmpty}

-- Whether an image has as many bytes as a page.
abbrev pub is_long : Parts → (image : List ℕ) → Bool
is_long v image = length image == v.page_bytes

-- Worker w acts in its plan.
abbrev pub ActsIn : Parts → (w : ℕ) → Type 0
ActsIn v w = (s : State) → StandsFor v s → is_acting s w ≡ true

-- No slot of worker w holds a page, its own or as a bundle.
abbrev pub HoldsNothing : Parts → (w : ℕ) → Type 0
HoldsNothing v w = (s : State) → StandsFor v s → (slot : ℕ) → IsEmpty s w slot

-- The session is of worker w, which acts, and it tells what the worker's plan asks.
pub record SessionFits (v : Parts) (w : ℕ) (session : Session) : Type 0 where
  pub worker : session.worker ≡ w
  pub ask : (s : State) → StandsFor v s → ask_of s w ≡ Some session.ask

-- The guard is of worker w, and its slot holds its page, not latched.
pub record PinFits (v : Parts) (w : ℕ) (guard : PinGuard) : Type 0 where
  pub worker : guard.worker ≡ w
  pub held : (s : State) → StandsFor v s → held_of s w guard.slot ≡ Some (guard.page, Free)

-- The guard is of worker w, its slot has its page latched S, and it tells the page's mark.
pub record ReadFits (v : Parts) (w : ℕ) (guard : ReadGuard) : Type 0 where
  pub worker : guard.worker ≡ w
  pub held : (s : State) → StandsFor v s → held_of s w guard.slot ≡ Some (guard.page, S)
  pub mark : (s : State) → StandsFor v s → known_mark s guard.page ≡ Some guard.mark

-- The guard is of worker w, its slot has its page latched X, it tells the page's mark, and its image names the page and
-- the mark.
pub record WriteFits (v : Parts) (w : ℕ) (guard : WriteGuard) : Type 0 where
  pub worker : guard.worker ≡ w
  pub held : (s : State) → StandsFor v s → held_of s w guard.slot ≡ Some (guard.page, X)
  pub mark : (s : State) → StandsFor v s → known_mark s guard.page ≡ Some guard.mark
  pub head : head_of guard.image ≡ (guard.page, guard.mark)
  pub long : length guard.image ≡ v.page_bytes

-- The guard is of worker w, and its slot is a bundle that holds a page.
pub record BundleFits (v : Parts) (w : ℕ) (guard : BundleGuard) : Type 0 where
  pub worker : guard.worker ≡ w
  pub gathered : (s : State) → StandsFor v s → is_gathered s w guard.slot ≡ true

-- What the duty is about is out, as the core tells it.
abbrev pub IsOut : State → Duty → Type 0
IsOut s (Read w slot page) = errand_of s w ≡ Some (slot, page, None)
IsOut s (Write w slot page victim) = errand_of s w ≡ Some (slot, page, Some victim)
IsOut s (Flush page) = flushed_page s ≡ Some page

-- Where a victim is written back, its image names it and its known mark.
abbrev pub IsHeaded : State → Duty → (image : List ℕ) → Type 0
IsHeaded s (Read w slot page) image = Unit {0}
IsHeaded s (Write w slot page victim) image =
    Some (head_of image) ≡ option_map (λ mark. (victim, mark)) (known_mark s victim)
IsHeaded s (Flush page) image = Unit {0}

-- What the errand is about is out, and its image is as long as a page. A victim's names the victim and its known mark.
pub record ErrandFits (v : Parts) (errand : Errand) : Type 0 where
  pub out : (s : State) → StandsFor v s → IsOut s errand.duty
  pub headed : (s : State) → StandsFor v s → IsHeaded s errand.duty errand.image
  pub long : length errand.image ≡ v.page_bytes
