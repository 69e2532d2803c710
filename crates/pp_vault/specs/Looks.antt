-- Looking at a page that is latched S: its image is copied, or its body lent.
use Rattle.std.specs.Prelude.{◌≡◌, ℕ, Bool, ◌==◌, Option, Some, None, is_none, List, option_map, if◌then◌else◌}
use Rattle.pp_cert.specs.declared.note.Held.TheVariants.{S}
use Rattle.pp_model.specs.Pool.{State, known_mark}
use Rattle.pp_device.specs.Image.{head_of, body_of}
use Rattle.pp_vault.specs.declared.guards.ReadGuard.{ReadGuard}
use Rattle.pp_vault.specs.declared.looking.LookError.{LookError}
use Rattle.pp_vault.specs.declared.looking.LookError.TheVariants.{Stranger, Length}
use Rattle.pp_vault.specs.Parts.{Parts}
use Rattle.pp_vault.specs.StandsFor.{StandsFor}
use Rattle.pp_vault.specs.Flushes.{IsImageOf}
use Rattle.pp_vault.specs.Fits.{is_held_so}

-- Whether the guard fits: its worker's slot holds its page latched S.
abbrev pub may_see : ReadGuard → State → Bool
may_see guard s = is_held_so s guard.worker guard.slot guard.page S

-- Why a slice of so many bytes isn't looked into, where it isn't: the guard is asked about first, then the length.
abbrev pub look_error : (page_bytes : ℕ) → ReadGuard → (bytes : ℕ) → State → Option LookError
look_error page_bytes guard bytes s =
    if may_see guard s then (if bytes == page_bytes then None else Some Length) else Some Stranger

-- Whether nothing speaks against a look: the guard fits, and so many bytes are as many as a page has.
abbrev pub may_look : (page_bytes : ℕ) → ReadGuard → (bytes : ℕ) → State → Bool
may_look page_bytes guard bytes s = is_none (look_error page_bytes guard bytes s)

-- The page's image is there.
pub record CanSee (v : Parts) (page : ℕ) : Type 0 where
  pub state : State
  pub stands : StandsFor v state
  pub image : List ℕ
  pub source : IsImageOf v state page image

-- The bytes are those of the image in the page's frame, and name the page and its known mark.
pub record Shows (v : Parts) (page : ℕ) (bytes : List ℕ) : Type 0 where
  pub copy : (s : State) → StandsFor v s → IsImageOf v s page bytes
  pub head : (s : State) → StandsFor v s
      → Some (head_of bytes) ≡ option_map (λ mark. (page, mark)) (known_mark s page)

-- The bytes are the body of the image in the page's frame, which names the page and its known mark.
pub record ShowsBody (v : Parts) (page : ℕ) (body : List ℕ) : Type 0 where
  pub image : List ℕ
  pub shown : Shows v page image
  pub body_is : body ≡ body_of image
