-- What a vault shows of a page, and so a site with a book of its own.
use Rattle.std.specs.Prelude.{◌≡◌, ℕ, ◌-◌, ◌≤◌, ◌&&◌, nat_le, Bool, true, false, List, length, take}
use Rattle.pp_device.specs.Image.{head_of, body_of}
use Rattle.pp_model.specs.Pool.{State}
use Rattle.pp_vault.specs.declared.guards.ReadGuard.{ReadGuard}
use Rattle.pp_vault.specs.Parts as vault
use Rattle.pp_vault.specs.Looks.{ShowsBody, may_see}
use Rattle.pp_pool.specs.Parts.{Parts, state_of}

-- There are 64 bytes at least. The head is the guard's page and mark, and behind it stands the front of the body that the
-- page's frame has. Where the guard is one of hands that fit, its mark is the page's known one, and the bytes are the front of
-- the image in that frame.
pub record ShowsFront (v : vault.Parts) (guard : ReadGuard) (bytes : List ℕ) : Type 0 where
  pub long : 64 ≤ length bytes
  pub head : head_of bytes ≡ (guard.page, guard.mark)
  pub body : List ℕ
  pub shown : ShowsBody v guard.page body
  pub front : body_of bytes ≡ take (length bytes - 12) body

-- Whether so many bytes of the guard's page are shown in this state: the guard is one of the state, and they are 64 at least
-- and no more than a page has.
abbrev pub may_show : (page_bytes : ℕ) → ReadGuard → (bytes : ℕ) → State → Bool
may_show page_bytes guard bytes s = may_see guard s && (nat_le 64 bytes && nat_le bytes page_bytes)

-- What a vault that stands for this state answers to a look at the guard's page, of a slice that was so before: the front of
-- the page's image, exactly where it may be shown, and else the slice as it was.
pub record ShowsPageIn (v : vault.Parts) (s : State) (guard : ReadGuard) (before : List ℕ) (shown : Bool)
    (after : List ℕ) : Type 0 where
  pub exact : shown ≡ may_show v.page_bytes guard (length before) s
  pub front : shown ≡ true → ShowsFront v guard after
  pub length : length after ≡ length before
  pub unchanged : shown ≡ false → after ≡ before

-- What a site with a book of its own answers to such a look: the book's vault stands for the state that its journal leads to.
abbrev pub ShowsPage : Parts → ReadGuard → (before : List ℕ) → (shown : Bool) → (after : List ℕ) → Type 0
ShowsPage b guard before shown after = ShowsPageIn b.vault (state_of b) guard before shown after
