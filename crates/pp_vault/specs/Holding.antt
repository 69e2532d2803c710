-- What clauses say of guards and hands in their places.
use Rattle.std.specs.Prelude.{◌≡◌, ℕ, Bool, true, false, ◌&&◌, Option, None, Some, is_none, IfSome, List, length, replicate}
use Rattle.std.specs.Prelude.{slice_index_or, ltb}
use Rattle.std.specs.List.{list_all}
use Rattle.pp_settings.specs.Limits.{most_slots}
use Rattle.pp_cert.specs.declared.note.Held.{Held}
use Rattle.pp_cert.specs.declared.note.Held.TheVariants.{Free, S, X}
use Rattle.pp_vault.specs.declared.guards.Guard.{Guard}
use Rattle.pp_vault.specs.declared.guards.Guard.TheVariants.{Pin, Read, Write, Bundle}

-- ---- a guard

-- The slot that it is of.
abbrev pub slot_by : Guard → ℕ
slot_by (Pin g) = g.slot
slot_by (Read g) = g.slot
slot_by (Write g) = g.slot
slot_by (Bundle g) = g.slot

-- Its page, and how it is held; None of a bundle's.
abbrev pub held_by : Guard → Option (ℕ × Held)
held_by (Pin g) = Some (g.page, Free)
held_by (Read g) = Some (g.page, S)
held_by (Write g) = Some (g.page, X)
held_by (Bundle g) = None

-- Whether it is a bundle's.
abbrev pub is_bundle : Guard → Bool
is_bundle (Pin g) = false
is_bundle (Read g) = false
is_bundle (Write g) = false
is_bundle (Bundle g) = true

-- Whether there is a guard, and it is a bundle's.
abbrev pub has_bundle : Option Guard → Bool
has_bundle None = false
has_bundle (Some g) = is_bundle g

-- ---- places

-- What is in place n, if anything is.
abbrev pub placed : {T : Type 0} → List (Option T) → (n : ℕ) → Option T
placed places n = slice_index_or places n None

-- Whether there is a place n, with nothing in it.
abbrev pub is_free : {T : Type 0} → List (Option T) → (n : ℕ) → Bool
is_free places n = ltb n (length places) && is_none (placed places n)

-- Whether nothing is in any place.
abbrev pub all_free : {T : Type 0} → List (Option T) → Bool
all_free places = list_all is_none places

-- The places of the guards of a worker that holds no slot.
abbrev pub no_guards : List (Option Guard)
no_guards = replicate most_slots None

-- There are 32 places, and in each, if anything, a guard of its slot.
pub record GuardPlaces (places : List (Option Guard)) : Type 0 where
  pub long : length places ≡ most_slots
  pub each : (slot : ℕ) → IfSome (placed places slot) (λ guard. slot_by guard ≡ slot)
