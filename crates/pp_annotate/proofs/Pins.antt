-- The pins of a note with another bound.
use Rattle.std.proofs.Common.{◌≡◌, ℕ, ◌+◌, ◌≤◌, true, false, cond, Some, [], ◌∷◌, refl, arith}
use Rattle.std.specs.Prelude.{◌==◌, nat_lt, if◌then◌else◌, option_map, unwrap_or}
use Rattle.pp_cert.specs.declared.note.Entry.{Entry}
use Rattle.pp_cert.specs.declared.note.Entry.TheVariants.{Slot, Bundle}
use Rattle.pp_cert.specs.Slots.{slot_insert}
use Rattle.pp_cert.specs.Notes.{Entries, entry_slot, entry_pins, note_pins, bundle_at, bound_at, without_bundle}
use Rattle.pp_cert.specs.Notes.{with_bound}

pub one_more : (e : Entry) (n : Entries) → note_pins (slot_insert entry_slot e n) ≡ entry_pins e + note_pins n
one_more e [] = refl
one_more e (y ∷ n) =
    elim (nat_lt (entry_slot e) (entry_slot y))
    as (λ b. note_pins (if b then e ∷ y ∷ n else y ∷ slot_insert entry_slot e n) ≡ entry_pins e + note_pins (y ∷ n)) [
      | true ↦ refl
      | false ↦ omega (arith, one_more e n)
    ]

no_more : (s : ℕ) (n : Entries) → note_pins (without_bundle s n) ≤ note_pins n
no_more s [] = omega arith
no_more s (Slot t r h ∷ n) = omega (arith, no_more s n)
no_more s (Bundle t k ∷ n) =
    elim (t == s)
    as (λ b. note_pins (if b then without_bundle s n else Bundle t k ∷ without_bundle s n) ≤ k + note_pins n) [
      | true ↦ omega (arith, no_more s n)
      | false ↦ omega (arith, no_more s n)
    ]

-- the bundle's pins go with it
pub others_pins : (s : ℕ) (n : Entries) → note_pins (without_bundle s n) + bound_at n s ≤ note_pins n
others_pins s [] = omega arith
others_pins s (Slot t r h ∷ n) = omega (arith, others_pins s n)
others_pins s (Bundle t k ∷ n) =
    elim (t == s)
    as (λ b. note_pins (if b then without_bundle s n else Bundle t k ∷ without_bundle s n)
    + unwrap_or (option_map entry_pins (cond b (Some (Bundle t k)) (bundle_at n s))) 0 ≤ k + note_pins n) [
      | true ↦ omega (arith, no_more s n)
      | false ↦ omega (arith, others_pins s n)
    ]

pub bound_pins : (s : ℕ) (n : Entries) → bound_at n s ≤ note_pins n
bound_pins s n = omega (arith, others_pins s n)

pub bounded_pins : (s k : ℕ) (n : Entries) → note_pins (with_bound s k n) + bound_at n s ≤ note_pins n + k
bounded_pins s k n = omega (arith, one_more (Bundle s k) (without_bundle s n), others_pins s n)
