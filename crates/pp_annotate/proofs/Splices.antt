-- A note with one entry put in, taken out or changed, as a vector has it.
use Rattle.std.proofs.Common.{◌≡◌, ℕ, ◌<◌, Some, None, true, false, cond, [], ◌∷◌, ◌++◌, length, get_or, take, drop}
use Rattle.std.proofs.Common.{set, refl, sym, ap, ◌∙◌, add-one}
use Rattle.std.proofs.lemmas.List.{set_split}
use Rattle.std.specs.Prelude.{position, nat_lt, not, if◌then◌else◌}
use Rattle.std.specs.List.{filter}
use Rattle.pp_cert.specs.declared.note.Entry.{Entry}
use Rattle.pp_cert.specs.declared.note.Held.{Held}
use Rattle.pp_cert.specs.Slots.{slot_insert}
use Rattle.pp_cert.specs.Notes.{Entries, entry_slot, is_slot, is_bundle_of, entry_as, noted_as, without_page}
use Rattle.pp_cert.specs.Notes.{without_bundle}
use Rattle.pp_cert.proofs.Splices.{insert_at, insert_last, insert_within, slot_within, update_at, update_absent}

pub inserted_at : (e : Entry) (ys : Entries) (i : ℕ)
    → position (λ y. nat_lt (entry_slot e) (entry_slot y)) ys ≡ Some i
    → slot_insert entry_slot e ys ≡ take i ys ++ (e ∷ drop i ys)
inserted_at e ys i h = insert_at e (entry_slot e) ys i refl h

pub inserted_last : (e : Entry) (ys : Entries) → position (λ y. nat_lt (entry_slot e) (entry_slot y)) ys ≡ None
    → slot_insert entry_slot e ys ≡ ys ++ (e ∷ [])
inserted_last e ys h = insert_last e (entry_slot e) ys refl h

pub inserted_within : (e : Entry) (ys : Entries) (i : ℕ)
    → position (λ y. nat_lt (entry_slot e) (entry_slot y)) ys ≡ Some i → i < length ys
inserted_within e ys i h = insert_within (entry_slot e) ys i h

pub ruleset inserts = (inserted_at, inserted_last, inserted_within)

-- what is kept is all but the slot's page
pub filter_is : (s : ℕ) (n : Entries) → filter (λ e. not (is_slot s e)) n ≡ without_page s n
filter_is s [] = refl
filter_is s (y ∷ n) =
    elim (is_slot s y)
    as (λ b. cond (not b) (y ∷ filter (λ e. not (is_slot s e)) n) (filter (λ e. not (is_slot s e)) n)
    ≡ (if b then without_page s n else y ∷ without_page s n)) [
      | true ↦ filter_is s n
      | false ↦ ap (λ xs. y ∷ xs) (filter_is s n)
    ]

-- what is kept is all but the bundle
pub filter_scattered : (s : ℕ) (n : Entries) → filter (λ e. not (is_bundle_of s e)) n ≡ without_bundle s n
filter_scattered s [] = refl
filter_scattered s (y ∷ n) =
    elim (is_bundle_of s y)
    as (λ b. cond (not b) (y ∷ filter (λ e. not (is_bundle_of s e)) n) (filter (λ e. not (is_bundle_of s e)) n)
    ≡ (if b then without_bundle s n else y ∷ without_bundle s n)) [
      | true ↦ filter_scattered s n
      | false ↦ ap (λ xs. y ∷ xs) (filter_scattered s n)
    ]

pub updated_at : (held : Held) (s : ℕ) (ys : Entries) (i : ℕ) (d : Entry) → position (is_slot s) ys ≡ Some i
    → noted_as held s ys ≡ set ys i (entry_as held (get_or ys i d))
updated_at held s ys i d h =
    let within : i < length ys = slot_within s ys i h in
    update_at held s ys i d h ∙ rw add-one (sym (set_split ys i (entry_as held (get_or ys i d)) within))

pub ruleset updates = (updated_at, update_absent, slot_within)
