-- What is left of a note, one entry further.
use Rattle.std.proofs.Common.{◌≡◌, ℕ, suc, ◌+◌, ◌<◌, true, false, length, get_or, drop, [], ◌∷◌, refl, sym, ap, ◌∙◌}
use Rattle.std.proofs.Common.{arith, add-one, drop-cons}
use Rattle.std.specs.Prelude.{◌&&◌, ◌==◌, nat_lt, nat_le, if◌then◌else◌}
use Rattle.std.proofs.lemmas.Bool.Decides.{nat_tests}
use Rattle.pp_cert.specs.declared.note.Entry.{Entry}
use Rattle.pp_cert.specs.declared.note.Entry.TheVariants.{Slot, Bundle}
use Rattle.pp_cert.specs.Slots.{slot_insert}
use Rattle.pp_cert.specs.Notes.{Entries, entry_slot, entry_pins, note_pins, is_slot, is_bundle, is_bundle_of, plain_part}
use Rattle.pp_cert.specs.Notes.{skipped, without_page, without_bundle, is_rising, same_entry, same_note}

pub pins_left : (n : Entries) (i : ℕ) (e : Entry) → e ≡ get_or n i e → i < length n
    → note_pins (drop i n) ≡ entry_pins e + note_pins (drop (i + 1) n)
pins_left n i e h within = rw (add-one, drop-cons n i e, ← h) refl

-- the entry goes, or stays
pub gone_left : (s : ℕ) (n : Entries) (i : ℕ) (e : Entry) → e ≡ get_or n i e → i < length n → is_slot s e ≡ true
    → without_page s (drop i n) ≡ without_page s (drop (i + 1) n)
gone_left s n i e h within is =
    rw (add-one, drop-cons n i e, ← h) (ap (λ b. if b then without_page s (drop (suc i) n) else e
    ∷ without_page s (drop (suc i) n)) is)

pub kept_left : (s : ℕ) (n : Entries) (i : ℕ) (e : Entry) → e ≡ get_or n i e → i < length n → is_slot s e ≡ false
    → without_page s (drop i n) ≡ e ∷ without_page s (drop (i + 1) n)
kept_left s n i e h within is =
    rw (add-one, drop-cons n i e, ← h) (ap (λ b. if b then without_page s (drop (suc i) n) else e
    ∷ without_page s (drop (suc i) n)) is)

pub ruleset removes = (gone_left, kept_left)

-- the bundle's entry goes, or another stays
pub scattered_left : (s : ℕ) (n : Entries) (i : ℕ) (e : Entry) → e ≡ get_or n i e → i < length n → is_bundle_of s e ≡ true
    → without_bundle s (drop i n) ≡ without_bundle s (drop (i + 1) n)
scattered_left s n i e h within is =
    rw (add-one, drop-cons n i e, ← h) (ap (λ b. if b then without_bundle s (drop (suc i) n) else e
    ∷ without_bundle s (drop (suc i) n)) is)

pub other_left : (s : ℕ) (n : Entries) (i : ℕ) (e : Entry) → e ≡ get_or n i e → i < length n → is_bundle_of s e ≡ false
    → without_bundle s (drop i n) ≡ e ∷ without_bundle s (drop (i + 1) n)
other_left s n i e h within is =
    rw (add-one, drop-cons n i e, ← h) (ap (λ b. if b then without_bundle s (drop (suc i) n) else e
    ∷ without_bundle s (drop (suc i) n)) is)

pub ruleset scatters = (scattered_left, other_left)

-- the bundle's new entry goes before the first of a greater slot
pub bound_here : (s k : ℕ) (e : Entry) (n : Entries) → nat_lt s (entry_slot e) ≡ true
    → slot_insert entry_slot (Bundle s k) (e ∷ n) ≡ Bundle s k ∷ e ∷ n
bound_here s k e n above =
    ap (λ b. if b then Bundle s k ∷ e ∷ n else e ∷ slot_insert entry_slot (Bundle s k) n) above

pub bound_later : (s k : ℕ) (e : Entry) (n : Entries) → nat_lt s (entry_slot e) ≡ false
    → slot_insert entry_slot (Bundle s k) (e ∷ n) ≡ e ∷ slot_insert entry_slot (Bundle s k) n
bound_later s k e n below =
    ap (λ b. if b then Bundle s k ∷ e ∷ n else e ∷ slot_insert entry_slot (Bundle s k) n) below

-- an entry of a greater slot isn't the bundle's
pub greater_is_other : (s : ℕ) (e : Entry) → nat_lt s (entry_slot e) ≡ true → is_bundle_of s e ≡ false
greater_is_other s (Slot t r h) above = refl
greater_is_other s (Bundle t k) above = grind (arith, nat_tests)

pub ruleset gathers = (scattered_left, other_left, bound_here, bound_later, greater_is_other)

-- ---- the entries of pages

-- the bundles at the front are none of them
pub pages_skipped : (n : Entries) → plain_part (skipped n) ≡ plain_part n
pages_skipped [] = refl
pages_skipped (e ∷ n) =
    elim (is_bundle e) as (λ b. is_bundle e ≡ b → plain_part (if b then skipped n else e ∷ n)
    ≡ (if b then plain_part n else e ∷ plain_part n)) [
      | true ↦ λ is. pages_skipped n
      | false ↦ λ is. ap (λ b. if b then plain_part n else e ∷ plain_part n) is
    ] refl

-- and the next is one of them
next_is_page : (n m : Entries) (e : Entry) → skipped n ≡ e ∷ m → is_bundle e ≡ false
next_is_page [] m e h = absurd (cc)
next_is_page (x ∷ n) m e h =
    elim (is_bundle x) as (λ b. is_bundle x ≡ b → (if b then skipped n else x ∷ n) ≡ e ∷ m → is_bundle e ≡ false) [
      | true ↦ λ is i. next_is_page n m e i
      | false ↦ λ is i. let same : x ≡ e = cc in ap is_bundle (sym same) ∙ is
    ] refl h

pub pages_next : (n m : Entries) (e : Entry) → skipped n ≡ e ∷ m → plain_part n ≡ e ∷ plain_part m
pages_next n m e h =
    sym (pages_skipped n)
    ∙ ap plain_part h
    ∙ ap (λ b. if b then plain_part m else e ∷ plain_part m) (next_is_page n m e h)

pub pages_none : (n : Entries) → skipped n ≡ [] → plain_part n ≡ []
pages_none n h = sym (pages_skipped n) ∙ ap plain_part h

-- what is left of two notes whose pages are compared, one entry further
module _ (left rest : Entries) (i : ℕ) (d : Entry) (within : i < length left) where
  bundle_left : is_bundle (get_or left i d) ≡ true → plain_part (drop i left) ≡ plain_part (drop (i + 1) left)
  bundle_left is =
      rw (add-one, drop-cons left i d) (ap (λ b. if b then plain_part (drop (suc i) left) else get_or left i d
      ∷ plain_part (drop (suc i) left)) is)

  page_left : is_bundle (get_or left i d) ≡ false
      → plain_part (drop i left) ≡ get_or left i d ∷ plain_part (drop (i + 1) left)
  page_left is =
      rw (add-one, drop-cons left i d) (ap (λ b. if b then plain_part (drop (suc i) left) else get_or left i d
      ∷ plain_part (drop (suc i) left)) is)

  pub bundle_passed : is_bundle (get_or left i d) ≡ true
      → same_note (plain_part (drop (i + 1) left)) (plain_part rest) ≡ same_note (plain_part (drop i left)) (plain_part rest)
  bundle_passed is = sym (ap (λ n. same_note n (plain_part rest)) (bundle_left is))

  pub pages_short : is_bundle (get_or left i d) ≡ false → skipped rest ≡ []
      → same_note (plain_part (drop i left)) (plain_part rest) ≡ false
  pages_short is s =
      ap (λ n. same_note n (plain_part rest)) (page_left is)
      ∙ ap (λ n. same_note (get_or left i d ∷ plain_part (drop (i + 1) left)) n) (pages_none rest s)

  pages_beside : (x : Entry) (m : Entries) → is_bundle (get_or left i d) ≡ false → skipped rest ≡ x ∷ m
      → same_note (plain_part (drop i left)) (plain_part rest)
      ≡ (same_entry (get_or left i d) x && same_note (plain_part (drop (i + 1) left)) (plain_part m))
  pages_beside x m is s =
      ap (λ n. same_note n (plain_part rest)) (page_left is)
      ∙ ap (λ n. same_note (get_or left i d ∷ plain_part (drop (i + 1) left)) n) (pages_next rest m x s)

  pub pages_differ : (x : Entry) (m : Entries) → is_bundle (get_or left i d) ≡ false → skipped rest ≡ x ∷ m
      → same_entry (get_or left i d) x ≡ false → same_note (plain_part (drop i left)) (plain_part rest) ≡ false
  pages_differ x m is s e =
      pages_beside x m is s ∙ ap (λ b. b && same_note (plain_part (drop (i + 1) left)) (plain_part m)) e

  pub pages_agree : (x : Entry) (m : Entries) → is_bundle (get_or left i d) ≡ false → skipped rest ≡ x ∷ m
      → same_entry (get_or left i d) x ≡ true
      → same_note (plain_part (drop (i + 1) left)) (plain_part m) ≡ same_note (plain_part (drop i left)) (plain_part rest)
  pages_agree x m is s e =
      sym (pages_beside x m is s ∙ ap (λ b. b && same_note (plain_part (drop (i + 1) left)) (plain_part m)) e)

-- a note with no entry
pub nothing : (n m : Entries) → m ≡ n → length m ≡ 0 → n ≡ []
nothing [] m e h = refl
nothing (x ∷ n) m e h = let l : length m ≡ length (x ∷ n) = ap length e in absurd (omega (arith, l, h))

-- nothing is left of the one: it is the same as the other where that has no pages left
pub pages_end : (rest m : Entries) → m ≡ skipped rest → (length m == 0) ≡ same_note [] (plain_part rest)
pages_end rest m e = ap (λ n. length n == 0) e ∙ ended (skipped rest) refl
  where
    some : (x : Entry) (n : Entries) → (length (x ∷ n) == 0) ≡ false
    some x n = grind (arith, nat_tests)

    ended : (n : Entries) → skipped rest ≡ n → (length n == 0) ≡ same_note [] (plain_part rest)
    ended [] h = sym (ap (same_note []) (pages_none rest h))
    ended (x ∷ n) h = some x n ∙ sym (ap (same_note []) (pages_next rest n x h))

-- ---- the form of a note

pub rising_left : (s : ℕ) (n : Entries) (i : ℕ) (e : Entry) → e ≡ get_or n i e → i < length n
    → is_rising s (drop i n)
    ≡ (nat_le s (entry_slot e) && (nat_lt 0 (entry_pins e) && is_rising (entry_slot e + 1) (drop (i + 1) n)))
rising_left s n i e h within = rw (add-one i, drop-cons n i e, ← h) refl

pub ruleset forms = (rising_left)
