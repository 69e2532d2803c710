-- The pins of a note, slot by slot, beside how many pages each slot holds.
use Rattle.std.proofs.Common.{◌≡◌, ℕ, zero, suc, ◌+◌, ◌≤◌, ◌<◌, true, false, [], ◌∷◌, length, refl, arith}
use Rattle.std.specs.Prelude.{◌==◌, if◌then◌else◌, max}
use Rattle.std.proofs.lemmas.Bool.{eqb-true}
use Rattle.std.proofs.lemmas.Bool.Decides.{nat_tests}
use Rattle.pp_cert.specs.Held.{Holding, Holdings, holding_slot}
use Rattle.pp_cert.specs.Notes.{Entries, entry_slot, entry_pins, note_pins}
use Rattle.pp_cert.proofs.Slots.{slot_all}
use Rattle.pp_cert.proofs.Pages.{at_slot, weight}

-- ---- sums over slots

-- the sum over the slots below m
abbrev sum_to : ℕ → (ℕ → ℕ) → ℕ
sum_to zero f = 0
sum_to (suc m) f = f m + sum_to m f

still_below : (m t : ℕ) → t < suc m → (t == m) ≡ false → t < m
still_below m t l e = grind (arith, nat_tests)

sum_add : (m : ℕ) (f g : ℕ → ℕ) → sum_to m (λ s. f s + g s) ≡ sum_to m f + sum_to m g
sum_add zero f g = refl
sum_add (suc m) f g = omega (arith, sum_add m f g)

at_other : (t w s : ℕ) → s < t → at_slot t w s ≡ 0
at_other t w s l =
    elim (t == s) as (λ b. (t == s) ≡ b → (if b then w else 0) ≡ 0) [
      | true ↦ λ e. absurd (omega (arith, eqb-true t s e, l))
      | false ↦ λ e. refl
    ] refl

sum_below : (m t w : ℕ) → m ≤ t → sum_to m (at_slot t w) ≡ 0
sum_below zero t w l = refl
sum_below (suc m) t w l = omega (arith, at_other t w m (omega (arith, l)), sum_below m t w (omega (arith, l)))

sum_most : (m t w : ℕ) → sum_to m (at_slot t w) ≤ w
sum_most zero t w = omega arith
sum_most (suc m) t w =
    elim (t == m) as (λ b. (t == m) ≡ b → (if b then w else 0) + sum_to m (at_slot t w) ≤ w) [
      | true ↦ λ e. omega (arith, sum_below m t w (let k : t ≡ m = eqb-true t m e in omega (arith, k)))
      | false ↦ λ e. omega (arith, sum_most m t w)
    ] refl

sum_whole : (m t w : ℕ) → t < m → w ≤ sum_to m (at_slot t w)
sum_whole zero t w l = absurd (omega (arith, l))
sum_whole (suc m) t w l =
    elim (t == m) as (λ b. (t == m) ≡ b → w ≤ (if b then w else 0) + sum_to m (at_slot t w)) [
      | true ↦ λ e. omega arith
      | false ↦ λ e. omega (arith, sum_whole m t w (still_below m t l e))
    ] refl

-- a number at a slot below m is the whole sum
sum_at : (m t w : ℕ) → t < m → sum_to m (at_slot t w) ≡ w
sum_at m t w l = omega (arith, sum_most m t w, sum_whole m t w l)

sum_same : (m : ℕ) (f g : ℕ → ℕ) → ((s : ℕ) → f s ≡ g s) → sum_to m f ≡ sum_to m g
sum_same zero f g h = refl
sum_same (suc m) f g h = omega (arith, h m, sum_same m f g h)

-- ---- holdings

-- a number above the slot of each holding
abbrev above : Holdings → ℕ
above [] = 0
above (h ∷ hs) = max (suc h.slot) (above hs)

abbrev count_in : Holdings → ℕ → ℕ
count_in hs s = length (slot_all holding_slot s hs)

one_more : (h : Holding) (hs : Holdings) (s : ℕ) → count_in (h ∷ hs) s ≡ at_slot h.slot 1 s + count_in hs s
one_more h hs s =
    elim (h.slot == s)
    as (λ b. length (if b then h ∷ slot_all holding_slot s hs else slot_all holding_slot s hs)
    ≡ (if b then 1 else 0) + count_in hs s) [
      | true ↦ omega arith
      | false ↦ omega arith
    ]

none_in : (m : ℕ) → sum_to m (count_in []) ≡ 0
none_in zero = refl
none_in (suc m) = omega (arith, none_in m)

counted : (m : ℕ) (hs : Holdings) → above hs ≤ m → sum_to m (count_in hs) ≡ length hs
counted m [] l = none_in m
counted m (h ∷ hs) l =
    omega (
      arith,
      counted m hs (omega (arith, l)),
      sum_at m h.slot 1 (omega (arith, l)),
      sum_add m (at_slot h.slot 1) (count_in hs),
      sum_same m (count_in (h ∷ hs)) (λ s. at_slot h.slot 1 s + count_in hs s) (one_more h hs),
    )

-- ---- notes

-- a number above the slot of each entry
abbrev above_entries : Entries → ℕ
above_entries [] = 0
above_entries (e ∷ n) = max (suc (entry_slot e)) (above_entries n)

no_weight : (m : ℕ) → sum_to m (weight []) ≡ 0
no_weight zero = refl
no_weight (suc m) = omega (arith, no_weight m)

weighed : (m : ℕ) (n : Entries) → above_entries n ≤ m → sum_to m (weight n) ≡ note_pins n
weighed m [] l = no_weight m
weighed m (e ∷ n) l =
    omega (
      arith,
      weighed m n (omega (arith, l)),
      sum_at m (entry_slot e) (entry_pins e) (omega (arith, l)),
      sum_add m (at_slot (entry_slot e) (entry_pins e)) (weight n),
    )

-- ---- both

abbrev above_both : Entries → Holdings → ℕ
above_both n hs = max (above_entries n) (above hs)

sum_mono : (m : ℕ) (f g : ℕ → ℕ) → ((s : ℕ) → f s ≤ g s) → sum_to m f ≤ sum_to m g
sum_mono zero f g h = omega arith
sum_mono (suc m) f g h = omega (arith, h m, sum_mono m f g h)

-- Where no slot holds more pages than the note has pins for it, no more are held than the note has pins.
pub few : (n : Entries) (hs : Holdings) → ((s : ℕ) → length (slot_all holding_slot s hs) ≤ weight n s)
    → length hs ≤ note_pins n
few n hs h =
    let m : ℕ = above_both n hs in
    omega (
      arith,
      counted m hs (omega arith),
      weighed m n (omega arith),
      sum_mono m (count_in hs) (weight n) h,
    )
