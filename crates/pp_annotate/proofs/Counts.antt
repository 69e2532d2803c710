-- Where no pins are still to come, as many pages are held as the note has pins.
use Rattle.std.proofs.Common.{◌≡◌, ℕ, ◌+◌, ◌<◌, ◌≤◌, Bool, true, false, cond, Option, Some, None, [], ◌∷◌, length, refl}
use Rattle.std.proofs.Common.{sym, ap, subst, ◌∙◌, arith}
use Rattle.std.specs.Prelude.{◌==◌, if◌then◌else◌}
use Rattle.pp_settings.specs.Layout.{Geometry}
use Rattle.pp_cert.specs.declared.note.Entry.{Entry}
use Rattle.pp_cert.specs.declared.note.Entry.TheVariants.{Slot, Bundle}
use Rattle.pp_cert.specs.Held.{Holdings, holding_slot}
use Rattle.pp_cert.specs.Slots.{slot_clear}
use Rattle.pp_cert.specs.Notes.{Entries, entry_slot, entry_pins, note_pins, entry_at, bound_at}
use Rattle.pp_cert.proofs.Slots.{same_number, slot_all, clear_here, clear_other}
use Rattle.pp_cert.proofs.Fits.{FitsAt, Fits}
use Rattle.pp_annotate.proofs.Forms.{Forms}
use Rattle.pp_annotate.proofs.Grows.{by_slot}
use Rattle.pp_annotate.proofs.Alike.{greater, bound_here, bound_behind, none_below}

-- the pins of one slot
abbrev slot_pins : Option Entry → ℕ → ℕ
slot_pins None bound = bound
slot_pins (Some e) bound = 1

abbrev pins_at : Entries → ℕ → ℕ
pins_at n s = slot_pins (entry_at n s) (bound_at n s)

abbrev held_in_slot : Holdings → ℕ → ℕ
held_in_slot hs s = length (slot_all holding_slot s hs)

-- what is held in one slot, and in the others
others : (s : ℕ) (hs : Holdings) → length hs ≡ held_in_slot hs s + length (slot_clear holding_slot s hs)
others s [] = refl
others s (h ∷ hs) =
    elim (h.slot == s)
    as (λ b. length (h ∷ hs)
    ≡ length (if b then h ∷ slot_all holding_slot s hs else slot_all holding_slot s hs)
    + length (if b then slot_clear holding_slot s hs else h ∷ slot_clear holding_slot s hs)) [
      | true ↦ omega (arith, others s hs)
      | false ↦ omega (arith, others s hs)
    ]

none_held : (hs : Holdings) → ((s : ℕ) → held_in_slot hs s ≡ 0) → length hs ≡ 0
none_held [] h = refl
none_held (x ∷ hs) h =
    let all : Holdings = slot_all holding_slot x.slot hs in
    let one : held_in_slot (x ∷ hs) x.slot ≡ length (x ∷ all) =
    ap (λ b. length (if b then x ∷ all else all)) (same_number x.slot) in
    absurd (omega (arith, one, h x.slot))

module _ (kind : ℕ → Bool) where
  no_page_below : (low s : ℕ) (n : Entries) → s < low → Forms kind low n → entry_at n s ≡ None
  no_page_below low s [] l f = refl
  no_page_below low s (Slot t r h ∷ n) l f =
      ap (λ b. cond b (Some (Slot t r h)) (entry_at n s)) (greater s t (omega (arith, l, f.0)))
      ∙ no_page_below (t + 1) s n (omega (arith, l, f.0)) f.3
  no_page_below low s (Bundle t k ∷ n) l f = no_page_below (t + 1) s n (omega (arith, l, f.0)) f.3

  none_there : (low s : ℕ) (n : Entries) → s < low → Forms kind low n → pins_at n s ≡ 0
  none_there low s n l f = (λ i. slot_pins (no_page_below low s n l f i) (none_below kind low s n l f i))

  -- the first entry's pins are its slot's, and the other slots' are in the rest
  pins_first : (low : ℕ) (e : Entry) (n : Entries) → Forms kind low (e ∷ n) → pins_at (e ∷ n) (entry_slot e) ≡ entry_pins e
  pins_first low (Slot t r h) n f =
      ap (λ b. slot_pins (cond b (Some (Slot t r h)) (entry_at n t)) (bound_at n t)) (same_number t)
  pins_first low (Bundle t k) n f =
      ap (λ o. slot_pins o (bound_at (Bundle t k ∷ n) t)) (no_page_below (t + 1) t n (omega arith) f.3)
      ∙ bound_here t k n

  pins_behind : (e : Entry) (n : Entries) (t : ℕ) → (entry_slot e == t) ≡ false → pins_at (e ∷ n) t ≡ pins_at n t
  pins_behind (Slot u r h) n t d =
      ap (λ b. slot_pins (cond b (Some (Slot u r h)) (entry_at n t)) (bound_at n t)) d
  pins_behind (Bundle u k) n t d = ap (λ x. slot_pins (entry_at n t) x) (bound_behind u k t n d)

  counts : (low : ℕ) (n : Entries) (hs : Holdings) → Forms kind low n
      → ((s : ℕ) → held_in_slot hs s ≡ pins_at n s) → length hs ≡ note_pins n
  counts low [] hs f h = none_held hs h
  counts low (e ∷ n) hs f h =
      let s : ℕ = entry_slot e in
      let rest : Holdings = slot_clear holding_slot s hs in
      let here : held_in_slot hs s ≡ entry_pins e = h s ∙ pins_first low e n f in
      let there : (t : ℕ) → held_in_slot rest t ≡ pins_at n t = λ t.
      by_slot s t (λ x. held_in_slot rest x ≡ pins_at n x)
      (ap length (clear_here holding_slot s hs) ∙ sym (none_there (s + 1) s n (omega arith) f.3))
      (λ d. ap length (clear_other holding_slot s t hs d) ∙ h t ∙ pins_behind e n t d) in
      omega (arith, others s hs, here, counts (s + 1) n rest f.3 there)

  at_pins : (g : Geometry) (b : Bool) (o : Option Entry) (bound : ℕ) (hs : Holdings) → FitsAt g b o bound 0 hs
      → length hs ≡ slot_pins o bound
  at_pins g b None bound hs f = omega (arith, f.1)
  at_pins g b (Some e) bound hs f = ap length f.1

  pub fits_pins : (g : Geometry) (n : Entries) (hs : Holdings) → Forms kind 0 n → Fits g kind (λ s. 0) n hs
      → length hs ≡ note_pins n
  fits_pins g n hs f fits =
      counts 0 n hs f (λ s. at_pins g (kind s) (entry_at n s) (bound_at n s) (slot_all holding_slot s hs) (fits s))
