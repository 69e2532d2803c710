-- Two notes in form with the same pages and the same bounds are the same list.
use Rattle.std.proofs.Common.{◌≡◌, ℕ, ◌+◌, ◌<◌, ◌≤◌, Bool, true, false, cond, Some, [], ◌∷◌, refl, sym, ap, subst, ◌∙◌}
use Rattle.std.proofs.Common.{arith}
use Rattle.std.specs.Prelude.{◌==◌, nat_lt, option_map, unwrap_or}
use Rattle.std.proofs.lemmas.Bool.{ltb-true, eqb-true}
use Rattle.std.proofs.lemmas.Bool.Decides.{nat_tests}
use Rattle.pp_cert.specs.declared.note.Entry.{Entry}
use Rattle.pp_cert.specs.declared.note.Entry.TheVariants.{Slot, Bundle}
use Rattle.pp_cert.specs.Notes.{Entries, entry_slot, entry_pins, bundle_at, bound_at, plain_part}
use Rattle.pp_cert.proofs.Slots.{same_number}
use Rattle.pp_annotate.proofs.Forms.{Forms}

pub greater : (s t : ℕ) → s < t → (t == s) ≡ false
greater s t l = grind (arith, nat_tests)

neither : (s t : ℕ) → nat_lt s t ≡ false → nat_lt t s ≡ false → s ≡ t
neither s t a b = grind (arith, nat_tests)

-- the bound that an entry in front tells
pub bound_here : (t k : ℕ) (n : Entries) → bound_at (Bundle t k ∷ n) t ≡ k
bound_here t k n =
    ap (λ b. unwrap_or (option_map entry_pins (cond b (Some (Bundle t k)) (bundle_at n t))) 0) (same_number t)

pub bound_behind : (t k s : ℕ) (n : Entries) → (t == s) ≡ false → bound_at (Bundle t k ∷ n) s ≡ bound_at n s
bound_behind t k s n d =
    ap (λ b. unwrap_or (option_map entry_pins (cond b (Some (Bundle t k)) (bundle_at n s))) 0) d

together : (t u k l : ℕ) (m n : Entries) → t ≡ u → k ≡ l → m ≡ n → Bundle t k ∷ m ≡ Bundle u l ∷ n
together t u k l m n slots bounds tails = λ j. Bundle (slots j) (bounds j) ∷ tails j

module _ (kind : ℕ → Bool) where
  -- no bound below the first slot
  pub none_below : (low s : ℕ) (n : Entries) → s < low → Forms kind low n → bound_at n s ≡ 0
  none_below low s [] l f = refl
  none_below low s (Slot t r h ∷ n) l f = none_below (t + 1) s n (omega (arith, l, f.0)) f.3
  none_below low s (Bundle t k ∷ n) l f =
      bound_behind t k s n (greater s t (omega (arith, l, f.0)))
      ∙ none_below (t + 1) s n (omega (arith, l, f.0)) f.3

  -- nor a page
  pub page_from : (low : ℕ) (n : Entries) (e : Entry) (rest : Entries) → Forms kind low n → plain_part n ≡ e ∷ rest
      → low ≤ entry_slot e
  page_from low [] e rest f h = absurd (cc)
  page_from low (Slot t r i ∷ n) e rest f h =
      let same : Slot t r i ≡ e = cc in subst (λ x. low ≤ entry_slot x) same f.0
  page_from low (Bundle t k ∷ n) e rest f h = omega (arith, f.0, page_from (t + 1) n e rest f.3 h)

  -- a bundle in front of one note, of which the other tells no bound
  no_bound : (t k : ℕ) (n m : Entries) → 1 ≤ k → bound_at (Bundle t k ∷ n) t ≡ bound_at m t → bound_at m t ≡ 0 → ⊥
  no_bound t k n m some e z = absurd (omega (arith, some, e, z, bound_here t k n))

  -- the bounds behind two entries of one bundle
  behind : (t k l : ℕ) (m n : Entries) → Forms kind (t + 1) m → Forms kind (t + 1) n
      → ((s : ℕ) → bound_at (Bundle t k ∷ m) s ≡ bound_at (Bundle t l ∷ n) s) → (s : ℕ) → bound_at m s ≡ bound_at n s
  behind t k l m n f g b s =
      elim (t == s) as (λ x. (t == s) ≡ x → bound_at m s ≡ bound_at n s) [
        | true ↦ λ e.
            let is : t ≡ s = eqb-true t s e in
            none_below (t + 1) s m (omega (arith, is)) f ∙ sym (none_below (t + 1) s n (omega (arith, is)) g)
        | false ↦ λ e. sym (bound_behind t k s m e) ∙ b s ∙ bound_behind t l s n e
      ] refl

  -- a page cannot stand where the other note has a bundle
  no_page : (t u l : ℕ) (m n : Entries) (e : Entry) (rest : Entries) → t ≡ entry_slot e → Forms kind (t + 1) m
      → Forms kind (u + 1) n → 1 ≤ l → plain_part n ≡ e ∷ rest → bound_at (Bundle u l ∷ n) u ≡ bound_at m u → ⊥
  no_page t u l m n e rest is f g some p b =
      let above = page_from (u + 1) n e rest g p in
      no_bound u l n m some b (none_below (t + 1) u m (omega (arith, above, is)) f)

  pub alike : (low : ℕ) (m n : Entries) → Forms kind low m → Forms kind low n → plain_part m ≡ plain_part n
      → ((s : ℕ) → bound_at m s ≡ bound_at n s) → m ≡ n
  alike low [] [] f g p b = refl
  alike low [] (Slot t r h ∷ n) f g p b = absurd (cc)
  alike low [] (Bundle t k ∷ n) f g p b = absurd (no_bound t k n [] g.1 (sym (b t)) refl)
  alike low (Slot t r h ∷ m) [] f g p b = absurd (cc)
  alike low (Bundle t k ∷ m) [] f g p b = absurd (no_bound t k m [] f.1 (b t) refl)
  alike low (Slot t r h ∷ m) (Slot u q i ∷ n) f g p b =
      let first : Slot t r h ≡ Slot u q i = cc in
      let rest : plain_part m ≡ plain_part n = cc in
      let slots : u ≡ t = cc in
      let tails : m ≡ n = alike (t + 1) m n f.3 (subst (λ x. Forms kind (x + 1) n) slots g.3) rest b in
      λ j. first j ∷ tails j
  alike low (Slot t r h ∷ m) (Bundle u l ∷ n) f g p b =
      absurd (no_page t u l m n (Slot t r h) (plain_part m) refl f.3 g.3 g.1 (sym p) (sym (b u)))
  alike low (Bundle u l ∷ m) (Slot t r h ∷ n) f g p b =
      absurd (no_page t u l n m (Slot t r h) (plain_part n) refl g.3 f.3 f.1 p (b u))
  alike low (Bundle t k ∷ m) (Bundle u l ∷ n) f g p b =
      elim (nat_lt t u) as (λ x. nat_lt t u ≡ x → Bundle t k ∷ m ≡ Bundle u l ∷ n) [
        | true ↦ λ x.
            let low_n : Forms kind u (Bundle u l ∷ n) = (omega arith, g.1, g.2, g.3) in
            absurd (no_bound t k m (Bundle u l ∷ n) f.1 (b t)
            (none_below u t (Bundle u l ∷ n) (ltb-true t u x) low_n))
        | false ↦ λ x. elim (nat_lt u t) as (λ y. nat_lt u t ≡ y → Bundle t k ∷ m ≡ Bundle u l ∷ n) [
          | true ↦ λ y.
              let low_m : Forms kind t (Bundle t k ∷ m) = (omega arith, f.1, f.2, f.3) in
              absurd (no_bound u l n (Bundle t k ∷ m) g.1 (sym (b u))
              (none_below t u (Bundle t k ∷ m) (ltb-true u t y) low_m))
          | false ↦ λ y.
              let slots = neither t u x y in
              let here : (s : ℕ) → bound_at (Bundle t k ∷ m) s ≡ bound_at (Bundle t l ∷ n) s =
              subst (λ z. (s : ℕ) → bound_at (Bundle t k ∷ m) s ≡ bound_at (Bundle z l ∷ n) s) (sym slots) b in
              let bounds : k ≡ l = sym (bound_here t k m) ∙ here t ∙ bound_here t l n in
              let h : Forms kind (t + 1) n = subst (λ z. Forms kind (z + 1) n) (sym slots) g.3 in
              together t u k l m n slots bounds (alike (t + 1) m n f.3 h p (behind t k l m n f.3 h here))
        ] refl
      ] refl
