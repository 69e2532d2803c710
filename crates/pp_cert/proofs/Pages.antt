-- The entry of a slot's page after a step, and the pins of all entries of the slot.
use Rattle.std.proofs.Common.{◌≡◌, ℕ, ◌+◌, ◌≤◌, Bool, true, false, cond, Option, Some, None, [], ◌∷◌, refl, sym, ap}
use Rattle.std.proofs.Common.{◌∙◌, arith}
use Rattle.std.specs.Prelude.{◌==◌, nat_lt, if◌then◌else◌, option_map, find, unwrap_or}
use Rattle.pp_cert.specs.declared.note.Entry.{Entry}
use Rattle.pp_cert.specs.declared.note.Entry.TheVariants.{Slot, Bundle}
use Rattle.pp_cert.specs.declared.note.Held.{Held}
use Rattle.pp_cert.specs.Slots.{slot_insert}
use Rattle.pp_cert.specs.Notes.{Entries, entry_slot, entry_pins, is_slot, is_bundle_of, entry_at, bundle_at, bound_at}
use Rattle.pp_cert.specs.Notes.{entry_as, noted_as, without_page, without_bundle, with_bound, plain_part, is_bundle}
use Rattle.pp_cert.proofs.Slots.{same_number, not_other}

-- A number at one slot.
abbrev pub at_slot : ℕ → ℕ → ℕ → ℕ
at_slot t w s = if t == s then w else 0

-- The pins of all entries of the slot.
abbrev pub weight : Entries → ℕ → ℕ
weight [] s = 0
weight (e ∷ n) s = at_slot (entry_slot e) (entry_pins e) s + weight n s

-- the slot's page is one of them
pub page_weighs : (n : Entries) (s : ℕ) (e : Entry) → entry_at n s ≡ Some e → 1 ≤ weight n s
page_weighs [] s e h = absurd (cc)
page_weighs (Slot t q i ∷ n) s e h =
    elim (t == s) as (λ b. cond b (Some (Slot t q i)) (entry_at n s) ≡ Some e
    → 1 ≤ (if b then 1 else 0) + weight n s) [
      | true ↦ λ j. omega arith
      | false ↦ λ j. omega (arith, page_weighs n s e j)
    ] h
page_weighs (Bundle t k ∷ n) s e h = omega (arith, page_weighs n s e h)

-- an entry of one slot's page isn't one of another's
not_another : (s t : ℕ) (e : Entry) → (s == t) ≡ false → is_slot s e ≡ true → is_slot t e ≡ false
not_another s t (Slot u r h) d i = not_other u s t d i
not_another s t (Bundle u k) d i = refl

-- ---- a new page

module _ (s r : ℕ) (h : Held) where
  pub page_here : (n : Entries) → entry_at n s ≡ None
      → entry_at (slot_insert entry_slot (Slot s r h) n) s ≡ Some (Slot s r h)
  page_here [] none = ap (λ b. cond b (Some (Slot s r h)) None) (same_number s)
  page_here (y ∷ n) none =
      elim (nat_lt s (entry_slot y))
      as (λ b. entry_at (if b then Slot s r h ∷ y ∷ n else y ∷ slot_insert entry_slot (Slot s r h) n) s
      ≡ Some (Slot s r h)) [
        | true ↦ ap (λ b. cond b (Some (Slot s r h)) (entry_at (y ∷ n) s)) (same_number s)
        | false ↦ elim (is_slot s y) as (λ b. cond b (Some y) (entry_at n s) ≡ None
            → cond b (Some y) (entry_at (slot_insert entry_slot (Slot s r h) n) s) ≡ Some (Slot s r h)) [
              | true ↦ λ i. absurd (cc)
              | false ↦ λ i. page_here n i
            ] none
      ]

  pub page_other : (t : ℕ) (n : Entries) → (s == t) ≡ false
      → entry_at (slot_insert entry_slot (Slot s r h) n) t ≡ entry_at n t
  page_other t [] d = ap (λ b. cond b (Some (Slot s r h)) None) d
  page_other t (y ∷ n) d =
      elim (nat_lt s (entry_slot y))
      as (λ b. entry_at (if b then Slot s r h ∷ y ∷ n else y ∷ slot_insert entry_slot (Slot s r h) n) t
      ≡ entry_at (y ∷ n) t) [
        | true ↦ ap (λ b. cond b (Some (Slot s r h)) (entry_at (y ∷ n) t)) d
        | false ↦ ap (λ o. cond (is_slot t y) (Some y) o) (page_other t n d)
      ]

-- ---- without the page

pub without_here : (s : ℕ) (n : Entries) → entry_at (without_page s n) s ≡ None
without_here s [] = refl
without_here s (y ∷ n) =
    elim (is_slot s y) as (λ b. is_slot s y ≡ b → entry_at (if b then without_page s n else y ∷ without_page s n) s
    ≡ None) [
      | true ↦ λ e. without_here s n
      | false ↦ λ e. ap (λ b. cond b (Some y) (entry_at (without_page s n) s)) e ∙ without_here s n
    ] refl

pub without_other : (s t : ℕ) (n : Entries) → (s == t) ≡ false → entry_at (without_page s n) t ≡ entry_at n t
without_other s t [] d = refl
without_other s t (y ∷ n) d =
    elim (is_slot s y) as (λ b. is_slot s y ≡ b → entry_at (if b then without_page s n else y ∷ without_page s n) t
    ≡ entry_at (y ∷ n) t) [
      | true ↦ λ e.
          without_other s t n d ∙ sym (ap (λ b. cond b (Some y) (entry_at n t)) (not_another s t y d e))
      | false ↦ λ e. ap (λ o. cond (is_slot t y) (Some y) o) (without_other s t n d)
    ] refl

-- ---- the page is held in another way

as_slot : (held : Held) (s : ℕ) (e : Entry) → is_slot s (entry_as held e) ≡ is_slot s e
as_slot held s (Slot t r h) = refl
as_slot held s (Bundle t k) = refl

pub as_here : (held : Held) (s : ℕ) (n : Entries)
    → entry_at (noted_as held s n) s ≡ option_map (entry_as held) (entry_at n s)
as_here held s [] = refl
as_here held s (y ∷ n) =
    elim (is_slot s y) as (λ b. is_slot s y ≡ b
    → entry_at (if b then entry_as held y ∷ n else y ∷ noted_as held s n) s
    ≡ option_map (entry_as held) (cond b (Some y) (entry_at n s))) [
      | true ↦ λ e. ap (λ b. cond b (Some (entry_as held y)) (entry_at n s)) (as_slot held s y ∙ e)
      | false ↦ λ e. ap (λ b. cond b (Some y) (entry_at (noted_as held s n) s)) e ∙ as_here held s n
    ] refl

pub as_other : (held : Held) (s t : ℕ) (n : Entries) → (s == t) ≡ false
    → entry_at (noted_as held s n) t ≡ entry_at n t
as_other held s t [] d = refl
as_other held s t (y ∷ n) d =
    elim (is_slot s y) as (λ b. is_slot s y ≡ b
    → entry_at (if b then entry_as held y ∷ n else y ∷ noted_as held s n) t ≡ entry_at (y ∷ n) t) [
      | true ↦ λ e.
          let no = not_another s t y d e in
          ap (λ b. cond b (Some (entry_as held y)) (entry_at n t)) (as_slot held t y ∙ no)
          ∙ sym (ap (λ b. cond b (Some y) (entry_at n t)) no)
      | false ↦ λ e. ap (λ o. cond (is_slot t y) (Some y) o) (as_other held s t n d)
    ] refl

-- ---- what is looked for is found where something else is put or taken away

found_beside : (p : Entry → Bool) (x : Entry) (n : Entries) → p x ≡ false
    → find p (slot_insert entry_slot x n) ≡ find p n
found_beside p x [] d = ap (λ b. cond b (Some x) None) d
found_beside p x (y ∷ n) d =
    elim (nat_lt (entry_slot x) (entry_slot y))
    as (λ b. find p (if b then x ∷ y ∷ n else y ∷ slot_insert entry_slot x n) ≡ find p (y ∷ n)) [
      | true ↦ ap (λ b. cond b (Some x) (find p (y ∷ n))) d
      | false ↦ ap (λ o. cond (p y) (Some y) o) (found_beside p x n d)
    ]

found_itself : (p : Entry → Bool) (x : Entry) (n : Entries) → p x ≡ true → find p n ≡ None
    → find p (slot_insert entry_slot x n) ≡ Some x
found_itself p x [] h none = ap (λ b. cond b (Some x) None) h
found_itself p x (y ∷ n) h none =
    elim (nat_lt (entry_slot x) (entry_slot y))
    as (λ b. find p (if b then x ∷ y ∷ n else y ∷ slot_insert entry_slot x n) ≡ Some x) [
      | true ↦ ap (λ b. cond b (Some x) (find p (y ∷ n))) h
      | false ↦ elim (p y) as (λ b. cond b (Some y) (find p n) ≡ None
          → cond b (Some y) (find p (slot_insert entry_slot x n)) ≡ Some x) [
            | true ↦ λ i. absurd (cc)
            | false ↦ λ i. found_itself p x n h i
          ] none
    ]

-- a slot's page isn't a bundle, and the other way round
page_no_bundle : (s t : ℕ) (e : Entry) → is_slot s e ≡ true → is_bundle_of t e ≡ false
page_no_bundle s t (Slot u r h) i = refl
page_no_bundle s t (Bundle u k) i = absurd (cc)

bundle_no_page : (s t : ℕ) (e : Entry) → is_bundle_of s e ≡ true → is_slot t e ≡ false
bundle_no_page s t (Slot u r h) i = absurd (cc)
bundle_no_page s t (Bundle u k) i = refl

bundle_no_other : (s t : ℕ) (e : Entry) → (s == t) ≡ false → is_bundle_of s e ≡ true → is_bundle_of t e ≡ false
bundle_no_other s t (Slot u r h) d i = refl
bundle_no_other s t (Bundle u k) d i = not_other u s t d i

found_without_page : (p : Entry → Bool) (s : ℕ) (n : Entries) → ((e : Entry) → is_slot s e ≡ true → p e ≡ false)
    → find p (without_page s n) ≡ find p n
found_without_page p s [] h = refl
found_without_page p s (y ∷ n) h =
    elim (is_slot s y) as (λ b. is_slot s y ≡ b
    → find p (if b then without_page s n else y ∷ without_page s n) ≡ find p (y ∷ n)) [
      | true ↦ λ e. found_without_page p s n h ∙ sym (ap (λ b. cond b (Some y) (find p n)) (h y e))
      | false ↦ λ e. ap (λ o. cond (p y) (Some y) o) (found_without_page p s n h)
    ] refl

found_without_bundle : (p : Entry → Bool) (s : ℕ) (n : Entries) → ((e : Entry) → is_bundle_of s e ≡ true → p e ≡ false)
    → find p (without_bundle s n) ≡ find p n
found_without_bundle p s [] h = refl
found_without_bundle p s (y ∷ n) h =
    elim (is_bundle_of s y) as (λ b. is_bundle_of s y ≡ b
    → find p (if b then without_bundle s n else y ∷ without_bundle s n) ≡ find p (y ∷ n)) [
      | true ↦ λ e. found_without_bundle p s n h ∙ sym (ap (λ b. cond b (Some y) (find p n)) (h y e))
      | false ↦ λ e. ap (λ o. cond (p y) (Some y) o) (found_without_bundle p s n h)
    ] refl

none_without_bundle : (s : ℕ) (n : Entries) → bundle_at (without_bundle s n) s ≡ None
none_without_bundle s [] = refl
none_without_bundle s (y ∷ n) =
    elim (is_bundle_of s y) as (λ b. is_bundle_of s y ≡ b
    → bundle_at (if b then without_bundle s n else y ∷ without_bundle s n) s ≡ None) [
      | true ↦ λ e. none_without_bundle s n
      | false ↦ λ e. ap (λ b. cond b (Some y) (bundle_at (without_bundle s n) s)) e ∙ none_without_bundle s n
    ] refl

-- ---- bounds after a step

-- the bound that an entry tells of its bundle
abbrev pub bound_on : Option Entry → ℕ
bound_on o = unwrap_or (option_map entry_pins o) 0

pub bound_page : (s r : ℕ) (h : Held) (t : ℕ) (n : Entries)
    → bound_at (slot_insert entry_slot (Slot s r h) n) t ≡ bound_at n t
bound_page s r h t n = ap bound_on (found_beside (is_bundle_of t) (Slot s r h) n refl)

pub bound_without_page : (s t : ℕ) (n : Entries) → bound_at (without_page s n) t ≡ bound_at n t
bound_without_page s t n = ap bound_on (found_without_page (is_bundle_of t) s n (page_no_bundle s t))

bundle_as : (held : Held) (t : ℕ) (e : Entry) (o : Option Entry)
    → bound_on (cond (is_bundle_of t (entry_as held e)) (Some (entry_as held e)) o)
    ≡ bound_on (cond (is_bundle_of t e) (Some e) o)
bundle_as held t (Slot u r h) o = refl
bundle_as held t (Bundle u k) o = refl

bound_on_next : (y : Entry) (b : Bool) (o p : Option Entry) → bound_on o ≡ bound_on p
    → bound_on (cond b (Some y) o) ≡ bound_on (cond b (Some y) p)
bound_on_next y true o p h = refl
bound_on_next y false o p h = h

pub bound_as : (held : Held) (s t : ℕ) (n : Entries) → bound_at (noted_as held s n) t ≡ bound_at n t
bound_as held s t [] = refl
bound_as held s t (y ∷ n) =
    elim (is_slot s y)
    as (λ b. bound_at (if b then entry_as held y ∷ n else y ∷ noted_as held s n) t ≡ bound_at (y ∷ n) t) [
      | true ↦ bundle_as held t y (bundle_at n t)
      | false ↦ bound_on_next y (is_bundle_of t y) (bundle_at (noted_as held s n) t) (bundle_at n t)
          (bound_as held s t n)
    ]

pub bound_without_here : (s : ℕ) (n : Entries) → bound_at (without_bundle s n) s ≡ 0
bound_without_here s n = ap bound_on (none_without_bundle s n)

pub bound_without_other : (s t : ℕ) (n : Entries) → (s == t) ≡ false → bound_at (without_bundle s n) t ≡ bound_at n t
bound_without_other s t n d =
    ap bound_on (found_without_bundle (is_bundle_of t) s n (λ e. bundle_no_other s t e d))

pub bound_with_here : (s k : ℕ) (n : Entries) → bound_at (with_bound s k n) s ≡ k
bound_with_here s k n =
    ap bound_on (found_itself (is_bundle_of s) (Bundle s k) (without_bundle s n) (same_number s)
    (none_without_bundle s n))

pub bound_with_other : (s k t : ℕ) (n : Entries) → (s == t) ≡ false → bound_at (with_bound s k n) t ≡ bound_at n t
bound_with_other s k t n d =
    ap bound_on (found_beside (is_bundle_of t) (Bundle s k) (without_bundle s n) d) ∙ bound_without_other s t n d

-- ---- slots' pages after a step of a bundle

pub page_without_bundle : (s t : ℕ) (n : Entries) → entry_at (without_bundle s n) t ≡ entry_at n t
page_without_bundle s t n = found_without_bundle (is_slot t) s n (bundle_no_page s t)

pub page_with_bound : (s k t : ℕ) (n : Entries) → entry_at (with_bound s k n) t ≡ entry_at n t
page_with_bound s k t n =
    found_beside (is_slot t) (Bundle s k) (without_bundle s n) refl ∙ page_without_bundle s t n

-- the part of the pages has the pages
page_next : (y : Entry) (b : Bool) (o p : Option Entry) → o ≡ p → cond b (Some y) o ≡ cond b (Some y) p
page_next y b o p h = ap (λ x. cond b (Some y) x) h

bundle_is_no_page : (t : ℕ) (e : Entry) → is_bundle e ≡ true → is_slot t e ≡ false
bundle_is_no_page t (Slot u r h) i = absurd (cc)
bundle_is_no_page t (Bundle u k) i = refl

pub page_of_part : (n : Entries) (t : ℕ) → entry_at (plain_part n) t ≡ entry_at n t
page_of_part [] t = refl
page_of_part (y ∷ n) t =
    elim (is_bundle y) as (λ b. is_bundle y ≡ b
    → entry_at (if b then plain_part n else y ∷ plain_part n) t ≡ entry_at (y ∷ n) t) [
      | true ↦ λ e. page_of_part n t ∙ sym (ap (λ b. cond b (Some y) (entry_at n t)) (bundle_is_no_page t y e))
      | false ↦ λ e. page_next y (is_slot t y) (entry_at (plain_part n) t) (entry_at n t) (page_of_part n t)
    ] refl

-- ---- bounds are pins

bound_is_pins : (s : ℕ) (y : Entry) (w : ℕ) → is_bundle_of s y ≡ true
    → entry_pins y ≤ at_slot (entry_slot y) (entry_pins y) s + w
bound_is_pins s (Slot u r h) w i = absurd (cc)
bound_is_pins s (Bundle u k) w i =
    let here : at_slot u k s ≡ k = ap (λ b. if b then k else 0) i in
    omega (arith, here)

pub bound_weighs : (n : Entries) (s : ℕ) → bound_at n s ≤ weight n s
bound_weighs [] s = omega arith
bound_weighs (y ∷ n) s =
    elim (is_bundle_of s y) as (λ b. is_bundle_of s y ≡ b
    → bound_on (cond b (Some y) (bundle_at n s)) ≤ weight (y ∷ n) s) [
      | true ↦ λ e. bound_is_pins s y (weight n s) e
      | false ↦ λ e. omega (arith, bound_weighs n s)
    ] refl
