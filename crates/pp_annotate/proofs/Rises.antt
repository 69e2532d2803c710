-- What is noted at the first place of a loop's body beside what is noted before the loop.
use Rattle.std.proofs.Common.{◌≡◌, ℕ, zero, suc, ◌+◌, ◌*◌, ◌<◌, ◌≤◌, Bool, true, false, [], ◌∷◌, refl, sym, ap, ◌∙◌}
use Rattle.std.proofs.Common.{subst, arith, add-one}
use Rattle.std.specs.Prelude.{◌==◌, nat_lt, if◌then◌else◌}
use Rattle.std.proofs.lemmas.Bool.{eqb-true}
use Rattle.std.proofs.lemmas.Bool.Decides.{nat_tests}
use Rattle.pp_settings.specs.Limits.{most_slots}
use Rattle.pp_plan.specs.Tree.{Sequence}
use Rattle.pp_cert.specs.declared.note.Entry.TheVariants.{Slot, Bundle}
use Rattle.pp_cert.specs.Slots.{slot_insert}
use Rattle.pp_cert.specs.Notes.{Entries, entry_slot, note_pins, bound_at, plain_part}
use Rattle.pp_cert.specs.Notes.{without_bundle, with_bound}
use Rattle.pp_cert.proofs.Pages.{bound_with_here, bound_with_other}
use Rattle.pp_annotate.specs.Growth.{rise, risen, with_rise, risen_below, first_note}
use Rattle.pp_annotate.proofs.Forms.{Forms, forms_bound}
use Rattle.pp_annotate.proofs.Pins.{bounded_pins}

-- ---- one bundle

pub with_rise_here : (s k : ℕ) (n : Entries) → bound_at (with_rise s k n) s ≡ k
with_rise_here s k n =
    elim (k == bound_at n s) as (λ b. (k == bound_at n s) ≡ b
    → bound_at (if b then n else with_bound s k n) s ≡ k) [
      | true ↦ λ e. sym (eqb-true k (bound_at n s) e)
      | false ↦ λ e. bound_with_here s k n
    ] refl

pub with_rise_other : (s k t : ℕ) (n : Entries) → (s == t) ≡ false → bound_at (with_rise s k n) t ≡ bound_at n t
with_rise_other s k t n d =
    elim (k == bound_at n s) as (λ b. bound_at (if b then n else with_bound s k n) t ≡ bound_at n t) [
      | true ↦ refl
      | false ↦ bound_with_other s k t n d
    ]

pub part_insert : (s k : ℕ) (n : Entries) → plain_part (slot_insert entry_slot (Bundle s k) n) ≡ plain_part n
part_insert s k [] = refl
part_insert s k (Slot t r h ∷ n) =
    elim (nat_lt s t)
    as (λ b. plain_part (if b then Bundle s k ∷ Slot t r h ∷ n else Slot t r h
    ∷ slot_insert entry_slot (Bundle s k) n)
    ≡ Slot t r h ∷ plain_part n) [
      | true ↦ refl
      | false ↦ ap (λ x. Slot t r h ∷ x) (part_insert s k n)
    ]
part_insert s k (Bundle t l ∷ n) =
    elim (nat_lt s t)
    as (λ b. plain_part (if b then Bundle s k ∷ Bundle t l ∷ n else Bundle t l
    ∷ slot_insert entry_slot (Bundle s k) n)
    ≡ plain_part n) [
      | true ↦ refl
      | false ↦ part_insert s k n
    ]

pub part_without : (s : ℕ) (n : Entries) → plain_part (without_bundle s n) ≡ plain_part n
part_without s [] = refl
part_without s (Slot t r h ∷ n) = ap (λ x. Slot t r h ∷ x) (part_without s n)
part_without s (Bundle t l ∷ n) =
    elim (t == s)
    as (λ b. plain_part (if b then without_bundle s n else Bundle t l ∷ without_bundle s n) ≡ plain_part n) [
      | true ↦ part_without s n
      | false ↦ part_without s n
    ]

with_rise_part : (s k : ℕ) (n : Entries) → plain_part (with_rise s k n) ≡ plain_part n
with_rise_part s k n =
    elim (k == bound_at n s) as (λ b. plain_part (if b then n else with_bound s k n) ≡ plain_part n) [
      | true ↦ refl
      | false ↦ part_insert s k (without_bundle s n) ∙ part_without s n
    ]

not_same : (k b : ℕ) → (k == b) ≡ false → k ≡ b → ⊥
not_same k b d e = grind (arith, nat_tests)

pub above_it : (stop b r : ℕ) → 1 ≤ stop → (risen stop b r == b) ≡ false → 1 ≤ risen stop b r
above_it stop b r some d = omega (arith, some, not_same (risen stop b r) b d)

with_rise_forms : (stop : ℕ) (kind : ℕ → Bool) (s r : ℕ) (n : Entries) → 1 ≤ stop → kind s ≡ true → Forms kind 0 n
    → Forms kind 0 (with_rise s (risen stop (bound_at n s) r) n)
with_rise_forms stop kind s r n some is f =
    let k : ℕ = risen stop (bound_at n s) r in
    elim (k == bound_at n s) as (λ b. (k == bound_at n s) ≡ b
    → Forms kind 0 (if b then n else with_bound s k n)) [
      | true ↦ λ e. f
      | false ↦ λ e. forms_bound kind s k n is (above_it stop (bound_at n s) r some e) f
    ] refl

with_rise_pins : (s k : ℕ) (n : Entries) → note_pins (with_rise s k n) + bound_at n s ≤ note_pins n + k
with_rise_pins s k n =
    elim (k == bound_at n s) as (λ b. (k == bound_at n s) ≡ b
    → note_pins (if b then n else with_bound s k n) + bound_at n s ≤ note_pins n + k) [
      | true ↦ λ e. let is : k ≡ bound_at n s = eqb-true k (bound_at n s) e in omega (arith, is)
      | false ↦ λ e. omega (arith, bounded_pins s k n)
    ] refl

-- a bound rises no further than counting goes
risen_low : (stop b r : ℕ) → risen stop b r ≤ stop
risen_low stop b r = omega arith

-- and so far it doesn't fall
risen_more : (stop b r : ℕ) → b ≤ stop → b ≤ risen stop b r
risen_more stop b r l = omega (arith, l)

-- ---- one slot more

pub risen_start : (stop : ℕ) (kind : ℕ → Bool) (turns : ℕ) (b : Sequence) (n : Entries) → risen_below stop 0 kind turns b n ≡ n
unfolding risen_below
risen_start stop kind turns b n = refl

pub risen_bundle : (stop m : ℕ) (kind : ℕ → Bool) (turns : ℕ) (b : Sequence) (n : Entries) → kind m ≡ true
    → risen_below stop (m + 1) kind turns b n
    ≡ with_rise m (risen stop (bound_at (risen_below stop m kind turns b n) m) (rise turns b m)) (risen_below stop m kind turns b n)
unfolding risen_below
risen_bundle stop m kind turns b n k =
    rw add-one (ap (λ x. if x then with_rise m (risen stop (bound_at (risen_below stop m kind turns b n) m) (rise turns b m))
    (risen_below stop m kind turns b n) else risen_below stop m kind turns b n) k)

pub risen_plain : (stop m : ℕ) (kind : ℕ → Bool) (turns : ℕ) (b : Sequence) (n : Entries) → kind m ≡ false
    → risen_below stop (m + 1) kind turns b n ≡ risen_below stop m kind turns b n
unfolding risen_below
risen_plain stop m kind turns b n k =
    rw add-one (ap (λ x. if x then with_rise m (risen stop (bound_at (risen_below stop m kind turns b n) m) (rise turns b m))
    (risen_below stop m kind turns b n) else risen_below stop m kind turns b n) k)

pub risen_whole : (stop : ℕ) (kind : ℕ → Bool) (turns : ℕ) (b : Sequence) (n : Entries)
    → first_note stop kind turns b n ≡ risen_below stop most_slots kind turns b n
unfolding first_note
risen_whole stop kind turns b n = refl

pub ruleset rises = (risen_start, risen_bundle, risen_plain, risen_whole)

-- ---- the bundles below a slot

module _ (stop : ℕ) (kind : ℕ → Bool) (turns : ℕ) (b : Sequence) (n : Entries) where
  abbrev below : ℕ → Entries
  below m = risen_below stop m kind turns b n

  abbrev next : ℕ → ℕ
  next m = risen stop (bound_at (below m) m) (rise turns b m)

  part_below : (m : ℕ) → plain_part (below m) ≡ plain_part n
  unfolding risen_below
  part_below zero = refl
  part_below (suc m) =
      elim (kind m) as (λ t. plain_part (if t then with_rise m (next m) (below m) else below m) ≡ plain_part n) [
        | true ↦ with_rise_part m (next m) (below m) ∙ part_below m
        | false ↦ part_below m
      ]

  forms_below : (m : ℕ) → 1 ≤ stop → Forms kind 0 n → Forms kind 0 (below m)
  unfolding risen_below
  forms_below zero some f = f
  forms_below (suc m) some f =
      elim (kind m) as (λ t. kind m ≡ t → Forms kind 0 (if t then with_rise m (next m) (below m) else below m)) [
        | true ↦ λ e. with_rise_forms stop kind m (rise turns b m) (below m) some e (forms_below m some f)
        | false ↦ λ e. forms_below m some f
      ] refl

  pins_below : (m : ℕ) → note_pins (below m) ≤ note_pins n + m * stop
  unfolding risen_below
  pins_below zero = omega arith
  pins_below (suc m) =
      elim (kind m)
      as (λ t. note_pins (if t then with_rise m (next m) (below m) else below m) ≤ note_pins n
      + suc m * stop) [
        | true ↦ omega (
          arith,
          with_rise_pins m (next m) (below m),
          pins_below m,
          risen_low stop (bound_at (below m) m) (rise turns b m),
        )
        | false ↦ omega (arith, pins_below m)
      ]

  other_slot : (m t : ℕ) → m < t → (m == t) ≡ false
  other_slot m t l = grind (arith, nat_tests)

  still_below : (m t : ℕ) → t < suc m → (m == t) ≡ false → t < m
  still_below m t l e = grind (arith, nat_tests)

  bound_from : (m t : ℕ) → m ≤ t → bound_at (below m) t ≡ bound_at n t
  unfolding risen_below
  bound_from zero t l = refl
  bound_from (suc m) t l =
      elim (kind m)
      as (λ x. bound_at (if x then with_rise m (next m) (below m) else below m) t ≡ bound_at n t) [
        | true ↦ with_rise_other m (next m) t (below m) (other_slot m t (omega (arith, l)))
            ∙ bound_from m t (omega (arith, l))
        | false ↦ bound_from m t (omega (arith, l))
      ]

  bound_below : (m t : ℕ) → t < m → kind t ≡ true → bound_at (below m) t ≡ risen stop (bound_at n t) (rise turns b t)
  unfolding risen_below
  bound_below zero t l k = absurd (omega (arith, l))
  bound_below (suc m) t l k =
      elim (kind m) as (λ x. kind m ≡ x
      → bound_at (if x then with_rise m (next m) (below m) else below m) t ≡ risen stop (bound_at n t) (rise turns b t)) [
        | true ↦ λ i. elim (m == t) as (λ x. (m == t) ≡ x
            → bound_at (with_rise m (next m) (below m)) t ≡ risen stop (bound_at n t) (rise turns b t)) [
              | true ↦ λ e.
                  subst (λ x. bound_at (with_rise m (next m) (below m)) x ≡ risen stop (bound_at n x) (rise turns b x))
                  (eqb-true m t e)
                  (with_rise_here m (next m) (below m)
                  ∙ ap (λ x. risen stop x (rise turns b m)) (bound_from m m (omega arith)))
              | false ↦ λ e.
                  with_rise_other m (next m) t (below m) e ∙ bound_below m t (still_below m t l e) k
            ] refl
        | false ↦ λ i. bound_below m t (still_below m t l (apart m t i k)) k
      ] refl
    where
      apart : (m t : ℕ) → kind m ≡ false → kind t ≡ true → (m == t) ≡ false
      apart m t h k =
          elim (m == t) as (λ x. (m == t) ≡ x → x ≡ false) [
            | true ↦ λ e. absurd (let x : kind m ≡ kind t = ap kind (eqb-true m t e) in cc (x, h, k))
            | false ↦ λ e. refl
          ] refl

  bound_plain : (m t : ℕ) → kind t ≡ false → bound_at (below m) t ≡ bound_at n t
  unfolding risen_below
  bound_plain zero t k = refl
  bound_plain (suc m) t k =
      elim (kind m) as (λ x. kind m ≡ x
      → bound_at (if x then with_rise m (next m) (below m) else below m) t ≡ bound_at n t) [
        | true ↦ λ i. with_rise_other m (next m) t (below m) (apart m t i k) ∙ bound_plain m t k
        | false ↦ λ i. bound_plain m t k
      ] refl
    where
      apart : (m t : ℕ) → kind m ≡ true → kind t ≡ false → (m == t) ≡ false
      apart m t h k =
          elim (m == t) as (λ x. (m == t) ≡ x → x ≡ false) [
            | true ↦ λ e. absurd (let x : kind m ≡ kind t = ap kind (eqb-true m t e) in cc (x, h, k))
            | false ↦ λ e. refl
          ] refl

  none_below : (m : ℕ) → ((s : ℕ) → kind s ≡ false) → below m ≡ n
  unfolding risen_below
  none_below zero k = refl
  none_below (suc m) k =
      ap (λ x. if x then with_rise m (next m) (below m) else below m) (k m) ∙ none_below m k

  -- ---- all bundles

  pub first_part : plain_part (first_note stop kind turns b n) ≡ plain_part n
  unfolding first_note
  first_part = part_below most_slots

  pub first_forms : 1 ≤ stop → Forms kind 0 n → Forms kind 0 (first_note stop kind turns b n)
  unfolding first_note
  first_forms some f = forms_below most_slots some f

  pub first_pins : note_pins (first_note stop kind turns b n) ≤ note_pins n + most_slots * stop
  unfolding first_note
  first_pins = omega (arith, pins_below most_slots)

  pub first_bundle : (t : ℕ) → t < most_slots → kind t ≡ true
      → bound_at (first_note stop kind turns b n) t ≡ risen stop (bound_at n t) (rise turns b t)
  unfolding first_note
  first_bundle t l k = bound_below most_slots t l k

  pub first_plain : (t : ℕ) → kind t ≡ false → bound_at (first_note stop kind turns b n) t ≡ bound_at n t
  unfolding first_note
  first_plain t k = bound_plain most_slots t k

  -- without bundles it is the same note
  pub first_same : ((s : ℕ) → kind s ≡ false) → first_note stop kind turns b n ≡ n
  unfolding first_note
  first_same k = none_below most_slots k

  -- where the bundles are among the slots that a plan may have, and their bounds are counted so, no bound falls
  module _ (few : (s : ℕ) → kind s ≡ true → s < most_slots) where
    pub first_more : (t : ℕ) → (kind t ≡ true → bound_at n t ≤ stop)
        → bound_at n t ≤ bound_at (first_note stop kind turns b n) t
    first_more t low =
        elim (kind t) as (λ x. kind t ≡ x → bound_at n t ≤ bound_at (first_note stop kind turns b n) t) [
          | true ↦ λ k. omega (arith, first_bundle t (few t k) k, risen_more stop (bound_at n t) (rise turns b t) (low k))
          | false ↦ λ k. omega (arith, first_plain t k)
        ] refl

    -- the bounds there are counted so too
    pub first_low : (t : ℕ) → kind t ≡ true → bound_at (first_note stop kind turns b n) t ≤ stop
    first_low t k = omega (arith, first_bundle t (few t k) k, risen_low stop (bound_at n t) (rise turns b t))
