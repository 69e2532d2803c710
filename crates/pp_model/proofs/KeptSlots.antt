-- What stands in the slots: at each nothing, one page of its own, or a bundle's pages; and what an action makes of it.
use Rattle.std.proofs.Common.{◌≡◌, ◌∙◌, ℕ, Bool, true, false, eqb, cond, Option, Some, None, List, [], ◌∷◌, refl, sym, ap}
use Rattle.std.proofs.Common.{subst, arith}
use Rattle.std.specs.Prelude.{is_some, ◌==◌, if◌then◌else◌}
use Rattle.std.proofs.lemmas.Bool.{eqb-true}
use Rattle.std.proofs.lemmas.Bool.Decides.{nat_tests}
use Rattle.pp_plan.specs.declared.action.Action.{Action}
use Rattle.pp_plan.specs.declared.action.Action.TheVariants.{Fix, Unfix, Latch, Unlatch, Gather, Scatter, Choose}
use Rattle.pp_plan.specs.declared.action.Ask.{Ask}
use Rattle.pp_cert.specs.declared.note.Held.{Held}
use Rattle.pp_cert.specs.declared.note.Held.TheVariants.{Free}
use Rattle.pp_cert.specs.Slots.{slot_push, slot_remove, slot_clear}
use Rattle.pp_cert.specs.Held.{Holding, Holdings, holding_slot, holding_at, plain_held, held_at, holds_bundle, plain_page}
use Rattle.pp_cert.specs.Held.{bundle_page, holding_as, held_in, is_free_page, is_latched_page, held_next, held_after}
use Rattle.pp_cert.specs.Held.{held}
use Rattle.pp_cert.proofs.Slots.{first_of, without_first, with_first, slot_all, get_first, push_here, push_other}
use Rattle.pp_cert.proofs.Slots.{remove_here, remove_other, clear_here, clear_other, update_here, update_other}
use Rattle.pp_model.specs.Fixing.{fixes}
use Rattle.pp_model.proofs.Swaps.{as_held, at_none, gathers, new_page, by_fix}

-- ---- one slot

-- A page of a bundle: it is not latched.
pub record IsBundled (h : Holding) : Type 0 where
  pub bundled : h.bundled ≡ true
  pub free : h.held ≡ Free

abbrev pub AreBundled : Holdings → Type 0
AreBundled [] = Unit {0}
AreBundled (h ∷ hs) = IsBundled h × AreBundled hs

-- What may stand in a slot: one page of its own, or a bundle's pages alone, which may be none.
pub data IsKeptAt (hs : Holdings) : Type 0 where
  own : (h : Holding) → hs ≡ h ∷ [] → h.bundled ≡ false → IsKeptAt hs
  packed : AreBundled hs → IsKeptAt hs

-- All that is held stands so.
abbrev pub AreKept : Holdings → Type 0
AreKept hs = (k : ℕ) → IsKeptAt (slot_all holding_slot k hs)

-- The slot has a page of its own alone.
abbrev pub HasOwn : (slot : ℕ) → Holdings → Holding → Type 0
HasOwn slot hs h = (slot_all holding_slot slot hs ≡ h ∷ []) × (h.bundled ≡ false)

-- The slot has this from now on, and each other slot what it had.
abbrev pub Fills : (slot : ℕ) (now : Holdings) → (hs ks : Holdings) → Type 0
Fills slot now hs ks = (k : ℕ) → slot_all holding_slot k ks ≡ cond (eqb k slot) now (slot_all holding_slot k hs)

-- What an action that isn't bad makes of the slots.
abbrev pub Places : (hs ks : Holdings) → Action → Type 0
Places hs ks (Fix slot page) = (slot_all holding_slot slot hs ≡ []) × Fills slot (plain_page slot page ∷ []) hs ks
Places hs ks (Unfix slot) = (h : Holding) × HasOwn slot hs h × Fills slot [] hs ks
Places hs ks (Latch slot m) = (h : Holding) × HasOwn slot hs h × Fills slot (as_held (held_in m) h ∷ []) hs ks
Places hs ks (Unlatch slot) = (h : Holding) × HasOwn slot hs h × Fills slot (as_held Free h ∷ []) hs ks
Places hs ks (Gather slot page) =
    AreBundled (slot_all holding_slot slot hs)
    × Fills slot (bundle_page slot page ∷ slot_all holding_slot slot hs) hs ks
Places hs ks (Scatter slot) = AreBundled (slot_all holding_slot slot hs) × Fills slot [] hs ks
Places hs ks (Choose i) = ks ≡ hs

-- ---- what is found in a slot

none_first : (hs : Holdings) → first_of hs ≡ None → hs ≡ []
none_first [] e = refl
none_first (y ∷ ys) e = absurd (cc)

-- A slot in which nothing is found has nothing.
pub nothing_in : (hs : Holdings) (slot : ℕ) → holding_at hs slot ≡ None → slot_all holding_slot slot hs ≡ []
nothing_in hs slot e = none_first (slot_all holding_slot slot hs) (sym (get_first holding_slot slot hs) ∙ e)

-- What is found, where this stands in the slot.
pub found_in : (hs : Holdings) (slot : ℕ) (ys : Holdings) → slot_all holding_slot slot hs ≡ ys
    → holding_at hs slot ≡ first_of ys
found_in hs slot ys e = get_first holding_slot slot hs ∙ ap first_of e

-- A slot that has a page of its own has that alone.
own_alone : (hs : Holdings) → IsKeptAt hs → is_some (plain_held (first_of hs)) ≡ true
    → (h : Holding) × (hs ≡ h ∷ []) × (h.bundled ≡ false)
own_alone hs (own h e plain) some = (h, e, plain)
own_alone [] (packed all) some = absurd (cc)
own_alone (y ∷ ys) (packed all) some =
    let none : is_some (plain_held (Some y)) ≡ false =
    ap (λ b. is_some (if b then None else Some y.held)) all.0.bundled in
    absurd (cc)

-- One that has none has a bundle's pages, if any.
none_own : (hs : Holdings) → IsKeptAt hs → plain_held (first_of hs) ≡ None → AreBundled hs
none_own hs (own h e plain) none =
    let some : plain_held (first_of hs) ≡ Some h.held =
    ap (λ x. plain_held (first_of x)) e ∙ ap (λ b. if b then None else Some h.held) plain in
    absurd (cc)
none_own hs (packed all) none = all

bundle_own : (o : Option Holding) → holds_bundle o ≡ true → plain_held o ≡ None
bundle_own None e = refl
bundle_own (Some h) e = ap (λ b. if b then None else Some h.held) e

free_own : (o : Option Held) → is_free_page o ≡ true → is_some o ≡ true
free_own None e = cc
free_own (Some x) e = refl

latched_own : (o : Option Held) → is_latched_page o ≡ true → is_some o ≡ true
latched_own None e = cc
latched_own (Some x) e = refl

-- ---- what an action makes of the slots

-- By the slot that changes, and each other.
fills : (slot : ℕ) (now hs ks : Holdings) → slot_all holding_slot slot ks ≡ now
    → ((k : ℕ) → (slot == k) ≡ false → slot_all holding_slot k ks ≡ slot_all holding_slot k hs) → Fills slot now hs ks
fills slot now hs ks here others k = go (eqb k slot) refl
  where
    go : (b : Bool) → eqb k slot ≡ b → slot_all holding_slot k ks ≡ cond b now (slot_all holding_slot k hs)
    go true e = ap (λ n. slot_all holding_slot n ks) (eqb-true k slot e) ∙ here
    go false e = others k (grind (arith, nat_tests))

module _ (hs : Holdings) (slot : ℕ) where
  pushed : (x : Holding) → x.slot ≡ slot
      → Fills slot (x ∷ slot_all holding_slot slot hs) hs (slot_push holding_slot x hs)
  pushed x is =
      subst (λ n. Fills n (x ∷ slot_all holding_slot n hs) hs (slot_push holding_slot x hs)) is
      (fills x.slot (x ∷ slot_all holding_slot x.slot hs) hs (slot_push holding_slot x hs)
      (push_here holding_slot x hs) (λ k d. push_other holding_slot x k hs d))

  removed : (h : Holding) → slot_all holding_slot slot hs ≡ h ∷ [] → Fills slot [] hs (slot_remove holding_slot slot hs)
  removed h e =
      fills slot [] hs (slot_remove holding_slot slot hs)
      (remove_here holding_slot slot hs ∙ ap without_first e) (λ k d. remove_other holding_slot slot k hs d)

  cleared : Fills slot [] hs (slot_clear holding_slot slot hs)
  cleared =
      fills slot [] hs (slot_clear holding_slot slot hs) (clear_here holding_slot slot hs)
      (λ k d. clear_other holding_slot slot k hs d)

  updated : (u : Held) (h : Holding) → slot_all holding_slot slot hs ≡ h ∷ []
      → Fills slot (as_held u h ∷ []) hs (holding_as u slot hs)
  updated u h e =
      fills slot (as_held u h ∷ []) hs (holding_as u slot hs)
      (update_here holding_slot (as_held u) (λ x. refl) slot hs ∙ ap (with_first (as_held u)) e)
      (λ k d. update_other holding_slot (as_held u) (λ x. refl) slot k hs d)

  -- A test of how the slot's own page is held.
  own_in : AreKept hs → is_some (held_at hs slot) ≡ true → (h : Holding) × HasOwn slot hs h
  own_in kept some =
      let one = own_alone (slot_all holding_slot slot hs) (kept slot)
      (ap (λ o. is_some (plain_held o)) (sym (get_first holding_slot slot hs)) ∙ some) in
      (one.0, (one.1, one.2))

  packed_in : AreKept hs → held_at hs slot ≡ None → AreBundled (slot_all holding_slot slot hs)
  packed_in kept none =
      none_own (slot_all holding_slot slot hs) (kept slot) (ap plain_held (sym (get_first holding_slot slot hs)) ∙ none)

pub places : (hs ks : Holdings) (a : Action) → AreKept hs → held_next hs a ≡ Some ks → Places hs ks a
places hs ks (Fix slot page) kept e = go (is_some (holding_at hs slot)) refl e
  where
    x : Holding
    x = plain_page slot page

    go : (b : Bool) → is_some (holding_at hs slot) ≡ b
        → ◌≡◌ {A = Option Holdings} (cond b None (Some (slot_push holding_slot x hs))) (Some ks)
        → (slot_all holding_slot slot hs ≡ []) × Fills slot (x ∷ []) hs ks
    go true f e = cc
    go false f e =
        let same : slot_push holding_slot x hs ≡ ks = cc in
        let none = nothing_in hs slot (at_none (holding_at hs slot) false f refl) in (
          none,
          subst (Fills slot (x ∷ []) hs) same
              (subst (λ ys. Fills slot (x ∷ ys) hs (slot_push holding_slot x hs)) none (pushed hs slot x refl)),
        )
places hs ks (Unfix slot) kept e = go (is_free_page (held_at hs slot)) refl e
  where
    go : (b : Bool) → is_free_page (held_at hs slot) ≡ b
        → ◌≡◌ {A = Option Holdings} (cond b (Some (slot_remove holding_slot slot hs)) None) (Some ks)
        → (h : Holding) × HasOwn slot hs h × Fills slot [] hs ks
    go true f e =
        let same : slot_remove holding_slot slot hs ≡ ks = cc in
        let has = own_in hs slot kept (free_own (held_at hs slot) f) in
        (has.0, has.1, subst (Fills slot [] hs) same (removed hs slot has.0 has.1.0))
    go false f e = cc
places hs ks (Latch slot m) kept e = go (is_free_page (held_at hs slot)) refl e
  where
    go : (b : Bool) → is_free_page (held_at hs slot) ≡ b
        → ◌≡◌ {A = Option Holdings} (cond b (Some (holding_as (held_in m) slot hs)) None) (Some ks)
        → (h : Holding) × HasOwn slot hs h × Fills slot (as_held (held_in m) h ∷ []) hs ks
    go true f e =
        let same : holding_as (held_in m) slot hs ≡ ks = cc in
        let has = own_in hs slot kept (free_own (held_at hs slot) f) in (
          has.0,
          has.1,
          subst (Fills slot (as_held (held_in m) has.0 ∷ []) hs) same
              (updated hs slot (held_in m) has.0 has.1.0),
        )
    go false f e = cc
places hs ks (Unlatch slot) kept e = go (is_latched_page (held_at hs slot)) refl e
  where
    go : (b : Bool) → is_latched_page (held_at hs slot) ≡ b
        → ◌≡◌ {A = Option Holdings} (cond b (Some (holding_as Free slot hs)) None) (Some ks)
        → (h : Holding) × HasOwn slot hs h × Fills slot (as_held Free h ∷ []) hs ks
    go true f e =
        let same : holding_as Free slot hs ≡ ks = cc in
        let has = own_in hs slot kept (latched_own (held_at hs slot) f) in
        (has.0, has.1, subst (Fills slot (as_held Free has.0 ∷ []) hs) same (updated hs slot Free has.0 has.1.0))
    go false f e = cc
places hs ks (Gather slot page) kept e = go (is_some (held_at hs slot)) refl e
  where
    x : Holding
    x = bundle_page slot page

    go : (b : Bool) → is_some (held_at hs slot) ≡ b
        → ◌≡◌ {A = Option Holdings} (cond b None (Some (slot_push holding_slot x hs))) (Some ks)
        → AreBundled (slot_all holding_slot slot hs) × Fills slot (x ∷ slot_all holding_slot slot hs) hs ks
    go true f e = cc
    go false f e =
        let same : slot_push holding_slot x hs ≡ ks = cc in (
          packed_in hs slot kept (at_none (held_at hs slot) false f refl),
          subst (Fills slot (x ∷ slot_all holding_slot slot hs) hs) same (pushed hs slot x refl),
        )
places hs ks (Scatter slot) kept e = go (holds_bundle (holding_at hs slot)) refl e
  where
    go : (b : Bool) → holds_bundle (holding_at hs slot) ≡ b
        → ◌≡◌ {A = Option Holdings} (cond b (Some (slot_clear holding_slot slot hs)) None) (Some ks)
        → AreBundled (slot_all holding_slot slot hs) × Fills slot [] hs ks
    go true f e =
        let same : slot_clear holding_slot slot hs ≡ ks = cc in
        (packed_in hs slot kept (bundle_own (holding_at hs slot) f), subst (Fills slot [] hs) same (cleared hs slot))
    go false f e = cc
places hs ks (Choose i) kept e = let same : hs ≡ ks = cc in sym same

-- ---- what is held after a list of actions

-- Where one slot is filled so that it is kept, all are.
filled_kept : (slot : ℕ) (now hs ks : Holdings) → AreKept hs → IsKeptAt now → Fills slot now hs ks → AreKept ks
filled_kept slot now hs ks kept is fills k = subst IsKeptAt (sym (fills k)) (go (eqb k slot))
  where
    go : (b : Bool) → IsKeptAt (cond b now (slot_all holding_slot k hs))
    go true = is
    go false = kept k

kept_next : (hs ks : Holdings) (a : Action) → AreKept hs → Places hs ks a → AreKept ks
kept_next hs ks (Fix slot page) kept p =
    filled_kept slot (plain_page slot page ∷ []) hs ks kept (own (plain_page slot page) refl refl) p.1
kept_next hs ks (Unfix slot) kept p = filled_kept slot [] hs ks kept (packed tt) p.2
kept_next hs ks (Latch slot m) kept p =
    filled_kept slot (as_held (held_in m) p.0 ∷ []) hs ks kept (own (as_held (held_in m) p.0) refl p.1.1) p.2
kept_next hs ks (Unlatch slot) kept p =
    filled_kept slot (as_held Free p.0 ∷ []) hs ks kept (own (as_held Free p.0) refl p.1.1) p.2
kept_next hs ks (Gather slot page) kept p =
    filled_kept slot (bundle_page slot page ∷ slot_all holding_slot slot hs) hs ks kept
    (packed (record { bundled = refl; free = refl }, p.0)) p.1
kept_next hs ks (Scatter slot) kept p = filled_kept slot [] hs ks kept (packed tt) p.1
kept_next hs ks (Choose i) kept p = subst AreKept (sym p) kept

kept_after : (o : Option Holdings) (t : List Action) (ks : Holdings) → ((hs : Holdings) → o ≡ Some hs → AreKept hs)
    → held_after o t ≡ Some ks → AreKept ks
kept_after None t ks all e = cc
kept_after (Some hs) [] ks all e = all ks e
kept_after (Some hs) (a ∷ t) ks all e =
    kept_after (held_next hs a) t ks (λ js f. kept_next hs js a (all hs refl) (places hs js a (all hs refl) f)) e

-- What is held after a list stands so.
pub are_kept : (t : List Action) (hs : Holdings) → held t ≡ Some hs → AreKept hs
are_kept t hs e =
    kept_after (Some []) t hs (λ js f k. let none : [] ≡ js = cc in subst (λ x. IsKeptAt (slot_all holding_slot k x)) none
    (packed tt)) e

-- ---- a page goes into a slot

-- It is of a bundle, or the slot had nothing.
pub fix_places : (hs ks : Holdings) (k : Ask) (slot page : ℕ) → Places hs ks (fixes k slot page)
    → AreBundled (slot_all holding_slot slot hs) × (gathers k ≡ false → slot_all holding_slot slot hs ≡ [])
    × Fills slot (new_page k slot page ∷ slot_all holding_slot slot hs) hs ks
fix_places hs ks k slot page =
    by_fix (λ a b. Places hs ks a → AreBundled (slot_all holding_slot slot hs)
    × (b ≡ false → slot_all holding_slot slot hs ≡ [])
    × Fills slot (record { slot = slot; page = page; held = Free; bundled = b } ∷ slot_all holding_slot slot hs) hs ks)
    k slot page
    (λ p. (
      subst AreBundled (sym p.0) tt,
      λ e. p.0,
      subst (λ ys. Fills slot (plain_page slot page ∷ ys) hs ks) (sym p.0) p.1,
    ))
    (λ p. (p.0, λ e. absurd (cc), p.1))

-- What is found in a slot is of this slot.
pub slot_found : (hs : Holdings) (slot : ℕ) (h : Holding) → holding_at hs slot ≡ Some h → h.slot ≡ slot
slot_found [] slot h e = cc
slot_found (y ∷ ys) slot h e = go (eqb y.slot slot) refl e (slot_found ys slot h)
  where
    go : (b : Bool) → eqb y.slot slot ≡ b → cond b (Some y) (holding_at ys slot) ≡ Some h
        → (holding_at ys slot ≡ Some h → h.slot ≡ slot) → h.slot ≡ slot
    go true g e all =
        let same : y ≡ h = cc in
        let is : y.slot ≡ slot = grind (arith, nat_tests) in
        ap (λ x. x.slot) (sym same) ∙ is
    go false g e all = all e

-- What is found in each slot, where one is filled.
pub filled_at : (slot : ℕ) (now hs ks : Holdings) → Fills slot now hs ks → (k : ℕ)
    → holding_at ks k ≡ cond (eqb k slot) (first_of now) (holding_at hs k)
filled_at slot now hs ks fills k = get_first holding_slot k ks ∙ ap first_of (fills k) ∙ go (eqb k slot)
  where
    go : (b : Bool) → first_of (cond b now (slot_all holding_slot k hs)) ≡ cond b (first_of now) (holding_at hs k)
    go true = refl
    go false = sym (get_first holding_slot k hs)
