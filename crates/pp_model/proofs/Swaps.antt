-- How an action changes what is held: some holdings go out and others come in. Each is said of a sum over the holdings
-- by any weight, so that pins, readers, writers, slots and sizes are instances.
use Rattle.std.proofs.Common.{◌≡◌, ℕ, ◌+◌, Bool, true, false, cond, Option, Some, None}
use Rattle.std.proofs.Common.{List, [], ◌∷◌, ◌++◌, refl, sym, ap, arith}
use Rattle.std.specs.Prelude.{sum_by, is_some, nat_le, ◌==◌}
use Rattle.std.proofs.lemmas.List.Sums.{sum_by-cons}
use Rattle.pp_plan.specs.declared.action.Action.{Action}
use Rattle.pp_plan.specs.declared.action.Action.TheVariants.{Fix, Unfix, Latch, Unlatch, Gather, Scatter, Choose}
use Rattle.pp_plan.specs.declared.action.Ask.{Ask}
use Rattle.pp_plan.specs.declared.action.Ask.TheVariants as ask
use Rattle.pp_cert.specs.declared.note.Held.{Held}
use Rattle.pp_cert.specs.declared.note.Held.TheVariants.{Free, S, X}
use Rattle.pp_cert.specs.Slots.{slot_push, slot_remove, slot_clear}
use Rattle.pp_cert.specs.Held.{Holding, Holdings, holding_slot, holding_at, held_at, plain_held, holds_bundle, plain_page}
use Rattle.pp_cert.specs.Held.{bundle_page, holding_as, held_in, is_latched, is_free_page, is_latched_page, held_next}
use Rattle.pp_cert.specs.Held.{held_after}
use Rattle.pp_cert.proofs.Slots.{slot_all}
use Rattle.pp_model.specs.Fixing.{fixes}

-- ---- lists of holdings

-- The holdings ks are those of hs without `out` and with `into`.
abbrev pub Swaps : (hs out into ks : Holdings) → Type 0
Swaps hs out into ks = (f : Holding → ℕ) → sum_by f ks + sum_by f out ≡ sum_by f hs + sum_by f into

one : (f : Holding → ℕ) (h : Holding) → sum_by f (h ∷ []) ≡ f h
one f h = omega (arith, sum_by-cons f h [])

inserted : (f : Holding → ℕ) (x : Holding) (ys : Holdings)
    → sum_by f (slot_push holding_slot x ys) ≡ f x + sum_by f ys
inserted f x [] = sum_by-cons f x []
inserted f x (y ∷ ys) = go (nat_le x.slot y.slot) (slot_push holding_slot x ys) (inserted f x ys)
  where
    go : (b : Bool) (k : Holdings) → sum_by f k ≡ f x + sum_by f ys
        → sum_by f (cond b (x ∷ y ∷ ys) (y ∷ k)) ≡ f x + sum_by f (y ∷ ys)
    go true k e = sum_by-cons f x (y ∷ ys)
    go false k e = omega (arith, sum_by-cons f y k, sum_by-cons f y ys, e)

removed : (f : Holding → ℕ) (slot : ℕ) (h : Holding) (hs : Holdings) → holding_at hs slot ≡ Some h
    → sum_by f (slot_remove holding_slot slot hs) + f h ≡ sum_by f hs
removed f slot h [] e = cc
removed f slot h (y ∷ ys) e = go (y.slot == slot) (slot_remove holding_slot slot ys) (removed f slot h ys) e
  where
    go : (b : Bool) (k : Holdings) → (holding_at ys slot ≡ Some h → sum_by f k + f h ≡ sum_by f ys)
        → cond b (Some y) (holding_at ys slot) ≡ Some h → sum_by f (cond b ys (y ∷ k)) + f h ≡ sum_by f (y ∷ ys)
    go true k all e = let same : y ≡ h = cc in omega (arith, sum_by-cons f y ys, ap f same)
    go false k all e = omega (arith, sum_by-cons f y k, sum_by-cons f y ys, all e)

cleared : (f : Holding → ℕ) (slot : ℕ) (hs : Holdings)
    → sum_by f (slot_clear holding_slot slot hs) + sum_by f (slot_all holding_slot slot hs) ≡ sum_by f hs
cleared f slot [] = refl
cleared f slot (y ∷ ys) =
    go (y.slot == slot) (slot_clear holding_slot slot ys) (slot_all holding_slot slot ys) (cleared f slot ys)
  where
    go : (b : Bool) (k l : Holdings) → sum_by f k + sum_by f l ≡ sum_by f ys
        → sum_by f (cond b k (y ∷ k)) + sum_by f (cond b (y ∷ l) l) ≡ sum_by f (y ∷ ys)
    go true k l e = omega (arith, sum_by-cons f y l, sum_by-cons f y ys, e)
    go false k l e = omega (arith, sum_by-cons f y k, sum_by-cons f y ys, e)

abbrev pub as_held : Held → Holding → Holding
as_held held h = record { slot = h.slot; page = h.page; held = held; bundled = h.bundled }

updated : (f : Holding → ℕ) (new : Held) (slot : ℕ) (h : Holding) (hs : Holdings) → holding_at hs slot ≡ Some h
    → sum_by f (holding_as new slot hs) + f h ≡ sum_by f hs + f (as_held new h)
updated f new slot h [] e = cc
updated f new slot h (y ∷ ys) e = go (y.slot == slot) (holding_as new slot ys) (updated f new slot h ys) e
  where
    go : (b : Bool) (k : Holdings)
        → (holding_at ys slot ≡ Some h → sum_by f k + f h ≡ sum_by f ys + f (as_held new h))
        → cond b (Some y) (holding_at ys slot) ≡ Some h
        → sum_by f (cond b (as_held new y ∷ ys) (y ∷ k)) + f h ≡ sum_by f (y ∷ ys) + f (as_held new h)
    go true k all e =
        let same : y ≡ h = cc in
        omega (arith, sum_by-cons f (as_held new y) ys, sum_by-cons f y ys, ap f same, ap (λ x. f (as_held new x)) same)
    go false k all e = omega (arith, sum_by-cons f y k, sum_by-cons f y ys, all e)

-- ---- actions

pub held_more : (o : Option Holdings) (t u : List Action) → held_after o (t ++ u) ≡ held_after (held_after o t) u
held_more None [] u = refl
held_more None (a ∷ t) u = refl
held_more (Some hs) [] u = refl
held_more (Some hs) (a ∷ t) u = held_more (held_next hs a) t u

-- What an action that isn't bad does.
abbrev pub Handles : (hs ks : Holdings) → Action → Type 0
Handles hs ks (Fix slot page) = (holding_at hs slot ≡ None) × Swaps hs [] (plain_page slot page ∷ []) ks
Handles hs ks (Unfix slot) =
    (h : Holding) × (holding_at hs slot ≡ Some h) × (h.held ≡ Free) × Swaps hs (h ∷ []) [] ks
Handles hs ks (Latch slot m) =
    (h : Holding) × (holding_at hs slot ≡ Some h) × (h.held ≡ Free) × Swaps hs (h ∷ []) (as_held (held_in m) h ∷ []) ks
Handles hs ks (Unlatch slot) =
    (h : Holding) × (holding_at hs slot ≡ Some h) × (is_latched h.held ≡ true)
    × Swaps hs (h ∷ []) (as_held Free h ∷ []) ks
Handles hs ks (Gather slot page) = (held_at hs slot ≡ None) × Swaps hs [] (bundle_page slot page ∷ []) ks
Handles hs ks (Scatter slot) =
    (holds_bundle (holding_at hs slot) ≡ true) × Swaps hs (slot_all holding_slot slot hs) [] ks
Handles hs ks (Choose i) = ks ≡ hs

pub at_none : {A : Type 0} (o : Option A) (b : Bool) → is_some o ≡ b → b ≡ false → o ≡ None
at_none None b e f = refl
at_none (Some x) b e f = cc

free_found : (o : Option Holding) → is_free_page (plain_held o) ≡ true → (h : Holding) × (o ≡ Some h) × (h.held ≡ Free)
free_found None e = cc
free_found (Some h) e = own h.bundled e
  where
    go : (x : Held) → h.held ≡ x → is_free_page (Some x) ≡ true → (k : Holding) × (Some h ≡ Some k) × (k.held ≡ Free)
    go Free f e = (h, refl, f)
    go S f e = cc
    go X f e = cc

    own : (b : Bool) → is_free_page (cond b None (Some h.held)) ≡ true
        → (k : Holding) × (Some h ≡ Some k) × (k.held ≡ Free)
    own true e = cc
    own false e = go h.held refl e

latched_found : (o : Option Holding) → is_latched_page (plain_held o) ≡ true
    → (h : Holding) × (o ≡ Some h) × (is_latched h.held ≡ true)
latched_found None e = cc
latched_found (Some h) e = own h.bundled e
  where
    own : (b : Bool) → is_latched_page (cond b None (Some h.held)) ≡ true
        → (k : Holding) × (Some h ≡ Some k) × (is_latched k.held ≡ true)
    own true e = cc
    own false e = (h, refl, e)

pub handles : (hs ks : Holdings) (a : Action) → held_next hs a ≡ Some ks → Handles hs ks a
handles hs ks (Fix slot page) e = go (is_some (holding_at hs slot)) refl e
  where
    go : (b : Bool) → is_some (holding_at hs slot) ≡ b
        → ◌≡◌ {A = Option Holdings} (cond b None (Some (slot_push holding_slot (plain_page slot page) hs))) (Some ks)
        → (holding_at hs slot ≡ None) × Swaps hs [] (plain_page slot page ∷ []) ks
    go true f e = cc
    go false f e =
        let y = plain_page slot page in
        let same : slot_push holding_slot y hs ≡ ks = cc in
        (at_none (holding_at hs slot) false f refl, λ w. omega (arith, ap (sum_by w) same, inserted w y hs, one w y))
handles hs ks (Unfix slot) e = go (is_free_page (held_at hs slot)) refl e
  where
    go : (b : Bool) → is_free_page (held_at hs slot) ≡ b
        → ◌≡◌ {A = Option Holdings} (cond b (Some (slot_remove holding_slot slot hs)) None) (Some ks)
        → (h : Holding) × (holding_at hs slot ≡ Some h) × (h.held ≡ Free) × Swaps hs (h ∷ []) [] ks
    go true f e =
        let found = free_found (holding_at hs slot) f in
        let same : slot_remove holding_slot slot hs ≡ ks = cc in (
          found.0,
          found.1,
          found.2,
          λ w. omega
              (arith, ap (sum_by w) same, removed w slot found.0 hs found.1, one w found.0),
        )
    go false f e = cc
handles hs ks (Latch slot m) e = go (is_free_page (held_at hs slot)) refl e
  where
    go : (b : Bool) → is_free_page (held_at hs slot) ≡ b
        → ◌≡◌ {A = Option Holdings} (cond b (Some (holding_as (held_in m) slot hs)) None) (Some ks)
        → (h : Holding) × (holding_at hs slot ≡ Some h) × (h.held ≡ Free)
        × Swaps hs (h ∷ []) (as_held (held_in m) h ∷ []) ks
    go true f e =
        let found = free_found (holding_at hs slot) f in
        let same : holding_as (held_in m) slot hs ≡ ks = cc in (
          found.0,
          found.1,
          found.2,
          λ w. omega (
            arith,
            ap (sum_by w) same,
            updated w (held_in m) slot found.0 hs found.1,
            one w found.0,
            one w
                (as_held (held_in m) found.0),
          ),
        )
    go false f e = cc
handles hs ks (Unlatch slot) e = go (is_latched_page (held_at hs slot)) refl e
  where
    go : (b : Bool) → is_latched_page (held_at hs slot) ≡ b
        → ◌≡◌ {A = Option Holdings} (cond b (Some (holding_as Free slot hs)) None) (Some ks)
        → (h : Holding) × (holding_at hs slot ≡ Some h) × (is_latched h.held ≡ true)
        × Swaps hs (h ∷ []) (as_held Free h ∷ []) ks
    go true f e =
        let found = latched_found (holding_at hs slot) f in
        let same : holding_as Free slot hs ≡ ks = cc in (
          found.0,
          found.1,
          found.2,
          λ w. omega (
            arith,
            ap (sum_by w) same,
            updated w Free slot found.0 hs found.1,
            one w found.0,
            one w
                (as_held Free found.0),
          ),
        )
    go false f e = cc
handles hs ks (Gather slot page) e = go (is_some (held_at hs slot)) refl e
  where
    go : (b : Bool) → is_some (held_at hs slot) ≡ b
        → ◌≡◌ {A = Option Holdings} (cond b None (Some (slot_push holding_slot (bundle_page slot page) hs))) (Some ks)
        → (held_at hs slot ≡ None) × Swaps hs [] (bundle_page slot page ∷ []) ks
    go true f e = cc
    go false f e =
        let y = bundle_page slot page in
        let same : slot_push holding_slot y hs ≡ ks = cc in
        (at_none (held_at hs slot) false f refl, λ w. omega (arith, ap (sum_by w) same, inserted w y hs, one w y))
handles hs ks (Scatter slot) e = go (holds_bundle (holding_at hs slot)) refl e
  where
    go : (b : Bool) → holds_bundle (holding_at hs slot) ≡ b
        → ◌≡◌ {A = Option Holdings} (cond b (Some (slot_clear holding_slot slot hs)) None) (Some ks)
        → (holds_bundle (holding_at hs slot) ≡ true) × Swaps hs (slot_all holding_slot slot hs) [] ks
    go true f e =
        let same : slot_clear holding_slot slot hs ≡ ks = cc in
        (f, λ w. omega (arith, ap (sum_by w) same, cleared w slot hs))
    go false f e = cc
handles hs ks (Choose i) e = let same : hs ≡ ks = cc in sym same

-- ---- a page goes into a slot

-- Whether a gather is asked.
abbrev pub gathers : Ask → Bool
gathers (ask.Gather s region) = true
gathers _ = false

-- What then comes into the slot.
abbrev pub new_page : Ask → (slot page : ℕ) → Holding
new_page k slot page = record { slot = slot; page = page; held = Free; bundled = gathers k }

-- What holds of a fix and of a gather holds of what is asked so.
pub by_fix : (P : Action → Bool → Type 0) (k : Ask) (slot page : ℕ) → P (Fix slot page) false → P (Gather slot page) true
    → P (fixes k slot page) (gathers k)
by_fix P (ask.Fix s region) slot page fix gather = fix
by_fix P (ask.Unfix s) slot page fix gather = fix
by_fix P (ask.Latch s m) slot page fix gather = fix
by_fix P (ask.Unlatch s) slot page fix gather = fix
by_fix P (ask.Gather s region) slot page fix gather = gather
by_fix P (ask.Scatter s) slot page fix gather = fix
by_fix P (ask.Choose n) slot page fix gather = fix
by_fix P ask.End slot page fix gather = fix

pub fix_swaps : (hs ks : Holdings) (k : Ask) (slot page : ℕ) → Handles hs ks (fixes k slot page)
    → Swaps hs [] (new_page k slot page ∷ []) ks
fix_swaps hs ks k slot page =
    by_fix (λ a b. Handles hs ks a
    → Swaps hs [] (record { slot = slot; page = page; held = Free; bundled = b } ∷ []) ks) k slot page (λ h. h.1) (λ h. h.1)
