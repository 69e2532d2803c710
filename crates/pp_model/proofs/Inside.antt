-- What is held after actions that a plan asks is in slots of the plan, and of pages of the layout.
use Rattle.std.proofs.Common.{◌≡◌, ℕ, ◌+◌, ◌<◌, ltb, cond, Option, Some, None}
use Rattle.std.proofs.Common.{List, [], ◌∷◌, ◌++◌, length, refl, sym, ap, append_assoc, subst, arith}
use Rattle.std.specs.Prelude.{sum_by}
use Rattle.std.proofs.lemmas.Bool.Decides.{nat_tests}
use Rattle.std.proofs.lemmas.List.Sums.{sum_by-cons}
use Rattle.pp_settings.specs.Layout.{Geometry, page_count}
use Rattle.pp_plan.specs.declared.action.Action.{Action}
use Rattle.pp_plan.specs.declared.action.Action.TheVariants as action
use Rattle.pp_plan.specs.declared.action.Ask.{Ask}
use Rattle.pp_plan.specs.declared.action.Ask.TheVariants as ask
use Rattle.pp_plan.specs.Traces.{IsTrace, Begins}
use Rattle.pp_plan.specs.Terms.{Terms, IsPlan}
use Rattle.pp_plan.specs.PlanTraces.{PlanAsks}
use Rattle.pp_cursor.specs.Cursor.{NamesAction, IsAskOf}
use Rattle.pp_cursor.specs.Asked.{asked}
use Rattle.pp_cursor.proofs.Asking.{asks_named, asked_within}
use Rattle.pp_cert.specs.declared.note.Held.TheVariants.{Free}
use Rattle.pp_cert.specs.Held.{Holding, Holdings, plain_page, bundle_page, held_next, held_after, held_in as held_for}
use Rattle.pp_model.specs.Pool.{Running}
use Rattle.pp_model.proofs.Seats.{IsSeat}
use Rattle.pp_model.specs.Fixing.{fixes}
use Rattle.pp_model.proofs.Swaps.{Handles, handles, as_held, by_fix}
use Rattle.pp_model.proofs.Effects.{has_held}
use Rattle.pp_model.proofs.Sound.{fixable}

-- One for a holding of a slot past 32, and one for a holding of a page past the layout's.
abbrev pub outside : ℕ → Holding → ℕ
outside pages h = cond (ltb h.slot 32) 0 1 + cond (ltb h.page pages) 0 1

is_inside : (pages : ℕ) (h : Holding) → h.slot < 32 → h.page < pages → outside pages h ≡ 0
is_inside pages h lt low = grind (arith, nat_tests)

pub inside : (pages : ℕ) (h : Holding) → outside pages h ≡ 0 → (h.slot < 32) × (h.page < pages)
inside pages h e = (grind (arith, nat_tests), grind (arith, nat_tests))

pub alone : (f : Holding → ℕ) (x : Holding) → sum_by f (x ∷ []) ≡ f x
alone f x = omega (arith, sum_by-cons f x [])

-- A fix or a gather that is asked names a slot of the plan.
named_slot : (slots regions slot page : ℕ) (g : Geometry) (k x : Ask) → IsAskOf slots regions x
    → NamesAction g x (fixes k slot page) → slot < slots
named_slot slots regions slot page g k x is =
    by_fix (λ a b. NamesAction g x a → slot < slots) k slot page (fix x is) (gather x is)
  where
    fix : (x : Ask) → IsAskOf slots regions x → NamesAction g x (action.Fix slot page) → slot < slots
    fix (ask.Fix s r) h n = omega (arith, h.0, n.0)
    fix (ask.Unfix s) h n = absurd n
    fix (ask.Latch s m) h n = absurd n
    fix (ask.Unlatch s) h n = absurd n
    fix (ask.Gather s r) h n = absurd n
    fix (ask.Scatter s) h n = absurd n
    fix (ask.Choose k) h n = absurd n
    fix ask.End h n = absurd n

    gather : (x : Ask) → IsAskOf slots regions x → NamesAction g x (action.Gather slot page) → slot < slots
    gather (ask.Fix s r) h n = absurd n
    gather (ask.Unfix s) h n = absurd n
    gather (ask.Latch s m) h n = absurd n
    gather (ask.Unlatch s) h n = absurd n
    gather (ask.Gather s r) h n = omega (arith, h.0, n.0)
    gather (ask.Scatter s) h n = absurd n
    gather (ask.Choose k) h n = absurd n
    gather ask.End h n = absurd n

-- A fix or a gather that a plan asks is into one of 32 slots, and of a page of the layout.
pub fix_within : (p : Terms) (u : List Action) (k : Ask) (slot page : ℕ) → IsPlan p → PlanAsks p u (fixes k slot page)
    → (slot < 32) × (page < page_count p.layout)
fix_within p u k slot page ok asks =
    let names = (asks_named p u (fixes k slot page) ok).0 asks in
    let low = named_slot (length p.slots) (length p.layout.extents) slot page p.layout k (asked p u)
    (asked_within p u ok) names in
    (omega (arith, low, ok.count), fixable p.layout slot page k (asked p u) names)

next_inside : (p : Terms) (u : List Action) (a : Action) (hs ks : Holdings) → IsPlan p → PlanAsks p u a
    → Handles hs ks a → sum_by (outside (page_count p.layout)) hs ≡ 0 → sum_by (outside (page_count p.layout)) ks ≡ 0
next_inside p u (action.Fix slot page) hs ks ok asks h none =
    let f = outside (page_count p.layout) in
    let x = plain_page slot page in
    let within = fix_within p u ask.End slot page ok asks in
    omega (arith, h.1 f, alone f x, is_inside (page_count p.layout) x within.0 within.1, none)
next_inside p u (action.Unfix slot) hs ks ok asks h none = omega (arith, h.3 (outside (page_count p.layout)), none)
next_inside p u (action.Latch slot m) hs ks ok asks h none =
    let f = outside (page_count p.layout) in
    omega (arith, h.3 f, alone f h.0, alone f (as_held (held_for m) h.0), none)
next_inside p u (action.Unlatch slot) hs ks ok asks h none =
    let f = outside (page_count p.layout) in omega (arith, h.3 f, alone f h.0, alone f (as_held Free h.0), none)
next_inside p u (action.Gather slot page) hs ks ok asks h none =
    let f = outside (page_count p.layout) in
    let x = bundle_page slot page in
    let within = fix_within p u (ask.Gather slot 0) slot page ok asks in
    omega (arith, h.1 f, alone f x, is_inside (page_count p.layout) x within.0 within.1, none)
next_inside p u (action.Scatter slot) hs ks ok asks h none = omega (arith, h.1 (outside (page_count p.layout)), none)
next_inside p u (action.Choose i) hs ks ok asks h none =
    subst (λ k. sum_by (outside (page_count p.layout)) k ≡ 0) (sym h) none

all_inside : (p : Terms) (u t : List Action) (o : Option Holdings) (ks : Holdings) → IsPlan p
    → Begins p.layout p.body (u ++ t)
    → ((hs : Holdings) → o ≡ Some hs → sum_by (outside (page_count p.layout)) hs ≡ 0) → held_after o t ≡ Some ks
    → sum_by (outside (page_count p.layout)) ks ≡ 0
all_inside p u t None ks ok begun none e = let no_way : ◌≡◌ {A = Option Holdings} None (Some ks) = nothing t e in cc
  where
    nothing : (t : List Action) → held_after None t ≡ Some ks → None ≡ Some ks
    nothing [] e = e
    nothing (a ∷ t) e = e
all_inside p u [] (Some hs) ks ok begun none e = none ks e
all_inside p u (a ∷ t) (Some hs) ks ok begun none e =
    let asks : PlanAsks p u a = (t ++ begun.0, subst (IsTrace p.layout p.body) (append_assoc u (a ∷ t) begun.0) begun.1)
    in
    let more : Begins p.layout p.body ((u ++ a ∷ []) ++ t) =
    (begun.0, subst (λ v. IsTrace p.layout p.body (v ++ begun.0)) (sym (append_assoc u (a ∷ []) t)) begun.1) in
    all_inside p (u ++ a ∷ []) t (held_next hs a) ks ok more
    (λ js f. next_inside p u a hs js ok asks (handles hs js a f) (none hs refl)) e

-- What is held after the actions that a worker has done is inside.
pub held_inside : (g : Geometry) (r : Running) (seat : IsSeat g r)
    → sum_by (outside (page_count r.accepted.plan.layout)) (has_held g r seat).0 ≡ 0
held_inside g r seat =
    let before = has_held g r seat in
    let f = outside (page_count r.accepted.plan.layout) in
    all_inside r.accepted.plan [] r.done (Some []) before.0 seat.accepted.plan seat.begun
    (λ hs e. let is : [] ≡ hs = cc in omega (arith, ap (sum_by f) is)) before.1
