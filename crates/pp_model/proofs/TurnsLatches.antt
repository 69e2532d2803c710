-- Workers that are stopped by a latch: whoever has the page latched is stopped itself only at a page of a greater
-- class. There is a greatest class, so not all workers are stopped.
use Rattle.std.proofs.Common.{◌≡◌, ◌⊎◌, ℕ, zero, suc, ◌+◌, ◌≤◌, ◌<◌, Bool, true, false, eqb, cond, Option, Some, None}
use Rattle.std.proofs.Common.{List, [], ◌∷◌, not, refl, sym, ap, subst, inl, inr, arith}
use Rattle.std.specs.Prelude.{slice_get, sum_by, nat_lt, IsTrue, unwrap_or}
use Rattle.std.proofs.lemmas.Bool.Decides.{nat_tests}
use Rattle.std.proofs.lemmas.List.Elements.{All-get_or}
use Rattle.std.proofs.lemmas.List.Sums.{sum_by-cons}
use Rattle.std.proofs.lemmas.Option.{get_or_from_slice_get, slice_get_within}
use Rattle.pp_settings.specs.Layout.{Geometry, class_of, TellsClass, IsExtent, IsLayout}
use Rattle.pp_settings.proofs.Pages.{class_tells}
use Rattle.pp_plan.specs.declared.mode.Mode.{Mode}
use Rattle.pp_plan.specs.declared.mode.Mode.TheVariants as mode
use Rattle.pp_plan.specs.declared.action.Action.TheVariants as action
use Rattle.pp_plan.specs.declared.action.Ask.{Ask}
use Rattle.pp_plan.specs.declared.action.Ask.TheVariants as ask
use Rattle.pp_cursor.specs.Cursor.{NamesAction}
use Rattle.pp_cert.specs.declared.note.Held.{Held}
use Rattle.pp_cert.specs.declared.note.Held.TheVariants.{Free, S, X}
use Rattle.pp_cert.specs.Held.{Holding, is_latched, IsClassBelow}
use Rattle.pp_frames.specs.declared.mode.Mode.TheVariants as latch_mode
use Rattle.pp_frames.specs.Marks.{Shared, Exclusive, is_compatible}
use Rattle.pp_model.specs.Pool.{Stage, acting, writing, reading, leaving, Running, State}
use Rattle.pp_model.specs.Holders.{holdings, page_in, is_shared, is_exclusive, readers_of, writers_of}
use Rattle.pp_model.specs.Using.{goes_with}
use Rattle.pp_model.specs.Moves.{asked_by, seat_of}
use Rattle.pp_model.specs.Turns.{is_out, is_stopped_at, goes_on, can_act}
use Rattle.pp_model.specs.Reached.{IsReached}
use Rattle.pp_model.specs.Laws.{IsActing}
use Rattle.pp_model.proofs.Changes.{IsAsked}
use Rattle.pp_model.proofs.Seats.{IsSeat, good, asks_now}
use Rattle.pp_model.proofs.Totals.{seat_weight, weight, latched_on, readers_are, writers_are}
use Rattle.pp_model.proofs.HoldingSteps.{latch_finds}
use Rattle.pp_model.proofs.LatchLaws.{in_order}
use Rattle.pp_model.proofs.TurnsErrands.{NoErrand}

-- ---- stopped workers

-- The worker acts, its plan asks a latch, and this doesn't go with those that stand on the page.
pub record IsStopped (s : State) (w : ℕ) (r : Running) : Type 0 where
  pub act : IsActing s w r
  pub slot : ℕ
  pub mode : Mode
  pub asks : asked_by r ≡ ask.Latch slot mode
  pub stands : goes_with s mode (page_in r slot) ≡ false

-- The test under two denials.
twice_not : (b : Bool) → not (not b) ≡ false → b ≡ false
twice_not true e = cc
twice_not false e = refl

-- No worker can act.
abbrev pub NoneActs : State → Type 0
NoneActs s = (w : ℕ) (x : Option Running) → seat_of s w ≡ Some x → can_act s x ≡ false

-- An acting worker that can't act is stopped by a latch.
stopped_at : (s : State) (w : ℕ) (r : Running) (x : Ask) → IsActing s w r → asked_by r ≡ x
    → not (is_stopped_at s r x) ≡ false → IsStopped s w r
stopped_at s w r (ask.Latch slot m) act e f = record {
  act = act;
  slot = slot;
  mode = m;
  asks = e;
  stands = twice_not (goes_with s m (page_in r slot)) f;
}
stopped_at s w r _ act e f = cc

stopped_in : (s : State) (w : ℕ) (r : Running) (g : Stage) → seat_of s w ≡ Some (Some r) → r.stage ≡ g
    → is_out g ≡ false → goes_on s r g ≡ false → IsStopped s w r
stopped_in s w r acting e f out go =
    stopped_at s w r (asked_by r) (record { seat = e; stage = f }) refl go
stopped_in s w r (writing slot page v) e f out go = cc
stopped_in s w r (reading slot page) e f out go = cc
stopped_in s w r (leaving given) e f out go = cc

-- Where no errand is out and no worker can act, each that isn't idle is stopped by a latch.
pub who_cannot_act_is_stopped : (s : State) → NoErrand s → NoneActs s → (w : ℕ) (r : Running)
    → seat_of s w ≡ Some (Some r) → IsStopped s w r
who_cannot_act_is_stopped s none idle w r e =
    stopped_in s w r r.stage e refl (none w (Some r) e) (idle w (Some r) e)

-- ---- who has the page latched

-- A sum that isn't 0 has a term that isn't.
some_term : {A : Type 0} (f : A → ℕ) (xs : List A) → 0 < sum_by f xs
    → (i : ℕ) × (x : A) × (slice_get xs i ≡ Some x) × (0 < f x)
some_term f [] lt = absurd (omega arith)
some_term {A} f (x ∷ xs) lt = go (nat_lt 0 (f x)) refl (some_term f xs)
  where
    go : (b : Bool) → nat_lt 0 (f x) ≡ b
        → (0 < sum_by f xs → (i : ℕ) × (y : A) × (slice_get xs i ≡ Some y) × (0 < f y))
        → (i : ℕ) × (y : A) × (slice_get (x ∷ xs) i ≡ Some y) × (0 < f y)
    go true e rest = (0, x, refl, grind (arith, nat_tests))
    go false e rest =
        let none : f x ≡ 0 = grind (arith, nat_tests) in
        let at = rest (omega (arith, sum_by-cons f x xs, none, lt)) in
        (suc at.0, at.1, at.2, at.3)

-- Some worker has the page latched, in a slot.
pub record HasLatch (s : State) (page : ℕ) : Type 0 where
  pub worker : ℕ
  pub running : Running
  pub seat : seat_of s worker ≡ Some (Some running)
  pub place : ℕ
  pub holding : Holding
  pub found : slice_get (holdings running) place ≡ Some holding
  pub latched : is_latched holding.held ≡ true
  pub same : holding.page ≡ page

-- A slot that counts for the page has it, latched so.
both_true : (a b : Bool) → 0 < cond a (cond b 1 0) 0 → (a ≡ true) × (b ≡ true)
both_true true true lt = (refl, refl)
both_true true false lt = absurd (omega arith)
both_true false b lt = absurd (omega arith)

holder_in : (s : State) (page : ℕ) (is : Held → Bool) → ((u : Held) → is u ≡ true → is_latched u ≡ true) → (w : ℕ)
    → (x : Option Running) → seat_of s w ≡ Some x → 0 < seat_weight (latched_on is page) x → HasLatch s page
holder_in s page is latch w None e lt = absurd (omega arith)
holder_in s page is latch w (Some r) e lt =
    let at = some_term (latched_on is page) (holdings r) lt in
    let both = both_true (is at.1.held) (eqb at.1.page page) at.3 in
    let test = both.1 in
    record {
      worker = w;
      running = r;
      seat = e;
      place = at.0;
      holding = at.1;
      found = at.2;
      latched = latch at.1.held both.0;
      same = grind (arith, nat_tests);
    }

-- S and X are latches.
shared_latched : (u : Held) → is_shared u ≡ true → is_latched u ≡ true
shared_latched Free e = cc
shared_latched S e = refl
shared_latched X e = refl

exclusive_latched : (u : Held) → is_exclusive u ≡ true → is_latched u ≡ true
exclusive_latched Free e = cc
exclusive_latched S e = refl
exclusive_latched X e = refl

holder_of : (s : State) (page : ℕ) (is : Held → Bool) → ((u : Held) → is u ≡ true → is_latched u ≡ true)
    → 0 < weight s (latched_on is page) → HasLatch s page
holder_of s page is latch lt =
    let at = some_term (seat_weight (latched_on is page)) s.seats lt in
    holder_in s page is latch at.0 at.1 at.2 at.3

-- What refuses a latch: a writer, or for a latch X also a reader.
no_shared : (readers writers : ℕ) (b : Bool) → nat_lt 0 writers ≡ b
    → is_compatible latch_mode.S (cond b Exclusive (Shared readers)) ≡ false → 0 < writers
no_shared readers writers true e f = grind (arith, nat_tests)
no_shared readers writers false e f = cc

no_exclusive : (readers writers : ℕ) (b : Bool) → nat_lt 0 writers ≡ b
    → is_compatible latch_mode.X (cond b Exclusive (Shared readers)) ≡ false → (0 < writers) ⊎ (0 < readers)
no_exclusive readers writers true e f = inl (grind (arith, nat_tests))
no_exclusive readers writers false e f = inr (grind (arith, nat_tests))

-- A page that has writers or readers is latched by some worker.
writer_of : (s : State) (page : ℕ) → 0 < writers_of s page → HasLatch s page
writer_of s page lt =
    holder_of s page is_exclusive exclusive_latched (omega (arith, lt, writers_are s page))

reader_of : (s : State) (page : ℕ) → 0 < readers_of s page → HasLatch s page
reader_of s page lt = holder_of s page is_shared shared_latched (omega (arith, lt, readers_are s page))

-- Where a latch doesn't go with those that stand on the page, some worker has the page latched.
pub a_latch_that_is_refused_has_a_holder : (s : State) (m : Mode) (page : ℕ) → goes_with s m page ≡ false
    → HasLatch s page
a_latch_that_is_refused_has_a_holder s mode.S page e =
    writer_of s page (no_shared (readers_of s page) (writers_of s page) (nat_lt 0 (writers_of s page)) refl e)
a_latch_that_is_refused_has_a_holder s mode.X page e =
    go (no_exclusive (readers_of s page) (writers_of s page) (nat_lt 0 (writers_of s page)) refl e)
  where
    go : (0 < writers_of s page) ⊎ (0 < readers_of s page) → HasLatch s page
    go (inl lt) = writer_of s page lt
    go (inr lt) = reader_of s page lt

-- ---- classes

-- The class as a number; 0 where there is none.
abbrev pub class_number : Option ℕ → ℕ
class_number o = unwrap_or o 0

-- A class below another has the lower number.
below_number : (a b : Option ℕ) → IsClassBelow a b → class_number a < class_number b
below_number (Some c) (Some d) lt = omega (arith, lt)
below_number None d lt = absurd lt
below_number (Some c) None lt = absurd lt

-- A class is at most 63.
told_low : (g : Geometry) (page : ℕ) (o : Option ℕ) → IsLayout g → TellsClass g page o → class_number o ≤ 63
told_low g page None l t = omega arith
told_low g page (Some c) l t =
    let e = t.2.0 in
    let within = slice_get_within g.extents t.0 e t.2.1 in
    let is : IsExtent e =
    subst IsExtent (get_or_from_slice_get g.extents t.0 e e t.2.1) (l.extents t.0 e within) in
    omega (arith, is.class, t.2.2)

class_low : (g : Geometry) (page : ℕ) → IsLayout g → class_number (class_of g page) ≤ 63
class_low g page l = told_low g page (class_of g page) l (class_tells g page l.apart)

-- ---- stopped workers wait for workers of greater classes

module _ (s : State) (h : IsReached s) where
  -- A worker that has a page latched is stopped only at a page of a greater class.
  pub a_holder_is_stopped_at_a_greater_class : (page : ℕ) (x : HasLatch s page)
      → (at : IsStopped s x.worker x.running)
      → class_number (class_of s.settings.layout page)
      < class_number (class_of s.settings.layout (page_in x.running at.slot))
  a_holder_is_stopped_at_a_greater_class page x at =
      let g = s.settings.layout in
      let r = x.running in
      let plan = r.accepted.plan in
      let a = action.Latch at.slot at.mode in
      let seat : IsSeat g r = (good s h).seats x.worker (Some r) x.seat in
      let names : NamesAction plan.layout (asked_by r) a =
      subst (λ y. NamesAction plan.layout y a) (sym at.asks) (refl, refl) in
      let asked : IsAsked s x.worker r a =
      record { at = record { seat = at.act.seat; stage = at.act.stage }; names = names } in
      let finds = latch_finds s h x.worker r at.slot at.mode asked in
      let order = in_order s h x.worker at.slot at.mode r at.act (asks_now g r a seat names) finds.0 finds.1.found in
      let within = slice_get_within (holdings r) x.place x.holding x.found in
      let below = All-get_or (λ l. IsTrue (is_latched l.held)
      → IsClassBelow (class_of g l.page) (class_of g finds.0.page)) (holdings r) x.place x.holding within order in
      let here : IsClassBelow (class_of g x.holding.page) (class_of g finds.0.page) =
      subst (λ l. IsTrue (is_latched l.held) → IsClassBelow (class_of g l.page) (class_of g finds.0.page))
      (get_or_from_slice_get (holdings r) x.place x.holding x.holding x.found) below x.latched in
      let number = below_number _ _ here in
      omega (
        arith,
        number,
        ap (λ q. class_number (class_of g q)) x.same,
        ap (λ q. class_number (class_of g q)) finds.1.page_is,
      )

  -- So a chain of stopped workers would rise for ever, and some worker that isn't idle isn't stopped.
  climb : ((w : ℕ) (r : Running) → seat_of s w ≡ Some (Some r) → IsStopped s w r) → (n : ℕ) (w : ℕ) (r : Running)
      → (at : IsStopped s w r) → 64 ≤ n + class_number (class_of s.settings.layout (page_in r at.slot)) → ⊥
  climb all zero w r at le = omega (arith, le, class_low s.settings.layout (page_in r at.slot) h.settings.layout)
  climb all (suc n) w r at le =
      let x = a_latch_that_is_refused_has_a_holder s at.mode (page_in r at.slot) at.stands in
      let next = all x.worker x.running x.seat in
      climb all n x.worker x.running next
      (omega (arith, le, a_holder_is_stopped_at_a_greater_class (page_in r at.slot) x next))

  pub some_worker_is_not_stopped : ((w : ℕ) (r : Running) → seat_of s w ≡ Some (Some r) → IsStopped s w r)
      → (w : ℕ) (r : Running) → seat_of s w ≡ Some (Some r) → ⊥
  some_worker_is_not_stopped all w r e = climb all 64 w r (all w r e) (omega arith)
