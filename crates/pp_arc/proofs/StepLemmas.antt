-- Lemmas on the steps of a request: how many pages the lists have after each.
use Rattle.std.proofs.Common.{◌≡◌, ◌≢◌, ℕ, ◌+◌, ◌*◌, ◌<◌, ◌≤◌, Bool, true, false, cond, refl, arith, inl, inr}
use Rattle.std.specs.Prelude.{IsTrue, Option, Some, None}
use Rattle.pp_arc.specs.declared.list.List.{List as ListName}
use Rattle.pp_arc.specs.declared.list.List.TheVariants.{T1, T2, B1, B2}
use Rattle.pp_arc.proofs.VictimLemmas.{is_cached-t1, is_cached-t2}
use Rattle.std.proofs.lemmas.Bool.Decides.{eqb_tells}
use Rattle.pp_arc.specs.declared.answer.Answer.{Answer}
use Rattle.pp_arc.specs.declared.answer.Answer.TheVariants.{Hit, Free, Evict, AllBusy}
use Rattle.pp_arc.specs.Pages.{contains, times_in, without}
use Rattle.pp_arc.specs.FourLists.{FourLists, cached_count, recent_count, total_count, times_named, is_cached, place}
use Rattle.pp_arc.specs.Bounds.{IsWithinBounds}
use Rattle.pp_arc.specs.Figure.{forget, with_front_of_t2, bring_back, with_remembered, after_replace}
use Rattle.pp_arc.proofs.PageLemmas.{length-without, times_in-contains, times_in-contains_not, contains-times_in}
use Rattle.pp_arc.proofs.BoundLemmas.{cached_count-forget, recent_count-forget, total_count-forget, times_named-forget}
use Rattle.pp_arc.proofs.BoundLemmas.{from_t1, from_t2, once_in_t1, once_in_t2, times_named-from_t1}
use Rattle.pp_arc.proofs.BoundLemmas.{times_named-from_t2, times_named-forget_same, bounds-put_in_t2, bounds-forget}
use Rattle.pp_arc.proofs.BoundLemmas.{bounds-from_t1, bounds-from_t2}
use Rattle.pp_arc.proofs.RingLemmas.{without-absent}
use Rattle.pp_arc.specs.Links.{with_front}

-- what a page's leaving the cache does to the counts
pub record Demotes (s t : FourLists) : Type 0 where
  pub cached : cached_count t + 1 ≡ cached_count s
  pub same_c : t.c ≡ s.c
  pub same_pages : t.pages ≡ s.pages
  pub recent : recent_count t ≡ recent_count s
  pub total : total_count t ≡ total_count s
  pub times : (q : ℕ) → times_named t q ≡ times_named s q

pub Demotes-from_t1 : (s : FourLists) (v : ℕ) → times_in s.t1 v ≡ 1 → Demotes s (from_t1 s v)
Demotes-from_t1 s v one = record {
  cached = omega (arith, length-without s.t1 v);
  same_c = refl;
  same_pages = refl;
  recent = omega (arith, length-without s.t1 v);
  total = omega (arith, length-without s.t1 v);
  times = λ q. times_named-from_t1 s v q one;
}

pub Demotes-from_t2 : (s : FourLists) (v : ℕ) → times_in s.t2 v ≡ 1 → Demotes s (from_t2 s v)
Demotes-from_t2 s v one = record {
  cached = omega (arith, length-without s.t2 v);
  same_c = refl;
  same_pages = refl;
  recent = refl;
  total = omega (arith, length-without s.t2 v);
  times = λ q. times_named-from_t2 s v q one;
}

pub Demotes-with_remembered : (s : FourLists) (v : ℕ) → IsWithinBounds s → IsTrue (is_cached s v)
    → Demotes s (with_remembered s v)
Demotes-with_remembered s v h here = go (contains s.t1 v) refl
  where
    go : (b : Bool) → contains s.t1 v ≡ b → Demotes s (cond b (from_t1 s v) (from_t2 s v))
    go true e = Demotes-from_t1 s v (once_in_t1 s v h e)
    go false e = let there : contains s.t2 v ≡ true = rw e at here in Demotes-from_t2 s v (once_in_t2 s v h there)

-- REPLACE's answer says that the cache has room, or that it gets room by a page that is cached
pub record MakesRoom (s : FourLists) (answer : Answer) : Type 0 where
  pub free : answer ≡ Free → cached_count s < s.c
  pub victim : (v : ℕ) → answer ≡ Evict v → IsTrue (is_cached s v)
  pub no_hit : answer ≢ Hit
  pub not_busy : answer ≢ AllBusy

-- what carrying that answer out does to the counts
pub record HasMadeRoom (s t : FourLists) : Type 0 where
  pub cached : cached_count t < s.c
  pub same_c : t.c ≡ s.c
  pub same_pages : t.pages ≡ s.pages
  pub recent : recent_count t ≡ recent_count s
  pub total : total_count t ≡ total_count s
  pub times : (q : ℕ) → times_named t q ≡ times_named s q

pub HasMadeRoom-after_replace : (s : FourLists) (answer : Answer) → IsWithinBounds s → MakesRoom s answer
    → HasMadeRoom s (after_replace s answer)
HasMadeRoom-after_replace s Hit h m = absurd (m.no_hit refl)
HasMadeRoom-after_replace s Free h m = record {
  cached = m.free refl;
  same_c = refl;
  same_pages = refl;
  recent = refl;
  total = refl;
  times = λ q. refl;
}
HasMadeRoom-after_replace s AllBusy h m = absurd (m.not_busy refl)
HasMadeRoom-after_replace s (Evict v) h m =
    let d : Demotes s (with_remembered s v) = Demotes-with_remembered s v h (m.victim v refl) in
    record {
      cached = omega (arith, h.cached);
      same_c = d.same_c;
      same_pages = d.same_pages;
      recent = d.recent;
      total = d.total;
      times = d.times;
    }

-- a page is put in front of T2, after it was forgotten
pub bounds-moved_to_t2 : (d s : FourLists) (x : ℕ) → d ≡ s → IsWithinBounds d → x < s.pages
    → cached_count (forget s x) < s.c → total_count (forget s x) < 2 * s.c → IsWithinBounds (with_front_of_t2 d x)
bounds-moved_to_t2 d s x e h low room all =
    rw e (bounds-put_in_t2 (forget s x) x (bounds-forget s x (rw e at h)) low (times_named-forget_same s x) room all)

-- a cached page stands in T1 or T2
pub times_in-cached : (s : FourLists) (x : ℕ) → is_cached s x ≡ true → 1 ≤ times_in s.t1 x + times_in s.t2 x
times_in-cached s x h = go (contains s.t1 x) refl
  where
    go : (b : Bool) → contains s.t1 x ≡ b → 1 ≤ times_in s.t1 x + times_in s.t2 x
    go true e = omega (arith, times_in-contains s.t1 x e)
    go false e = let there : contains s.t2 x ≡ true = rw e at h in omega (arith, times_in-contains s.t2 x there)

pub times_in-not_cached : (s : FourLists) (x : ℕ) → is_cached s x ≡ false → times_in s.t1 x + times_in s.t2 x ≡ 0
times_in-not_cached s x h = go (contains s.t1 x) refl
  where
    go : (b : Bool) → contains s.t1 x ≡ b → times_in s.t1 x + times_in s.t2 x ≡ 0
    go true e = let no : true ≡ false = rw e at h in absurd (cc)
    go false e = let there : contains s.t2 x ≡ false = rw e at h in omega
        (arith, times_in-contains_not s.t1 x e, times_in-contains_not s.t2 x there)

-- a cached page that is forgotten leaves room
pub room-forget : (s : FourLists) (x : ℕ) → IsWithinBounds s → IsTrue (is_cached s x)
    → (cached_count (forget s x) < s.c) × (total_count (forget s x) < 2 * s.c)
room-forget s x h here = (
  omega (arith, cached_count-forget s x, times_in-cached s x here, h.cached),
  omega
      (arith, total_count-forget s x, times_in-cached s x here, h.total),
)

-- a page of T1 that is forgotten leaves room for a new page
pub record HasRoomForNew (s : FourLists) (c x : ℕ) : Type 0 where
  pub absent : times_named s x ≡ 0
  pub cached_room : cached_count s < c
  pub recent_room : recent_count s < c
  pub total_room : total_count s < 2 * c

pub HasRoomForNew-forget : (s : FourLists) (v x : ℕ) → IsWithinBounds s → times_named s x ≡ 0 → contains s.t1 v ≡ true
    → HasRoomForNew (forget s v) s.c x
HasRoomForNew-forget s v x h absent here =
    let here' : is_cached s v ≡ true = is_cached-t1 s v here in record {
      absent = omega (arith, times_named-forget s v x);
      cached_room = (room-forget s v h here').0;
      recent_room = omega (arith, recent_count-forget s v, times_in-contains s.t1 v here, h.recent);
      total_room = (room-forget s v h here').1;
    }

-- once there is room, a page of B1 or B2 may move to T2
pub room-after_replace : (s : FourLists) (answer : Answer) (x : ℕ) → IsWithinBounds s → MakesRoom s answer
    → 1 ≤ times_named s x
    → (cached_count (forget (after_replace s answer) x) < s.c) ×
    (total_count (forget (after_replace s answer) x) < 2 * s.c)
room-after_replace s answer x h m named =
    let d : HasMadeRoom s (after_replace s answer) = HasMadeRoom-after_replace s answer h m in (
      omega (arith, cached_count-forget (after_replace s answer) x, d.cached),
      omega
          (arith, total_count-forget (after_replace s answer) x, d.total, d.times x, h.total),
    )

-- what `place` says of a page
abbrev pub StandsIn : Option ListName → FourLists → ℕ → Type 0
StandsIn (Some T1) s x = is_cached s x ≡ true
StandsIn (Some T2) s x = is_cached s x ≡ true
StandsIn (Some B1) s x = (is_cached s x ≡ false) × (1 ≤ times_in s.b1 x)
StandsIn (Some B2) s x = (is_cached s x ≡ false) × (1 ≤ times_in s.b2 x)
StandsIn None s x = (is_cached s x ≡ false) × (times_named s x ≡ 0)

not_cached : (s : FourLists) (x : ℕ) → contains s.t1 x ≡ false → contains s.t2 x ≡ false → is_cached s x ≡ false
not_cached s x e f = rw (e, f) refl

pub StandsIn-place : (s : FourLists) (x : ℕ) → StandsIn (place s x) s x
StandsIn-place s x = go (contains s.t1 x) (contains s.t2 x) (contains s.b1 x) (contains s.b2 x) refl refl refl refl
  where
    go : (p q r t : Bool) → contains s.t1 x ≡ p → contains s.t2 x ≡ q → contains s.b1 x ≡ r → contains s.b2 x ≡ t
        → StandsIn (cond p (Some T1) (cond q (Some T2) (cond r (Some B1) (cond t (Some B2) None)))) s x
    go true q r t e f g h = is_cached-t1 s x e
    go false true r t e f g h = is_cached-t2 s x f
    go false false true t e f g h = (not_cached s x e f, times_in-contains s.b1 x g)
    go false false false true e f g h = (not_cached s x e f, times_in-contains s.b2 x h)
    go false false false false e f g h = (
      not_cached s x e f,
      omega (
        arith,
        times_in-contains_not s.t1 x e,
        times_in-contains_not s.t2 x f,
        times_in-contains_not s.b1 x g,
        times_in-contains_not s.b2 x h,
      ),
    )

-- another target within its bounds
pub bounds-at_target : (s : FourLists) (target : ℕ) → IsWithinBounds s → target ≤ s.c
    → IsWithinBounds (record s { target = target })
bounds-at_target s target h aimed = record {
  holds_a_page = h.holds_a_page;
  cached = h.cached;
  recent = h.recent;
  total = h.total;
  once = h.once;
  below = h.below;
  aimed = aimed;
}

-- a page that stands in no list has no place
pub place-times_named : (s : FourLists) (x : ℕ) → times_named s x ≡ 0 → place s x ≡ None
place-times_named s x none =
    let a : contains s.t1 x ≡ false = contains-times_in s.t1 x (omega arith) in
    let b : contains s.t2 x ≡ false = contains-times_in s.t2 x (omega arith) in
    let d : contains s.b1 x ≡ false = contains-times_in s.b1 x (omega arith) in
    let e : contains s.b2 x ≡ false = contains-times_in s.b2 x (omega arith) in
    rw (a, b, d, e) refl

pub place-forget : (s : FourLists) (x : ℕ) → place (forget s x) x ≡ None
place-forget s x = place-times_named (forget s x) x (times_named-forget_same s x)

-- another page in front of T2 doesn't bring it back
pub place-bring_back : (s : FourLists) (x v : ℕ) → v ≢ x → place (bring_back s x v) x ≡ None
place-bring_back s x v ne =
    place-times_named (bring_back s x v) x (elim (eqb_tells v x) [
      | inl t ↦ absurd (ne t.1)
      | inr t ↦ rw t.0 (omega (arith, times_named-forget (forget s x) v x, times_named-forget_same s x))
    ])

-- a page that is cached is below `pages`
pub below-cached : (s : FourLists) (x : ℕ) → IsWithinBounds s → is_cached s x ≡ true → x < s.pages
below-cached s x h here = h.below x (omega (arith, times_in-cached s x here))

-- where a page leaves T1 or T2 and is remembered, the other lists don't have it
pub with_remembered-t1 : (s : FourLists) (v : ℕ) → IsWithinBounds s → contains s.t1 v ≡ true
    → with_front (forget s v) B1 v ≡ with_remembered s v
with_remembered-t1 s v h here =
    let one : 1 ≤ times_in s.t1 v = times_in-contains s.t1 v here in
    let t2 : without s.t2 v ≡ s.t2 = without-absent s.t2 v (omega (arith, h.once v)) in
    let b1 : without s.b1 v ≡ s.b1 = without-absent s.b1 v (omega (arith, h.once v)) in
    let b2 : without s.b2 v ≡ s.b2 = without-absent s.b2 v (omega (arith, h.once v)) in
    rw (here, t2, b1, b2) refl

pub with_remembered-t2 : (s : FourLists) (v : ℕ) → IsWithinBounds s → is_cached s v ≡ true → contains s.t1 v ≡ false
    → with_front (forget s v) B2 v ≡ with_remembered s v
with_remembered-t2 s v h cached away =
    let here : contains s.t2 v ≡ true = rw away at cached in
    let one : 1 ≤ times_in s.t2 v = times_in-contains s.t2 v here in
    let t1 : without s.t1 v ≡ s.t1 = without-absent s.t1 v (omega (arith, h.once v)) in
    let b1 : without s.b1 v ≡ s.b1 = without-absent s.b1 v (omega (arith, h.once v)) in
    let b2 : without s.b2 v ≡ s.b2 = without-absent s.b2 v (omega (arith, h.once v)) in
    rw (away, t1, b1, b2) refl

pub bounds-with_remembered : (s : FourLists) (v : ℕ) → IsWithinBounds s → is_cached s v ≡ true
    → IsWithinBounds (with_remembered s v)
bounds-with_remembered s v h here = go (contains s.t1 v) refl
  where
    go : (b : Bool) → contains s.t1 v ≡ b → IsWithinBounds (cond b (from_t1 s v) (from_t2 s v))
    go true e = bounds-from_t1 s v h (once_in_t1 s v h e)
    go false e = let there : contains s.t2 v ≡ true = rw e at here in bounds-from_t2 s v h (once_in_t2 s v h there)
