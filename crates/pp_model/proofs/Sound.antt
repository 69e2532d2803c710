-- In every reached state: ARC's bounds hold of its lists; a page has at most one errand of a worker; a page that is
-- loaded is cached and held by nobody; a page that is held is cached; and a victim that is written back isn't.
use Rattle.std.proofs.Common.{◌≡◌, ◌≢◌, ◌∙◌, ℕ, zero, suc, ◌+◌, ◌≤◌, ◌<◌, Bool, true, false, eqb, cond}
use Rattle.std.proofs.Common.{Some, List, [], ◌∷◌, refl, sym, ap, subst, inl, inr, arith}
use Rattle.std.specs.Prelude.{slice_get, sum_by, nat_lt, ◌||◌}
use Rattle.std.proofs.lemmas.Bool.Decides.{nat_tests}
use Rattle.std.proofs.lemmas.List.Sums.{sum_by-cons}
use Rattle.pp_settings.specs.declared.extent.Extent.{Extent}
use Rattle.pp_settings.specs.Layout.{Geometry, has_page, page_count, end_of}
use Rattle.pp_plan.specs.declared.action.Action.TheVariants as action
use Rattle.pp_plan.specs.declared.action.Ask.{Ask}
use Rattle.pp_plan.specs.declared.action.Ask.TheVariants as ask
use Rattle.pp_cursor.specs.Cursor.{NamesAction}
use Rattle.pp_cert.specs.Held.{Holding, Holdings}
use Rattle.pp_arc.specs.declared.answer.Answer.{Answer}
use Rattle.pp_arc.specs.declared.answer.Answer.TheVariants as answer
use Rattle.pp_arc.specs.FourLists.{is_cached}
use Rattle.pp_arc.specs.Bounds.{IsWithinBounds}
use Rattle.pp_arc.specs.Figure.{request, forget, bring_back}
use Rattle.pp_arc.proofs.BoundLemmas.{bounds-forget}
use Rattle.pp_arc.proofs.StepLemmas.{times_in-cached}
use Rattle.pp_arc.proofs.CacheLemmas.{CachesWithout-forget, CachesAgain-bring_back, SameSizes-request}
use Rattle.pp_model.specs.Holders.{times}
use Rattle.pp_model.specs.Pool.{State}
use Rattle.pp_model.specs.Fixing.{fixes}
use Rattle.pp_model.proofs.Swaps.{by_fix}
use Rattle.pp_model.specs.Holders.{is_in_flight, is_taken, is_busy, is_flushed, pins_of, errands_of}
use Rattle.pp_model.proofs.Sums.{times-cons}
use Rattle.pp_model.proofs.ArcBounds.{bounds-request, bounds-bring_back}
use Rattle.pp_model.proofs.Requests.{Which, same, other, which, hit_cached, miss_uncached, caches, caches_it}
use Rattle.pp_model.proofs.Requests.{still_away, victim_away, IsVictim, is_victim}
use Rattle.pp_model.proofs.Totals.{weight, loads_of, victims_of, on_page}
use Rattle.pp_model.proofs.Totals.{pins_are, errands_are, Totals}

pub record IsSound (s : State) : Type 0 where
  pub c : s.lists.c ≡ s.settings.layout.frames
  pub pages : s.lists.pages ≡ page_count s.settings.layout
  pub bounds : IsWithinBounds s.lists
  pub alone : (q : ℕ) → loads_of s q + victims_of s q ≤ 1
  pub fresh : (q : ℕ) → 0 < loads_of s q → weight s (on_page q) ≡ 0
  pub cached : (q : ℕ) → 0 < weight s (on_page q) + loads_of s q → is_cached s.lists q ≡ true
  pub away : (q : ℕ) → 0 < victims_of s q → (is_cached s.lists q ≡ false) × (q < s.lists.pages)

-- ---- the pages of a layout

page_below : (xs : List Extent) (r page : ℕ) (e : Extent) → slice_get xs r ≡ Some e → has_page page e ≡ true
    → page < end_of xs
page_below [] r page e f h = cc
page_below (x ∷ xs) zero page e f h =
    let is : x ≡ e = cc in
    let low : page < e.first + e.count = grind (arith, nat_tests) in
    let bound : x.first + x.count ≡ e.first + e.count = ap (λ (y : Extent). y.first + y.count) is in
    omega arith
page_below (x ∷ xs) (suc r) page e f h = omega (arith, page_below xs r page e f h)

pub fixable : (g : Geometry) (slot page : ℕ) (k x : Ask) → NamesAction g x (fixes k slot page) → page < page_count g
fixable g slot page k x = by_fix (λ a b. NamesAction g x a → page < page_count g) k slot page (fix x) (gather x)
  where
    fix : (x : Ask) → NamesAction g x (action.Fix slot page) → page < page_count g
    fix (ask.Fix s r) n = page_below g.extents r page n.1.0 n.1.1 n.1.2
    fix (ask.Unfix s) n = absurd n
    fix (ask.Latch s m) n = absurd n
    fix (ask.Unlatch s) n = absurd n
    fix (ask.Gather s r) n = absurd n
    fix (ask.Scatter s) n = absurd n
    fix (ask.Choose k) n = absurd n
    fix ask.End n = absurd n

    gather : (x : Ask) → NamesAction g x (action.Gather slot page) → page < page_count g
    gather (ask.Fix s r) n = absurd n
    gather (ask.Unfix s) n = absurd n
    gather (ask.Latch s m) n = absurd n
    gather (ask.Unlatch s) n = absurd n
    gather (ask.Gather s r) n = page_below g.extents r page n.1.0 n.1.1 n.1.2
    gather (ask.Scatter s) n = absurd n
    gather (ask.Choose k) n = absurd n
    gather ask.End n = absurd n

-- ---- tests of a page

pub not_in_flight : (s : State) (q : ℕ) → is_in_flight s q ≡ false → loads_of s q + victims_of s q ≡ 0
not_in_flight s q e = let are = errands_are s q in let none : errands_of s q ≡ 0 = grind
    (arith, nat_tests) in omega arith

or_false : (a b : Bool) → (a || b) ≡ false → (a ≡ false) × (b ≡ false)
or_false true b e = cc
or_false false b e = (refl, e)

pub not_busy : (s : State) (q : ℕ) → is_busy s q ≡ false
    → (weight s (on_page q) + loads_of s q ≡ 0) × (is_flushed s.flush q ≡ false)
not_busy s q e =
    let both = or_false (is_taken s q) (is_flushed s.flush q) e in
    let free : is_taken s q ≡ false = both.0 in
    let none : pins_of s q ≡ 0 = grind (arith, nat_tests) in
    (omega (arith, pins_are s q, none), both.1)

-- A page that isn't cached is held by nobody and not loaded.
pub uncached_free : (s : State) (q : ℕ) → IsSound s → is_cached s.lists q ≡ false
    → weight s (on_page q) + loads_of s q ≡ 0
uncached_free s q h gone = go (nat_lt 0 (weight s (on_page q) + loads_of s q)) refl
  where
    go : (b : Bool) → nat_lt 0 (weight s (on_page q) + loads_of s q) ≡ b → weight s (on_page q) + loads_of s q ≡ 0
    go true e = let here = h.cached q (grind (arith, nat_tests)) in absurd (cc)
    go false e = grind (arith, nat_tests)

once : (q p : ℕ) → times q (p ∷ []) ≡ cond (eqb p q) 1 0
once q p = omega (arith, times-cons q p [])

on : (q : ℕ) (x : Holding) → sum_by (on_page q) (x ∷ []) ≡ cond (eqb x.page q) 1 0
on q x = omega (arith, sum_by-cons (on_page q) x [])

-- ---- the lists stay, and the holdings of no page grow

pub quiet : (s t : State) (out into : Holdings) → IsSound s → t.settings ≡ s.settings → t.lists ≡ s.lists
    → Totals s t out into [] [] [] [] → ((q : ℕ) → sum_by (on_page q) into ≤ sum_by (on_page q) out) → IsSound t
quiet s t out into h k l d less = record {
  c = ap (λ x. x.c) l ∙ h.c ∙ sym (ap (λ x. x.layout.frames) k);
  pages = ap (λ x. x.pages) l ∙ h.pages ∙ sym (ap (λ x. page_count x.layout) k);
  bounds = subst IsWithinBounds (sym l) h.bounds;
  alone = λ q. omega (arith, h.alone q, d.loads q, d.victims q);
  fresh = λ q some. omega (arith, h.fresh q (omega (arith, d.loads q, some)), d.holds (on_page q), less q);
  cached = λ q some. subst (λ x. is_cached x q ≡ true) (sym l)
      (h.cached q (omega (arith, d.loads q, d.holds (on_page q), less q, some)));
  away = λ q some. subst (λ x. (is_cached x q ≡ false) × (q < x.pages)) (sym l)
      (h.away q (omega (arith, d.victims q, some)));
}

-- ---- a page that was loaded is fixed

pub loaded : (s t : State) (x : Holding) → IsSound s → t.settings ≡ s.settings → t.lists ≡ s.lists
    → Totals s t [] (x ∷ []) (x.page ∷ []) [] [] [] → IsSound t
loaded s t x h k l d = record {
  c = ap (λ y. y.c) l ∙ h.c ∙ sym (ap (λ y. y.layout.frames) k);
  pages = ap (λ y. y.pages) l ∙ h.pages ∙ sym (ap (λ y. page_count y.layout) k);
  bounds = subst IsWithinBounds (sym l) h.bounds;
  alone = λ q. omega (arith, h.alone q, d.loads q, d.victims q);
  fresh = λ q some. fresh_at q some (which x.page q);
  cached = λ q some. subst (λ y. is_cached y q ≡ true) (sym l)
      (h.cached q (omega (arith, d.loads q, d.holds (on_page q), once q x.page, on q x, some)));
  away = λ q some. subst (λ y. (is_cached y q ≡ false) × (q < y.pages)) (sym l)
      (h.away q (omega (arith, d.victims q, some)));
}
  where
    fresh_at : (q : ℕ) → 0 < loads_of t q → Which x.page q → weight t (on_page q) ≡ 0
    fresh_at q some (same e f) = absurd (omega (arith, d.loads q, once q x.page, f, some, h.alone q))
    fresh_at q some (other e f) =
        omega (arith, h.fresh q (omega (arith, d.loads q, some)), d.holds (on_page q), on q x, f)

-- ---- fixes

-- The cached pages stay, and one of them is fixed once more.
pub hit : (s t : State) (x : Holding) → IsSound s → t.settings ≡ s.settings
    → x.page < s.lists.pages → is_in_flight s x.page ≡ false
    → t.lists ≡ (request s.lists x.page (is_busy s)).1 → (request s.lists x.page (is_busy s)).0 ≡ answer.Hit
    → Totals s t [] (x ∷ []) [] [] [] [] → IsSound t
hit s t x h k low flies l a d = record {
  c = ap (λ y. y.c) l ∙ sizes.0 ∙ h.c ∙ sym (ap (λ y. y.layout.frames) k);
  pages = ap (λ y. y.pages) l ∙ sizes.1 ∙ h.pages ∙ sym (ap (λ y. page_count y.layout) k);
  bounds = subst IsWithinBounds (sym l) (bounds-request s.lists x.page (is_busy s) h.bounds low);
  alone = λ q. omega (arith, h.alone q, d.loads q, d.victims q);
  fresh = λ q some. fresh_at q some (which x.page q);
  cached = λ q some. subst (λ y. is_cached y q ≡ true) (sym l) (cached_at q some (which x.page q));
  away = λ q some. subst (λ y. (is_cached y q ≡ false) × (q < y.pages)) (sym l)
      (away_at q (omega (arith, d.victims q, some)));
}
  where
    sizes : ((request s.lists x.page (is_busy s)).1.c ≡ s.lists.c)
        × ((request s.lists x.page (is_busy s)).1.pages ≡ s.lists.pages)
    sizes = SameSizes-request s.lists x.page (is_busy s)

    fresh_at : (q : ℕ) → 0 < loads_of t q → Which x.page q → weight t (on_page q) ≡ 0
    fresh_at q some (same e f) =
        let none : loads_of s q + victims_of s q ≡ 0 = subst (λ p. loads_of s p + victims_of s p ≡ 0) e
        (not_in_flight s x.page flies) in
        absurd (omega (arith, d.loads q, none, some))
    fresh_at q some (other e f) =
        omega (arith, h.fresh q (omega (arith, d.loads q, some)), d.holds (on_page q), on q x, f)

    cached_at : (q : ℕ) → 0 < weight t (on_page q) + loads_of t q → Which x.page q
        → is_cached (request s.lists x.page (is_busy s)).1 q ≡ true
    cached_at q some (same e f) =
        subst (λ p. is_cached (request s.lists x.page (is_busy s)).1 p ≡ true) e
        (caches_it s.lists x.page (is_busy s) answer.Hit h.bounds a (λ g. absurd (cc)))
    cached_at q some (other e f) =
        let was = h.cached q (omega (arith, d.loads q, d.holds (on_page q), on q x, f, some)) in
        caches s.lists x.page (is_busy s) answer.Hit q h.bounds a (λ g. absurd (cc)) was (λ g. absurd (cc))

    away_at : (q : ℕ) → 0 < victims_of s q → (is_cached (request s.lists x.page (is_busy s)).1 q ≡ false)
        × (q < (request s.lists x.page (is_busy s)).1.pages)
    away_at q some =
        let was = h.away q some in
        let here = hit_cached s.lists x.page (is_busy s) h.bounds a in
        let ne : q ≢ x.page = λ e. let no : is_cached s.lists q ≡ true = subst (λ p. is_cached s.lists p ≡ true)
        (sym e) here in absurd (cc) in (
          still_away s.lists x.page (is_busy s) answer.Hit q h.bounds a (λ g. absurd (cc)) ne was.0,
          subst (λ n. q < n)
              (sym sizes.1) was.1,
        )

-- Another page is loaded; v is evicted, if there is a victim, and is written back where it stands in vi.
pub record IsMiss (s : State) (page : ℕ) (a : Answer) : Type 0 where
  pub low : page < s.lists.pages
  pub grounded : is_in_flight s page ≡ false
  pub is : (request s.lists page (is_busy s)).0 ≡ a
  pub not_hit : a ≢ answer.Hit
  pub not_all_busy : a ≢ answer.AllBusy

pub missed : (s t : State) (page : ℕ) (a : Answer) (vi : List ℕ) → IsSound s → t.settings ≡ s.settings
    → t.lists ≡ (request s.lists page (is_busy s)).1 → IsMiss s page a
    → ((q : ℕ) → 0 < times q vi → a ≡ answer.Evict q) → ((q : ℕ) → times q vi ≤ 1)
    → Totals s t [] [] [] (page ∷ []) [] vi → IsSound t
missed s t page a vi h k l m evicted few d = record {
  c = ap (λ y. y.c) l ∙ sizes.0 ∙ h.c ∙ sym (ap (λ y. y.layout.frames) k);
  pages = ap (λ y. y.pages) l ∙ sizes.1 ∙ h.pages ∙ sym (ap (λ y. page_count y.layout) k);
  bounds = subst IsWithinBounds (sym l) (bounds-request s.lists page (is_busy s) h.bounds m.low);
  alone = λ q. alone_at q (which page q) (nat_lt 0 (times q vi)) refl;
  fresh = λ q some. fresh_at q some (which page q);
  cached = λ q some. subst (λ y. is_cached y q ≡ true) (sym l) (cached_at q some (which page q));
  away = λ q some. subst (λ y. (is_cached y q ≡ false) × (q < y.pages)) (sym l)
      (away_at q some (nat_lt 0 (times q vi)) refl);
}
  where
    sizes : ((request s.lists page (is_busy s)).1.c ≡ s.lists.c)
        × ((request s.lists page (is_busy s)).1.pages ≡ s.lists.pages)
    sizes = SameSizes-request s.lists page (is_busy s)

    gone : is_cached s.lists page ≡ false
    gone = miss_uncached s.lists page (is_busy s) (λ e. m.not_hit (sym m.is ∙ e))

    grounded : (q : ℕ) → page ≡ q → loads_of s q + victims_of s q ≡ 0
    grounded q e = subst (λ p. loads_of s p + victims_of s p ≡ 0) e (not_in_flight s page m.grounded)

    victim : (q : ℕ) → 0 < times q vi → IsVictim s.lists page (is_busy s) q
    victim q some = is_victim s.lists page (is_busy s) q h.bounds (m.is ∙ evicted q some)

    -- A victim had no errand: it was cached and not taken.
    quiet_victim : (q : ℕ) → 0 < times q vi → loads_of s q + victims_of s q ≡ 0
    quiet_victim q some = go (nat_lt 0 (victims_of s q)) refl
      where
        go : (b : Bool) → nat_lt 0 (victims_of s q) ≡ b → loads_of s q + victims_of s q ≡ 0
        go true e =
            let was = (h.away q (grind (arith, nat_tests))).0 in let here = (victim q some).was_cached in absurd (cc)
        go false e =
            let none : victims_of s q ≡ 0 = grind (arith, nat_tests) in
            omega (arith, none, (not_busy s q (victim q some).not_busy).0)

    alone_at : (q : ℕ) → Which page q → (b : Bool) → nat_lt 0 (times q vi) ≡ b → loads_of t q + victims_of t q ≤ 1
    alone_at q (same e f) true g =
        let some : 0 < times q vi = grind (arith, nat_tests) in absurd ((victim q some).ne (sym e))
    alone_at q (same e f) false g =
        let none : times q vi ≡ 0 = grind (arith, nat_tests) in
        omega (arith, d.loads q, d.victims q, once q page, f, none, grounded q e)
    alone_at q (other e f) true g =
        let some : 0 < times q vi = grind (arith, nat_tests) in
        omega (arith, d.loads q, d.victims q, once q page, f, few q, quiet_victim q some)
    alone_at q (other e f) false g =
        let none : times q vi ≡ 0 = grind (arith, nat_tests) in
        omega (arith, d.loads q, d.victims q, once q page, f, none, h.alone q)

    fresh_at : (q : ℕ) → 0 < loads_of t q → Which page q → weight t (on_page q) ≡ 0
    fresh_at q some (same e f) =
        let none = uncached_free s q h (subst (λ p. is_cached s.lists p ≡ false) e gone) in
        omega (arith, d.holds (on_page q), none)
    fresh_at q some (other e f) =
        omega (arith, h.fresh q (omega (arith, d.loads q, once q page, f, some)), d.holds (on_page q))

    cached_at : (q : ℕ) → 0 < weight t (on_page q) + loads_of t q → Which page q
        → is_cached (request s.lists page (is_busy s)).1 q ≡ true
    cached_at q some (same e f) =
        subst (λ p. is_cached (request s.lists page (is_busy s)).1 p ≡ true) e
        (caches_it s.lists page (is_busy s) a h.bounds m.is m.not_all_busy)
    cached_at q some (other e f) =
        let taken : 0 < weight s (on_page q) + loads_of s q = omega
        (arith, d.loads q, d.holds (on_page q), once q page, f, some) in
        let stays : a ≢ answer.Evict q = λ g.
        let v = is_victim s.lists page (is_busy s) q h.bounds (m.is ∙ g) in
        absurd (omega (arith, taken, (not_busy s q v.not_busy).0)) in
        caches s.lists page (is_busy s) a q h.bounds m.is m.not_all_busy (h.cached q taken) stays

    below : (q : ℕ) → q < s.lists.pages → q < (request s.lists page (is_busy s)).1.pages
    below q lt = subst (λ n. q < n) (sym sizes.1) lt

    away_at : (q : ℕ) → 0 < victims_of t q → (b : Bool) → nat_lt 0 (times q vi) ≡ b
        → (is_cached (request s.lists page (is_busy s)).1 q ≡ false) × (q < (request s.lists page (is_busy s)).1.pages)
    away_at q some true g =
        let new : 0 < times q vi = grind (arith, nat_tests) in
        let v = victim q new in (
          victim_away s.lists page (is_busy s) q h.bounds (m.is ∙ evicted q new) v.ne,
          below q
              (h.bounds.below q (omega (arith, times_in-cached s.lists q v.was_cached))),
        )
    away_at q some false g =
        let none : times q vi ≡ 0 = grind (arith, nat_tests) in
        let was = h.away q (omega (arith, d.victims q, none, some)) in
        let ne : q ≢ page = λ e. absurd (omega (arith, grounded q (sym e), d.victims q, none, some)) in
        (still_away s.lists page (is_busy s) a q h.bounds m.is m.not_all_busy ne was.0, below q was.1)

-- ---- answers of the device

-- The victim is on the device.
pub written : (s t : State) (v : ℕ) → IsSound s → t.settings ≡ s.settings → t.lists ≡ s.lists
    → Totals s t [] [] [] [] (v ∷ []) [] → IsSound t
written s t v h k l d = record {
  c = ap (λ y. y.c) l ∙ h.c ∙ sym (ap (λ y. y.layout.frames) k);
  pages = ap (λ y. y.pages) l ∙ h.pages ∙ sym (ap (λ y. page_count y.layout) k);
  bounds = subst IsWithinBounds (sym l) h.bounds;
  alone = λ q. omega (arith, h.alone q, d.loads q, d.victims q);
  fresh = λ q some. omega (arith, h.fresh q (omega (arith, d.loads q, some)), d.holds (on_page q));
  cached = λ q some. subst (λ y. is_cached y q ≡ true) (sym l)
      (h.cached q (omega (arith, d.loads q, d.holds (on_page q), some)));
  away = λ q some. subst (λ y. (is_cached y q ≡ false) × (q < y.pages)) (sym l)
      (h.away q (omega (arith, d.victims q, some)));
}

-- The page wasn't read.
pub forgotten : (s t : State) (page : ℕ) → IsSound s → t.settings ≡ s.settings → t.lists ≡ forget s.lists page
    → Totals s t [] [] (page ∷ []) [] [] [] → IsSound t
forgotten s t page h k l d = record {
  c = ap (λ y. y.c) l ∙ h.c ∙ sym (ap (λ y. y.layout.frames) k);
  pages = ap (λ y. y.pages) l ∙ h.pages ∙ sym (ap (λ y. page_count y.layout) k);
  bounds = subst IsWithinBounds (sym l) (bounds-forget s.lists page h.bounds);
  alone = λ q. omega (arith, h.alone q, d.loads q, d.victims q);
  fresh = λ q some. omega (arith, h.fresh q (omega (arith, d.loads q, some)), d.holds (on_page q));
  cached = λ q some. subst (λ y. is_cached y q ≡ true) (sym l) (cached_at q some (which page q));
  away = λ q some. subst (λ y. (is_cached y q ≡ false) × (q < y.pages)) (sym l)
      (away_at q (h.away q (omega (arith, d.victims q, some))));
}
  where
    cached_at : (q : ℕ) → 0 < weight t (on_page q) + loads_of t q → Which page q
        → is_cached (forget s.lists page) q ≡ true
    cached_at q some (same e f) =
        let was : 0 < loads_of s q = omega (arith, d.loads q, once q page, f) in
        absurd (omega (arith, h.fresh q was, h.alone q, d.loads q, d.holds (on_page q), once q page, f, some))
    cached_at q some (other e f) =
        let was = h.cached q (omega (arith, d.loads q, d.holds (on_page q), once q page, f, some)) in
        (CachesWithout-forget s.lists page q).1 (was, λ g. e (sym g))

    gone_still : (b : Bool) (q : ℕ) → is_cached (forget s.lists page) q ≡ b → is_cached s.lists q ≡ false → b ≡ false
    gone_still true q e was = let here : is_cached s.lists q ≡ true =
        ((CachesWithout-forget s.lists page q).0 e).0 in cc
    gone_still false q e was = refl

    away_at : (q : ℕ) → (is_cached s.lists q ≡ false) × (q < s.lists.pages)
        → (is_cached (forget s.lists page) q ≡ false) × (q < s.lists.pages)
    away_at q was = (gone_still (is_cached (forget s.lists page) q) q refl was.0, was.1)

-- The victim wasn't written, and is cached again.
pub brought : (s t : State) (page v : ℕ) → IsSound s → t.settings ≡ s.settings → t.lists ≡ bring_back s.lists page v
    → Totals s t [] [] (page ∷ []) [] (v ∷ []) [] → IsSound t
brought s t page v h k l d = record {
  c = ap (λ y. y.c) l ∙ h.c ∙ sym (ap (λ y. y.layout.frames) k);
  pages = ap (λ y. y.pages) l ∙ h.pages ∙ sym (ap (λ y. page_count y.layout) k);
  bounds = subst IsWithinBounds (sym l) (bounds-bring_back s.lists page v h.bounds here there.1);
  alone = λ q. omega (arith, h.alone q, d.loads q, d.victims q);
  fresh = λ q some. omega (arith, h.fresh q (omega (arith, d.loads q, some)), d.holds (on_page q));
  cached = λ q some. subst (λ y. is_cached y q ≡ true) (sym l) (cached_at q some (which page q));
  away = λ q some. subst (λ y. (is_cached y q ≡ false) × (q < y.pages)) (sym l) (away_at q some (which v q));
}
  where
    here : is_cached s.lists page ≡ true
    here = go (which page page)
      where
        go : Which page page → is_cached s.lists page ≡ true
        go (same e f) = h.cached page (omega (arith, d.loads page, once page page, f))
        go (other e f) = absurd (e refl)

    there : (is_cached s.lists v ≡ false) × (v < s.lists.pages)
    there = go (which v v)
      where
        go : Which v v → (is_cached s.lists v ≡ false) × (v < s.lists.pages)
        go (same e f) = h.away v (omega (arith, d.victims v, once v v, f))
        go (other e f) = absurd (e refl)

    cached_at : (q : ℕ) → 0 < weight t (on_page q) + loads_of t q → Which page q
        → is_cached (bring_back s.lists page v) q ≡ true
    cached_at q some (same e f) =
        let was : 0 < loads_of s q = omega (arith, d.loads q, once q page, f) in
        absurd (omega (arith, h.fresh q was, h.alone q, d.loads q, d.holds (on_page q), once q page, f, some))
    cached_at q some (other e f) =
        let was = h.cached q (omega (arith, d.loads q, d.holds (on_page q), once q page, f, some)) in
        (CachesAgain-bring_back s.lists page v q).1 (inr (was, λ g. e (sym g)))

    gone_still : (b : Bool) (q : ℕ) → v ≢ q → is_cached (bring_back s.lists page v) q ≡ b → is_cached s.lists q ≡ false
        → b ≡ false
    gone_still true q ne e was =
        elim ((CachesAgain-bring_back s.lists page v q).0 e)
        [ inl g ↦ absurd (ne (sym g)) | inr g ↦ let no : is_cached s.lists q ≡ true = g.0 in cc ]
    gone_still false q ne e was = refl

    away_at : (q : ℕ) → 0 < victims_of t q → Which v q → (is_cached (bring_back s.lists page v) q ≡ false)
        × (q < s.lists.pages)
    away_at q some (same e f) = absurd (omega (arith, d.victims q, once q v, f, h.alone q, some))
    away_at q some (other e f) =
        let was = h.away q (omega (arith, d.victims q, some)) in
        (gone_still (is_cached (bring_back s.lists page v) q) q e refl was.0, was.1)
