-- Which region has a page.
use Rattle.std.proofs.Common.{◌≡◌, ℕ, ◌<◌, ◌≤◌, ◌+◌, ◌-◌, zero, suc, [], ◌∷◌, max, drop, All, true, List}
use Rattle.std.proofs.Common.{length, get_or, Option, Some, None, option_map, nat_lt, arith, inl, inr, AllPairs, IsTrue}
use Rattle.std.proofs.Common.{subst, refl, sym, ap, ◌∙◌}
use Rattle.std.specs.List.{position_or_len, find, slice_get}
use Rattle.std.proofs.lemmas.Bool.{cases_lt}
use Rattle.std.proofs.lemmas.Bool.Decides.{nat_tests}
use Rattle.std.proofs.lemmas.List.{drop_all}
use Rattle.std.proofs.lemmas.List.Quantifiers.{position-Some}
use Rattle.std.proofs.lemmas.List.Folds.{find_at}
use Rattle.std.proofs.lemmas.Option.{cond_some, slice_get-get_or, slice_get_within, get_or_from_slice_get}
use Rattle.pp_text.proofs.Positions.{position_at, position_only}
use Rattle.pp_settings.specs.declared.extent.Extent.{Extent}
use Rattle.pp_settings.specs.Places.{unused}
use Rattle.pp_settings.specs.Layout.{Geometry, has_page, region_of, class_of, end_of, page_count, HasPage, TellsClass}
use Rattle.pp_settings.specs.Layout.{IsExtent, IsApart, IsLayout}

-- no page lies in two extents that are apart
apart_shares : (d e : Extent) (page : ℕ) → IsApart d e → has_page page d ≡ true → has_page page e ≡ true → ⊥
apart_shares d e page (inl h) a b = grind (arith, nat_tests)
apart_shares d e page (inr h) a b = grind (arith, nat_tests)

none_some : {A : Type 0} (o : Option A) (x : A) → o ≡ None → o ≡ Some x → ⊥
none_some o x a b = absurd cc

pub region_has : (g : Geometry) (page r : ℕ) → region_of g page ≡ Some r → HasPage g r page
region_has g page r is =
    let (within, passes, _) = position-Some (has_page page) g.extents r unused is in
    (get_or g.extents r unused, slice_get-get_or g.extents r unused within, passes)

pub region_only : (g : Geometry) (page r : ℕ) → AllPairs IsApart g.extents → HasPage g r page
    → region_of g page ≡ Some r
region_only g page r apart (e, is, has) =
    let within : r < length g.extents = slice_get_within g.extents r e is in
    let here : has_page page (get_or g.extents r unused) ≡ true =
    rw (get_or_from_slice_get g.extents r e unused is) has in
    position_only (has_page page) g.extents r unused within here
    (λ k below there. apart_shares (get_or g.extents k unused) (get_or g.extents r unused) page
    (apart k r unused below within) there here)

-- a region that has the page is the first place that passes
place_is : (g : Geometry) (page s : ℕ) → AllPairs IsApart g.extents → HasPage g s page
    → s ≡ position_or_len (has_page page) g.extents
place_is g page s apart has =
    let first = position_or_len (has_page page) g.extents in
    sym (cond_some (nat_lt first (length g.extents)) first s (region_only g page s apart has)).1

-- the class of the page's region, or none
pub class_tells : (g : Geometry) (page : ℕ) → AllPairs IsApart g.extents → TellsClass g page (class_of g page)
class_tells g page apart = by_find (find (has_page page) g.extents) refl
  where
    by_find : (o : Option Extent) → find (has_page page) g.extents ≡ o
        → TellsClass g page (option_map (λ e. e.class) o)
    by_find None is = λ s has.
        let there = ap (slice_get g.extents) (place_is g page s apart has) ∙ sym (find_at (has_page page) g.extents) in
        none_some (slice_get g.extents s) has.0 (there ∙ is) has.1
    by_find (Some e) is =
        let r = position_or_len (has_page page) g.extents in
        let there : slice_get g.extents r ≡ Some e = sym (find_at (has_page page) g.extents) ∙ is in
        let within = slice_get_within g.extents r e there in
        let has = region_has g page r (position_at (has_page page) g.extents r refl within) in
        (r, has, (e, there, refl), λ s other. place_is g page s apart other)

-- ---- how many page numbers there are

ends_within : (es : List Extent) (r : ℕ) (e : Extent) → slice_get es r ≡ Some e → e.first + e.count ≤ end_of es
ends_within [] r e is = absurd cc
ends_within (x ∷ es) zero e is =
    let same : x ≡ e = cc in subst (λ (d : Extent). d.first + d.count ≤ end_of (x ∷ es)) same (omega arith)
ends_within (x ∷ es) (suc r) e is = let h = ends_within es r e is in omega (arith, h)

-- behind the list nothing is left
pub pages_are : (es : List Extent) (i pages : ℕ) → length es ≤ i → max pages (end_of (drop i es)) ≡ end_of es
    → pages ≡ end_of es
pages_are es i pages past left =
    let none : drop i es ≡ [] = drop_all i es past in
    let same : max pages 0 ≡ end_of es = subst (λ (ds : List Extent). max pages (end_of ds) ≡ end_of es) none left in
    omega (arith, same)

-- some extent ends last
ends_last : (e : Extent) (es : List Extent)
    → (k : ℕ) × (x : Extent) × (slice_get (e ∷ es) k ≡ Some x) × (x.first + x.count ≡ end_of (e ∷ es))
ends_last e [] = (0, e, refl, omega arith)
ends_last e (d ∷ es) =
    let (k, x, is, last) = ends_last d es in
    elim (cases_lt (e.first + e.count) (end_of (d ∷ es))) [
      | inl below ↦
          (suc k, x, is, omega (arith, last, below))
      | inr above ↦ (0, e, refl, omega (arith, above))
    ]

pub pages_above : (g : Geometry) (r page : ℕ) → HasPage g r page → page < page_count g
pages_above g r page (e, is, has) = let h = ends_within g.extents r e is in grind (arith, nat_tests, h)

last_page : (e : Extent) (end : ℕ) → e.first + e.count ≡ end → 1 ≤ e.count → has_page (end - 1) e ≡ true
last_page e end last some = grind (arith, nat_tests)

pub pages_last : (g : Geometry) → IsLayout g → (r : ℕ) × HasPage g r (page_count g - 1)
pages_last g h = last_of g.extents h.count.0 h.extents
  where
    last_of : (es : List Extent) → 1 ≤ length es → All IsExtent es
        → (r : ℕ) × ((e : Extent) × (slice_get es r ≡ Some e) × IsTrue (has_page (end_of es - 1) e))
    last_of [] some are = absurd (omega (arith, some))
    last_of (e ∷ es) some are =
        let (r, x, is, last) = ends_last e es in
        let h : IsExtent x =
        subst IsExtent (get_or_from_slice_get (e ∷ es) r x unused is)
        (are r unused (slice_get_within (e ∷ es) r x is)) in
        (r, (x, is, last_page x (end_of (e ∷ es)) last h.some))

pub pages_most : (g : Geometry) → IsLayout g → page_count g ≤ 4294967292
pages_most g h = most_of g.extents h.extents
  where
    most_of : (es : List Extent) → All IsExtent es → end_of es ≤ 4294967292
    most_of [] are = omega arith
    most_of (e ∷ es) are =
        let here : IsExtent e = are 0 unused (omega arith) in
        let more = most_of es (λ k d within. are (suc k) d (omega (arith, within))) in
        omega (arith, here.ends, more)
