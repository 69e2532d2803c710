-- Two asks that name the same actions are one, and so a cursor's ask is the computed one.
use Rattle.std.proofs.Common.{◌≡◌, ℕ, ◌≤◌, ◌<◌, Bool, true, false, List, length, get_or, refl, sym, ap, subst, inl, inr}
use Rattle.std.proofs.Common.{arith}
use Rattle.std.specs.Prelude.{◌↔◌, nat_lt}
use Rattle.std.proofs.lemmas.Bool.Decides.{nat_tests}
use Rattle.std.proofs.lemmas.Option.{slice_get_within, get_or_from_slice_get, slice_get-get_or}
use Rattle.pp_settings.specs.declared.extent.Extent.{Extent}
use Rattle.pp_settings.specs.Layout.{Geometry, has_page, HasPage, IsApart, IsExtent, IsLayout}
use Rattle.pp_plan.specs.declared.mode.Mode.{Mode}
use Rattle.pp_plan.specs.declared.action.Action.{Action}
use Rattle.pp_plan.specs.declared.action.Action.TheVariants as action
use Rattle.pp_plan.specs.declared.action.Ask.{Ask}
use Rattle.pp_plan.specs.declared.action.Ask.TheVariants.{Fix, Unfix, Latch, Unlatch, Gather, Scatter, Choose, End}
use Rattle.pp_plan.specs.Terms.{Terms, IsPlan}
use Rattle.pp_plan.specs.PlanTraces.{PlanAsks}
use Rattle.pp_cursor.specs.Cursor.{NamesAction, IsAskOf}
use Rattle.pp_cursor.specs.Asked.{asked}
use Rattle.pp_cursor.proofs.Asking.{asks_named, asked_within}

-- ---- regions

first_page : (x : Extent) → IsExtent x → has_page x.first x ≡ true
first_page x h = let some = h.some in grind (arith, nat_tests)

region_page : (g : Geometry) (r : ℕ) → IsLayout g → r < length g.extents → (page : ℕ) × HasPage g r page
region_page g r l lt =
    let none : Extent = record { first = 0; count = 0; class = 0 } in
    let x = get_or g.extents r none in
    (x.first, (x, slice_get-get_or g.extents r none lt, first_page x (l.extents r none lt)))

apart_no : (x y : Extent) (page : ℕ) → IsApart x y → has_page page x ≡ true → has_page page y ≡ true → ⊥
apart_no x y page a h k = elim a [ inl l ↦ grind (arith, nat_tests) | inr r ↦ grind (arith, nat_tests) ]

no_two : (g : Geometry) (r q page : ℕ) → IsLayout g → HasPage g r page → HasPage g q page → r < q → ⊥
no_two g r q page l h k lt =
    let x : get_or g.extents r h.0 ≡ h.0 = get_or_from_slice_get g.extents r h.0 h.0 h.1 in
    let y : get_or g.extents q h.0 ≡ k.0 = get_or_from_slice_get g.extents q k.0 h.0 k.1 in
    let apart : IsApart h.0 k.0 =
    subst (λ e. IsApart h.0 e) y (subst (λ e. IsApart e (get_or g.extents q h.0)) x
    (l.apart r q h.0 lt (slice_get_within g.extents q k.0 k.1))) in
    apart_no h.0 k.0 page apart h.2 k.2

one_region : (g : Geometry) (r q page : ℕ) → IsLayout g → HasPage g r page → HasPage g q page → r ≡ q
one_region g r q page l h k = go (nat_lt r q) (nat_lt q r) refl refl
  where
    go : (a b : Bool) → nat_lt r q ≡ a → nat_lt q r ≡ b → r ≡ q
    go true b e f = absurd (no_two g r q page l h k (grind (arith, nat_tests)))
    go false true e f = absurd (no_two g q r page l k h (grind (arith, nat_tests)))
    go false false e f = grind (arith, nat_tests)

-- ---- an ask that names an action

fix_is : (g : Geometry) (s r page : ℕ) (y : Ask) → IsLayout g → HasPage g r page → NamesAction g y (action.Fix s page)
    → Fix s r ≡ y
fix_is g s r page (Fix t q) l h n = let same : t ≡ s = n.0 in let other = one_region g r q page l h n.1 in cc
fix_is g s r page (Unfix t) l h n = absurd n
fix_is g s r page (Latch t m) l h n = absurd n
fix_is g s r page (Unlatch t) l h n = absurd n
fix_is g s r page (Gather t q) l h n = absurd n
fix_is g s r page (Scatter t) l h n = absurd n
fix_is g s r page (Choose m) l h n = absurd n
fix_is g s r page End l h n = absurd n

unfix_is : (g : Geometry) (s : ℕ) (y : Ask) → NamesAction g y (action.Unfix s) → Unfix s ≡ y
unfix_is g s (Unfix t) n = ap Unfix (sym n)
unfix_is g s (Fix t q) n = absurd n
unfix_is g s (Latch t m) n = absurd n
unfix_is g s (Unlatch t) n = absurd n
unfix_is g s (Gather t q) n = absurd n
unfix_is g s (Scatter t) n = absurd n
unfix_is g s (Choose m) n = absurd n
unfix_is g s End n = absurd n

latch_is : (g : Geometry) (s : ℕ) (m : Mode) (y : Ask) → NamesAction g y (action.Latch s m) → Latch s m ≡ y
latch_is g s m (Latch t k) n = let same : t ≡ s = n.0 in let mode : k ≡ m = n.1 in cc
latch_is g s m (Fix t q) n = absurd n
latch_is g s m (Unfix t) n = absurd n
latch_is g s m (Unlatch t) n = absurd n
latch_is g s m (Gather t q) n = absurd n
latch_is g s m (Scatter t) n = absurd n
latch_is g s m (Choose k) n = absurd n
latch_is g s m End n = absurd n

unlatch_is : (g : Geometry) (s : ℕ) (y : Ask) → NamesAction g y (action.Unlatch s) → Unlatch s ≡ y
unlatch_is g s (Unlatch t) n = ap Unlatch (sym n)
unlatch_is g s (Fix t q) n = absurd n
unlatch_is g s (Unfix t) n = absurd n
unlatch_is g s (Latch t m) n = absurd n
unlatch_is g s (Gather t q) n = absurd n
unlatch_is g s (Scatter t) n = absurd n
unlatch_is g s (Choose m) n = absurd n
unlatch_is g s End n = absurd n

gather_is : (g : Geometry) (s r page : ℕ) (y : Ask) → IsLayout g → HasPage g r page
    → NamesAction g y (action.Gather s page) → Gather s r ≡ y
gather_is g s r page (Gather t q) l h n =
    let same : t ≡ s = n.0 in let other = one_region g r q page l h n.1 in cc
gather_is g s r page (Fix t q) l h n = absurd n
gather_is g s r page (Unfix t) l h n = absurd n
gather_is g s r page (Latch t m) l h n = absurd n
gather_is g s r page (Unlatch t) l h n = absurd n
gather_is g s r page (Scatter t) l h n = absurd n
gather_is g s r page (Choose m) l h n = absurd n
gather_is g s r page End l h n = absurd n

scatter_is : (g : Geometry) (s : ℕ) (y : Ask) → NamesAction g y (action.Scatter s) → Scatter s ≡ y
scatter_is g s (Scatter t) n = ap Scatter (sym n)
scatter_is g s (Fix t q) n = absurd n
scatter_is g s (Unfix t) n = absurd n
scatter_is g s (Latch t m) n = absurd n
scatter_is g s (Unlatch t) n = absurd n
scatter_is g s (Gather t q) n = absurd n
scatter_is g s (Choose m) n = absurd n
scatter_is g s End n = absurd n

choose_is : (g : Geometry) (k : ℕ) (y : Ask) → ((i : ℕ) → i < k → NamesAction g y (action.Choose i))
    → ((i : ℕ) → NamesAction g y (action.Choose i) → i < k) → 1 ≤ k → Choose k ≡ y
choose_is g k (Choose m) to from some = go (nat_lt k m) (nat_lt m k) refl refl
  where
    go : (a b : Bool) → nat_lt k m ≡ a → nat_lt m k ≡ b → Choose k ≡ Choose m
    go true b e f = let lt : k < m = grind (arith, nat_tests) in let no_way : k < k = from k lt in absurd (omega arith)
    go false true e f = let lt : m < k = grind (arith, nat_tests) in let no_way : m < m = to m lt in
        absurd (omega arith)
    go false false e f = ap Choose (grind (arith, nat_tests))
choose_is g k (Fix t q) to from some = absurd (to 0 (omega (arith, some)))
choose_is g k (Unfix t) to from some = absurd (to 0 (omega (arith, some)))
choose_is g k (Latch t m) to from some = absurd (to 0 (omega (arith, some)))
choose_is g k (Unlatch t) to from some = absurd (to 0 (omega (arith, some)))
choose_is g k (Gather t q) to from some = absurd (to 0 (omega (arith, some)))
choose_is g k (Scatter t) to from some = absurd (to 0 (omega (arith, some)))
choose_is g k End to from some = absurd (to 0 (omega (arith, some)))

end_is : (g : Geometry) (slots : ℕ) (y : Ask) → IsLayout g → IsAskOf slots (length g.extents) y
    → ((a : Action) → NamesAction g y a → ⊥) → End ≡ y
end_is g slots (Fix s r) l k none = let p = region_page g r l k.1 in absurd (none (action.Fix s p.0) (refl, p.1))
end_is g slots (Unfix s) l k none = absurd (none (action.Unfix s) refl)
end_is g slots (Latch s m) l k none = absurd (none (action.Latch s m) (refl, refl))
end_is g slots (Unlatch s) l k none = absurd (none (action.Unlatch s) refl)
end_is g slots (Gather s r) l k none = let p = region_page g r l k.1 in absurd (none (action.Gather s p.0) (refl, p.1))
end_is g slots (Scatter s) l k none = absurd (none (action.Scatter s) refl)
end_is g slots (Choose m) l k none = absurd (none (action.Choose 0) (omega (arith, k.0)))
end_is g slots End l k none = refl

pub one_ask : (g : Geometry) (slots : ℕ) (x y : Ask) → IsLayout g → IsAskOf slots (length g.extents) x
    → IsAskOf slots (length g.extents) y → ((a : Action) → NamesAction g x a → NamesAction g y a)
    → ((a : Action) → NamesAction g y a → NamesAction g x a) → x ≡ y
one_ask g slots (Fix s r) y l h k to from = let p = region_page g r l h.1 in
    fix_is g s r p.0 y l p.1 (to (action.Fix s p.0) (refl, p.1))
one_ask g slots (Unfix s) y l h k to from = unfix_is g s y (to (action.Unfix s) refl)
one_ask g slots (Latch s m) y l h k to from = latch_is g s m y (to (action.Latch s m) (refl, refl))
one_ask g slots (Unlatch s) y l h k to from = unlatch_is g s y (to (action.Unlatch s) refl)
one_ask g slots (Gather s r) y l h k to from = let p = region_page g r l h.1 in
    gather_is g s r p.0 y l p.1 (to (action.Gather s p.0) (refl, p.1))
one_ask g slots (Scatter s) y l h k to from = scatter_is g s y (to (action.Scatter s) refl)
one_ask g slots (Choose n) y l h k to from =
    choose_is g n y (λ i lt. to (action.Choose i) lt) (λ i m. from (action.Choose i) m) h.0
one_ask g slots End y l h k to from = end_is g slots y l k from

-- What a cursor's ask promises makes it the computed ask.
pub ask_is : (p : Terms) (t : List Action) (x : Ask) → IsPlan p → IsAskOf (length p.slots) (length p.layout.extents) x
    → ((a : Action) → PlanAsks p t a ↔ NamesAction p.layout x a) → x ≡ asked p t
ask_is p t x h within named =
    one_ask p.layout (length p.slots) x (asked p t) h.layout within (asked_within p t h)
    (λ a n. (asks_named p t a h).0 ((named a).1 n)) (λ a n. (named a).0 ((asks_named p t a h).1 n))
