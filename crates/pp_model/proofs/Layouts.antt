-- Layouts that the test finds the same are equal.
use Rattle.std.proofs.Common.{◌≡◌, ℕ, Bool, true, false, List, [], ◌∷◌, refl, arith}
use Rattle.std.specs.Prelude.{◌&&◌, ◌==◌}
use Rattle.std.specs.Cmp.Lexicographic.{pointwise}
use Rattle.std.proofs.lemmas.Bool.Decides.{nat_tests}
use Rattle.pp_settings.specs.declared.extent.Extent.{Extent}
use Rattle.pp_settings.specs.Layout.{Geometry}
use Rattle.pp_cert.specs.Walk.{same_extent, same_layout}

and_both : (a b : Bool) → (a && b) ≡ true → (a ≡ true) × (b ≡ true)
and_both true b h = (refl, h)
and_both false b h = cc

same_number : (m n : ℕ) → (m == n) ≡ true → m ≡ n
same_number m n e = grind (arith, nat_tests)

extent_same : (d e : Extent) → same_extent d e ≡ true → d ≡ e
extent_same d e h =
    let p = and_both ((d.first == e.first) && (d.count == e.count)) (d.class == e.class) h in
    let q = and_both (d.first == e.first) (d.count == e.count) p.0 in
    let firsts = same_number d.first e.first q.0 in
    let counts = same_number d.count e.count q.1 in
    let classes = same_number d.class e.class p.1 in
    λ i. record { first = firsts i; count = counts i; class = classes i }

extents_same : (xs ys : List Extent) → pointwise same_extent xs ys ≡ true → xs ≡ ys
extents_same [] [] h = refl
extents_same [] (y ∷ ys) h = cc
extents_same (x ∷ xs) [] h = cc
extents_same (x ∷ xs) (y ∷ ys) h =
    let p = and_both (same_extent x y) (pointwise same_extent xs ys) h in
    let head = extent_same x y p.0 in
    let tail = extents_same xs ys p.1 in
    λ i. head i ∷ tail i

pub layouts_same : (g h : Geometry) → same_layout g h ≡ true → g ≡ h
layouts_same g h e =
    let p = and_both (g.frames == h.frames) (pointwise same_extent g.extents h.extents) e in
    let frames = same_number g.frames h.frames p.0 in
    let extents = extents_same g.extents h.extents p.1 in
    λ i. record { frames = frames i; extents = extents i }
