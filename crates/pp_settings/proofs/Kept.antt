-- What settings keep: names, and the layout in its places.
use Rattle.std.proofs.Common.{◌≡◌, ℕ, zero, suc, ◌<◌, ◌+◌, ◌-◌, List, [], ◌∷◌, length, map, drop, replicate}
use Rattle.std.proofs.Common.{get_or, slice_set, Bool, true, false, cond, nat_lt, IfSome, Some, None}
use Rattle.std.proofs.Common.{option_map, String, Global, string_bytes, refl, sym, ap, ◌∙◌, arith}
use Rattle.std.specs.Str.{bytes_eq}
use Rattle.std.specs.List.{slice_get, position_or_len}
use Rattle.std.proofs.lemmas.Bool.Decides.{nat_tests}
use Rattle.std.proofs.lemmas.List.{get_or-map, length-map, length-set, length-take-le, drop-set-lt}
use Rattle.std.proofs.Math.Seq.{drop-cons}
use Rattle.std.proofs.lemmas.List.Quantifiers.{position-Some}
use Rattle.std.proofs.lemmas.List.Elements.{All-map}
use Rattle.std.proofs.lemmas.Option.{slice_get-get_or}
use Rattle.std.proofs.lemmas.Slice.Eq.{bytes_eq-Decides}
use Rattle.pp_settings.specs.declared.extent.Extent.{Extent}
use Rattle.pp_settings.specs.declared.extents.Extents.TheInside.{Inside}
use Rattle.pp_settings.specs.Layout.{Geometry, IsExtent, IsLayout}
use Rattle.pp_settings.specs.Places.{unused, in_use, AreFilled}
use Rattle.pp_settings.specs.Settings.{NamedRegion, Configuration, AreRegions, IsConfiguration, named, geometry_of}
use Rattle.pp_settings.specs.Settings.{region_named, name_of}
use Rattle.pp_settings.proofs.Named.{kept_extents}
use Rattle.pp_text.proofs.Positions.{position_only}

-- ---- names

nameless : NamedRegion
nameless = record { name = []; extent = unused }

pub named_has : (c : Configuration) (name : List ℕ) (r : ℕ) → region_named c name ≡ Some r → name_of c r ≡ Some name
named_has c name r is =
    let (within, passes, _) = position-Some (λ (q : NamedRegion). bytes_eq q.name name) c.regions r nameless is in
    rw (
      slice_get-get_or c.regions r nameless within,
      (bytes_eq-Decides (get_or c.regions r nameless).name name).0 passes,
    ) refl

-- the element behind a look-up
looked_up : (rs : List NamedRegion) (i : ℕ) (name : List ℕ) → option_map (λ q. q.name) (slice_get rs i) ≡ Some name
    → (i < length rs) × ((get_or rs i nameless).name ≡ name)
looked_up [] i name is = absurd cc
looked_up (q ∷ rs) zero name is = (omega arith, cc)
looked_up (q ∷ rs) (suc i) name is = let (within, same) = looked_up rs i name is in (omega (arith, within), same)

pub named_only : (c : Configuration) (name : List ℕ) (r : ℕ) → AreRegions c.regions → name_of c r ≡ Some name
    → region_named c name ≡ Some r
named_only c name r are is =
    let (within, same) = looked_up c.regions r name is in
    position_only (λ (q : NamedRegion). bytes_eq q.name name) c.regions r nameless within
    ((bytes_eq-Decides _ name).1 same)
    (λ k below there. are.names k r nameless below within
    ((bytes_eq-Decides (get_or c.regions k nameless).name name).0 there ∙ sym same))

below : (n l : ℕ) (b : Bool) → nat_lt n l ≡ b → IfSome (cond b (Some n) None) (λ i. i < l)
below n l true e = grind (arith, nat_tests)
below n l false e = tt

pub named_below : (c : Configuration) (name : List ℕ) → IfSome (region_named c name) (λ r. r < length c.regions)
named_below c name =
    let first = position_or_len (λ (r : NamedRegion). bytes_eq r.name name) c.regions in
    below first (length c.regions) (nat_lt first (length c.regions)) refl

-- ---- the layout

extents_of : List NamedRegion → List Extent
extents_of rs = map (λ (r : NamedRegion). r.extent) rs

pub layout_is : (c : Configuration) → IsConfiguration c → IsLayout (geometry_of c)
layout_is c h =
    let extent_of = λ (r : NamedRegion). r.extent in
    let long : length (map extent_of c.regions) ≡ length c.regions = length-map c.regions extent_of in
    record {
      frames = h.frames;
      count = (omega (arith, long, h.count.0), omega (arith, long, h.count.1));
      extents = All-map IsExtent extent_of c.regions (λ k d within. (h.regions.each k d within).extent);
      apart = λ i j d a b.
          let within : j < length c.regions = omega (arith, long, b) in
          rw (
            get_or-map extent_of c.regions i nameless d (omega (arith, a, within)),
            get_or-map extent_of c.regions j nameless d within,
          ) (h.regions.apart i j nameless a within);
    }

-- the layout of what is kept
pub layout_kept : (ss : List (String Global)) (g : Geometry) (c : Configuration) → length ss ≡ length g.extents
    → c.frames ≡ g.frames → c.regions ≡ named (map string_bytes ss) g.extents → geometry_of c ≡ g
layout_kept ss g c long f r =
    ap (λ (n : ℕ). record { frames = n; extents = map (λ (q : NamedRegion). q.extent) c.regions }) f
    ∙ ap (λ (es : List Extent). record { frames = g.frames; extents = es })
    (ap (map (λ (q : NamedRegion). q.extent)) r ∙ kept_extents ss g.extents long)

-- ---- the places of extents

same_rest : {X : Type 0} (x y : X) (xs ys : List X) → (x ∷ xs) ≡ (y ∷ ys) → xs ≡ ys
same_rest x y xs ys e = cc

-- one place more is filled
pub filled_more : (l : Inside) (e : Extent) (i : ℕ) → AreFilled l → length (in_use l) < 64 → i ≡ l.used
    → AreFilled (record { used = l.used + 1; places = slice_set l.places i e })
filled_more l e i h room is =
    let long : length (in_use l) ≡ l.used = length-take-le l.used l.places (omega (arith, h.used, h.long)) in
    let next : 64 - l.used ≡ suc (64 - (l.used + 1)) = omega (arith, long, room) in
    let same : drop (l.used + 1) (slice_set l.places i e) ≡ drop (l.used + 1) l.places =
    drop-set-lt (l.used + 1) l.places i e (omega (arith, is)) in
    let here : drop l.used l.places ≡ get_or l.places l.used unused ∷ drop (suc l.used) l.places =
    drop-cons l.places l.used unused (omega (arith, long, room, h.long)) in
    let left : drop l.used l.places ≡ unused ∷ replicate (64 - (l.used + 1)) unused =
    h.rest ∙ ap (λ (n : ℕ). replicate n unused) next in
    let after : drop (suc l.used) l.places ≡ replicate (64 - (l.used + 1)) unused =
    same_rest _ _ _ _ (sym here ∙ left) in
    let up : l.used + 1 ≡ suc l.used = omega arith in
    record {
      long = length-set l.places i e ∙ h.long;
      used = omega (arith, long, room);
      rest = same ∙ ap (λ (n : ℕ). drop n l.places) up ∙ after;
    }
