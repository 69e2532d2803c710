-- How extents lie in their places: those in use first, and then the places that are left unused.
use Rattle.std.specs.Prelude.{◌≡◌, ◌-◌, ◌≤◌, ℕ, List, ◌++◌, length, take, drop, replicate}
use Rattle.std.proofs.Common.{sym, ap, ◌∙◌, arith}
use Rattle.std.proofs.lemmas.List.{length-take-le, take-append-drop}
use Rattle.pp_settings.specs.Limits.{most_regions}
use Rattle.pp_settings.specs.declared.extent.Extent.{Extent}
use Rattle.pp_settings.specs.declared.extents.Extents.TheInside.{Inside}

abbrev pub unused : Extent
unused = record { first = 0; count = 0; class = 0 }

-- The extents of these places.
abbrev pub in_use : Inside → List Extent
in_use l = take l.used l.places

-- The places of these extents.
abbrev pub places_of : List Extent → Inside
places_of es = record { used = length es; places = es ++ replicate (most_regions - length es) unused }

-- There are 64 places, and the others are unused.
pub record AreFilled (l : Inside) : Type 0 where
  pub long : length l.places ≡ most_regions
  pub used : l.used ≤ most_regions
  pub rest : drop l.used l.places ≡ replicate (most_regions - l.used) unused

pub places_of-in_use : (l : Inside) → AreFilled l → places_of (in_use l) ≡ l
places_of-in_use l h =
    let long : length (take l.used l.places) ≡ l.used =
    length-take-le l.used l.places (omega (arith, h.used, h.long)) in
    let rest : replicate (most_regions - length (take l.used l.places)) unused ≡ drop l.used l.places =
    ap (λ (n : ℕ). replicate (most_regions - n) unused) long ∙ sym h.rest in
    let placed : take l.used l.places ++ replicate (most_regions - length (take l.used l.places)) unused ≡ l.places =
    ap (λ (xs : List Extent). take l.used l.places ++ xs) rest ∙ take-append-drop l.used l.places in
    λ i. record { used = long i; places = placed i }
