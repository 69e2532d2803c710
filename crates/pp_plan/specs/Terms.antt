-- What a plan is: the version of its form, the layout it was read for, its slot names and its body.
use Rattle.std.specs.Prelude.{◌≡◌, ◌⊎◌, ◌<◌, ◌≤◌, ℕ, List, length, AllPairs, All, IsTrue, refl}
use Rattle.std.specs.Coded.{Coded, code_by, coded×, coded_ℕ, coded_list}
use Rattle.pp_settings.specs.declared.extent.Extent.{Extent}
use Rattle.pp_settings.specs.Layout.{Geometry, IsLayout}
use Rattle.pp_settings.specs.Limits.{most_slots}
use Rattle.pp_plan.specs.Tree.{Sequence}
use Rattle.pp_plan.specs.Coding.{coded_sequence}
use Rattle.pp_plan.specs.Names.{is_slot_name, comes_before}
use Rattle.pp_plan.specs.Rules.{IsUsed, IsUnmixed, HasNoBundle, IsBody}

-- A slot's number is the place of its name in the list of slot names, in which bundles and plain slots stand together.
pub record Terms : Type 0 where
  pub version : ℕ
  pub layout : Geometry
  pub slots : List (List ℕ)
  pub body : Sequence

-- What holds of every plan: it is of version 1 or 2, and has at most 32 slot names, in byte order, each of which is used,
-- and a body that keeps the rules. A slot is a bundle or a plain one and never both, and version 1 has no bundles.
pub record IsPlan (p : Terms) : Type 0 where
  pub version : (p.version ≡ 1) ⊎ (p.version ≡ 2)
  pub layout : IsLayout p.layout
  pub count : length p.slots ≤ most_slots
  pub names : All (λ n. IsTrue (is_slot_name n)) p.slots
  pub order : AllPairs (λ a b. IsTrue (comes_before a b)) p.slots
  pub used : (k : ℕ) → k < length p.slots → IsUsed p.body k
  pub unmixed : IsUnmixed p.body
  pub plain : p.version ≡ 1 → HasNoBundle p.body
  pub body : IsBody (length p.slots) (length p.layout.extents) p.body

abbrev coded_extent : Coded Extent
coded_extent =
    code_by (ℕ × (ℕ × ℕ)) (coded× coded_ℕ (coded× coded_ℕ coded_ℕ)) (λ e. (e.first, (e.count, e.class)))
    (λ p. record { first = p.0; count = p.1.0; class = p.1.1 }) (λ _. refl)

abbrev coded_geometry : Coded Geometry
coded_geometry =
    code_by (ℕ × List Extent) (coded× coded_ℕ (coded_list coded_extent)) (λ g. (g.frames, g.extents))
    (λ p. record { frames = p.0; extents = p.1 }) (λ _. refl)

-- Stored as the parts of its fields.
abbrev pub coded_terms : Coded Terms
coded_terms =
    code_by (ℕ × (Geometry × (List (List ℕ) × Sequence)))
    (coded× coded_ℕ (coded× coded_geometry (coded× (coded_list (coded_list coded_ℕ)) coded_sequence)))
    (λ p. (p.version, (p.layout, (p.slots, p.body))))
    (λ p. record { version = p.0; layout = p.1.0; slots = p.1.1.0; body = p.1.1.1 }) (λ _. refl)
