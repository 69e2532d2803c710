-- Names and extents side by side.
use Rattle.std.proofs.Common.{◌≡◌, ℕ, ◌<◌, List, [], ◌∷◌, ◌++◌, length, map, get_or, Bool, Some, option_map, String}
use Rattle.std.proofs.Common.{Global, string_bytes, refl, sym, ap, ◌∙◌, arith}
use Rattle.std.specs.List.{list_any, position, slice_get}
use Rattle.std.proofs.lemmas.List.{length-map, map-append}
use Rattle.std.proofs.lemmas.Option.{slice_get-map, slice_get-get_or}
use Rattle.pp_text.proofs.Keys.{list_any_map}
use Rattle.pp_settings.specs.declared.extent.Extent.{Extent}
use Rattle.pp_settings.specs.Settings.{NamedRegion, named}
use Rattle.pp_settings.proofs.Trees.{position_map}

named_names : (ns : List (List ℕ)) (es : List Extent) → length ns ≡ length es
    → map (λ (r : NamedRegion). r.name) (named ns es) ≡ ns
named_names [] es e = refl
named_names (n ∷ ns) [] e = absurd (omega (arith, e))
named_names (n ∷ ns) (x ∷ es) e = ap (λ (ms : List (List ℕ)). n ∷ ms) (named_names ns es (omega (arith, e)))

named_extents : (ns : List (List ℕ)) (es : List Extent) → length ns ≡ length es
    → map (λ (r : NamedRegion). r.extent) (named ns es) ≡ es
named_extents [] [] e = refl
named_extents [] (x ∷ es) e = absurd (omega (arith, e))
named_extents (n ∷ ns) [] e = absurd (omega (arith, e))
named_extents (n ∷ ns) (x ∷ es) e = ap (λ (ds : List Extent). x ∷ ds) (named_extents ns es (omega (arith, e)))

-- one name more, and one extent
named_more : (ns : List (List ℕ)) (es : List Extent) (n : List ℕ) (x : Extent) → length ns ≡ length es
    → named (ns ++ n ∷ []) (es ++ x ∷ []) ≡ named ns es ++ record { name = n; extent = x } ∷ []
named_more [] [] n x e = refl
named_more [] (y ∷ es) n x e = absurd (omega (arith, e))
named_more (m ∷ ns) [] n x e = absurd (omega (arith, e))
named_more (m ∷ ns) (y ∷ es) n x e =
    ap (λ (rs : List NamedRegion). record { name = m; extent = y } ∷ rs) (named_more ns es n x (omega (arith, e)))

-- ---- names as they are kept

kept_long : (ss : List (String Global)) (es : List Extent) → length ss ≡ length es
    → length (map string_bytes ss) ≡ length es
kept_long ss es e = length-map ss string_bytes ∙ e

pub kept_names : (ss : List (String Global)) (es : List Extent) → length ss ≡ length es
    → map (λ (r : NamedRegion). r.name) (named (map string_bytes ss) es) ≡ map string_bytes ss
kept_names ss es e = named_names (map string_bytes ss) es (kept_long ss es e)

pub kept_extents : (ss : List (String Global)) (es : List Extent) → length ss ≡ length es
    → map (λ (r : NamedRegion). r.extent) (named (map string_bytes ss) es) ≡ es
kept_extents ss es e = named_extents (map string_bytes ss) es (kept_long ss es e)

pub kept_length : (ss : List (String Global)) (es : List Extent) → length ss ≡ length es
    → length (named (map string_bytes ss) es) ≡ length es
kept_length ss es e =
    sym (length-map (named (map string_bytes ss) es) (λ (r : NamedRegion). r.extent))
    ∙ ap (λ (ds : List Extent). length ds) (kept_extents ss es e)

-- one more
pub kept_more : (ss : List (String Global)) (es : List Extent) (s : String Global) (x : Extent) → length ss ≡ length es
    → named (map string_bytes (ss ++ s ∷ [])) (es ++ x ∷ [])
    ≡ named (map string_bytes ss) es ++ record { name = string_bytes s; extent = x } ∷ []
kept_more ss es s x e =
    ap (λ (ns : List (List ℕ)). named ns (es ++ x ∷ [])) (map-append string_bytes ss (s ∷ []))
    ∙ named_more (map string_bytes ss) es (string_bytes s) x (kept_long ss es e)

-- a test of each name, and of each extent
pub any_name : (p : List ℕ → Bool) (ss : List (String Global)) (es : List Extent) → length ss ≡ length es
    → list_any (λ s. p (string_bytes s)) ss ≡ list_any (λ (r : NamedRegion). p r.name) (named (map string_bytes ss) es)
any_name p ss es e =
    sym (list_any_map p string_bytes ss)
    ∙ ap (list_any p) (sym (kept_names ss es e))
    ∙ list_any_map p (λ (r : NamedRegion). r.name) (named (map string_bytes ss) es)

pub any_extent : (p : Extent → Bool) (ss : List (String Global)) (es : List Extent) → length ss ≡ length es
    → list_any p es ≡ list_any (λ (r : NamedRegion). p r.extent) (named (map string_bytes ss) es)
any_extent p ss es e =
    ap (list_any p) (sym (kept_extents ss es e))
    ∙ list_any_map p (λ (r : NamedRegion). r.extent) (named (map string_bytes ss) es)

-- the place of a name
pub position_name : (p : List ℕ → Bool) (ss : List (String Global)) (es : List Extent) → length ss ≡ length es
    → position (λ s. p (string_bytes s)) ss ≡ position (λ (r : NamedRegion). p r.name) (named (map string_bytes ss) es)
position_name p ss es e =
    sym (position_map p string_bytes ss)
    ∙ ap (position p) (sym (kept_names ss es e))
    ∙ position_map p (λ (r : NamedRegion). r.name) (named (map string_bytes ss) es)

-- the name at a place
pub name_at_place : (ss : List (String Global)) (es : List Extent) (i : ℕ) (d : String Global) → length ss ≡ length es
    → i < length ss
    → option_map (λ (r : NamedRegion). r.name) (slice_get (named (map string_bytes ss) es) i)
    ≡ Some (string_bytes (get_or ss i d))
name_at_place ss es i d e within =
    sym (slice_get-map (λ (r : NamedRegion). r.name) (named (map string_bytes ss) es) i)
    ∙ ap (λ (ns : List (List ℕ)). slice_get ns i) (kept_names ss es e)
    ∙ slice_get-map string_bytes ss i
    ∙ ap (option_map string_bytes) (slice_get-get_or ss i d within)
