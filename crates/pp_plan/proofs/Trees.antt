-- The JSON library's values beside their trees.
use Rattle.std.proofs.Common.{◌≡◌, ℕ, ◌+◌, Bool, not, cond, arith, ◌&&◌, is_some, length, List, [], ◌∷◌, map, String}
use Rattle.std.proofs.Common.{Global}
use Rattle.std.proofs.Common.{string_bytes, refl, ap}
use Rattle.std.specs.List.{list_all}
use Rattle.serde_json.specs.declared.value.Value.{Value}
use Rattle.serde_json.specs.Find.{as_array}
use Rattle.serde_json.specs.View.{view, items_view}
use Rattle.std.specs.List.{position, position_or_len}
use Rattle.std.proofs.lemmas.List.{length-map}
use Rattle.pp_plan.specs.Shapes.{are_lists}
use Rattle.pp_plan.specs.Reading.{item_count}

pub are_lists_view : (vs : List Value) → list_all (λ v. is_some (as_array (view v))) vs ≡ are_lists (items_view vs)
are_lists_view [] = refl
are_lists_view (v ∷ vs) = ap (λ b. is_some (as_array (view v)) && b) (are_lists_view vs)

pub item_count_view : (vs : List Value) → item_count (items_view vs) ≡ length vs
item_count_view [] = refl
item_count_view (v ∷ vs) = omega (arith, item_count_view vs)

pub position_or_len-map : {A B : Type 0} (p : B → Bool) (f : A → B) (xs : List A)
    → position_or_len p (map f xs) ≡ position_or_len (λ x. p (f x)) xs
position_or_len-map p f [] = refl
position_or_len-map p f (x ∷ xs) = ap (λ n. cond (not (p (f x))) (1 + n) 0) (position_or_len-map p f xs)

-- the place of a name, found among the strings
pub place_map : (p : List ℕ → Bool) (names : List (String Global))
    → position (λ n. p (string_bytes n)) names ≡ position p (map string_bytes names)
place_map p names = rw (position_or_len-map p string_bytes names, length-map names string_bytes)
