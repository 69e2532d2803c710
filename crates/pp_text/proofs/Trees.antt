-- The JSON library's values beside their trees.
use Rattle.std.proofs.Common.{◌≡◌, ℕ, ◌+◌, Bool, ◌&&◌, false, length, arith, List, [], ◌∷◌, Option, Some, None, String}
use Rattle.std.proofs.Common.{BTreeMap, Global, string_bytes, refl, ap, sym, ◌∙◌}
use Rattle.std.specs.List.{list_all}
use Rattle.std.specs.Map.{keys_of}
use Rattle.std.specs.BTreeMap.{keys}
use Rattle.std.specs.Option.{option_map_or}
use Rattle.serde_json.specs.declared.value.Value.{Value}
use Rattle.serde_json.specs.Data.{Data, Members}
use Rattle.serde_json.specs.Find.{as_object}
use Rattle.serde_json.specs.View.{view, members_view}
use Rattle.pp_text.specs.Objects.{is_one_of, keys_are, has_only_keys}

keys_are_view : (test : List ℕ → Bool) (es : List (String Global × Value))
    → list_all (λ k. test (string_bytes k)) (keys_of es) ≡ keys_are test (members_view es)
keys_are_view test [] = refl
keys_are_view test (e ∷ es) = ap (λ b. test (string_bytes e.0) && b) (keys_are_view test es)

-- A test of the keys of a map is that of its tree's.
pub keys_are_keys : (test : List ℕ → Bool) (m : BTreeMap (String Global) Value)
    → list_all (λ k. test (string_bytes k)) (keys m) ≡ keys_are test (members_view m.entries)
keys_are_keys test m = keys_are_view test m.entries

-- A test of the keys that `as_object` gave.
pub only_some : (known : List (List ℕ)) (d : Data) (m : BTreeMap (String Global) Value)
    → as_object d ≡ Some (members_view m.entries)
    → list_all (λ k. is_one_of known (string_bytes k)) (keys m) ≡ has_only_keys known d
only_some known d m e =
    keys_are_keys (is_one_of known) m
    ∙ ap (λ (o : Option Members). option_map_or (keys_are (is_one_of known)) o false) (sym e)

pub only_none : (known : List (List ℕ)) (d : Data) → as_object d ≡ None → has_only_keys known d ≡ false
only_none known d e = ap (λ (o : Option Members). option_map_or (keys_are (is_one_of known)) o false) e
