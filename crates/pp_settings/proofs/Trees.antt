-- The library's values beside their trees.
use Rattle.std.proofs.Common.{◌≡◌, ℕ, ◌+◌, cond, not, Bool, ◌&&◌, is_some, length, arith, List, [], ◌∷◌, map}
use Rattle.std.proofs.Common.{Option, Some, None, option_map, String, BTreeMap, Global, string_bytes, nat_cmp, Bor}
use Rattle.std.proofs.Common.{codes, refl, ap, sym, ◌∙◌}
use Rattle.std.specs.List.{list_all, position, position_or_len}
use Rattle.std.specs.Map.{lookup, keys_of}
use Rattle.std.specs.Option.{ok_or}
use Rattle.std.specs.BTreeMap.{is_at, keys}
use Rattle.std.specs.Cmp.Lexicographic.{slice_cmp}
use Rattle.std.proofs.lemmas.List.{length-map}
use Rattle.toml.specs.declared.value.Value.{Value}
use Rattle.toml.specs.Data.{Data, get_member, as_table}
use Rattle.toml.specs.View.{view, members_view, table_view, items_view}
use Rattle.toml.proofs.Views.{table_get}
use Rattle.pp_settings.specs.declared.key.Spot.{Spot}
use Rattle.pp_settings.specs.declared.version.TextVersion.{TextVersion}
use Rattle.pp_settings.specs.declared.error.SettingsError.TheVariants.{Missing}
use Rattle.pp_settings.specs.Keys.{key_of}
use Rattle.pp_settings.specs.Versions.{is_two, is_second}
use Rattle.pp_text.specs.Steps.{Reads}
use Rattle.pp_settings.specs.Reading.{is_known, keys_known, value_at, are_tables, table_count}

known_in : (version : TextVersion) (region : Option ℕ) (es : List (String Global × Value))
    → list_all (λ k. is_known version region (string_bytes k)) (keys_of es)
    ≡ keys_known version region (members_view es)
known_in version region [] = refl
known_in version region (e ∷ es) =
    ap (λ b. is_known version region (string_bytes e.0) && b) (known_in version region es)

-- the keys of a table beside those of its tree
pub known_keys_of : (version : TextVersion) (region : Option ℕ) (m : BTreeMap (String Global) Value)
    → list_all (λ k. is_known version region (string_bytes k)) (keys m) ≡ keys_known version region (table_view m)
known_keys_of version region m = known_in version region m.entries

found_or_missing : (spot : Spot) (r : Option (Bor Value)) (d : Option Data) → option_map (λ v. view v.now) r ≡ d
    → Reads (λ v. view v.now) (ok_or r (Missing spot)) (ok_or d (Missing spot))
found_or_missing spot None d e = ap (λ o. ok_or o (Missing spot)) (sym e)
found_or_missing spot (Some v) d e = ap (λ o. ok_or o (Missing spot)) (sym e)

-- what a look-up at the spot's key finds
pub value_got : (spot : Spot) (r : Option (Bor Value)) (k : List ℕ) (m : BTreeMap (String Global) Value)
    → option_map (λ x. x.now) r ≡ lookup (is_at (λ x. slice_cmp nat_cmp k (string_bytes x))) m.entries
    → k ≡ key_of spot → Reads (λ v. view v.now) (ok_or r (Missing spot)) (value_at spot (table_view m))
value_got spot r k m got same =
    found_or_missing spot r _ (table_get r k m.entries got ∙ ap (λ x. get_member x (members_view m.entries)) same)

-- whether a look-up at the key `version` finds 2
pub two_got : (r : Option (Bor Value)) (k : List ℕ) (m : BTreeMap (String Global) Value)
    → option_map (λ x. x.now) r ≡ lookup (is_at (λ x. slice_cmp nat_cmp k (string_bytes x))) m.entries
    → k ≡ codes "version" → is_two (option_map (λ v. view v.now) r) ≡ is_second (table_view m)
two_got r k m got same =
    ap is_two (table_get r k m.entries got ∙ ap (λ x. get_member x (members_view m.entries)) same)

pub are_tables_view : (vs : List Value) → list_all (λ v. is_some (as_table (view v))) vs ≡ are_tables (items_view vs)
are_tables_view [] = refl
are_tables_view (v ∷ vs) = ap (λ b. is_some (as_table (view v)) && b) (are_tables_view vs)

pub table_count_view : (vs : List Value) → table_count (items_view vs) ≡ length vs
table_count_view [] = refl
table_count_view (v ∷ vs) = omega (arith, table_count_view vs)

position_or_len_map : {A B : Type 0} (p : B → Bool) (f : A → B) (xs : List A)
    → position_or_len p (map f xs) ≡ position_or_len (λ x. p (f x)) xs
position_or_len_map p f [] = refl
position_or_len_map p f (x ∷ xs) = ap (λ n. cond (not (p (f x))) (1 + n) 0) (position_or_len_map p f xs)

-- the first place that passes, through a map
pub position_map : {A B : Type 0} (p : B → Bool) (f : A → B) (xs : List A)
    → position p (map f xs) ≡ position (λ x. p (f x)) xs
position_map p f xs = rw (position_or_len_map p f xs, length-map xs f) refl
