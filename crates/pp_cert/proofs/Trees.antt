-- The library's values beside their trees.
use Rattle.std.proofs.Common.{◌≡◌, ◌≢◌, ℕ, ◌<◌, List, [], ◌∷◌, length, Some, None, String, Global, refl, arith}
use Rattle.serde_json.specs.declared.value.Value.{Value}
use Rattle.serde_json.specs.Data.{Data}
use Rattle.serde_json.specs.Events.{items_len, members_len}
use Rattle.serde_json.specs.Read.{read}
use Rattle.serde_json.specs.View.{items_view, members_view}
use Rattle.serde_json.proofs.OnLiterals.{serde_json_on_literals}
use Rattle.serde_json.proofs.Views.{items_len-items_view, members_len-members_view}
use Rattle.pp_cert.specs.Reading.{as_two}

-- A list of another length than two has no two items.
pub as_two_other : (vs : List Value) → length vs ≢ 2 → as_two (items_view vs) ≡ None
as_two_other [] h = refl
as_two_other (a ∷ []) h = refl
as_two_other (a ∷ b ∷ []) h = absurd (h refl)
as_two_other (a ∷ b ∷ c ∷ vs) h = refl

pub items_length : (vs : List Value) → items_len (items_view vs) ≡ length vs
items_length vs = items_len-items_view vs

pub members_length : (es : List (String Global × Value)) → members_len (members_view es) ≡ length es
members_length es = members_len-members_view es

-- The empty text is no value.
no_text : read [] ≡ None
unfolding serde_json_on_literals
no_text = refl

pub some_text : (text : List ℕ) (d : Data) → read text ≡ Some d → 0 < length text
some_text [] d e = let none = no_text in absurd cc
some_text (x ∷ text) d e = omega arith
