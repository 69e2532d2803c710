-- The form of a statement in a text: of which kind it is, and the values of its keys.
use Rattle.std.specs.Prelude.{ℕ, List, [], ◌∷◌, Bool, true, ◌&&◌, is_some, filter, if◌then◌else◌}
use Rattle.std.specs.Prelude.{Option, Some, None, option_and_then, codes, Result, Ok}
use Rattle.std.specs.Option.{ok_or}
use Rattle.std.specs.Str.{bytes_eq}
use Rattle.serde_json.specs.Data.{Data, Items, no_items, item}
use Rattle.serde_json.specs.Find.{get, as_array, as_str, as_number, as_u64}
use Rattle.pp_text.specs.Steps.{◌>>=◌, must}
use Rattle.pp_text.specs.Objects.{has_only_keys}
use Rattle.pp_plan.specs.declared.mode.Mode.{Mode}
use Rattle.pp_plan.specs.declared.mode.Mode.TheVariants.{S, X}
use Rattle.pp_plan.specs.declared.kind.Kind.{Kind}
use Rattle.pp_plan.specs.declared.kind.Kind.TheVariants.{Fix, Unfix, Latch, Unlatch, Gather, Scatter, Loop, Choice}
use Rattle.pp_plan.specs.declared.error.PlanError.{PlanError}
use Rattle.pp_plan.specs.declared.error.PlanError.TheVariants.{NoSuchStatement, WrongField}
use Rattle.pp_plan.specs.Keys.{keys_of, first_key, is_kind_of}

abbrev pub kinds : List Kind
kinds = Fix ∷ Unfix ∷ Latch ∷ Unlatch ∷ Gather ∷ Scatter ∷ Loop ∷ Choice ∷ []

-- The version has this kind, and the value has its key.
abbrev pub has_kind : (version : ℕ) → Data → Kind → Bool
has_kind version d k = is_kind_of version k && is_some (get (first_key k) d)

-- The one of a list that has one.
abbrev pub only_one : List Kind → Option Kind
only_one (k ∷ []) = Some k
only_one _ = None

-- The statement's kind: of the first keys of the version's kinds the value has exactly one.
abbrev pub kind_of : (version : ℕ) → Data → Option Kind
kind_of version d = only_one (filter (has_kind version d) kinds)

-- ---- the values of the keys, in the statement with this number

unfoldable pub value_at : List ℕ → ℕ → Data → Result Data PlanError
value_at key n d = ok_or (get key d) (WrongField n)

unfoldable pub text_at : List ℕ → ℕ → Data → Result (List ℕ) PlanError
text_at key n d = value_at key n d >>= λ v. ok_or (as_str v) (WrongField n)

-- A whole number of 64 bits without a sign.
unfoldable pub number_at : List ℕ → ℕ → Data → Result ℕ PlanError
number_at key n d = value_at key n d >>= λ v. ok_or (option_and_then as_u64 (as_number v)) (WrongField n)

unfoldable pub list_at : List ℕ → ℕ → Data → Result Items PlanError
list_at key n d = value_at key n d >>= λ v. ok_or (as_array v) (WrongField n)

abbrev pub mode_named : List ℕ → Option Mode
mode_named text = if bytes_eq text (codes "S") then Some S else (if bytes_eq text (codes "X") then Some X else None)

unfoldable pub mode_at : List ℕ → ℕ → Data → Result Mode PlanError
mode_at key n d = text_at key n d >>= λ t. ok_or (mode_named t) (WrongField n)

-- Each item is a list.
abbrev pub are_lists : Items → Bool
are_lists no_items = true
are_lists (item d ds) = is_some (as_array d) && are_lists ds

-- ---- the form of a whole statement

pub data Shape : Type 0 where
  fix_shape : (slot region : List ℕ) → Shape
  unfix_shape : (slot : List ℕ) → Shape
  latch_shape : (slot : List ℕ) (mode : Mode) → Shape
  unlatch_shape : (slot : List ℕ) → Shape
  gather_shape : (slot region : List ℕ) → Shape
  scatter_shape : (slot : List ℕ) → Shape
  loop_shape : (count : ℕ) (body : Items) → Shape
  choice_shape : (branches : Items) → Shape

unfoldable pub shape_at : Kind → ℕ → Data → Result Shape PlanError
shape_at Fix n d = do
  slot ← text_at (codes "fix") n d
  region ← text_at (codes "region") n d
  Ok (fix_shape slot region)
shape_at Unfix n d = do
  slot ← text_at (codes "unfix") n d
  Ok (unfix_shape slot)
shape_at Latch n d = do
  slot ← text_at (codes "latch") n d
  mode ← mode_at (codes "mode") n d
  Ok (latch_shape slot mode)
shape_at Unlatch n d = do
  slot ← text_at (codes "unlatch") n d
  Ok (unlatch_shape slot)
shape_at Gather n d = do
  slot ← text_at (codes "gather") n d
  region ← text_at (codes "region") n d
  Ok (gather_shape slot region)
shape_at Scatter n d = do
  slot ← text_at (codes "scatter") n d
  Ok (scatter_shape slot)
shape_at Loop n d = do
  count ← number_at (codes "loop") n d
  body ← list_at (codes "body") n d
  Ok (loop_shape count body)
shape_at Choice n d = do
  branches ← list_at (codes "choice") n d
  lists ← must (are_lists branches) (WrongField n)
  Ok (choice_shape branches)

-- The form of the statement with this number: one of the version's kinds, with exactly its keys, each of its kind of
-- value.
unfoldable pub shape_of : (version : ℕ) → ℕ → Data → Result Shape PlanError
shape_of version n d = do
  kind ← ok_or (kind_of version d) (NoSuchStatement n)
  only ← must (has_only_keys (keys_of kind) d) (WrongField n)
  shape_at kind n d
