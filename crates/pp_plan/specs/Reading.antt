-- What a text's tree gives: the plan, or the first refusal in the fixed order.
use Rattle.std.specs.Prelude.{ℕ, zero, suc, ◌+◌, List, [], ◌∷◌, ◌++◌, length, Bool, false, not, ◌&&◌, ◌==◌, nat_le}
use Rattle.std.specs.Prelude.{nat_lt, true, ◌||◌, if◌then◌else◌, replicate, slice_index_or, slice_set}
use Rattle.std.specs.Bool.{beq}
use Rattle.std.specs.Prelude.{Option, Some, None, option_and_then, unwrap_or, codes, Result, Ok, Err}
use Rattle.std.specs.Option.{ok_or}
use Rattle.serde_json.specs.Data.{Data, Items, no_items, item}
use Rattle.serde_json.specs.Find.{as_array, as_number, as_u64}
use Rattle.serde_json.specs.Read.{read}
use Rattle.pp_text.specs.Steps.{◌>>=◌, must}
use Rattle.pp_text.specs.Objects.{has_only_keys}
use Rattle.pp_settings.specs.Settings.{Configuration, region_named, geometry_of}
use Rattle.pp_plan.specs.declared.error.PlanError.{PlanError}
use Rattle.pp_plan.specs.declared.error.PlanError.TheVariants.{NotJson, WrongField, BadName, NoSuchRegion, Range}
use Rattle.pp_plan.specs.declared.error.PlanError.TheVariants.{TooDeep, TooMany, MixedSlot}
use Rattle.pp_plan.specs.Tree.{fix, unfix, latch, unlatch, gather, scatter, Statement, step, loop, choice}
use Rattle.pp_plan.specs.Tree.{Sequence, skip, andthen}
use Rattle.pp_plan.specs.Tree.{Alternatives, none, either}
use Rattle.pp_plan.specs.Names.{is_slot_name}
use Rattle.pp_plan.specs.Progress.{Progress}
use Rattle.pp_plan.specs.Terms.{Terms}
use Rattle.pp_plan.specs.Keys.{top_keys}
use Rattle.pp_settings.specs.Limits.{most_statements, most_depth, most_slots}
use Rattle.pp_plan.specs.Limits.{most_turns, most_branches}
use Rattle.pp_plan.specs.Shapes.{Shape, fix_shape, unfix_shape, latch_shape, unlatch_shape, gather_shape}
use Rattle.pp_plan.specs.Shapes.{scatter_shape, loop_shape, choice_shape}
use Rattle.pp_plan.specs.Shapes.{shape_of, value_at, list_at}
use Rattle.pp_plan.specs.Numbering.{in_byte_order, position_of, place_in, numbered}

-- ---- statements and slot names are counted as they come

abbrev pub start : Progress
start = record { names = []; bundles = replicate most_slots false; count = 0 }

-- One statement more, of 4,096 at most.
unfoldable pub begun : Progress → Result Progress PlanError
begun p =
    must (nat_lt p.count most_statements) (TooMany p.count) >>= λ room. Ok
    (record { names = p.names; bundles = p.bundles; count = p.count + 1 })

-- One name more, and whether it is a bundle's.
abbrev pub with_name : Progress → (bundle : Bool) → List ℕ → Progress
with_name p bundle name = record {
  names = p.names ++ name ∷ [];
  bundles = slice_set p.bundles (length p.names) bundle;
  count = p.count;
}

-- A slot name that the statement uses, as a bundle or as a plain slot: its number by first use, and with it the names so
-- far, 32 at most. It is used as it was first used.
abbrev pub used_at : Option ℕ → ℕ → (bundle : Bool) → Progress → List ℕ → Result (Progress × ℕ) PlanError
used_at (Some k) n bundle p name =
    must (beq (slice_index_or p.bundles k false) bundle) (MixedSlot n) >>= λ alike. Ok (p, k)
used_at None n bundle p name =
    must (nat_lt (length p.names) most_slots) (TooMany n) >>= λ room. Ok (with_name p bundle name, length p.names)

unfoldable pub used : ℕ → (bundle : Bool) → Progress → List ℕ → Result (Progress × ℕ) PlanError
used n bundle p name = used_at (position_of p.names name) n bundle p name

-- The same of a name that has to be in form.
unfoldable pub slot_of : ℕ → (bundle : Bool) → Progress → List ℕ → Result (Progress × ℕ) PlanError
slot_of n bundle p name = must (is_slot_name name) (BadName n) >>= λ form. used n bundle p name

-- ---- statements, one after another

-- The body with one statement more, and the branches with one more.
abbrev pub followed_by : Sequence → Statement → Sequence
followed_by skip s = andthen s skip
followed_by (andthen r b) s = andthen r (followed_by b s)

abbrev pub with_branch : Alternatives → Sequence → Alternatives
with_branch none b = either b none
with_branch (either a bs) b = either a (with_branch bs b)

-- The statements of the items behind the earlier ones, each as the reader reads it.
abbrev pub sequence_from : (Progress → Data → Result (Progress × Statement) PlanError) → Sequence → Progress → Items
    → Result (Progress × Sequence) PlanError
sequence_from read_one earlier p no_items = Ok (p, earlier)
sequence_from read_one earlier p (item d ds) =
    read_one p d >>= λ r. sequence_from read_one (followed_by earlier r.1) r.0 ds

-- The items of a list, none of another value.
abbrev pub items_in : Data → Items
items_in d = unwrap_or (as_array d) no_items

-- The branches of the lists behind the earlier ones.
abbrev pub alternatives_from : (Progress → Data → Result (Progress × Statement) PlanError) → Alternatives → Progress
    → Items → Result (Progress × Alternatives) PlanError
alternatives_from read_one earlier p no_items = Ok (p, earlier)
alternatives_from read_one earlier p (item d ds) =
    sequence_from read_one skip p (items_in d) >>= λ r. alternatives_from read_one (with_branch earlier r.1) r.0 ds

-- ---- one statement

-- How many items.
abbrev pub item_count : Items → ℕ
item_count no_items = 0
item_count (item d ds) = item_count ds + 1

-- The slot and the region of a fix or a gather: first the form of the slot's name, then the region, and then the slot.
unfoldable pub fix_by : (List ℕ → Option ℕ) → ℕ → (bundle : Bool) → Progress → (slot region : List ℕ)
    → Result (Progress × (ℕ × ℕ)) PlanError
fix_by region n bundle p slot name = do
  form ← must (is_slot_name slot) (BadName n)
  i ← ok_or (region name) (NoSuchRegion n)
  u ← used n bundle p slot
  Ok (u.0, (u.1, i))

-- The statement of this form and number; `read_one` reads the statements inside it.
unfoldable pub statement_by : (List ℕ → Option ℕ) → (Progress → Data → Result (Progress × Statement) PlanError) → ℕ
    → Progress → Shape → Result (Progress × Statement) PlanError
statement_by region read_one n p (fix_shape slot name) = do
  u ← fix_by region n false p slot name
  Ok (u.0, step (fix u.1.0 u.1.1))
statement_by region read_one n p (unfix_shape slot) = do
  u ← slot_of n false p slot
  Ok (u.0, step (unfix u.1))
statement_by region read_one n p (latch_shape slot mode) = do
  u ← slot_of n false p slot
  Ok (u.0, step (latch u.1 mode))
statement_by region read_one n p (unlatch_shape slot) = do
  u ← slot_of n false p slot
  Ok (u.0, step (unlatch u.1))
statement_by region read_one n p (gather_shape slot name) = do
  u ← fix_by region n true p slot name
  Ok (u.0, step (gather u.1.0 u.1.1))
statement_by region read_one n p (scatter_shape slot) = do
  u ← slot_of n true p slot
  Ok (u.0, step (scatter u.1))
statement_by region read_one n p (loop_shape count body) = do
  range ← must ((nat_le 1 count && nat_le count most_turns) && not (item_count body == 0)) (Range n)
  b ← sequence_from read_one skip p body
  Ok (b.0, loop count b.1)
statement_by region read_one n p (choice_shape branches) = do
  range ← must (nat_le 1 (item_count branches) && nat_le (item_count branches) most_branches) (Range n)
  bs ← alternatives_from read_one none p branches
  Ok (bs.0, choice bs.1)

-- The statement of the value in a plan of this version, where so many levels of statements may stand from here on.
abbrev pub statement_at : (version : ℕ) → (List ℕ → Option ℕ) → ℕ → Progress → Data
    → Result (Progress × Statement) PlanError
statement_at version region zero p d = begun p >>= λ q. Err (TooDeep p.count)
statement_at version region (suc levels) p d =
    begun p >>= λ q. shape_of version p.count d >>= λ shape. statement_by region (statement_at version region levels)
    p.count q shape

-- ---- the whole text

-- The versions are 1 and 2.
abbrev pub known_version : ℕ → Option ℕ
known_version n = if n == 1 || n == 2 then Some n else None

-- The version that the value is.
abbrev pub as_version : Data → Option ℕ
as_version d = option_and_then known_version (option_and_then as_u64 (as_number d))

-- The version and the statements of an object with exactly a `body`, a list, and a `version`, the number 1 or 2.
unfoldable pub statements_at : Data → Result (ℕ × Items) PlanError
statements_at d = do
  only ← must (has_only_keys top_keys d) (WrongField 0)
  items ← list_at (codes "body") 0 d
  v ← value_at (codes "version") 0 d
  version ← ok_or (as_version v) (Range 0)
  Ok (version, items)

-- The plan of this version of what was read: its slots numbered by the byte order of their names.
abbrev pub plan_of : Configuration → (version : ℕ) → Progress × Sequence → Terms
plan_of settings version r =
    let slots = in_byte_order r.0.names in
    record {
      version = version;
      layout = geometry_of settings;
      slots = slots;
      body = numbered (λ k. place_in slots r.0.names k) r.1;
    }

-- Reading the text under the settings; statements stand at most 16 deep.
unfoldable pub reading : Configuration → List ℕ → Result Terms PlanError
reading settings text = do
  d ← ok_or (read text) NotJson
  top ← statements_at d
  r ← sequence_from (statement_at top.0 (region_named settings) most_depth) skip start top.1
  Ok (plan_of settings top.0 r)
