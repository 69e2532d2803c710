-- The faults of a document, each said by itself, and the order in which they are told: the refusal is the first.
use Rattle.std.specs.Prelude.{◌≡◌, ◌≢◌, ◌⊎◌, ℕ, zero, suc, ◌+◌, ◌≤◌, ◌<◌, List, [], ◌∷◌, ◌++◌, length, map, flat_map}
use Rattle.std.specs.Prelude.{option_and_then, unwrap_or}
use Rattle.std.specs.Prelude.{slice_get, All, AllPairs, IsTrue, Option, None, Some, codes, true}
use Rattle.std.specs.Option.{option_map_or}
use Rattle.serde_json.specs.Data.{Data, number, unsigned, string, array, Items, no_items}
use Rattle.serde_json.specs.Find.{get, as_array, as_number, as_u64}
use Rattle.pp_text.specs.First.{IsFirst}
use Rattle.pp_text.specs.Objects.{HasOnly, Holds, elements}
use Rattle.pp_settings.specs.Settings.{Configuration, region_named}
use Rattle.pp_plan.specs.declared.kind.Kind.{Kind}
use Rattle.pp_plan.specs.declared.kind.Kind.TheVariants as kind
use Rattle.pp_plan.specs.Keys.{top_keys, keys_of, first_key, IsKindOf}
use Rattle.pp_settings.specs.Limits.{most_statements, most_depth, most_slots}
use Rattle.pp_plan.specs.Limits.{most_turns, most_branches}
use Rattle.pp_plan.specs.declared.error.PlanError.{PlanError}
use Rattle.pp_plan.specs.declared.error.PlanError.TheVariants.{NotJson, NoSuchStatement, WrongField, BadName}
use Rattle.pp_plan.specs.declared.error.PlanError.TheVariants.{NoSuchRegion, Range, TooDeep, TooMany, MixedSlot}
use Rattle.pp_plan.specs.Names.{is_slot_name}
use Rattle.pp_plan.specs.Shapes.{are_lists, Shape, fix_shape, unfix_shape, latch_shape, unlatch_shape, gather_shape}
use Rattle.pp_plan.specs.Shapes.{scatter_shape, loop_shape, choice_shape}
use Rattle.pp_plan.specs.Spelling.{letter_of}

-- ---- the statements of a document

-- A statement as it is written: how deep it stands, and its value. The plan's own statements have depth 1.
pub record Written : Type 0 where
  pub depth : ℕ
  pub value : Data

-- The elements of a list; another value has none.
abbrev pub listed : Data → List Data
listed d = option_map_or elements (as_array d) []

-- The elements of the list at the key.
abbrev pub listed_at : List ℕ → Data → List Data
listed_at key d = option_map_or listed (get key d) []

-- The statements directly inside a statement: those of a loop's body, and those of a choice's branches. Another value
-- that has these keys is a fault already.
abbrev pub directly_inside : Data → List Data
directly_inside d = listed_at (codes "body") d ++ flat_map listed (listed_at (codes "choice") d)

-- A statement, and then those inside it, so many levels in all.
abbrev pub statements_in : (levels depth : ℕ) → Data → List Written
statements_in zero depth d = []
statements_in (suc levels) depth d =
    (record { depth = depth; value = d }) ∷ flat_map (statements_in levels (depth + 1)) (directly_inside d)

-- The statements of a document in the order in which they begin: a statement's number is its place here. What stands
-- inside a statement of depth 17 is left out, since that one is a fault already.
unfoldable pub statements_of : Data → List Written
statements_of d = flat_map (statements_in (most_depth + 1) 1) (listed_at (codes "body") d)

-- ---- what may stand in a statement

-- The value has the key of this kind, and of no other of the version.
abbrev pub IsOfKind : (version : ℕ) → Data → Kind → Type 0
IsOfKind version d k =
    IsKindOf version k × ((v : Data) × Holds d (first_key k) v)
    × ((j : Kind) (v : Data) → IsKindOf version j → Holds d (first_key j) v → j ≡ k)

-- The form is one of the version's, and the value has exactly its keys, each with a value of its kind.
abbrev pub SpellsShape : (version : ℕ) → Data → Shape → Type 0
SpellsShape version d (fix_shape slot region) =
    HasOnly (keys_of kind.Fix) d × Holds d (codes "fix") (string slot) × Holds d (codes "region") (string region)
SpellsShape version d (unfix_shape slot) = HasOnly (keys_of kind.Unfix) d × Holds d (codes "unfix") (string slot)
SpellsShape version d (latch_shape slot mode) =
    HasOnly (keys_of kind.Latch) d × Holds d (codes "latch") (string slot)
    × Holds d (codes "mode") (string (letter_of mode))
SpellsShape version d (unlatch_shape slot) = HasOnly (keys_of kind.Unlatch) d × Holds d (codes "unlatch") (string slot)
SpellsShape version d (gather_shape slot region) =
    HasOnly (keys_of kind.Gather) d × Holds d (codes "gather") (string slot)
    × Holds d (codes "region") (string region) × (version ≡ 2)
SpellsShape version d (scatter_shape slot) =
    HasOnly (keys_of kind.Scatter) d × Holds d (codes "scatter") (string slot) × (version ≡ 2)
SpellsShape version d (loop_shape n ds) =
    HasOnly (keys_of kind.Loop) d × Holds d (codes "loop") (number (unsigned n)) × Holds d (codes "body") (array ds)
SpellsShape version d (choice_shape ds) =
    HasOnly (keys_of kind.Choice) d × Holds d (codes "choice") (array ds) × (are_lists ds ≡ true)

-- The value names the slot as a plain one.
abbrev pub NamesPlain : Data → List ℕ → Type 0
NamesPlain d name =
    Holds d (codes "fix") (string name)
    ⊎ (Holds d (codes "unfix") (string name)
    ⊎ (Holds d (codes "latch") (string name) ⊎ Holds d (codes "unlatch") (string name)))

-- The value names the slot as a bundle.
abbrev pub NamesBundle : Data → List ℕ → Type 0
NamesBundle d name = Holds d (codes "gather") (string name) ⊎ Holds d (codes "scatter") (string name)

-- The value names the slot.
abbrev pub NamesSlot : Data → List ℕ → Type 0
NamesSlot d name = NamesPlain d name ⊎ NamesBundle d name

-- A statement before the n-th names the slot in this way.
abbrev pub IsNamedBefore : (Names : Data → List ℕ → Type 0) → List Written → ℕ → List ℕ → Type 0
IsNamedBefore Names ss n name = (j : ℕ) × (j < n) × ((s : Written) × (slice_get ss j ≡ Some s) × Names s.value name)

-- No statement before the n-th names the slot, and they name 32 others. Bundles count like plain slots.
abbrev pub IsOneTooMany : List Written → ℕ → List ℕ → Type 0
IsOneTooMany ss n name =
    (¬ IsNamedBefore NamesSlot ss n name) × ((others : List (List ℕ)) × (length others ≡ most_slots)
    × AllPairs (λ a b. a ≢ b) others × All (IsNamedBefore NamesSlot ss n) others)

-- The value names a slot in one way, and a statement before the n-th names it in the other.
abbrev pub IsMixed : List Written → ℕ → Data → Type 0
IsMixed ss n d =
    ((name : List ℕ) × NamesPlain d name × IsNamedBefore NamesBundle ss n name)
    ⊎ ((name : List ℕ) × NamesBundle d name × IsNamedBefore NamesPlain ss n name)

-- A loop that doesn't run 1 to 65,535 times, one with an empty body, or a choice that hasn't 1 to 16 branches.
abbrev pub IsOutOfRange : Data → Type 0
IsOutOfRange d =
    ((n : ℕ) × Holds d (codes "loop") (number (unsigned n)) × ¬ ((1 ≤ n) × (n ≤ most_turns)))
    ⊎ (Holds d (codes "body") (array no_items)
    ⊎ ((ds : Items) × Holds d (codes "choice") (array ds)
    × ¬ ((1 ≤ length (elements ds)) × (length (elements ds) ≤ most_branches))))

-- ---- the faults

-- What may be wrong with one statement: it is the 4,097th or later, stands below depth 16, hasn't exactly one of the
-- version's first keys, has other keys or values of other kinds, names a slot out of form or no region of the settings,
-- is out of range, names one slot more than 32, or uses a bundle as a plain slot or a plain slot as a bundle.
pub data Cause : Type 0 where
  one_too_many : Cause
  too_deep : Cause
  no_kind : Cause
  other_form : Cause
  bad_name : Cause
  no_region : Cause
  out_of_range : Cause
  name_too_many : Cause
  mixed : Cause

-- What may be wrong with a text: it is no JSON, the top is another object or has another version, or something is wrong
-- with the statement of this number.
pub data Fault : Type 0 where
  not_json : Fault
  other_top : Fault
  other_version : Fault
  in_statement : ℕ → Cause → Fault

-- The refusal that tells the fault.
abbrev pub error_of : Fault → PlanError
error_of not_json = NotJson
error_of other_top = WrongField 0
error_of other_version = Range 0
error_of (in_statement n one_too_many) = TooMany n
error_of (in_statement n too_deep) = TooDeep n
error_of (in_statement n no_kind) = NoSuchStatement n
error_of (in_statement n other_form) = WrongField n
error_of (in_statement n bad_name) = BadName n
error_of (in_statement n no_region) = NoSuchRegion n
error_of (in_statement n out_of_range) = Range n
error_of (in_statement n name_too_many) = TooMany n
error_of (in_statement n mixed) = MixedSlot n

-- The n-th of the statements of a document of this version is wrong in this way.
abbrev pub HasCause : Configuration → (version : ℕ) → List Written → ℕ → Written → Cause → Type 0
HasCause settings version ss n s one_too_many = most_statements ≤ n
HasCause settings version ss n s too_deep = most_depth < s.depth
HasCause settings version ss n s no_kind = ¬ ((k : Kind) × IsOfKind version s.value k)
HasCause settings version ss n s other_form = ¬ ((shape : Shape) × SpellsShape version s.value shape)
HasCause settings version ss n s bad_name = (name : List ℕ) × NamesSlot s.value name × ¬ IsTrue (is_slot_name name)
HasCause settings version ss n s no_region =
    (name : List ℕ) × Holds s.value (codes "region") (string name) × (region_named settings name ≡ None)
HasCause settings version ss n s out_of_range = IsOutOfRange s.value
HasCause settings version ss n s name_too_many = (name : List ℕ) × NamesSlot s.value name × IsOneTooMany ss n name
HasCause settings version ss n s mixed = IsMixed ss n s.value

-- The value is an object of exactly a `body`, a list, and a `version`.
abbrev pub IsTopForm : Data → Type 0
IsTopForm d =
    HasOnly top_keys d × ((ds : Items) × Holds d (codes "body") (array ds)) × ((v : Data) × Holds d (codes "version") v)

-- The version that stands in the document is 1 or 2.
abbrev pub HasVersion : Data → Type 0
HasVersion d = Holds d (codes "version") (number (unsigned 1)) ⊎ Holds d (codes "version") (number (unsigned 2))

-- The version that stands in the document; 0 where no number does.
abbrev pub version_of : Data → ℕ
version_of d = unwrap_or (option_and_then as_u64 (option_and_then as_number (get (codes "version") d))) 0

-- A text, or the document that it is, has the fault.
abbrev pub HasFault : Configuration → Option Data → Fault → Type 0
HasFault settings None not_json = Unit {0}
HasFault settings (Some d) other_top = ¬ IsTopForm d
HasFault settings (Some d) other_version = ¬ HasVersion d
HasFault settings (Some d) (in_statement n cause) =
    (s : Written) × (slice_get (statements_of d) n ≡ Some s)
    × HasCause settings (version_of d) (statements_of d) n s cause
HasFault _ _ _ = ⊥

-- ---- the order

-- What may be wrong with a statement, in the order in which it is told.
abbrev pub causes : List Cause
causes =
    one_too_many ∷ too_deep ∷ no_kind ∷ other_form ∷ bad_name ∷ no_region ∷ out_of_range ∷ name_too_many ∷ mixed ∷ []

-- The faults of m statements from the n-th on.
unfoldable pub at_statements : ℕ → ℕ → List Fault
at_statements n zero = []
at_statements n (suc m) = map (in_statement n) causes ++ at_statements (n + 1) m

-- All faults of a text, in the order in which they are told. The 4,097th statement is one too many.
abbrev pub order : List Fault
order = not_json ∷ other_top ∷ other_version ∷ at_statements 0 (most_statements + 1)

-- The refusal tells the first fault of the text.
abbrev pub TellsFirst : Configuration → Option Data → PlanError → Type 0
TellsFirst settings document e = (f : Fault) × (error_of f ≡ e) × IsFirst (HasFault settings document) order f
