-- Which text spells which plan under the settings, said apart from any order of reading.
use Rattle.std.specs.Prelude.{◌≡◌, ℕ, List, Some, slice_get, codes}
use Rattle.serde_json.specs.Data.{Data, number, unsigned, string, array, Items, no_items, item}
use Rattle.serde_json.specs.Read.{read}
use Rattle.pp_text.specs.Objects.{HasOnly, Holds}
use Rattle.pp_settings.specs.Settings.{Configuration, region_named, geometry_of}
use Rattle.pp_plan.specs.declared.mode.Mode.{Mode}
use Rattle.pp_plan.specs.declared.mode.Mode.TheVariants.{S, X}
use Rattle.pp_plan.specs.declared.kind.Kind.TheVariants as kind
use Rattle.pp_plan.specs.Keys.{top_keys, keys_of}
use Rattle.pp_plan.specs.Tree.{Step, fix, unfix, latch, unlatch, gather, scatter, Statement, step, loop, choice}
use Rattle.pp_plan.specs.Tree.{Sequence, skip, andthen}
use Rattle.pp_plan.specs.Tree.{Alternatives, none, either}
use Rattle.pp_plan.specs.Terms.{Terms, IsPlan}

-- ---- what stands at a key

-- At the key stands the name of the slot with this number, which is the place of the name among the slot names.
abbrev pub HoldsSlot : List (List ℕ) → Data → List ℕ → ℕ → Type 0
HoldsSlot slots d key k = (name : List ℕ) × Holds d key (string name) × (slice_get slots k ≡ Some name)

-- At the key stands the name of the region with this number in the settings.
abbrev pub HoldsRegion : Configuration → Data → List ℕ → ℕ → Type 0
HoldsRegion settings d key r = (name : List ℕ) × Holds d key (string name) × (region_named settings name ≡ Some r)

-- The letter of a mode.
abbrev pub letter_of : Mode → List ℕ
letter_of S = codes "S"
letter_of X = codes "X"

-- ---- statements

-- The value spells the step, and nothing else stands in it. That version 1 has neither a gather nor a scatter is a rule of
-- plans.
abbrev pub SpellsStep : Configuration → (slots : List (List ℕ)) → Data → Step → Type 0
SpellsStep settings slots d (fix k r) =
    HasOnly (keys_of kind.Fix) d × HoldsSlot slots d (codes "fix") k × HoldsRegion settings d (codes "region") r
SpellsStep settings slots d (unfix k) = HasOnly (keys_of kind.Unfix) d × HoldsSlot slots d (codes "unfix") k
SpellsStep settings slots d (latch k m) =
    HasOnly (keys_of kind.Latch) d × HoldsSlot slots d (codes "latch") k × Holds d (codes "mode") (string (letter_of m))
SpellsStep settings slots d (unlatch k) = HasOnly (keys_of kind.Unlatch) d × HoldsSlot slots d (codes "unlatch") k
SpellsStep settings slots d (gather k r) =
    HasOnly (keys_of kind.Gather) d × HoldsSlot slots d (codes "gather") k × HoldsRegion settings d (codes "region") r
SpellsStep settings slots d (scatter k) = HasOnly (keys_of kind.Scatter) d × HoldsSlot slots d (codes "scatter") k

abbrev mutual
  -- The value spells the statement, and nothing else stands in it.
  pub SpellsStatement : Configuration → (slots : List (List ℕ)) → Data → Statement → Type 0
  SpellsStatement settings slots d (step s) = SpellsStep settings slots d s
  SpellsStatement settings slots d (loop n b) =
      HasOnly (keys_of kind.Loop) d × Holds d (codes "loop") (number (unsigned n))
      × ((ds : Items) × Holds d (codes "body") (array ds) × SpellsSequence settings slots ds b)
  SpellsStatement settings slots d (choice bs) =
      HasOnly (keys_of kind.Choice) d
      × ((ds : Items) × Holds d (codes "choice") (array ds) × SpellsAlternatives settings slots ds bs)

  -- There is one value for each statement, in the same order.
  pub SpellsSequence : Configuration → (slots : List (List ℕ)) → Items → Sequence → Type 0
  SpellsSequence settings slots no_items skip = Unit {0}
  SpellsSequence settings slots (item d ds) (andthen s b) =
      SpellsStatement settings slots d s × SpellsSequence settings slots ds b
  SpellsSequence settings slots _ _ = ⊥

  -- There is one list for each branch, in the same order.
  pub SpellsAlternatives : Configuration → (slots : List (List ℕ)) → Items → Alternatives → Type 0
  SpellsAlternatives settings slots no_items none = Unit {0}
  SpellsAlternatives settings slots (item d ds) (either b bs) =
      ((es : Items) × (d ≡ array es) × SpellsSequence settings slots es b) × SpellsAlternatives settings slots ds bs
  SpellsAlternatives settings slots _ _ = ⊥

-- ---- the whole

-- The value is an object of a `body` and a `version`, and spells the plan: its version, its body, its slot names and the
-- layout of the settings.
pub record Spells (settings : Configuration) (d : Data) (t : Terms) : Type 0 where
  pub keys : HasOnly top_keys d
  pub version : Holds d (codes "version") (number (unsigned t.version))
  pub body : (ds : Items) × Holds d (codes "body") (array ds) × SpellsSequence settings t.slots ds t.body
  pub layout : t.layout ≡ geometry_of settings

-- The text is JSON that spells the plan under the settings, and the plan keeps the rules.
abbrev pub IsText : Configuration → List ℕ → Terms → Type 0
IsText settings text t = (d : Data) × (read text ≡ Some d) × Spells settings d t × IsPlan t
