-- The keys of a plan's objects.
use Rattle.std.specs.Prelude.{◌≡◌, ℕ, ◌==◌, Bool, true, List, [], ◌∷◌, codes, slice_index_or}
use Rattle.pp_plan.specs.declared.kind.Kind.{Kind}
use Rattle.pp_plan.specs.declared.kind.Kind.TheVariants.{Fix, Unfix, Latch, Unlatch, Gather, Scatter, Loop, Choice}

-- The keys of the whole text.
abbrev pub top_keys : List (List ℕ)
top_keys = codes "body" ∷ codes "version" ∷ []

-- The keys that a statement of this kind has, all of them and no other. The first one tells the kind.
abbrev pub keys_of : Kind → List (List ℕ)
keys_of Fix = codes "fix" ∷ codes "region" ∷ []
keys_of Unfix = codes "unfix" ∷ []
keys_of Latch = codes "latch" ∷ codes "mode" ∷ []
keys_of Unlatch = codes "unlatch" ∷ []
keys_of Gather = codes "gather" ∷ codes "region" ∷ []
keys_of Scatter = codes "scatter" ∷ []
keys_of Loop = codes "loop" ∷ codes "body" ∷ []
keys_of Choice = codes "choice" ∷ []

abbrev pub first_key : Kind → List ℕ
first_key kind = slice_index_or (keys_of kind) 0 []

-- Plans of this version have statements of this kind. Those of bundles are version 2's; in version 1 their keys are like
-- any others.
abbrev pub IsKindOf : (version : ℕ) → Kind → Type 0
IsKindOf version Gather = version ≡ 2
IsKindOf version Scatter = version ≡ 2
IsKindOf version _ = Unit {0}

-- The same as a test.
abbrev pub is_kind_of : (version : ℕ) → Kind → Bool
is_kind_of version Gather = version == 2
is_kind_of version Scatter = version == 2
is_kind_of version _ = true
