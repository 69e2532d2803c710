-- Which of the faults of a text is told: the first, in an order of all that may be.
use Rattle.std.specs.Prelude.{◌≡◌, ◌⊎◌, List, [], ◌∷◌}

-- f is the first of the list that holds.
abbrev pub IsFirst : {F : Type 0} → (F → Type 0) → List F → F → Type 0
IsFirst Has [] f = ⊥
IsFirst Has (g ∷ gs) f = ((g ≡ f) × Has g) ⊎ ((¬ Has g) × IsFirst Has gs f)

-- f holds, and none that is told before it holds. For an order that is a relation.
abbrev pub IsFirstBy : {F : Type 0} → (F → Type 0) → (Before : F → F → Type 0) → F → Type 0
IsFirstBy {F} Has Before f = Has f × ((e : F) → Before e f → ¬ Has e)
