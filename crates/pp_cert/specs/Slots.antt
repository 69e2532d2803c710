-- Lists by rising slot: finite maps from slots, where each slot has one element at most; elements of one slot stand side by
-- side.
-- `slot_of` tells the slot of an element.
use Rattle.std.specs.Prelude.{ℕ, ◌==◌, nat_lt, nat_le, if◌then◌else◌, Option, find, List, [], ◌∷◌}

-- What stands in the slot first, if anything does.
abbrev pub slot_get : {A : Type 0} → (A → ℕ) → ℕ → List A → Option A
slot_get slot_of s xs = find (λ x. slot_of x == s) xs

-- With one more element, which goes before the first of a greater slot.
abbrev pub slot_insert : {A : Type 0} → (A → ℕ) → A → List A → List A
slot_insert slot_of x [] = x ∷ []
slot_insert slot_of x (y ∷ ys) = if nat_lt (slot_of x) (slot_of y) then x ∷ y ∷ ys else y ∷ slot_insert slot_of x ys

-- With one more element, which goes before the first of its slot or of a greater one.
abbrev pub slot_push : {A : Type 0} → (A → ℕ) → A → List A → List A
slot_push slot_of x [] = x ∷ []
slot_push slot_of x (y ∷ ys) = if nat_le (slot_of x) (slot_of y) then x ∷ y ∷ ys else y ∷ slot_push slot_of x ys

-- Without the first element of the slot.
abbrev pub slot_remove : {A : Type 0} → (A → ℕ) → ℕ → List A → List A
slot_remove slot_of s [] = []
slot_remove slot_of s (y ∷ ys) = if slot_of y == s then ys else y ∷ slot_remove slot_of s ys

-- Without any element of the slot.
abbrev pub slot_clear : {A : Type 0} → (A → ℕ) → ℕ → List A → List A
slot_clear slot_of s [] = []
slot_clear slot_of s (y ∷ ys) = if slot_of y == s then slot_clear slot_of s ys else y ∷ slot_clear slot_of s ys

-- With the first element of the slot changed.
abbrev pub slot_update : {A : Type 0} → (A → ℕ) → (A → A) → ℕ → List A → List A
slot_update slot_of f s [] = []
slot_update slot_of f s (y ∷ ys) = if slot_of y == s then f y ∷ ys else y ∷ slot_update slot_of f s ys
