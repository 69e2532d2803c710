-- Work in steps: the first step that fails gives the refusal.
use Rattle.std.specs.Prelude.{◌≡◌, Result, Ok, Err, Bool, true, false}

-- A step, and then another with its value.
infixl 10 ◌>>=◌
abbrev pub ◌>>=◌ : {A B E : Type 0} → Result A E → (A → Result B E) → Result B E
(Ok x) >>= next = next x
(Err e) >>= next = Err e

-- A step that has no value: it is passed, or refuses.
abbrev pub must : {E : Type 0} → Bool → E → Result (Unit {0}) E
must true e = Ok tt
must false e = Err e

-- What the code returned is what the work gives, where `seen` shows the value returned.
abbrev pub Reads : {X Y E : Type 0} → (X → Y) → Result X E → Result Y E → Type 0
Reads seen (Ok x) work = work ≡ Ok (seen x)
Reads seen (Err e) work = work ≡ Err e

-- The refusal is the work's; where it is want of memory, it says nothing of the work.
abbrev pub Refuses : {Y E : Type 0} → (is_memory : Bool) → E → Result Y E → Type 0
Refuses true e work = Unit {0}
Refuses false e work = work ≡ Err e

-- What the code returned is what the work gives, unless memory ran out. `memory` tells which error is want of memory.
abbrev pub Gives : {X Y E : Type 0} → (memory : E → Bool) → (X → Y) → Result X E → Result Y E → Type 0
Gives memory seen (Ok x) work = work ≡ Ok (seen x)
Gives memory seen (Err e) work = Refuses (memory e) e work
