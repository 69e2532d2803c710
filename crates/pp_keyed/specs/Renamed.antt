-- Lists of names, as lists of what the names stand for.
use Rattle.std.specs.Prelude.{◌≡◌, ℕ, Bool, map}
use Rattle.pp_arc.specs.declared.answer.Answer.{Answer}
use Rattle.pp_arc.specs.declared.answer.Answer.TheVariants.{Hit, Free, Evict, AllBusy}
use Rattle.pp_arc.specs.FourLists.{FourLists}

-- no two names stand for the same
abbrev pub IsInjective : (ℕ → ℕ) → Type 0
IsInjective f = (x y : ℕ) → f x ≡ f y → x ≡ y

-- each name in the lists gives way to what it stands for, which is below this number
abbrev pub lists_by : (ℕ → ℕ) → ℕ → FourLists → FourLists
lists_by f pages s =
    record s { pages = pages; t1 = map f s.t1; t2 = map f s.t2; b1 = map f s.b1; b2 = map f s.b2 }

-- so does the one in an answer
abbrev pub answer_by : (ℕ → ℕ) → Answer → Answer
answer_by f Hit = Hit
answer_by f Free = Free
answer_by f (Evict v) = Evict (f v)
answer_by f AllBusy = AllBusy

-- what a name stands for is busy where the name is
abbrev pub IsSameBusy : (ℕ → ℕ) → (ℕ → Bool) → (ℕ → Bool) → Type 0
IsSameBusy f busy busy_by = (x : ℕ) → busy_by (f x) ≡ busy x
