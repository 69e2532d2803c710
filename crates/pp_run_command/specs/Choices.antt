-- The choices of a run, and what it does with bodies.
use Rattle.std.specs.Prelude.{ℕ, ◌+◌, ◌%◌, ◌&&◌, List, [], ◌∷◌, Option, None, Some, if◌then◌else◌, map, min, nat_le, nat_lt, slice_get}
use Rattle.std.specs.List.{range_with_len}
use Rattle.pp_run_command.specs.declared.rounds.Rounds.{Rounds}
use Rattle.pp_run_command.specs.declared.traced.Traced.{Traced}

-- The work of the worker with this number, which made no choice yet.
abbrev pub new_rounds : (seed worker : ℕ) → Rounds
new_rounds seed worker = record { seed = seed; worker = worker; choices = 0 }

-- The works of so many workers, in the order of their numbers.
abbrev pub new_works : (seed workers : ℕ) → List Rounds
new_works seed workers = map (new_rounds seed) (range_with_len 0 workers)

-- The number that the next choice takes among so many: after k choices it is (seed + worker + k) mod count.
abbrev pub choice : Rounds → (count : ℕ) → ℕ
choice r count = (r.seed + r.worker + r.choices) % count

-- The work after one more choice. More choices than 32 bits hold are counted no further.
abbrev pub after_choice : Rounds → Rounds
after_choice r = record r { choices = min (r.choices + 1) 4294967295 }

-- A byte and 1, where 255 becomes 0.
abbrev pub next_byte : ℕ → ℕ
next_byte b = (b + 1) % 256

-- A body whose first byte is raised.
abbrev pub raised : List ℕ → List ℕ
raised [] = []
raised (first ∷ rest) = next_byte first ∷ rest

-- The number that is given for the next choice, where there is one.
abbrev pub next_number : Traced → Option ℕ
next_number t = slice_get t.numbers.now t.rounds.choices

-- The number where it is one of so many from the first on, and else this one.
abbrev pub chosen : Option ℕ → (first count otherwise : ℕ) → ℕ
chosen None first count otherwise = otherwise
chosen (Some n) first count otherwise = if nat_le first n && nat_lt n (first + count) then n else otherwise

-- The next choice among so many numbers from the first on: the one that is given, where it may be chosen, and else that of
-- the rounds.
abbrev pub traced : Traced → (first count : ℕ) → ℕ
traced t first count = chosen (next_number t) first count (first + choice t.rounds count)

-- The work after one more choice.
abbrev pub after_traced : Traced → Traced
after_traced t = record t { rounds = after_choice t.rounds }
