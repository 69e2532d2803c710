-- What renewing does to a book.
use Rattle.std.specs.Prelude.{◌≡◌, ◌≤◌, ◌<◌, ◌*◌, ℕ, Some}
use Rattle.pp_model.specs.Renewing.{renew_error}
use Rattle.pp_pool.specs.declared.error.BookRenewError.{BookRenewError}
use Rattle.pp_pool.specs.declared.error.BookRenewError.TheVariants.{OutOfMemory, Refused}
use Rattle.pp_pool.specs.Parts.{Parts, state_of}

-- A journal with memory for so many events has room for each flush that may begin in a life, and for its end.
abbrev pub HasLifeRoom : Parts → (capacity : ℕ) → Type 0
HasLifeRoom b capacity = 2 * b.flushes ≤ capacity

-- It has no room for all of them.
abbrev pub LacksLifeRoom : Parts → (capacity : ℕ) → Type 0
LacksLifeRoom b capacity = capacity < 2 * b.flushes

-- The book isn't renewed: the model refuses it so, or the journal that was given lacks room, which has memory for so
-- many events.
abbrev pub IsRenewCause : Parts → (capacity : ℕ) → BookRenewError → Type 0
IsRenewCause b capacity OutOfMemory = LacksLifeRoom b capacity
IsRenewCause b capacity (Refused error) = renew_error (state_of b) ≡ Some error

-- Where the model refuses it, there was room first: the want of memory comes before each refusal.
abbrev pub HadLifeRoom : Parts → (capacity : ℕ) → BookRenewError → Type 0
HadLifeRoom b capacity OutOfMemory = Unit {0}
HadLifeRoom b capacity (Refused error) = HasLifeRoom b capacity
