-- How what lies under a hall is kept.
use Rattle.std.specs.Prelude.{◌≡◌, ℕ}
use Rattle.pp_hall.specs.Seatings.{Parts, IsSeating, pages_out}

-- What holds of it, and the sum of the peaks that are out, which it keeps.
pub record SeatingKeeps (x : Parts) (out : ℕ) : Type 0 where
  pub seating : IsSeating x
  pub sum : out ≡ pages_out x.peaks
