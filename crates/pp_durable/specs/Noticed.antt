-- What a check sum notices.
use Rattle.std.specs.Prelude.{◌≢◌, ℕ, ◌<◌, List, ◌∷◌, ◌++◌, All}
use Rattle.pp_durable.specs.Sum.{sum_of}

-- Where one byte of several was changed, the sum is another.
abbrev pub NoticesAByte : Type 0
NoticesAByte =
    (front back : List ℕ) (was is : ℕ) → All (λ byte. byte < 256) front → All (λ byte. byte < 256) back → was < 256
    → is < 256 → was ≢ is → sum_of (front ++ was ∷ back) ≢ sum_of (front ++ is ∷ back)
