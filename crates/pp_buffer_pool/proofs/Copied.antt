-- What was copied to the front stands there.
use Rattle.std.proofs.Common.{◌≡◌, ◌∙◌, ◌++◌, ℕ, List, length, subst}
use Rattle.std.specs.Prelude.{take}
use Rattle.std.proofs.Math.Seq.{take-append_seam}

pub front_copied : (n : ℕ) (given rest from : List ℕ) → length given ≡ n → given ≡ take n from
    → take n (given ++ rest) ≡ take n from
front_copied n given rest from long is =
    subst (λ m. take m (given ++ rest) ≡ take n from) long (take-append_seam given rest ∙ is)
