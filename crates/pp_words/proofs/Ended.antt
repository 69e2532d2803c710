-- A line feed at the end.
use Rattle.std.proofs.Common.{◌≡◌, ℕ, true, List, [], ◌∷◌, ◌++◌, ◌-◌, ◌+◌, length, refl, arith}
use Rattle.std.proofs.lemmas.List.{length-append}
use Rattle.std.proofs.Math.Seq.{drop-append_seam}
use Rattle.pp_words.specs.Texts.{is_ended}

-- what is before the last byte
before_last : (xs : List ℕ) → length (xs ++ 10 ∷ []) - 1 ≡ length xs
before_last xs = let len : length (xs ++ 10 ∷ []) ≡ length xs + 1 = length-append xs (10 ∷ []) in omega arith

-- a text with a line feed put behind it ends with one
pub ended_after : (xs : List ℕ) → is_ended (xs ++ 10 ∷ []) ≡ true
ended_after xs = rw (before_last xs, drop-append_seam xs (10 ∷ [])) refl
