-- Lemmas on how many pages have a number.
use Rattle.std.proofs.Common.{◌≡◌, ℕ, ◌+◌, ◌<◌, ◌≤◌, List, [], ◌∷◌, length, refl, arith, get_or, set, length-set, inl, inr}
use Rattle.std.specs.Prelude.{nat_lt, sum_by}
use Rattle.std.proofs.lemmas.Bool.{cases_Bool}
use Rattle.std.proofs.lemmas.List.Sums.{sum_by-set, sum_by-cons}
use Rattle.pp_arc.specs.Passed.{counts, IsCounted}

counts_most : (n : ℕ) → counts n ≤ 1
counts_most n = elim (cases_Bool (nat_lt 0 n)) [ inl e ↦ rw e (omega arith) | inr e ↦ rw e (omega arith) ]

most : (xs : List ℕ) → sum_by counts xs ≤ length xs
most [] = omega arith
most (x ∷ xs) = omega (arith, most xs, counts_most x, sum_by-cons counts x xs)

-- one more page may get a number
pub fits_more : (c : ℕ) (xs : List ℕ) (x : ℕ) → IsCounted c xs → x < length xs → get_or xs x 0 ≡ 0 → c + 1 < 4294967296
fits_more c xs x h lt none =
    let counted : counts (get_or xs x 0) ≡ 0 = rw none refl in
    let one : counts 1 ≡ 1 = refl in
    omega (arith, h.count, sum_by-set counts xs x 1 0 lt, most (set xs x 1), length-set xs x 1, h.fits)
