-- Which latch X comes off next on the way out of a plan.
use Rattle.std.proofs.Common.{◌≡◌, ◌∙◌, ◌+◌, ◌<◌, ◌≤◌, ℕ, suc, Bool, true, false, Option, Some, None, List, ◌∷◌, length, drop, refl, sym, ap}
use Rattle.std.specs.Prelude.{ltb, ◌&&◌, is_none}
use Rattle.std.proofs.lemmas.List.{drop_more, drop_all}
use Rattle.std.proofs.lemmas.Bool.{false≢true, ltb-true, lt-ltb}
use Rattle.pp_vault.specs.declared.guards.Guard.{Guard}
use Rattle.pp_vault.specs.declared.guards.Guard.TheVariants as guard
use Rattle.pp_vault.specs.Holding.{placed, is_free}
use Rattle.pp_pool.specs.Lent.{is_writer, off_from}

-- By what stands in the first place.
writer_off : (n : ℕ) (o : Option Guard) (rest : List (Option Guard)) → is_writer o ≡ true → off_from n (o ∷ rest) ≡ Some n
writer_off n None rest is = absurd (false≢true is)
writer_off n (Some (guard.Pin g)) rest is = absurd (false≢true is)
writer_off n (Some (guard.Read g)) rest is = absurd (false≢true is)
writer_off n (Some (guard.Write g)) rest is = refl
writer_off n (Some (guard.Bundle g)) rest is = absurd (false≢true is)

other_off : (n : ℕ) (o : Option Guard) (rest : List (Option Guard)) → is_writer o ≡ false → is_none o ≡ false
    → off_from n (o ∷ rest) ≡ None
other_off n None rest is some = absurd (false≢true (sym some))
other_off n (Some (guard.Pin g)) rest is some = refl
other_off n (Some (guard.Read g)) rest is some = refl
other_off n (Some (guard.Write g)) rest is some = absurd (false≢true (sym is))
other_off n (Some (guard.Bundle g)) rest is some = refl

none_off : (n : ℕ) (o : Option Guard) (rest : List (Option Guard)) → is_none o ≡ true
    → off_from n (o ∷ rest) ≡ off_from (suc n) rest
none_off n None rest none = refl
none_off n (Some g) rest none = absurd (false≢true none)

none_of : (within none : Bool) → within ≡ true → (within && none) ≡ false → none ≡ false
none_of true none is not = not
none_of false none is not = absurd (false≢true is)

both_of : (within none : Bool) → (within && none) ≡ true → (within ≡ true) × (none ≡ true)
both_of true none is = (refl, is)
both_of false none is = absurd (false≢true is)

module _ (places : List (Option Guard)) (n : ℕ) where
  opened : n < length places → drop n places ≡ placed places n ∷ drop (n + 1) places
  opened lt = drop_more places n None lt

  pub off_at_writer : n < length places → is_writer (placed places n) ≡ true → off_from n (drop n places) ≡ Some n
  off_at_writer lt is =
      ap (off_from n) (opened lt) ∙ writer_off n (placed places n) (drop (n + 1) places) is

  pub off_at_other : n < length places → is_writer (placed places n) ≡ false → is_free places n ≡ false
      → off_from n (drop n places) ≡ None
  off_at_other lt is not =
      ap (off_from n) (opened lt)
      ∙ other_off n (placed places n) (drop (n + 1) places) is
      (none_of (ltb n (length places)) (is_none (placed places n)) (lt-ltb n (length places) lt) not)

  pub off_at_free : is_free places n ≡ true → off_from n (drop n places) ≡ off_from (suc n) (drop (n + 1) places)
  off_at_free free =
      let is = both_of (ltb n (length places)) (is_none (placed places n)) free in
      ap (off_from n) (opened (ltb-true n (length places) is.0))
      ∙ none_off n (placed places n) (drop (n + 1) places) is.1

pub off_at_end : (places : List (Option Guard)) (n : ℕ) → length places ≤ n → off_from n (drop n places) ≡ None
off_at_end places n le = ap (off_from n) (drop_all n places le)
