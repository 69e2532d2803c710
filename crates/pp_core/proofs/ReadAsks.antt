-- What a plan asks, where the tests of a reading say so.
use Rattle.std.proofs.Common.{◌≡◌, ℕ, true, Option, Some, None, sym, ap, arith}
use Rattle.std.specs.Prelude.{◌==◌}
use Rattle.std.proofs.lemmas.Bool.{false≢true}
use Rattle.std.proofs.lemmas.Bool.Decides.{nat_tests}
use Rattle.pp_plan.specs.declared.mode.Mode.TheVariants as mode
use Rattle.pp_plan.specs.declared.action.Ask.{Ask}
use Rattle.pp_plan.specs.declared.action.Ask.TheVariants as ask
use Rattle.pp_core.specs.Reading.{asks_fix, asks_share, asks_unlatch, asks_unfix}

number_is : (a b : ℕ) → (a == b) ≡ true → a ≡ b
number_is a b e = grind (arith, nat_tests)

pub fix_asked : (slot : ℕ) (o : Option Ask) → asks_fix slot o ≡ true → (region : ℕ) × (o ≡ Some (ask.Fix slot region))
fix_asked slot None e = absurd (false≢true e)
fix_asked slot (Some (ask.Fix of region)) e = (region, ap (λ n. Some (ask.Fix n region)) (sym (number_is slot of e)))
fix_asked slot (Some (ask.Unfix of)) e = absurd (false≢true e)
fix_asked slot (Some (ask.Latch of m)) e = absurd (false≢true e)
fix_asked slot (Some (ask.Unlatch of)) e = absurd (false≢true e)
fix_asked slot (Some (ask.Gather of region)) e = absurd (false≢true e)
fix_asked slot (Some (ask.Scatter of)) e = absurd (false≢true e)
fix_asked slot (Some (ask.Choose count)) e = absurd (false≢true e)
fix_asked slot (Some ask.End) e = absurd (false≢true e)

pub share_asked : (slot : ℕ) (o : Option Ask) → asks_share slot o ≡ true → o ≡ Some (ask.Latch slot mode.S)
share_asked slot None e = absurd (false≢true e)
share_asked slot (Some (ask.Fix of region)) e = absurd (false≢true e)
share_asked slot (Some (ask.Unfix of)) e = absurd (false≢true e)
share_asked slot (Some (ask.Latch of mode.S)) e = ap (λ n. Some (ask.Latch n mode.S)) (sym (number_is slot of e))
share_asked slot (Some (ask.Latch of mode.X)) e = absurd (false≢true e)
share_asked slot (Some (ask.Unlatch of)) e = absurd (false≢true e)
share_asked slot (Some (ask.Gather of region)) e = absurd (false≢true e)
share_asked slot (Some (ask.Scatter of)) e = absurd (false≢true e)
share_asked slot (Some (ask.Choose count)) e = absurd (false≢true e)
share_asked slot (Some ask.End) e = absurd (false≢true e)

pub unlatch_is_asked : (slot : ℕ) (o : Option Ask) → asks_unlatch slot o ≡ true → o ≡ Some (ask.Unlatch slot)
unlatch_is_asked slot None e = absurd (false≢true e)
unlatch_is_asked slot (Some (ask.Fix of region)) e = absurd (false≢true e)
unlatch_is_asked slot (Some (ask.Unfix of)) e = absurd (false≢true e)
unlatch_is_asked slot (Some (ask.Latch of m)) e = absurd (false≢true e)
unlatch_is_asked slot (Some (ask.Unlatch of)) e = ap (λ n. Some (ask.Unlatch n)) (sym (number_is slot of e))
unlatch_is_asked slot (Some (ask.Gather of region)) e = absurd (false≢true e)
unlatch_is_asked slot (Some (ask.Scatter of)) e = absurd (false≢true e)
unlatch_is_asked slot (Some (ask.Choose count)) e = absurd (false≢true e)
unlatch_is_asked slot (Some ask.End) e = absurd (false≢true e)

pub unfix_is_asked : (slot : ℕ) (o : Option Ask) → asks_unfix slot o ≡ true → o ≡ Some (ask.Unfix slot)
unfix_is_asked slot None e = absurd (false≢true e)
unfix_is_asked slot (Some (ask.Fix of region)) e = absurd (false≢true e)
unfix_is_asked slot (Some (ask.Unfix of)) e = ap (λ n. Some (ask.Unfix n)) (sym (number_is slot of e))
unfix_is_asked slot (Some (ask.Latch of m)) e = absurd (false≢true e)
unfix_is_asked slot (Some (ask.Unlatch of)) e = absurd (false≢true e)
unfix_is_asked slot (Some (ask.Gather of region)) e = absurd (false≢true e)
unfix_is_asked slot (Some (ask.Scatter of)) e = absurd (false≢true e)
unfix_is_asked slot (Some (ask.Choose count)) e = absurd (false≢true e)
unfix_is_asked slot (Some ask.End) e = absurd (false≢true e)
