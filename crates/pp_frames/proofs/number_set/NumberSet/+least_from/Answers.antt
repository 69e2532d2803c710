-- What the check leaves to show of NumberSet::least_from.
use Rattle.std.proofs.Common.{◌∙◌, ◌≡◌, ◌≤◌, ◌+◌, ◌/◌, length, ap, arith, None, Some}
use Rattle.pp_frames.specs.Words.{IsSummary}
use Rattle.pp_frames.specs.Numbers.{least_from}
use Rattle.pp_frames.proofs.Spelling.{length_members}
use Rattle.pp_frames.proofs.Search.{past_all, InItsWord, found_in_word, only_word, no_word, starts_below, in_that_word}
use Rattle.pp_frames.proofs.number_set.NumberSet.+least_from.Goals as goal

pub returns-then-from-self : goal.returns-then-from-self
returns-then-from-self t c =
    rw (← c.self.view_is) (past_all c.self.inside.limit c.self.inside.words.items c.args.from c.if-from-self.true)

pub least_in_word-requires-clause-word : goal.least_in_word-requires-clause-word
least_in_word-requires-clause-word t c =
    omega (
      arith,
      c.if-from-self.false,
      ap length c.self.view_is,
      length_members c.self.inside.limit c.self.inside.words.items,
    )

pub returns-in-Some : goal.returns-in-Some
returns-in-Some t c =
    let is : InItsWord c.self.inside.limit c.self.inside.words.items c.args.from c.self.invariant.0
    (Some c.in-Some.number) = rw (← c.self.view_is) at c.in-Some.ensures in
    rw (← c.self.view_is)
    (found_in_word c.self.inside.limit c.self.inside.words.items c.args.from c.self.invariant.0 c.in-Some.number is)

pub returns-in_err-least_from-in-Words : goal.returns-in_err-least_from-in-Words
returns-in_err-least_from-in-Words t c =
    let is : InItsWord c.self.inside.limit c.self.inside.words.items c.args.from c.self.invariant.0 None =
    rw (← c.self.view_is) at c.in_default.ensures in
    let summed : IsSummary c.self.inside.limit c.self.inside.words.items c.in-Words.words.value =
    rw c.in-Words.is at c.self.invariant.1 in
    let none : None ≡ least_from c.in-Words.words.value (c.args.from / 64 + 1) =
    rw c.deref.ensures at c.in_err-least_from-in-Words.ensures in
    rw (← c.self.view_is)
    (c.from_residual.ensures
    ∙ no_word c.self.inside.limit c.self.inside.words.items c.args.from c.self.invariant.0
    c.in-Words.words.value is summed none)

pub least_in_word-requires-in-Words-clause-word : goal.least_in_word-requires-in-Words-clause-word
least_in_word-requires-in-Words-clause-word t c =
    let is : InItsWord c.self.inside.limit c.self.inside.words.items c.args.from c.self.invariant.0 None =
    rw (← c.self.view_is) at c.in_default.ensures in
    let summed : IsSummary c.self.inside.limit c.self.inside.words.items c.in-Words.words.value =
    rw c.in-Words.is at c.self.invariant.1 in
    let found : Some c.in_ok-least_from-in-Words.field-0 ≡ least_from c.in-Words.words.value (c.args.from / 64 + 1) =
    rw c.deref.ensures at c.in_ok-least_from-in-Words.ensures in
    omega (
      arith,
      ap length c.self.view_is,
      length_members c.self.inside.limit c.self.inside.words.items,
      starts_below c.self.inside.limit c.self.inside.words.items c.args.from c.self.invariant.0
          c.in-Words.words.value is summed c.in_ok-least_from-in-Words.field-0 found,
    )

pub returns-in-Nothing : goal.returns-in-Nothing
returns-in-Nothing t c =
    let is : InItsWord c.self.inside.limit c.self.inside.words.items c.args.from c.self.invariant.0 None =
    rw (← c.self.view_is) at c.in_default.ensures in
    let one : length c.self.inside.words.items ≤ 1 = rw c.in-Nothing.is at c.self.invariant.1 in
    rw (← c.self.view_is)
    (only_word c.self.inside.limit c.self.inside.words.items c.args.from c.self.invariant.0 is one)

pub returns-in_ok-least_from-in-Words : goal.returns-in_ok-least_from-in-Words
returns-in_ok-least_from-in-Words t c =
    let is : InItsWord c.self.inside.limit c.self.inside.words.items c.args.from c.self.invariant.0 None =
    rw (← c.self.view_is) at c.in_default.ensures in
    let summed : IsSummary c.self.inside.limit c.self.inside.words.items c.in-Words.words.value =
    rw c.in-Words.is at c.self.invariant.1 in
    let found : Some c.in_ok-least_from-in-Words.field-0 ≡ least_from c.in-Words.words.value (c.args.from / 64 + 1) =
    rw c.deref.ensures at c.in_ok-least_from-in-Words.ensures in
    rw (← c.self.view_is)
    (in_that_word c.self.inside.limit c.self.inside.words.items c.args.from c.self.invariant.0
    c.in-Words.words.value is summed c.in_ok-least_from-in-Words.field-0 found c.least_in_word-in-Words.result
    (rw (← c.self.view_is) at c.least_in_word-in-Words.ensures))
