-- What the check leaves to show of NumberSet::least_in_word.
use Rattle.std.proofs.Common.{◌∙◌, ◌≡◌, ◌<◌, ◌*◌, ◌+◌, length, ap, get_or, arith, None}
use Rattle.std.proofs.lemmas.List.{get_or_read}
use Rattle.pp_frames.specs.Least.{least_below}
use Rattle.pp_frames.specs.Words.{members_of}
use Rattle.pp_frames.proofs.Spelling.{length_members, word_at}
use Rattle.pp_frames.proofs.Search.{member_from, word_none, word_some, Found}
use Rattle.pp_frames.proofs.number_set.NumberSet.least_in_word.Goals as goal

pub index-requires : goal.index-requires
index-requires c =
    omega (
      arith,
      word_at c.self.inside.limit c.self.inside.words.items c.args.self.now c.args.place c.self.invariant.0
          c.self.view_is c.requires.word,
      c.self.inside.words.ok.0,
    )

pub returns-in_err-bit : goal.returns-in_err-bit
returns-in_err-bit c =
    let within : c.args.place < length c.self.inside.words.items =
    word_at c.self.inside.limit c.self.inside.words.items c.args.self.now c.args.place c.self.invariant.0
    c.self.view_is c.requires.word in
    let read : c.index.result.now ≡ get_or c.self.inside.words.items c.args.place 0 =
    get_or_read c.self.inside.words.items c.args.place c.index.result.now within c.index.ensures 0 in
    let none : None ≡ least_below
    (member_from (members_of c.self.inside.limit c.self.inside.words.items) (64 * c.args.place + c.args.from))
    (64 * c.args.place + 64) =
    word_none c.self.inside.limit c.self.inside.words.items c.args.place c.args.from c.index.result.now
    c.self.invariant.0 read c.in_err-bit.ensures.first in
    rw (← c.self.view_is) (c.from_residual.ensures ∙ none)

pub overflow_mul-result : goal.overflow_mul-result
overflow_mul-result c =
    omega (
      arith,
      word_at c.self.inside.limit c.self.inside.words.items c.args.self.now c.args.place c.self.invariant.0
          c.self.view_is c.requires.word,
      c.self.invariant.0.limit_fits,
      c.requires.word,
      ap length c.self.view_is,
      length_members c.self.inside.limit c.self.inside.words.items,
    )

pub overflow_add-result : goal.overflow_add-result
overflow_add-result c =
    let within : c.args.place < length c.self.inside.words.items =
    word_at c.self.inside.limit c.self.inside.words.items c.args.self.now c.args.place c.self.invariant.0
    c.self.view_is c.requires.word in
    let read : c.index.result.now ≡ get_or c.self.inside.words.items c.args.place 0 =
    get_or_read c.self.inside.words.items c.args.place c.index.result.now within c.index.ensures 0 in
    let found : Found c.self.inside.limit c.self.inside.words.items c.args.place c.args.from c.index.result.now
    c.self.invariant.0 read c.in_ok-bit.bit =
    word_some c.self.inside.limit c.self.inside.words.items c.args.place c.args.from c.index.result.now
    c.self.invariant.0 read c.in_ok-bit.bit c.in_ok-bit.ensures.first in
    omega (arith, found.below, c.self.invariant.0.limit_fits)

pub returns : goal.returns
returns c =
    let within : c.args.place < length c.self.inside.words.items =
    word_at c.self.inside.limit c.self.inside.words.items c.args.self.now c.args.place c.self.invariant.0
    c.self.view_is c.requires.word in
    let read : c.index.result.now ≡ get_or c.self.inside.words.items c.args.place 0 =
    get_or_read c.self.inside.words.items c.args.place c.index.result.now within c.index.ensures 0 in
    rw (← c.self.view_is)
    (word_some c.self.inside.limit c.self.inside.words.items c.args.place c.args.from c.index.result.now
    c.self.invariant.0 read c.in_ok-bit.bit c.in_ok-bit.ensures.first).answer
