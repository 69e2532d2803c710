-- What the check leaves to show of NumberSet::remove.
use Rattle.std.proofs.Common.{◌∙◌, ◌<◌, ◌/◌, false, ltb, length, sym, ap, arith}
use Rattle.std.proofs.lemmas.Bool.{lt-ltb}
use Rattle.pp_frames.specs.Words.{IsSummary}
use Rattle.pp_frames.proofs.Spelling.{Written, written, read_word, below_limit, length_members, place_in, spelled_write}
use Rattle.pp_frames.proofs.Spelling.{members_write, summary_set, summed_kept, summed_alone}
use Rattle.pp_frames.proofs.number_set.NumberSet.+remove.Goals as goal

pub index-requires : goal.index-requires
index-requires t c =
    omega (
      arith,
      c.self.invariant.0.room,
      c.self.inside.words.ok.0,
      below_limit c.self.inside.limit c.self.inside.words.items c.args.self.now c.args.number c.self.view_is
          c.requires,
    )

pub index_mut-requires : goal.index_mut-requires
index_mut-requires t c =
    omega (
      arith,
      c.self.invariant.0.room,
      c.self.inside.words.ok.0,
      below_limit c.self.inside.limit c.self.inside.words.items c.args.self.now c.args.number c.self.view_is
          c.requires,
    )

pub remove-requires : goal.remove-requires
remove-requires t c =
    let summed : IsSummary c.self.inside.limit c.self.inside.words.items c.in-Words.words.value =
    rw c.in-Words.is at c.self.invariant.1 in
    let smaller : length c.deref_mut.result.now < length c.args.self.now =
    omega (
      arith,
      summed.fewer,
      summed.each,
      ap length c.deref_mut.ensures.value,
      ap length c.self.view_is,
      length_members c.self.inside.limit c.self.inside.words.items,
    ) in
    let within : c.args.number / 64 < length c.deref_mut.result.now =
    omega (
      arith,
      summed.each,
      ap length c.deref_mut.ensures.value,
      c.self.invariant.0.room,
      below_limit c.self.inside.limit c.self.inside.words.items c.args.self.now c.args.number c.self.view_is
          c.requires,
    ) in
    (omega (arith, c.decreases, smaller), within)

pub invariant_of-self : goal.invariant_of-self
invariant_of-self t c =
    let w : Written c.self.inside.limit c.self.inside.words.items c.args.number c.without_bit-left.result false =
    written c.self.inside.limit c.self.inside.words.items c.args.self.now c.args.number c.index.result.now
    c.without_bit-left.result false c.self.invariant.0 c.self.view_is c.requires c.index.ensures
    c.without_bit-left.ensures.here c.without_bit-left.ensures.others c.without_bit-left.type_inv in
    let summed : IsSummary c.self.inside.limit c.self.inside.words.items c.in-Words.words.value =
    rw c.in-Words.is at c.self.invariant.1 in (
      spelled_write c.self.inside.limit c.self.inside.words.items c.args.number c.without_bit-left.result false w,
      rw (c.remove.ensures, c.deref_mut.ensures.value)
          (summary_set c.self.inside.limit c.self.inside.words.items (c.args.number / 64) c.without_bit-left.result
          (place_in c.self.inside.limit c.self.inside.words.items c.args.number c.without_bit-left.result false
          w) c.in-Words.words.value false summed (ap (ltb 0) c.if-left-eq0.true)),
    )

pub invariant_of-self-in_default : goal.invariant_of-self-in_default
invariant_of-self-in_default t c =
    let w : Written c.self.inside.limit c.self.inside.words.items c.args.number c.without_bit-left.result false =
    written c.self.inside.limit c.self.inside.words.items c.args.self.now c.args.number c.index.result.now
    c.without_bit-left.result false c.self.invariant.0 c.self.view_is c.requires c.index.ensures
    c.without_bit-left.ensures.here c.without_bit-left.ensures.others c.without_bit-left.type_inv in (
      spelled_write c.self.inside.limit c.self.inside.words.items c.args.number c.without_bit-left.result false w,
      summed_alone c.self.inside.limit c.self.inside.words.items (c.args.number / 64) c.without_bit-left.result
          (place_in c.self.inside.limit c.self.inside.words.items c.args.number c.without_bit-left.result false w)
          c.self.inside.above c.in_default.not-Words c.self.invariant.1,
    )

pub invariant_of-self-else-left-eq0 : goal.invariant_of-self-else-left-eq0
invariant_of-self-else-left-eq0 t c =
    let w : Written c.self.inside.limit c.self.inside.words.items c.args.number c.without_bit-left.result false =
    written c.self.inside.limit c.self.inside.words.items c.args.self.now c.args.number c.index.result.now
    c.without_bit-left.result false c.self.invariant.0 c.self.view_is c.requires c.index.ensures
    c.without_bit-left.ensures.here c.without_bit-left.ensures.others c.without_bit-left.type_inv in (
      spelled_write c.self.inside.limit c.self.inside.words.items c.args.number c.without_bit-left.result false w,
      summed_kept c.self.inside.limit c.self.inside.words.items (c.args.number / 64) c.without_bit-left.result
          (place_in c.self.inside.limit c.self.inside.words.items c.args.number c.without_bit-left.result false w)
          c.self.inside.above c.self.invariant.1
          (sym (ap (ltb 0)
          (read_word c.self.inside.limit c.self.inside.words.items c.args.number c.index.result.now
          c.self.invariant.0 w.below c.index.ensures))
          ∙ lt-ltb 0 c.index.result.now
          (omega (arith, c.if-left-eq0.false, c.without_bit-left.ensures.no_more))
          ∙ sym (lt-ltb 0 c.without_bit-left.result
          (omega (arith, c.if-left-eq0.false)))),
    )

pub returns-in-Words : goal.returns-in-Words
returns-in-Words t c =
    let w : Written c.self.inside.limit c.self.inside.words.items c.args.number c.without_bit-left.result false =
    written c.self.inside.limit c.self.inside.words.items c.args.self.now c.args.number c.index.result.now
    c.without_bit-left.result false c.self.invariant.0 c.self.view_is c.requires c.index.ensures
    c.without_bit-left.ensures.here c.without_bit-left.ensures.others c.without_bit-left.type_inv in
    rw (← c.self.view_is)
    (members_write c.self.inside.limit c.self.inside.words.items c.args.number c.without_bit-left.result false w)

pub returns-in_default : goal.returns-in_default
returns-in_default t c =
    let w : Written c.self.inside.limit c.self.inside.words.items c.args.number c.without_bit-left.result false =
    written c.self.inside.limit c.self.inside.words.items c.args.self.now c.args.number c.index.result.now
    c.without_bit-left.result false c.self.invariant.0 c.self.view_is c.requires c.index.ensures
    c.without_bit-left.ensures.here c.without_bit-left.ensures.others c.without_bit-left.type_inv in
    rw (← c.self.view_is)
    (members_write c.self.inside.limit c.self.inside.words.items c.args.number c.without_bit-left.result false w)

pub returns-else-left-eq0 : goal.returns-else-left-eq0
returns-else-left-eq0 t c =
    let w : Written c.self.inside.limit c.self.inside.words.items c.args.number c.without_bit-left.result false =
    written c.self.inside.limit c.self.inside.words.items c.args.self.now c.args.number c.index.result.now
    c.without_bit-left.result false c.self.invariant.0 c.self.view_is c.requires c.index.ensures
    c.without_bit-left.ensures.here c.without_bit-left.ensures.others c.without_bit-left.type_inv in
    rw (← c.self.view_is)
    (members_write c.self.inside.limit c.self.inside.words.items c.args.number c.without_bit-left.result false w)
