-- What the check leaves to show of NumberSet::insert.
use Rattle.std.proofs.Common.{◌∙◌, ◌<◌, ◌/◌, ◌%◌, true, ltb, length, sym, ap, arith}
use Rattle.std.proofs.lemmas.Bool.{lt-ltb}
use Rattle.pp_frames.specs.Words.{IsSummary}
use Rattle.pp_frames.proofs.Spelling.{Written, written, read_word, below_limit, length_members, place_in, spelled_write}
use Rattle.pp_frames.proofs.Spelling.{members_write, some_bits, summary_set, summed_kept, summed_alone}
use Rattle.pp_frames.proofs.number_set.NumberSet.+insert.Goals as goal

pub index-old-requires : goal.index-old-requires
index-old-requires t c =
    omega (
      arith,
      c.self.invariant.0.room,
      c.self.inside.words.ok.0,
      below_limit c.self.inside.limit c.self.inside.words.items c.args.self.now c.args.number c.self.view_is
          c.requires,
    )

pub index_mut-requires : goal.index_mut-requires
index_mut-requires t c =
    omega (
      arith,
      c.self.invariant.0.room,
      c.self.inside.words.ok.0,
      below_limit c.self.inside.limit c.self.inside.words.items c.args.self.now c.args.number c.self.view_is
          c.requires,
    )

pub insert-requires : goal.insert-requires
insert-requires t c =
    let summed : IsSummary c.self.inside.limit c.self.inside.words.items c.in-Words.words.value =
    rw c.in-Words.is at c.self.invariant.1 in
    let smaller : length c.deref_mut.result.now < length c.args.self.now =
    omega (
      arith,
      summed.fewer,
      summed.each,
      ap length c.deref_mut.ensures.value,
      ap length c.self.view_is,
      length_members c.self.inside.limit c.self.inside.words.items,
    ) in
    let within : c.args.number / 64 < length c.deref_mut.result.now =
    omega (
      arith,
      summed.each,
      ap length c.deref_mut.ensures.value,
      c.self.invariant.0.room,
      below_limit c.self.inside.limit c.self.inside.words.items c.args.self.now c.args.number c.self.view_is
          c.requires,
    ) in
    (omega (arith, c.decreases, smaller), within)

pub invariant_of-self : goal.invariant_of-self
invariant_of-self t c =
    let w : Written c.self.inside.limit c.self.inside.words.items c.args.number c.with_bit.result true =
    written c.self.inside.limit c.self.inside.words.items c.args.self.now c.args.number c.index-old.result.now
    c.with_bit.result true c.self.invariant.0 c.self.view_is c.requires c.index-old.ensures c.with_bit.ensures.here
    (λ k _ away. c.with_bit.ensures.others k away) c.with_bit.type_inv in
    let summed : IsSummary c.self.inside.limit c.self.inside.words.items c.in-Words.words.value =
    rw c.in-Words.is at c.self.invariant.1 in (
      spelled_write c.self.inside.limit c.self.inside.words.items c.args.number c.with_bit.result true w,
      rw (c.insert.ensures, c.deref_mut.ensures.value)
          (summary_set c.self.inside.limit c.self.inside.words.items (c.args.number / 64) c.with_bit.result
          (place_in c.self.inside.limit c.self.inside.words.items c.args.number c.with_bit.result true w)
          c.in-Words.words.value true summed
          (lt-ltb 0 c.with_bit.result (some_bits c.with_bit.result (c.args.number % 64) w.here))),
    )

pub invariant_of-self-in_default : goal.invariant_of-self-in_default
invariant_of-self-in_default t c =
    let w : Written c.self.inside.limit c.self.inside.words.items c.args.number c.with_bit.result true =
    written c.self.inside.limit c.self.inside.words.items c.args.self.now c.args.number c.index-old.result.now
    c.with_bit.result true c.self.invariant.0 c.self.view_is c.requires c.index-old.ensures c.with_bit.ensures.here
    (λ k _ away. c.with_bit.ensures.others k away) c.with_bit.type_inv in (
      spelled_write c.self.inside.limit c.self.inside.words.items c.args.number c.with_bit.result true w,
      summed_alone c.self.inside.limit c.self.inside.words.items (c.args.number / 64) c.with_bit.result
          (place_in c.self.inside.limit c.self.inside.words.items c.args.number c.with_bit.result true w)
          c.self.inside.above c.in_default.not-Words c.self.invariant.1,
    )

pub invariant_of-self-else-old-eq0 : goal.invariant_of-self-else-old-eq0
invariant_of-self-else-old-eq0 t c =
    let w : Written c.self.inside.limit c.self.inside.words.items c.args.number c.with_bit.result true =
    written c.self.inside.limit c.self.inside.words.items c.args.self.now c.args.number c.index-old.result.now
    c.with_bit.result true c.self.invariant.0 c.self.view_is c.requires c.index-old.ensures c.with_bit.ensures.here
    (λ k _ away. c.with_bit.ensures.others k away) c.with_bit.type_inv in (
      spelled_write c.self.inside.limit c.self.inside.words.items c.args.number c.with_bit.result true w,
      summed_kept c.self.inside.limit c.self.inside.words.items (c.args.number / 64) c.with_bit.result
          (place_in c.self.inside.limit c.self.inside.words.items c.args.number c.with_bit.result true w)
          c.self.inside.above c.self.invariant.1
          (sym (ap (ltb 0)
          (read_word c.self.inside.limit c.self.inside.words.items c.args.number c.index-old.result.now
          c.self.invariant.0 w.below c.index-old.ensures))
          ∙ lt-ltb 0 c.index-old.result.now (omega (arith, c.if-old-eq0.false))
          ∙ sym (lt-ltb 0 c.with_bit.result
          (some_bits c.with_bit.result (c.args.number % 64) w.here))),
    )

pub returns-in-Words : goal.returns-in-Words
returns-in-Words t c =
    let w : Written c.self.inside.limit c.self.inside.words.items c.args.number c.with_bit.result true =
    written c.self.inside.limit c.self.inside.words.items c.args.self.now c.args.number c.index-old.result.now
    c.with_bit.result true c.self.invariant.0 c.self.view_is c.requires c.index-old.ensures c.with_bit.ensures.here
    (λ k _ away. c.with_bit.ensures.others k away) c.with_bit.type_inv in
    rw (← c.self.view_is)
    (members_write c.self.inside.limit c.self.inside.words.items c.args.number c.with_bit.result true w)

pub returns-in_default : goal.returns-in_default
returns-in_default t c =
    let w : Written c.self.inside.limit c.self.inside.words.items c.args.number c.with_bit.result true =
    written c.self.inside.limit c.self.inside.words.items c.args.self.now c.args.number c.index-old.result.now
    c.with_bit.result true c.self.invariant.0 c.self.view_is c.requires c.index-old.ensures c.with_bit.ensures.here
    (λ k _ away. c.with_bit.ensures.others k away) c.with_bit.type_inv in
    rw (← c.self.view_is)
    (members_write c.self.inside.limit c.self.inside.words.items c.args.number c.with_bit.result true w)

pub returns-else-old-eq0 : goal.returns-else-old-eq0
returns-else-old-eq0 t c =
    let w : Written c.self.inside.limit c.self.inside.words.items c.args.number c.with_bit.result true =
    written c.self.inside.limit c.self.inside.words.items c.args.self.now c.args.number c.index-old.result.now
    c.with_bit.result true c.self.invariant.0 c.self.view_is c.requires c.index-old.ensures c.with_bit.ensures.here
    (λ k _ away. c.with_bit.ensures.others k away) c.with_bit.type_inv in
    rw (← c.self.view_is)
    (members_write c.self.inside.limit c.self.inside.words.items c.args.number c.with_bit.result true w)
