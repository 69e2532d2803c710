-- What the check leaves to show of Records::held.
use Rattle.std.proofs.Common.{◌∙◌, ◌<◌, length, ap, sym, arith}
use Rattle.pp_frames.specs.declared.held.Held.{Held}
use Rattle.pp_frames.specs.Arrays.{latches_at}
use Rattle.pp_frames.specs.ArraysInside.{arrays_of}
use Rattle.pp_frames.proofs.Tables.{frame_low, held_read, held_none, pins_are, latches_are}
use Rattle.pp_frames.proofs.records.Records.held.Goals as goal

pub index-requires : goal.index-requires
index-requires c =
    let a = arrays_of c.self.inside in
    let low : c.in-Some.frame < length a.held =
    frame_low a c.self.invariant c.args.page c.in-Some.frame
    (sym c.in-Some.is ∙ (rw (← c.self.view_is) at c.frame.ensures)) in
    omega (arith, low, c.self.inside.held.ok.0)

pub returns-in-Some-clause-pins : goal.returns-in-Some-clause-pins
returns-in-Some-clause-pins c =
    let a = arrays_of c.self.inside in
    rw (← c.self.view_is)
    (ap (λ (h : Held). h.pins)
    (held_read a c.self.invariant c.args.page c.in-Some.frame c.index.result.now
    (sym c.in-Some.is ∙ (rw (← c.self.view_is) at c.frame.ensures)) c.index.ensures)
    ∙ sym (pins_are a c.self.invariant c.args.page))

pub returns-in-Some-clause-latches : goal.returns-in-Some-clause-latches
returns-in-Some-clause-latches c =
    let a = arrays_of c.self.inside in
    rw (← c.self.view_is)
    (ap latches_at
    (held_read a c.self.invariant c.args.page c.in-Some.frame c.index.result.now
    (sym c.in-Some.is ∙ (rw (← c.self.view_is) at c.frame.ensures)) c.index.ensures)
    ∙ sym (latches_are a c.self.invariant c.args.page))

pub returns-in-None-clause-pins : goal.returns-in-None-clause-pins
returns-in-None-clause-pins c =
    let a = arrays_of c.self.inside in
    rw (← c.self.view_is)
    (ap (λ (h : Held). h.pins)
    (c.not_at_all.ensures
    ∙ held_none a c.self.invariant c.args.page (sym c.in-None.is ∙ (rw (← c.self.view_is) at c.frame.ensures)))
    ∙ sym (pins_are a c.self.invariant c.args.page))

pub returns-in-None-clause-latches : goal.returns-in-None-clause-latches
returns-in-None-clause-latches c =
    let a = arrays_of c.self.inside in
    rw (← c.self.view_is)
    (ap latches_at
    (c.not_at_all.ensures
    ∙ held_none a c.self.invariant c.args.page (sym c.in-None.is ∙ (rw (← c.self.view_is) at c.frame.ensures)))
    ∙ sym (latches_are a c.self.invariant c.args.page))
