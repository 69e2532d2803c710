-- What the check leaves to show of Marks::hand_on.
use Rattle.std.proofs.Common.{◌≡◌, ◌∙◌, ◌<◌, set, ap, true, false, Some, None}
use Rattle.std.specs.Prelude.{IsSome}
use Rattle.pp_frames.specs.Marks.{page_count, pins_of, frame_of, marks_of, is_flushable, with_frame}
use Rattle.pp_frames.specs.Kept.{Parts, put}
use Rattle.pp_frames.specs.KeptInside.{parts_of}
use Rattle.pp_frames.proofs.HandedOn.{read_frame, is_free_between, handed_kept}
use Rattle.pp_frames.proofs.marks.Marks.hand_on.Goals as goal

pub set_frame-requires-2-clause-free : goal.set_frame-requires-2-clause-free
set_frame-requires-2-clause-free c =
    let p : Parts = parts_of c.self.inside in
    let placed : IsSome (frame_of p.marks c.args.from) = rw (← c.self.view_is) at c.requires.placed in
    let unpinned : pins_of p.marks c.args.from ≡ 0 = rw (← c.self.view_is) at c.requires.unpinned in
    let stands : frame_of p.marks c.args.from ≡ Some c.unwrap_or-frame.result =
    read_frame (frame_of p.marks c.args.from) c.frame.result c.unwrap_or-frame.result c.frame.ensures placed
    c.unwrap_or-frame.ensures in
    rw c.set_frame.ensures
    (is_free_between p c.args.from c.unwrap_or-frame.result c.self.invariant stands unpinned)

pub invariant_of-self : goal.invariant_of-self
invariant_of-self c =
    let p : Parts = parts_of c.self.inside in
    let placed : IsSome (frame_of p.marks c.args.from) = rw (← c.self.view_is) at c.requires.placed in
    let unpinned : pins_of p.marks c.args.from ≡ 0 = rw (← c.self.view_is) at c.requires.unpinned in
    let stands : frame_of p.marks c.args.from ≡ Some c.unwrap_or-frame.result =
    read_frame (frame_of p.marks c.args.from) c.frame.result c.unwrap_or-frame.result c.frame.ensures placed
    c.unwrap_or-frame.ensures in
    let low : c.args.to < page_count (with_frame p.marks c.args.from None) = rw (← c.self.view_is) at c.requires.page in
    let to_unpinned : pins_of (with_frame p.marks c.args.from None) c.args.to ≡ 0 =
    rw (← c.self.view_is) at c.requires.to_unpinned in
    let new_is : c.set_frame-2.new.self
    ≡ with_frame (with_frame p.marks c.args.from None) c.args.to (Some c.unwrap_or-frame.result) =
    c.set_frame-2.ensures ∙ ap (λ m. with_frame m c.args.to (Some c.unwrap_or-frame.result)) c.set_frame.ensures in
    let left : c.frame-left.result ≡ frame_of (with_frame p.marks c.args.from None) c.args.to =
    c.frame-left.ensures ∙ ap (λ m. frame_of m c.args.to) c.set_frame.ensures in
    let free_is : c.exchange.new.free ≡ put p.free (frame_of (with_frame p.marks c.args.from None) c.args.to) true =
    c.exchange.ensures ∙ ap (λ o. put p.free o true) left in
    let last_set : c.keep-2.new.set
    ≡ set (set p.flushable c.args.from false) c.args.to (is_flushable (marks_of c.set_frame-2.new.self c.args.to)) =
    c.keep-2.ensures
    ∙ ap (λ s. set s c.args.to c.is_flushable.result) c.keep.ensures
    ∙ ap (set (set p.flushable c.args.from false) c.args.to) c.is_flushable.ensures in
    handed_kept p c.args.from c.unwrap_or-frame.result c.self.invariant stands unpinned c.args.to c.set_frame-2.new.self
    c.exchange.new.free c.keep-2.new.set low to_unpinned new_is free_is last_set

pub returns-clause-sound : goal.returns-clause-sound
returns-clause-sound c =
    let p : Parts = parts_of c.self.inside in
    let placed : IsSome (frame_of p.marks c.args.from) = rw (← c.self.view_is) at c.requires.placed in
    let unpinned : pins_of p.marks c.args.from ≡ 0 = rw (← c.self.view_is) at c.requires.unpinned in
    let stands : frame_of p.marks c.args.from ≡ Some c.unwrap_or-frame.result =
    read_frame (frame_of p.marks c.args.from) c.frame.result c.unwrap_or-frame.result c.frame.ensures placed
    c.unwrap_or-frame.ensures in
    let low : c.args.to < page_count (with_frame p.marks c.args.from None) = rw (← c.self.view_is) at c.requires.page in
    let to_unpinned : pins_of (with_frame p.marks c.args.from None) c.args.to ≡ 0 =
    rw (← c.self.view_is) at c.requires.to_unpinned in
    let new_is : c.set_frame-2.new.self
    ≡ with_frame (with_frame p.marks c.args.from None) c.args.to (Some c.unwrap_or-frame.result) =
    c.set_frame-2.ensures ∙ ap (λ m. with_frame m c.args.to (Some c.unwrap_or-frame.result)) c.set_frame.ensures in
    let left : c.frame-left.result ≡ frame_of (with_frame p.marks c.args.from None) c.args.to =
    c.frame-left.ensures ∙ ap (λ m. frame_of m c.args.to) c.set_frame.ensures in
    let free_is : c.exchange.new.free ≡ put p.free (frame_of (with_frame p.marks c.args.from None) c.args.to) true =
    c.exchange.ensures ∙ ap (λ o. put p.free o true) left in
    let last_set : c.keep-2.new.set
    ≡ set (set p.flushable c.args.from false) c.args.to (is_flushable (marks_of c.set_frame-2.new.self c.args.to)) =
    c.keep-2.ensures
    ∙ ap (λ s. set s c.args.to c.is_flushable.result) c.keep.ensures
    ∙ ap (set (set p.flushable c.args.from false) c.args.to) c.is_flushable.ensures in
    (handed_kept p c.args.from c.unwrap_or-frame.result c.self.invariant stands unpinned c.args.to
    c.set_frame-2.new.self
    c.exchange.new.free c.keep-2.new.set low to_unpinned new_is free_is last_set).sound
