-- What the check leaves to show of Marks::move_to.
use Rattle.std.proofs.Common.{◌≡◌, ◌∙◌, set, ap, true, false}
use Rattle.pp_frames.specs.Marks.{frame_of, marks_of, is_flushable}
use Rattle.pp_frames.specs.Kept.{put}
use Rattle.pp_frames.proofs.Moves.{kept_moved}
use Rattle.pp_frames.specs.Kept.{Parts}
use Rattle.pp_frames.specs.KeptInside.{parts_of}
use Rattle.pp_frames.proofs.marks.Marks.move_to.Goals as goal

pub invariant_of-self : goal.invariant_of-self
invariant_of-self c =
    let p : Parts = parts_of c.self.inside in
    let free_is : c.exchange.new.free ≡ put (put p.free (frame_of p.marks c.args.page) true) c.args.frame false =
    c.exchange.ensures ∙ ap (λ o. put (put p.free o true) c.args.frame false) c.frame-left.ensures in
    let set_is : c.keep.new.set ≡ set p.flushable c.args.page
    (is_flushable (marks_of c.set_frame.new.self c.args.page)) =
    c.keep.ensures ∙ ap (set p.flushable c.args.page) c.is_flushable.ensures in
    kept_moved p c.args.page c.args.frame c.set_frame.new.self c.exchange.new.free c.keep.new.set c.self.invariant
    (rw (← c.self.view_is) at c.requires.page) (rw (← c.self.view_is) at c.requires.unpinned)
    (rw (← c.self.view_is) at c.requires.free) c.set_frame.ensures free_is set_is

pub returns-clause-sound : goal.returns-clause-sound
returns-clause-sound c =
    let p : Parts = parts_of c.self.inside in
    let free_is : c.exchange.new.free ≡ put (put p.free (frame_of p.marks c.args.page) true) c.args.frame false =
    c.exchange.ensures ∙ ap (λ o. put (put p.free o true) c.args.frame false) c.frame-left.ensures in
    let set_is : c.keep.new.set ≡ set p.flushable c.args.page
    (is_flushable (marks_of c.set_frame.new.self c.args.page)) =
    c.keep.ensures ∙ ap (set p.flushable c.args.page) c.is_flushable.ensures in
    (kept_moved p c.args.page c.args.frame c.set_frame.new.self c.exchange.new.free c.keep.new.set c.self.invariant
    (rw (← c.self.view_is) at c.requires.page) (rw (← c.self.view_is) at c.requires.unpinned)
    (rw (← c.self.view_is) at c.requires.free) c.set_frame.ensures free_is set_is).sound
