-- What the check leaves to show of Marks::put_dirty.
use Rattle.std.proofs.Common.{◌≡◌, ◌∙◌, ◌<◌, ◌+◌, set, ap, sym, arith}
use Rattle.pp_frames.specs.Marks.{page_count, marks_of, is_dirty, is_flushable}
use Rattle.pp_frames.proofs.Steps.{flushes, room_for_dirty, some_dirty}
use Rattle.pp_frames.proofs.Narrow.{dirtied_kept}
use Rattle.pp_frames.specs.Kept.{Parts, bit}
use Rattle.pp_frames.specs.KeptInside.{parts_of}
use Rattle.pp_frames.proofs.marks.Marks.put_dirty.Goals as goal

pub recount-self-inside-requires-clause-more : goal.recount-self-inside-requires-clause-more
recount-self-inside-requires-clause-more c clean =
    let p : Parts = parts_of c.self.inside in
    let lt : c.args.page < page_count p.marks = rw (← c.self.view_is) at c.requires.page in
    omega (
      arith,
      room_for_dirty p.marks c.args.page lt (sym c.is_dirty.ensures ∙ clean),
      c.self.invariant.dirty,
      c.self.invariant.pages,
      c.self.invariant.pages_fit,
    )

pub recount-self-inside-requires-clause-less : goal.recount-self-inside-requires-clause-less
recount-self-inside-requires-clause-less c dirty =
    let p : Parts = parts_of c.self.inside in
    let lt : c.args.page < page_count p.marks = rw (← c.self.view_is) at c.requires.page in
    omega (arith, some_dirty p.marks c.args.page lt (sym c.is_dirty.ensures ∙ dirty), c.self.invariant.dirty)

pub invariant_of-self : goal.invariant_of-self
invariant_of-self c =
    let p : Parts = parts_of c.self.inside in
    let lt : c.args.page < page_count p.marks = rw (← c.self.view_is) at c.requires.page in
    let set_is : c.keep.new.set ≡ set p.flushable c.args.page
    (is_flushable (record (marks_of p.marks c.args.page) { dirty = c.args.is })) =
    c.keep.ensures
    ∙ ap (set p.flushable c.args.page)
    (c.is_flushable.ensures
    ∙ flushes p.marks c.set_dirty.new.self c.args.page (record (marks_of p.marks c.args.page) { dirty = c.args.is }) lt
    c.set_dirty.ensures) in
    let recounted : c.recount-self-inside.result + bit (is_dirty p.marks c.args.page) ≡ p.dirty + bit c.args.is =
    ap (λ b. c.recount-self-inside.result + bit b) (sym c.is_dirty.ensures) ∙ c.recount-self-inside.ensures in
    dirtied_kept p c.args.page c.self.invariant lt c.args.is c.set_dirty.new.self c.recount-self-inside.result
    c.keep.new.set c.set_dirty.ensures recounted set_is

pub returns-clause-sound : goal.returns-clause-sound
returns-clause-sound c =
    let p : Parts = parts_of c.self.inside in
    let lt : c.args.page < page_count p.marks = rw (← c.self.view_is) at c.requires.page in
    let set_is : c.keep.new.set ≡ set p.flushable c.args.page
    (is_flushable (record (marks_of p.marks c.args.page) { dirty = c.args.is })) =
    c.keep.ensures
    ∙ ap (set p.flushable c.args.page)
    (c.is_flushable.ensures
    ∙ flushes p.marks c.set_dirty.new.self c.args.page (record (marks_of p.marks c.args.page) { dirty = c.args.is }) lt
    c.set_dirty.ensures) in
    let recounted : c.recount-self-inside.result + bit (is_dirty p.marks c.args.page) ≡ p.dirty + bit c.args.is =
    ap (λ b. c.recount-self-inside.result + bit b) (sym c.is_dirty.ensures) ∙ c.recount-self-inside.ensures in
    (dirtied_kept p c.args.page c.self.invariant lt c.args.is c.set_dirty.new.self c.recount-self-inside.result
    c.keep.new.set c.set_dirty.ensures recounted set_is).sound
