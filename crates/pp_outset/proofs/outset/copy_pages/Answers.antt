-- What is left to show of copy_pages: one page more is copied.
use Rattle.std.proofs.Common.{◌≡◌, ◌∙◌, ◌∷◌, ◌++◌, [], sym, ap, arith}
use Rattle.std.specs.Prelude.{Some, None, slice_get}
use Rattle.pp_arc.specs.FourLists.{list_of}
use Rattle.pp_outset.proofs.Walking.{after-at, take_next, none_past}
use Rattle.pp_outset.proofs.outset.copy_pages.Goals as goal
use Rattle.pp_outset.proofs.outset.copy_pages.Goals.{in-Some, in_default}

pub loop-preserved : goal.loop-preserved
loop-preserved c = elim c.match-at.branch [
  | in-Some w ↦
      let l = list_of c.args.directory.now c.args.list in
      let e : slice_get l c.loop.counter ≡ Some w.in-Some.page = sym c.loop.invariant.at ∙ w.in-Some.is in
      rw (w.into-is, w.at-is) (record {
        at = w.after-at.ensures.after
            ∙ after-at c.args.directory.now c.args.list c.loop.counter w.in-Some.page c.front-at.ensures.bounds e;
        items = w.push_reserved.ensures.items ∙ ap (λ xs. xs ++ w.in-Some.page ∷ []) c.loop.invariant.items
            ∙ sym (take_next l c.loop.counter w.in-Some.page e);
        room = w.push_reserved.ensures.capacity ∙ c.loop.invariant.room;
      })
  | in_default w ↦
      let l = list_of c.args.directory.now c.args.list in
      let none : slice_get l c.loop.counter ≡ None = sym c.loop.invariant.at ∙ w.in_default.is in
      absurd (omega (arith, c.len-end.ensures.len, c.loop-test.true, none_past l c.loop.counter none))
]
