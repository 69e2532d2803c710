-- What is left to show of pour: the last page of one fits into the other.
use Rattle.std.proofs.Common.{◌≡◌, ◌++◌, [], sym, ap, ◌∙◌}
use Rattle.std.specs.Prelude.{None}
use Rattle.pp_arc.specs.Pages.{last_page}
use Rattle.pp_arc.specs.FourLists.{list_of}
use Rattle.pp_arc.specs.Links.{with_list}
use Rattle.pp_arc.proofs.MoveLemmas.{Fits, fits}
use Rattle.pp_arc.proofs.SizeLemmas.{left_step, into_step, last-none}
use Rattle.pp_arc.proofs.lists.pour.Goals as goal

pub put_first-requires : goal.put_first-requires
put_first-requires g c =
    let f : Fits (g.L.Lists.lists c.loop-page.from) (g.L.Lists.lists c.loop-page.to) c.args.list c.in-Some.page =
    fits (g.L.Lists.lists c.loop-page.from) (g.L.Lists.lists c.loop-page.to) c.args.list c.in-Some.page
    c.loop-page.invariant.fits (sym c.in-Some.ensures) in
    record { below = f.moves.low; absent = f.moves.absent; short = f.short; room = f.room }

pub loop-page-preserved : goal.loop-page-preserved
loop-page-preserved g c =
    let f : Fits (g.L.Lists.lists c.loop-page.from) (g.L.Lists.lists c.loop-page.to) c.args.list c.in-Some.page =
    fits (g.L.Lists.lists c.loop-page.from) (g.L.Lists.lists c.loop-page.to) c.args.list c.in-Some.page
    c.loop-page.invariant.fits (sym c.in-Some.ensures) in
    record {
      left = left_step (g.L.Lists.lists c.loop-page.from) (g.L.Lists.lists c.args.from.now)
          (g.L.Lists.lists c.drop_last.new.self) c.args.list c.loop-page.invariant.left c.drop_last.ensures.lists;
      into = into_step (g.L.Lists.lists c.loop-page.to) (g.L.Lists.lists c.args.to.now)
          (g.L.Lists.lists c.put_first.new.self) c.args.list c.in-Some.page c.loop-page.invariant.into
          c.put_first.ensures.lists;
      all = rw (c.drop_last.ensures.lists, c.put_first.ensures.lists) f.moves.all ∙ c.loop-page.invariant.all;
      fits = rw (c.drop_last.ensures.lists, c.put_first.ensures.lists) f.rest;
    }

pub returns-clause-left : goal.returns-clause-left
returns-clause-left g c =
    let none : last_page (list_of (g.L.Lists.lists c.loop-page.from) c.args.list) ≡ None = cc in
    c.loop-page.invariant.left
    ∙ ap (with_list (g.L.Lists.lists c.args.from.now) c.args.list)
    (last-none (list_of (g.L.Lists.lists c.loop-page.from) c.args.list) none)

pub returns-clause-lists : goal.returns-clause-lists
returns-clause-lists g c =
    let none : last_page (list_of (g.L.Lists.lists c.loop-page.from) c.args.list) ≡ None = cc in
    let empty : list_of (g.L.Lists.lists c.loop-page.from) c.args.list ≡ [] =
    last-none (list_of (g.L.Lists.lists c.loop-page.from) c.args.list) none in
    c.loop-page.invariant.into
    ∙ ap (with_list (g.L.Lists.lists c.args.to.now) c.args.list)
    (ap (λ xs. xs ++ list_of (g.L.Lists.lists c.loop-page.to) c.args.list) (sym empty) ∙ c.loop-page.invariant.all)
