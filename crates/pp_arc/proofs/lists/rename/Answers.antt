-- What is left to show of rename: there is room for the name that comes back, and what a search knows stays so.
use Rattle.std.proofs.Common.{◌≡◌, ◌≤◌, refl, arith, ap, sym, subst, ◌∙◌}
use Rattle.std.specs.Prelude.{Some, None, is_some}
use Rattle.pp_arc.specs.FourLists.{FourLists, list_of, times_named, total_count}
use Rattle.pp_arc.proofs.BoundLemmas.{times_named-forget, total_count-forget}
use Rattle.pp_arc.proofs.MoveLemmas.{room_after}
use Rattle.pp_arc.proofs.NameLemmas.{length-list_of}
use Rattle.pp_arc.proofs.SearchLemmas.{KeepsBut-rename}
use Rattle.pp_arc.proofs.lists.rename.Goals as goal

pub put_first-requires-clause-short : goal.put_first-requires-clause-short
put_first-requires-clause-short g c = omega (
  arith,
  length-list_of (g.L.Lists.lists c.take_out-2.new.self) c.in-Some.list,
  ap (λ (w : FourLists). total_count w) c.take_out-2.ensures.lists,
  total_count-forget (g.L.Lists.lists c.take_out.new.self) c.args.new,
  ap (λ (w : FourLists). total_count w) c.take_out.ensures.lists,
  total_count-forget (g.L.Lists.lists c.args.links.now) c.args.old,
  c.requires.short,
)

pub put_first-requires-clause-room : goal.put_first-requires-clause-room
put_first-requires-clause-room g c =
    room_after (g.L.Lists.lists c.args.links.now) (g.L.Lists.lists c.take_out.new.self)
    (g.L.Lists.lists c.take_out-2.new.self) c.args.old c.args.new
    (ap is_some (sym c.place-list.ensures.place ∙ c.in-Some.is)) c.take_out.ensures.lists c.take_out-2.ensures.lists
    c.requires.room

pub leave-requires-2 : goal.leave-requires-2
leave-requires-2 g c = record {
  once = λ x. subst (λ (w : FourLists). times_named w x ≤ 1) (sym c.take_out.ensures.lists)
      (omega (arith, times_named-forget (g.L.Lists.lists c.args.links.now) c.args.old x, c.requires.once x));
}

pub returns-in-Some-clause-knows : goal.returns-in-Some-clause-knows
returns-in-Some-clause-knows g c =
    KeepsBut-rename (g.L.Lists.lists c.args.links.now) (g.L.Lists.lists c.take_out.new.self)
    (g.L.Lists.lists c.take_out-2.new.self) (g.L.Lists.lists c.put_first.new.self) (Some c.in-Some.list)
    c.args.old c.args.new c.args.search.now c.leave.new.self c.leave-2.new.self c.take_out.ensures.lists
    c.take_out-2.ensures.lists c.put_first.ensures.lists c.leave.ensures.knows c.leave-2.ensures.knows

pub returns-in_default-clause-knows : goal.returns-in_default-clause-knows
returns-in_default-clause-knows g c =
    KeepsBut-rename (g.L.Lists.lists c.args.links.now) (g.L.Lists.lists c.take_out.new.self)
    (g.L.Lists.lists c.take_out-2.new.self) (g.L.Lists.lists c.take_out-2.new.self) None
    c.args.old c.args.new c.args.search.now c.leave.new.self c.leave-2.new.self c.take_out.ensures.lists
    c.take_out-2.ensures.lists refl c.leave.ensures.knows c.leave-2.ensures.knows
