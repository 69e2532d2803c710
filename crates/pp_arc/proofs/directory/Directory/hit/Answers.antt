-- What is left to show of Directory::hit: the cached page leaves room, and what the search knows stays right.
use Rattle.std.proofs.Common.{sym, subst}
use Rattle.pp_arc.specs.FourLists.{FourLists}
use Rattle.pp_arc.specs.Bounds.{IsWithinBounds}
use Rattle.pp_arc.specs.Figure.{forget}
use Rattle.pp_arc.specs.Search.{KnowsBusy}
use Rattle.pp_arc.proofs.StepLemmas.{room-forget}
use Rattle.pp_arc.proofs.SearchLemmas.{Keeps, KnowsBusy-moved}
use Rattle.pp_arc.proofs.directory.Directory.hit.Goals as goal

pub move_to_t2-requires-clause-cached_room : goal.move_to_t2-requires-clause-cached_room
move_to_t2-requires-clause-cached_room g c =
    (room-forget c.args.self.now c.args.page (subst IsWithinBounds c.self.view_is c.self.invariant.bounds)
    c.requires.cached).0

pub move_to_t2-requires-clause-total_room : goal.move_to_t2-requires-clause-total_room
move_to_t2-requires-clause-total_room g c =
    (room-forget c.args.self.now c.args.page (subst IsWithinBounds c.self.view_is c.self.invariant.bounds)
    c.requires.cached).1

pub returns-clause-knows : goal.returns-clause-knows
returns-clause-knows g c busy h =
    let keeps : Keeps c.args.self.now (forget c.args.self.now c.args.page) c.args.search.now c.leave.new.self
    c.args.page = subst (λ (w : FourLists). Keeps w (forget w c.args.page) c.args.search.now c.leave.new.self
    c.args.page) c.self.view_is c.leave.ensures.knows in
    subst (λ (w : FourLists). KnowsBusy w c.leave.new.self busy) (sym c.move_to_t2.ensures.lists)
    (KnowsBusy-moved c.args.self.now c.args.page c.leave.new.self busy (keeps busy busy h (λ y ne b. b)))
