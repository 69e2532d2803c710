-- What is left to show of Directory::forget: what is cached without the page.
use Rattle.pp_arc.proofs.CacheLemmas.{CachesWithout-forget}
use Rattle.pp_arc.proofs.StepLemmas.{room-forget, place-forget}
use Rattle.pp_arc.proofs.SizeLemmas.{fewer-forget}
use Rattle.std.proofs.Common.{sym, subst}
use Rattle.pp_arc.specs.FourLists.{FourLists}
use Rattle.pp_arc.specs.Figure.{forget}
use Rattle.pp_arc.proofs.SearchLemmas.{Keeps}
use Rattle.pp_arc.proofs.directory.Directory.forget.Goals as goal

pub returns-clause-room : goal.returns-clause-room
returns-clause-room g c = λ here.
    rw c.take_out.ensures.lists (room-forget c.args.self.now c.args.page c.take_out.ensures.were_bounds here)

pub returns-clause-gone : goal.returns-clause-gone
returns-clause-gone g c = rw c.take_out.ensures.lists (place-forget c.args.self.now c.args.page)

pub returns-clause-cache : goal.returns-clause-cache
returns-clause-cache g c = rw c.take_out.ensures.lists (CachesWithout-forget c.args.self.now c.args.page)

pub returns-clause-fewer : goal.returns-clause-fewer
returns-clause-fewer g c = λ here.
    rw c.take_out.ensures.lists (fewer-forget c.args.self.now c.args.page c.take_out.ensures.were_bounds here)

pub returns-clause-knows : goal.returns-clause-knows
returns-clause-knows g c =
    subst (λ (w : FourLists). Keeps c.args.self.now w c.args.search.now c.leave.new.self c.args.page)
    (sym c.take_out.ensures.lists)
    (subst (λ (w : FourLists). Keeps w (forget w c.args.page) c.args.search.now c.leave.new.self c.args.page)
    c.self.view_is c.leave.ensures.knows)
