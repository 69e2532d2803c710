-- What is left to show of Directory::request_in_t1: there is room for the new page once the victim left T1.
use Rattle.std.proofs.Common.{◌≡◌, true, sym, subst, ◌∙◌}
use Rattle.std.specs.Prelude.{Some}
use Rattle.pp_arc.specs.Pages.{contains, last_not_busy}
use Rattle.pp_arc.specs.FourLists.{FourLists}
use Rattle.pp_arc.specs.Search.{SearchMarks, KnowsBusy}
use Rattle.pp_arc.specs.Figure.{forget, with_front_of_t1}
use Rattle.pp_arc.proofs.VictimLemmas.{contains-last_not_busy}
use Rattle.pp_arc.proofs.StepLemmas.{HasRoomForNew, HasRoomForNew-forget}
use Rattle.pp_arc.proofs.SearchLemmas.{KnowsBusy-in_t1}
use Rattle.pp_arc.proofs.directory.Directory.request_in_t1.Goals as goal

pub put_in_t1-requires : goal.put_in_t1-requires
put_in_t1-requires g c =
    let found : last_not_busy c.args.self.now.t1 (g.B.Busy.busy c.args.busy.now) ≡ Some c.in-Some.victim =
    sym c.last_not_busy.ensures.last ∙ c.in-Some.is in
    let here : contains c.args.self.now.t1 c.in-Some.victim ≡ true = contains-last_not_busy c.args.self.now.t1
    (g.B.Busy.busy c.args.busy.now) c.in-Some.victim found in
    let r : HasRoomForNew (forget c.args.self.now c.in-Some.victim) c.args.self.now.c c.args.page = HasRoomForNew-forget
    c.args.self.now c.in-Some.victim c.args.page c.take_out.ensures.were_bounds c.requires.absent here in
    rw c.take_out.ensures.lists record {
      below = c.requires.below;
      absent = r.absent;
      cached_room = r.cached_room;
      recent_room = r.recent_room;
      total_room = r.total_room;
    }

pub returns-in-Some-clause-knows : goal.returns-in-Some-clause-knows
returns-in-Some-clause-knows g c =
    subst (λ (w : FourLists). KnowsBusy w c.clear.new.self (g.B.Busy.busy c.args.busy.now))
    (sym c.put_in_t1.ensures.lists)
    (subst (λ (w : FourLists). KnowsBusy (with_front_of_t1 w c.args.page) c.clear.new.self
    (g.B.Busy.busy c.args.busy.now)) (sym c.take_out.ensures.lists)
    (subst (λ (k : SearchMarks). KnowsBusy (with_front_of_t1 (forget c.args.self.now c.in-Some.victim) c.args.page) k
    (g.B.Busy.busy c.args.busy.now)) (sym c.clear.ensures)
    (KnowsBusy-in_t1 c.args.self.now c.args.page c.in-Some.victim c.last_not_busy.new.search
    (g.B.Busy.busy c.args.busy.now) c.requires.absent c.in-Some.ensures.marks.0 c.in-Some.ensures.marks.1
    c.last_not_busy.ensures.knows)))
