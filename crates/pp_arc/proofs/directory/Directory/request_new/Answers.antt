-- What is left to show of Directory::request_new: room for the new page, once a name was dropped and REPLACE ran.
use Rattle.std.proofs.Common.{◌≡◌, arith}
use Rattle.pp_arc.specs.Figure.{after_replace}
use Rattle.pp_arc.proofs.StepLemmas.{MakesRoom, HasMadeRoom, HasMadeRoom-after_replace}
use Rattle.std.proofs.Common.{sym, subst}
use Rattle.pp_arc.specs.FourLists.{FourLists}
use Rattle.pp_arc.specs.Search.{SearchMarks, KnowsBusy}
use Rattle.pp_arc.specs.Figure.{with_front_of_t1}
use Rattle.pp_arc.proofs.SearchLemmas.{KnowsBusy-new_page}
use Rattle.pp_arc.proofs.directory.Directory.request_new.Goals as goal

pub put_in_t1-requires : goal.put_in_t1-requires
put_in_t1-requires g c =
    let same : c.drop_a_name.new.self.c ≡ c.args.self.now.c = c.drop_a_name.ensures.fixed.0 in
    let t1 : c.drop_a_name.new.self.t1 ≡ c.args.self.now.t1 = c.drop_a_name.ensures.same_cache.0 in
    let t2 : c.drop_a_name.new.self.t2 ≡ c.args.self.now.t2 = c.drop_a_name.ensures.same_cache.1 in
    let m : MakesRoom c.drop_a_name.new.self c.replacement-answer.result = record {
      free = λ e. rw (t1, t2, same) (c.replacement-answer.ensures.free e);
      victim = λ v e. rw (t1, t2) (c.replacement-answer.ensures.victim_is_cached v e);
      no_hit = c.replacement-answer.ensures.no_hit;
      not_busy = c.in_default.not-AllBusy;
    } in
    let d : HasMadeRoom c.drop_a_name.new.self (after_replace c.drop_a_name.new.self c.replacement-answer.result) =
    HasMadeRoom-after_replace c.drop_a_name.new.self c.replacement-answer.result c.drop_a_name.ensures.bounds m in
    rw c.replace.ensures.lists record {
      below = rw d.same_pages (rw c.drop_a_name.ensures.fixed.1 c.requires.below);
      absent = omega (arith, d.times c.args.page, c.drop_a_name.ensures.fewer c.args.page, c.requires.absent);
      cached_room = rw d.same_c d.cached;
      recent_room = omega (arith, d.recent, d.same_c, c.drop_a_name.ensures.recent_room);
      total_room = omega (arith, d.total, d.same_c, c.drop_a_name.ensures.total_room);
    }

pub returns-clause-knows : goal.returns-clause-knows
returns-clause-knows g c =
    subst (λ (w : FourLists). KnowsBusy w c.replace.new.search (g.B.Busy.busy c.args.busy.now))
    (sym c.put_in_t1.ensures.lists)
    (subst (λ (w : FourLists). KnowsBusy (with_front_of_t1 w c.args.page) c.replace.new.search
    (g.B.Busy.busy c.args.busy.now)) (sym c.replace.ensures.lists)
    (subst (λ (k : SearchMarks). KnowsBusy
    (with_front_of_t1 (after_replace c.drop_a_name.new.self c.replacement-answer.result) c.args.page) k
    (g.B.Busy.busy c.args.busy.now)) (sym c.replace.ensures.numbers)
    (KnowsBusy-new_page c.args.self.now c.drop_a_name.new.self c.args.page c.replacement-answer.new.search
    (g.B.Busy.busy c.args.busy.now) c.replacement-answer.result c.drop_a_name.ensures.bounds.once c.requires.absent
    c.drop_a_name.ensures.fixed.1 c.drop_a_name.ensures.same_cache.0 c.drop_a_name.ensures.same_cache.1
    c.replacement-answer.ensures.found)))
