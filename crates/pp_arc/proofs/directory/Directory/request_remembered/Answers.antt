-- What is left to show of Directory::request_remembered: there is room for the remembered page once REPLACE ran.
use Rattle.std.proofs.Common.{◌≡◌, ◌≤◌, arith}
use Rattle.pp_arc.specs.FourLists.{FourLists, times_named}
use Rattle.pp_arc.specs.Bounds.{IsWithinBounds}
use Rattle.pp_arc.specs.Figure.{after_replace}
use Rattle.pp_arc.proofs.StepLemmas.{MakesRoom, HasMadeRoom, HasMadeRoom-after_replace, room-after_replace}
use Rattle.pp_arc.proofs.StepLemmas.{bounds-at_target}
use Rattle.std.proofs.Common.{sym, subst}
use Rattle.pp_arc.specs.Search.{SearchMarks, KnowsBusy, FoundIn}
use Rattle.pp_arc.specs.Figure.{with_front_of_t2}
use Rattle.pp_arc.proofs.SearchLemmas.{KnowsBusy-remembered_page}
use Rattle.pp_arc.proofs.directory.Directory.request_remembered.Goals as goal

pub move_to_t2-requires : goal.move_to_t2-requires
move_to_t2-requires g c =
    let s : FourLists = record c.args.self.now { target = c.args.target } in
    let h : IsWithinBounds s = bounds-at_target c.args.self.now c.args.target c.replacement-answer.ensures.bounds
    c.requires.aimed in
    let m : MakesRoom s c.replacement-answer.result = record {
      free = c.replacement-answer.ensures.free;
      victim = c.replacement-answer.ensures.victim_is_cached;
      no_hit = c.replacement-answer.ensures.no_hit;
      not_busy = c.in_default.not-AllBusy;
    } in
    let named : 1 ≤ times_named s c.args.page = omega (arith, c.requires.remembered) in
    let e : c.replace.new.self ≡ after_replace s c.replacement-answer.result = cc in
    let d : HasMadeRoom s (after_replace s c.replacement-answer.result) = HasMadeRoom-after_replace s
    c.replacement-answer.result h m in
    rw e record {
      below = rw d.same_pages c.requires.below;
      cached_room = rw d.same_c (room-after_replace s c.replacement-answer.result c.args.page h m named).0;
      total_room = rw d.same_c (room-after_replace s c.replacement-answer.result c.args.page h m named).1;
    }

pub returns-clause-knows : goal.returns-clause-knows
returns-clause-knows g c =
    let s : FourLists = record c.args.self.now { target = c.args.target } in
    let e : c.replace.new.self ≡ after_replace s c.replacement-answer.result = cc in
    let f : FoundIn s c.replacement-answer.new.search (g.B.Busy.busy c.args.busy.now) c.replacement-answer.result =
    record {
      knows = c.replacement-answer.ensures.found.knows;
      t1 = c.replacement-answer.ensures.found.t1;
      t2 = c.replacement-answer.ensures.found.t2;
    } in
    subst (λ (w : FourLists). KnowsBusy w c.replace.new.search (g.B.Busy.busy c.args.busy.now))
    (sym c.move_to_t2.ensures.lists)
    (subst (λ (w : FourLists). KnowsBusy (with_front_of_t2 w c.args.page) c.replace.new.search
    (g.B.Busy.busy c.args.busy.now)) (sym e)
    (subst (λ (k : SearchMarks). KnowsBusy (with_front_of_t2 (after_replace s c.replacement-answer.result)
    c.args.page) k
    (g.B.Busy.busy c.args.busy.now)) (sym c.replace.ensures.numbers)
    (KnowsBusy-remembered_page s c.args.page c.replacement-answer.new.search (g.B.Busy.busy c.args.busy.now)
    c.replacement-answer.result c.replacement-answer.ensures.bounds.once c.requires.remembered f)))
