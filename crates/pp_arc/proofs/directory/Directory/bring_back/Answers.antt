-- What is left to show of Directory::bring_back: there is room for the victim, and what is cached then.
use Rattle.std.proofs.Common.{◌≡◌, ◌≢◌, true, false, arith}
use Rattle.pp_arc.specs.FourLists.{is_cached}
use Rattle.pp_arc.specs.Figure.{bring_back}
use Rattle.pp_arc.proofs.CacheLemmas.{CachesAgain-bring_back}
use Rattle.pp_arc.proofs.StepLemmas.{place-bring_back}
use Rattle.pp_arc.proofs.BoundLemmas.{cached_count-forget, total_count-forget}
use Rattle.std.proofs.Common.{sym, subst}
use Rattle.pp_arc.specs.FourLists.{FourLists}
use Rattle.pp_arc.proofs.SearchLemmas.{KeepsBut, KeepsBut-bring_back}
use Rattle.pp_arc.proofs.directory.Directory.bring_back.Goals as goal

pub move_to_t2-requires-clause-cached_room : goal.move_to_t2-requires-clause-cached_room
move_to_t2-requires-clause-cached_room g c = omega
    (arith, cached_count-forget c.forget.new.self c.args.victim, c.forget.ensures.room c.requires.cached)

pub move_to_t2-requires-clause-total_room : goal.move_to_t2-requires-clause-total_room
move_to_t2-requires-clause-total_room g c = omega
    (arith, total_count-forget c.forget.new.self c.args.victim, c.forget.ensures.room c.requires.cached)

pub returns-clause-gone : goal.returns-clause-gone
returns-clause-gone g c =
    let e : c.move_to_t2.new.self ≡ bring_back c.args.self.now c.args.page c.args.victim = cc in
    let here : is_cached c.args.self.now c.args.page ≡ true = c.requires.cached in
    let gone : is_cached c.args.self.now c.args.victim ≡ false = c.requires.gone in
    let ne : c.args.victim ≢ c.args.page = λ same. cc in
    rw e (place-bring_back c.args.self.now c.args.page c.args.victim ne)

pub returns-clause-cache : goal.returns-clause-cache
returns-clause-cache g c =
    let e : c.move_to_t2.new.self ≡ bring_back c.args.self.now c.args.page c.args.victim = cc in
    rw e (CachesAgain-bring_back c.args.self.now c.args.page c.args.victim)

pub returns-clause-knows : goal.returns-clause-knows
returns-clause-knows g c =
    subst (λ (w : FourLists). KeepsBut c.args.self.now w c.args.search.now c.forget.new.search c.args.page
    c.args.victim)
    (sym c.move_to_t2.ensures.lists)
    (KeepsBut-bring_back c.args.self.now c.forget.new.self c.args.page c.args.victim c.args.search.now
    c.forget.new.search c.requires.gone c.forget.ensures.lists c.forget.ensures.knows)
