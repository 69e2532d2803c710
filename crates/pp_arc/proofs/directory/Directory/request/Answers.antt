-- What is left to show of Directory::request: the user's laws follow from the figure.
use Rattle.pp_arc.proofs.LawLemmas.{RequestAnswers-request}
use Rattle.pp_arc.proofs.CacheLemmas.{CachesInstead-request, SameSizes-request}
use Rattle.pp_arc.proofs.directory.Directory.request.Goals as goal

pub returns-clause-fixed : goal.returns-clause-fixed
returns-clause-fixed g c = rw c.request_by_place.ensures.lists
    (SameSizes-request c.args.self.now c.args.page (g.B.Busy.busy c.args.busy.now))

pub returns-clause-free : goal.returns-clause-free
returns-clause-free g c = rw c.request_by_place.ensures.answer
    (RequestAnswers-request c.args.self.now c.args.page (g.B.Busy.busy c.args.busy.now)
    c.request_by_place.ensures.were_bounds).free

pub returns-clause-all_busy : goal.returns-clause-all_busy
returns-clause-all_busy g c = rw c.request_by_place.ensures.answer
    (RequestAnswers-request c.args.self.now c.args.page (g.B.Busy.busy c.args.busy.now)
    c.request_by_place.ensures.were_bounds).all_busy

pub returns-clause-victim_was_cached : goal.returns-clause-victim_was_cached
returns-clause-victim_was_cached g c = rw c.request_by_place.ensures.answer
    (RequestAnswers-request c.args.self.now c.args.page (g.B.Busy.busy c.args.busy.now)
    c.request_by_place.ensures.were_bounds).cached

pub returns-clause-victim_is_not_busy : goal.returns-clause-victim_is_not_busy
returns-clause-victim_is_not_busy g c = rw c.request_by_place.ensures.answer
    (RequestAnswers-request c.args.self.now c.args.page (g.B.Busy.busy c.args.busy.now)
    c.request_by_place.ensures.were_bounds).not_busy

pub returns-clause-cache : goal.returns-clause-cache
returns-clause-cache g c = rw (c.request_by_place.ensures.answer, c.request_by_place.ensures.lists)
    (CachesInstead-request c.args.self.now c.args.page (g.B.Busy.busy c.args.busy.now)
    c.request_by_place.ensures.were_bounds)

pub returns-clause-hit : goal.returns-clause-hit
returns-clause-hit g c = rw c.request_by_place.ensures.answer
    (RequestAnswers-request c.args.self.now c.args.page (g.B.Busy.busy c.args.busy.now)
    c.request_by_place.ensures.were_bounds).hit
