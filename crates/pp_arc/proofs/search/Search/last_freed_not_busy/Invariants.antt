-- What the search in Search::last_freed_not_busy keeps true.
use Rattle.std.specs.Prelude.{sum_by}
use Rattle.pp_arc.specs.FourLists.{FourLists}
use Rattle.pp_arc.specs.Search.{KnowsBusy, freed_of}
use Rattle.pp_arc.specs.Passed.{counts}
use Rattle.pp_arc.proofs.search.Search.last_freed_not_busy.Given as goal

-- what was known is known
abbrev pub invariant-loop-page : goal.invariant-loop-page
invariant-loop-page g l =
    (s : FourLists) → KnowsBusy s l.fn.self (g.B.Busy.busy l.busy) → KnowsBusy s l.self (g.B.Busy.busy l.busy)

-- how many pages are among the freed ones
abbrev pub decreases-loop-page : goal.decreases-loop-page
decreases-loop-page g l = sum_by counts (freed_of l.self l.list)
