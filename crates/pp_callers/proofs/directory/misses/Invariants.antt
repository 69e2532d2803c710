use Rattle.std.proofs.Common.{◌≡◌, ◌≤◌, false}
use Rattle.pp_arc.specs.Search.{KnowsBusy}
use Rattle.pp_callers.proofs.directory.misses.Given as goal

-- the directory knows the same page numbers all the time, the search passes over none, and each request misses once at most
abbrev pub invariant-loop-page : goal.invariant-loop-page
invariant-loop-page l = record {
  pages : l.directory.pages ≡ 100;
  knows : KnowsBusy l.directory l.search (λ _. false);
  misses : l.misses ≤ l.page-index;
}
