-- What the loop keeps true: the directory's pages, what the search knows, and no more misses than requests.
use Rattle.std.proofs.Common.{◌≤◌, false}
use Rattle.pp_arc.specs.Search.{KnowsBusy}
use Rattle.pp_bench.proofs.directory.misses.Given as goal

abbrev pub invariant-loop : goal.invariant-loop
invariant-loop l = record {
  pages : 65536 ≤ l.directory.pages;
  knows : KnowsBusy l.directory l.search (λ _. false);
  count : l.count ≤ l.counter;
}
