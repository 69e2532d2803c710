-- What the loop keeps true: the directory's pages, what the search knows, and no more misses than requests.
use Rattle.std.proofs.Common.{◌≡◌, ◌<◌, ◌≤◌, nat_lt}
use Rattle.pp_arc.specs.Search.{KnowsBusy}
use Rattle.pp_bench.proofs.pinned.misses.Given as goal

abbrev pub invariant-loop : goal.invariant-loop
invariant-loop l = record {
  pages : l.directory.pages ≡ l.fn.directory.pages;
  page : l.page < 65536;
  knows : KnowsBusy l.directory l.search (λ page. nat_lt page l.fn.held);
  count : l.count ≤ l.counter;
}
