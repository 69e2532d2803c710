-- What the loop keeps true: the directory's page numbers, and what the search knows.
use Rattle.std.proofs.Common.{◌≡◌, nat_lt}
use Rattle.pp_arc.specs.Search.{KnowsBusy}
use Rattle.pp_test_parts.proofs.directory.victims.Given as goal

abbrev pub invariant-loop-page : goal.invariant-loop-page
invariant-loop-page l = record {
  pages : l.directory.pages ≡ 2048;
  knows : KnowsBusy l.directory l.search (λ page. nat_lt page 60);
}
