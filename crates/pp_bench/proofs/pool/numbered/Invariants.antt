-- What the loop keeps true: the buffer is as long as a page.
use Rattle.std.proofs.Common.{◌≡◌, length}
use Rattle.pp_bench.proofs.pool.numbered.Given as goal

abbrev pub invariant-loop-page : goal.invariant-loop-page
invariant-loop-page l = length l.bytes.items ≡ l.page_bytes
