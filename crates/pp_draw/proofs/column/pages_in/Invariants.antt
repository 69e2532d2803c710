use Rattle.std.proofs.Common.{◌≡◌}
use Rattle.pp_draw.specs.Columns.{pages_below}
use Rattle.pp_draw.proofs.column.pages_in.Given as goal

abbrev pub invariant-loop-page : goal.invariant-loop-page
invariant-loop-page l = l.pages.items ≡ pages_below l.marks l.drawn l.page
