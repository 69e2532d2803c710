-- What is copied so far: the pages before the place that comes next.
use Rattle.std.proofs.Common.{◌≡◌, take}
use Rattle.std.specs.Prelude.{slice_get, vec_capacity}
use Rattle.pp_arc.specs.FourLists.{list_of}
use Rattle.pp_outset.proofs.outset.copy_pages.Given as goal

abbrev pub invariant-loop : goal.invariant-loop
invariant-loop l = record {
  at : l.at ≡ slice_get (list_of l.fn.directory l.fn.list) l.counter;
  items : l.into.items ≡ take l.counter (list_of l.fn.directory l.fn.list);
  room : vec_capacity l.into ≡ vec_capacity l.fn.into;
}
