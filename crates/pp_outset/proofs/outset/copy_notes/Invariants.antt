-- What is copied so far: the notes of the pages before the one that comes next.
use Rattle.std.proofs.Common.{◌≡◌}
use Rattle.std.specs.Prelude.{map, vec_capacity}
use Rattle.std.specs.List.{range_with_len}
use Rattle.pp_outset.specs.Inside.{note_as}
use Rattle.pp_outset.specs.Outsets.{note_in}
use Rattle.pp_outset.proofs.outset.copy_notes.Given as goal

abbrev pub invariant-loop-page : goal.invariant-loop-page
invariant-loop-page l = record {
  notes : map note_as l.into.items ≡ map (note_in l.fn.marks) (range_with_len 0 l.page);
  room : vec_capacity l.into ≡ vec_capacity l.fn.into;
}
