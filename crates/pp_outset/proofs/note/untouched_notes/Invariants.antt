use Rattle.std.proofs.Common.{◌≡◌, ◌≤◌, replicate}
use Rattle.std.specs.Prelude.{map, vec_len, vec_capacity}
use Rattle.pp_model.specs.Pool.{untouched}
use Rattle.pp_outset.specs.Inside.{note_as}
use Rattle.pp_outset.proofs.note.untouched_notes.Given as goal

abbrev pub invariant-loop : goal.invariant-loop
invariant-loop l = record {
  notes : map note_as l.notes.items ≡ replicate l.counter untouched;
  room : l.pages ≤ vec_capacity l.notes;
  count : vec_len l.notes ≡ l.counter;
}
