use Rattle.std.proofs.Common.{◌≡◌, ◌+◌, ◌*◌, ◌≤◌, drop}
use Rattle.pp_cert.specs.Notes.{note_pins}
use Rattle.pp_cert.proofs.note.Note.pins.Given as goal

abbrev pub invariant-loop-entry : goal.invariant-loop-entry
invariant-loop-entry l = record {
  sum : l.pins + note_pins (drop l.entry-index l.entry-items) ≡ note_pins l.entry-items;
  small : l.pins ≤ 4294967295 * l.entry-index;
}
