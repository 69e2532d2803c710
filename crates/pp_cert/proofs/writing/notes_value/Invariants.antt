use Rattle.std.proofs.Common.{◌≡◌, map, take}
use Rattle.serde_json.specs.View.{view}
use Rattle.pp_cert.specs.Tree.{note_tree}
use Rattle.pp_cert.proofs.writing.notes_value.Given as goal

abbrev pub invariant-loop-note : goal.invariant-loop-note
invariant-loop-note l = map view l.values.items ≡ map (note_tree l.settings l.plan) (take l.note-index l.notes)
