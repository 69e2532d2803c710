use Rattle.std.proofs.Common.{map, sym, subst, ◌∙◌}
use Rattle.serde_json.specs.View.{view}
use Rattle.pp_cert.specs.Claims.{IsNote}
use Rattle.pp_cert.proofs.Tree.{notes_done}
use Rattle.pp_cert.proofs.writing.notes_value.Goals as goal

pub note_value-requires-clause-note : goal.note_value-requires-clause-note
note_value-requires-clause-note c =
    subst (IsNote c.args.settings.now c.args.plan.now) (sym (c.entries.ensures ∙ c.note-item.is))
    (c.requires.notes c.loop-note.note-index c.note-item.result c.loop-note-test.true)

pub returns : goal.returns
returns c = c.from.ensures
    ∙ notes_done c.args.settings.now c.args.plan.now (map view c.loop-note.values.items) c.args.notes.now
    c.loop-note.note-index c.loop-note.invariant c.loop-note-test.false
