use Rattle.std.proofs.Common.{sym, ap, ◌∙◌}
use Rattle.std.specs.Prelude.{slice_get}
use Rattle.serde_json.specs.View.{view, members_view}
use Rattle.pp_cert.proofs.Tree.{entry_step, note_done}
use Rattle.pp_cert.proofs.writing.note_value.Goals as goal

pub loop-entry-preserved : goal.loop-entry-preserved
loop-entry-preserved c =
    entry_step c.args.settings.now c.args.plan.now c.requires.names c.args.entries.now c.loop-entry.entry-index _
    c.slot_name.result.now (view c.in_ok-value.value) (members_view c.loop-entry.members.entries)
    (members_view c.put.new.map.entries) c.requires.note c.loop-entry-test.true c.in_ok-put.ensures.ok
    c.in_ok-value.ensures (ap (slice_get c.args.plan.now.slots) (sym c.slot.ensures) ∙ c.slot_name.ensures)
    c.loop-entry.invariant

pub returns : goal.returns
returns c = c.from.ensures
    ∙ note_done c.args.settings.now c.args.plan.now (members_view c.loop-entry.members.entries) c.args.entries.now
    c.loop-entry.entry-index c.loop-entry.invariant c.loop-entry-test.false
