use Rattle.std.proofs.Common.{◌≡◌, take}
use Rattle.serde_json.specs.View.{members_view}
use Rattle.pp_cert.specs.Tree.{entry_members}
use Rattle.pp_cert.proofs.writing.note_value.Given as goal

abbrev pub invariant-loop-entry : goal.invariant-loop-entry
invariant-loop-entry l = members_view l.members.entries ≡ entry_members l.settings l.plan (take l.entry-index l.entries)
