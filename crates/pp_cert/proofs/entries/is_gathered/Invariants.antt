use Rattle.std.proofs.Common.{◌≡◌, drop}
use Rattle.std.specs.Prelude.{if◌then◌else◌}
use Rattle.pp_cert.specs.Notes.{same_note, without_bundle, with_bound}
use Rattle.pp_cert.proofs.entries.is_gathered.Given as goal

abbrev pub invariant-loop-entry : goal.invariant-loop-entry
invariant-loop-entry l =
    same_note l.left
    (if l.is_past then without_bundle l.slot (drop l.entry-index l.before) else with_bound l.slot l.bound
    (drop l.entry-index l.before))
    ≡ same_note l.after (with_bound l.slot l.bound l.before)
