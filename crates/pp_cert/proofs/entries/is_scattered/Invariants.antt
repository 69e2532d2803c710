use Rattle.std.proofs.Common.{◌≡◌, drop}
use Rattle.pp_cert.specs.Notes.{same_note, without_bundle}
use Rattle.pp_cert.proofs.entries.is_scattered.Given as goal

abbrev pub invariant-loop-entry : goal.invariant-loop-entry
invariant-loop-entry l =
    same_note l.left (without_bundle l.slot (drop l.entry-index l.before))
    ≡ same_note l.after (without_bundle l.slot l.before)
