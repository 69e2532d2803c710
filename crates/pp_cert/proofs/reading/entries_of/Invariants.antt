use Rattle.std.proofs.Common.{◌≡◌, []}
use Rattle.serde_json.specs.View.{members_view}
use Rattle.pp_cert.specs.Reading.{entries_from}
use Rattle.pp_cert.proofs.reading.entries_of.Given as goal

abbrev pub invariant-loop-key : goal.invariant-loop-key
invariant-loop-key l =
    entries_from l.settings l.plan l.entries.items (members_view l.key-iterator)
    ≡ entries_from l.settings l.plan [] (members_view l.members.entries)
