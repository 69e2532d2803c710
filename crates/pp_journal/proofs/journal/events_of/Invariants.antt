use Rattle.std.proofs.Common.{◌≡◌, length, take}
use Rattle.std.specs.Prelude.{map, vec_len, vec_capacity}
use Rattle.pp_journal.specs.Entries.{event_of}
use Rattle.pp_journal.proofs.journal.events_of.Given as goal

abbrev pub invariant-loop-entry : goal.invariant-loop-entry
invariant-loop-entry l =
    (l.events.items ≡ map (event_of l.others) (take l.entry-index l.entries))
    × (vec_len l.events ≡ l.entry-index)
    × (vec_capacity l.events ≡ length l.entries)
