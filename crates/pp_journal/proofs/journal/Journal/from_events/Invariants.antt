use Rattle.std.proofs.Common.{◌≡◌, length, take}
use Rattle.pp_journal.proofs.journal.Journal.from_events.Given as goal

abbrev pub invariant-loop-event : goal.invariant-loop-event
invariant-loop-event l =
    (l.journal.items ≡ take l.event-index l.events)
    × (length l.journal.items ≡ l.event-index)
    × (l.journal.capacity ≡ length l.events)
