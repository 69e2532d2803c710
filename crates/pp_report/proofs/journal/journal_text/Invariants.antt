use Rattle.std.proofs.Common.{◌≡◌, ◌++◌, drop, string_bytes}
use Rattle.pp_report.specs.Lines.{journal_words}
use Rattle.pp_report.proofs.journal.journal_text.Given as goal

abbrev pub invariant-loop-event : goal.invariant-loop-event
invariant-loop-event l =
    journal_words l.events ≡ string_bytes l.text ++ journal_words (drop l.event-index l.events)
