use Rattle.std.proofs.Common.{◌≡◌, ◌++◌, drop, string_bytes}
use Rattle.pp_report.specs.Lines.{journal_words}
use Rattle.pp_report.proofs.journal.packed_journal_text.Given as goal

abbrev pub invariant-loop-place : goal.invariant-loop-place
invariant-loop-place l =
    journal_words l.journal.items ≡ string_bytes l.text ++ journal_words (drop l.place l.journal.items)
