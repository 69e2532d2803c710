use Rattle.std.proofs.Common.{◌≡◌, ◌++◌, drop, string_bytes}
use Rattle.pp_segments.specs.Segments.{IsNamed, event_lines, lines_words, segment_words}
use Rattle.pp_segments.proofs.text.segment_text.Given as goal

-- The whole text is what stands there, then the lines of the events that are left, with the names that are left. Of
-- these there are as many as submits that are left.
abbrev pub invariant-loop-place : goal.invariant-loop-place
invariant-loop-place l =
    (segment_words l.segment l.plans_before (record { events = l.journal.items; prepared = l.prepared })
    ≡ string_bytes l.text ++ lines_words (event_lines (drop l.place l.journal.items) (drop l.next l.prepared)))
    × IsNamed (record { events = drop l.place l.journal.items; prepared = drop l.next l.prepared })
