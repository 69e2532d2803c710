use Rattle.std.proofs.Common.{◌≡◌, None, drop, map, flat_map}
use Rattle.pp_report.specs.Journals.{journal_lines}
use Rattle.pp_segments.specs.Auditing.{Progress, begin_fault, outset, pass_lines}
use Rattle.pp_segments.specs.Auditors.{IsAt}
use Rattle.pp_segments.proofs.auditing.verdict.Given as goal

abbrev pub invariant-loop-text : goal.invariant-loop-text
invariant-loop-text l =
    (begin_fault l.fn.settings l.fn.prepared.items ≡ None)
    × (q : Progress) × IsAt l.fn.prepared.items l.auditor q
    × (pass_lines l.fn.prepared.items (outset l.fn.settings) (flat_map journal_lines (map (λ text. text.now) l.texts))
    ≡ pass_lines l.fn.prepared.items q (flat_map journal_lines (drop l.text-index (map (λ text. text.now) l.texts))))
