use Rattle.std.proofs.Common.{◌≡◌, ◌++◌, drop, string_bytes}
use Rattle.pp_simulate.specs.Lines.{cue_lines}
use Rattle.pp_simulate.proofs.printing.push_cues.Given as goal

abbrev pub invariant-loop-number : goal.invariant-loop-number
invariant-loop-number l =
    string_bytes l.initial.text ++ cue_lines l.cues l.lines
    ≡ string_bytes l.text ++ cue_lines (drop l.number l.cues) (drop l.number l.lines)
