use Rattle.std.proofs.Common.{◌≡◌, ◌++◌, ◌-◌, string_bytes}
use Rattle.pp_simulate.specs.Lines.{queued_lines}
use Rattle.pp_simulate.proofs.printing.push_queued.Given as goal

abbrev pub invariant-loop-number : goal.invariant-loop-number
invariant-loop-number l =
    string_bytes l.initial.text ++ queued_lines 0 l.plans
    ≡ string_bytes l.text ++ queued_lines l.number (l.plans - l.number)
