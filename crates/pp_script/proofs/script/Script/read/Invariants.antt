use Rattle.std.proofs.Common.{◌≡◌, ℕ, ◌+◌, ◌≤◌, length, Option, Some, None, List}
use Rattle.std.specs.Borrow.{Bor}
use Rattle.pp_text.specs.Parts.{later_parts}
use Rattle.pp_script.specs.Reading.{reading, reading_from}
use Rattle.pp_script.proofs.script.Script.read.Given as goal

-- the bytes that are left, and one for the line that they begin
abbrev left_of : Option (Bor (List ℕ)) → ℕ
left_of None = 0
left_of (Some rest) = length rest.now + 1

abbrev pub invariant-loop-left : goal.invariant-loop-left
invariant-loop-left l = record {
  counted : l.number + left_of l.left ≤ length l.fn.text + 1;
  kept : reading_from l.script l.number (later_parts 10 l.left) ≡ reading l.fn.text;
}

abbrev pub decreases-loop-left : goal.decreases-loop-left
decreases-loop-left l = left_of l.left
