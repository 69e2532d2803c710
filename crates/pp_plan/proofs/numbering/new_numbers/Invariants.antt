use Rattle.std.proofs.Common.{◌≡◌, ◌-◌, ◌++◌, length, map, take, replicate, string_bytes}
use Rattle.pp_plan.specs.Numbering.{new_number}
use Rattle.pp_plan.proofs.numbering.new_numbers.Given as goal

abbrev pub invariant-loop-slot : goal.invariant-loop-slot
invariant-loop-slot l = record {
  long : length l.numbers ≡ 32;
  filled : l.numbers
      ≡ map (λ s. new_number (map string_bytes l.ordered) (string_bytes s)) (take l.slot l.names)
      ++ replicate (32 - l.slot) 0;
}
