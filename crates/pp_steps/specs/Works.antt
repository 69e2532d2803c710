-- The work of one step.
use Rattle.std.specs.Prelude.{◌≡◌, ◌+◌, ℕ, ◌&&◌, nat_le, nat_lt, None, Some, if◌then◌else◌}
use Rattle.pp_pool.specs.declared.work.Work as Work
use Rattle.pp_steps.specs.declared.named.Named.{Named}

-- The number that was named, where it is one of so many from the first one on; else the first one.
abbrev pub named_page : (argument first count : ℕ) → ℕ
named_page argument first count =
    if nat_le first argument && nat_lt argument (first + count) then argument else first

-- The number that was named, where it is below so many; else 0.
abbrev pub named_branch : (argument count : ℕ) → ℕ
named_branch argument count = if nat_lt argument count then argument else 0

-- The work of a step with this argument, whose plan hasn't ended.
abbrev pub naming : (argument : ℕ) → Named
naming argument = record { argument = argument; end = None }

-- What its calls do: it names what the host has named, looks at the least that can be shown, leaves pages as they are, and notes the
-- plan's end.
abbrev pub named_calls : Work.Ghosts Named
named_calls = record {
  page_gives = λ w region first count page after. (page ≡ named_page w.argument first count) × (after ≡ w);
  branch_gives = λ w count branch after. (branch ≡ named_branch w.argument count) × (after ≡ w);
  reach_gives = λ w bytes. bytes ≡ 0;
  change_leaves = λ w page before left after. (left ≡ before) × (after ≡ w);
  see_leaves = λ w page mark image after. after ≡ w;
  page_into_gives = λ w slot kind region first count page after. ⊥;
  begins_leaves = λ w plan after. ⊥;
  ended_leaves = λ w end after. after ≡ record w { end = Some end };
  wants_rework_gives = λ wanted. ⊥;
  rework_leaves = λ w off before left after. ⊥;
}
