-- The limits of plans that pp_plan alone needs. Those of statements, depth and slots are in pp_settings.
use Rattle.std.specs.Prelude.{ℕ}

-- How many turns a loop may have.
abbrev pub most_turns : ℕ
most_turns = 65535

-- How many branches a choice may have.
abbrev pub most_branches : ℕ
most_branches = 16

-- How many bytes a slot's name may have.
abbrev pub longest_name : ℕ
longest_name = 16
