-- The slots of a plan by their names.
use Rattle.std.specs.Prelude.{ℕ, List, Option, position}
use Rattle.std.specs.Str.{bytes_eq}
use Rattle.pp_plan.specs.Terms.{Terms}

-- The number of the slot with this name, if the plan has one.
abbrev pub slot_named : Terms → List ℕ → Option ℕ
slot_named p name = position (λ n. bytes_eq n name) p.slots
