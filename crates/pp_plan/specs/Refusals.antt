-- The refusals of a plan's text.
use Rattle.std.specs.Prelude.{ℕ, List, Bool, true, false, Option, Some, None, codes}
use Rattle.pp_text.specs.Refusals.{Matter, nothing, key, region_key, top, region, at, worker, Row, row}
use Rattle.pp_plan.specs.declared.error.PlanError.{PlanError}
use Rattle.pp_plan.specs.declared.error.PlanError.TheVariants.{NotJson, NoSuchStatement, WrongField, BadName}
use Rattle.pp_plan.specs.declared.error.PlanError.TheVariants.{NoSuchRegion, Range, TooDeep, TooMany, OutOfMemory}
use Rattle.pp_plan.specs.declared.error.PlanError.TheVariants.{MixedSlot}

-- The number, the name as a program prints it, and the statement, where one is at fault.
abbrev pub plan_error_row : PlanError → Row
plan_error_row NotJson = row 11 (codes "NotJson") nothing
plan_error_row (NoSuchStatement n) = row 12 (codes "NoSuchStatement") (at n)
plan_error_row (WrongField n) = row 13 (codes "WrongField") (at n)
plan_error_row (BadName n) = row 14 (codes "BadName") (at n)
plan_error_row (NoSuchRegion n) = row 15 (codes "NoSuchRegion") (at n)
plan_error_row (Range n) = row 16 (codes "Range") (at n)
plan_error_row (TooDeep n) = row 17 (codes "TooDeep") (at n)
plan_error_row (TooMany n) = row 18 (codes "TooMany") (at n)
plan_error_row OutOfMemory = row 19 (codes "OutOfMemory") nothing
plan_error_row (MixedSlot n) = row 20 (codes "MixedSlot") (at n)

abbrev pub plan_error_number : PlanError → ℕ
plan_error_number e = (plan_error_row e).number

abbrev pub plan_error_name : PlanError → List ℕ
plan_error_name e = (plan_error_row e).name

-- The place that a refusal is about, where it is about one.
abbrev pub matter_place : Matter → Option ℕ
matter_place (at n) = Some n
matter_place nothing = None
matter_place (key name) = None
matter_place (region_key i name) = None
matter_place top = None
matter_place (region i) = None
matter_place (worker w) = None

-- The number of the statement that is refused, where one is.
abbrev pub plan_error_statement : PlanError → Option ℕ
plan_error_statement e = matter_place (plan_error_row e).about

-- Want of memory, which says nothing of the text.
abbrev pub is_plan_memory : PlanError → Bool
is_plan_memory OutOfMemory = true
is_plan_memory _ = false
