-- What a worker's slots hold, as the core keeps it: at place k what slot k holds.
use Rattle.std.specs.Prelude.{ℕ, ◌+◌, ◌-◌, true, false, if◌then◌else◌, Option, None, Some, option_map, List, slice_index_or, slice_set}
use Rattle.std.specs.Prelude.{position}
use Rattle.std.specs.Option.{is_some}
use Rattle.pp_plan.specs.declared.action.Action.{Action}
use Rattle.pp_plan.specs.declared.action.Action.TheVariants.{Fix, Unfix, Latch, Unlatch, Gather, Scatter, Choose}
use Rattle.pp_cert.specs.declared.note.Held.{Held}
use Rattle.pp_cert.specs.declared.note.Held.TheVariants.{Free}
use Rattle.pp_cert.specs.Held.{Holding, held_in}
use Rattle.pp_core.specs.declared.seat.Hold.{Hold}

-- What the slot holds. A slot past the last one holds nothing.
abbrev pub hold_at : List (Option Hold) → ℕ → Option Hold
hold_at slots slot = slice_index_or slots slot None

-- The least slot that holds a page.
abbrev pub first_filled : List (Option Hold) → Option ℕ
first_filled slots = position is_some slots

-- A holding without its slot.
abbrev pub hold_of : Holding → Hold
hold_of h = record { page = h.page; held = h.held; bundled = h.bundled }

-- A page of the slot's own, not latched yet; and one of a bundle.
abbrev pub plain_hold : (page : ℕ) → Hold
plain_hold page = record { page = page; held = Free; bundled = false }

abbrev pub bundle_hold : (page : ℕ) → Hold
bundle_hold page = record { page = page; held = Free; bundled = true }

-- The slot's page, if it holds one, is held so from now on.
abbrev pub held_as : Held → ℕ → List (Option Hold) → List (Option Hold)
held_as held slot slots =
    slice_set slots slot (option_map (λ h. record { page = h.page; held = held; bundled = h.bundled }) (hold_at slots slot))

-- The slots after an action, and how many of them hold something. Of a bundle the slot has the page that was gathered last.
abbrev pub slots_after : Action → List (Option Hold) → List (Option Hold)
slots_after (Fix slot page) slots = slice_set slots slot (Some (plain_hold page))
slots_after (Unfix slot) slots = slice_set slots slot None
slots_after (Latch slot m) slots = held_as (held_in m) slot slots
slots_after (Unlatch slot) slots = held_as Free slot slots
slots_after (Gather slot page) slots = slice_set slots slot (Some (bundle_hold page))
slots_after (Scatter slot) slots = slice_set slots slot None
slots_after (Choose i) slots = slots

abbrev pub count_after : Action → List (Option Hold) → ℕ → ℕ
count_after (Fix slot page) slots count = count + 1
count_after (Unfix slot) slots count = count - 1
count_after (Latch slot m) slots count = count
count_after (Unlatch slot) slots count = count
count_after (Gather slot page) slots count = if is_some (hold_at slots slot) then count else count + 1
count_after (Scatter slot) slots count = count - 1
count_after (Choose i) slots count = count
