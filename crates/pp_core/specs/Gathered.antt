-- The pages of bundles, as the core keeps them: those of a worker's slot in a stack of their own, the last on top.
use Rattle.std.specs.Prelude.{◌≡◌, ℕ, ◌+◌, ◌*◌, ◌<◌, ◌==◌, Option, None, Some, List, [], length, map, filter}
use Rattle.std.specs.Prelude.{sum_by, count_by, slice_get}
use Rattle.pp_settings.specs.Limits.{most_slots}
use Rattle.pp_bundles.specs.Bundles.{PageStacks, place_count, pages_at, all_pages}
use Rattle.pp_model.specs.Pool.{Running, State}
use Rattle.pp_model.specs.Holders.{holdings}

-- Where the stack of a worker's slot is.
abbrev pub bundle_place : (w slot : ℕ) → ℕ
bundle_place w slot = most_slots * w + slot

-- The pages of a seat's slot, where that is a bundle, the last first; none of another slot.
abbrev pub bundle_in : Option Running → (slot : ℕ) → List ℕ
bundle_in None slot = []
bundle_in (Some r) slot = map (λ h. h.page) (filter (λ h. h.bundled) (filter (λ h. h.slot == slot) (holdings r)))

-- How many pins of bundles a seat has, and how many there are in all.
abbrev pub bundle_pins : Option Running → ℕ
bundle_pins None = 0
bundle_pins (Some r) = count_by (λ h. h.bundled) (holdings r)

abbrev pub all_bundle_pins : State → ℕ
all_bundle_pins s = sum_by bundle_pins s.seats

-- The stacks have what the workers hold, and there is a record for each frame.
pub record BundlesFit (stacks : PageStacks) (s : State) : Type 0 where
  pub places : place_count stacks ≡ most_slots * length s.seats
  pub each : (w slot : ℕ) (x : Option Running) → slot < most_slots → slice_get s.seats w ≡ Some x
      → pages_at stacks (bundle_place w slot) ≡ bundle_in x slot
  pub room : stacks.room ≡ s.settings.layout.frames
  pub pins : all_pages stacks ≡ all_bundle_pins s
