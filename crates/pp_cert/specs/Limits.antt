-- The limits of certificates and of what they claim.
use Rattle.std.specs.Prelude.{ℕ, ◌+◌, max}
use Rattle.pp_settings.specs.Layout.{Geometry}
use Rattle.pp_settings.specs.Limits.{most_slots}

-- The most notes, and the most entries in a note: one for each slot.
abbrev pub most_notes : ℕ
most_notes = 70000

abbrev pub most_entries : ℕ
most_entries = most_slots

-- The greatest bound of a bundle in a pool with few frames.
abbrev pub usual_bound : ℕ
usual_bound = 4096

-- The greatest bound of a bundle under a layout: that, or as many pages as there are frames, where these are more. The least
-- is 1, since no entry means 0.
abbrev pub most_bound : Geometry → ℕ
most_bound g = max usual_bound g.frames

-- Where counting the pages of a bundle stops under a layout: one more than the greatest bound, so more than there are frames.
abbrev pub most_counted : Geometry → ℕ
most_counted g = most_bound g + 1

-- The most steps that a certificate may claim.
abbrev pub most_steps : ℕ
most_steps = 1000000

-- Where counting actions stops: one more than the steps that are allowed.
abbrev pub counted : ℕ
counted = most_steps + 1
