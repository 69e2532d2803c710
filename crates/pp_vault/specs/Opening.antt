-- A vault in which nothing was done yet.
use Rattle.std.specs.Prelude.{ℕ, Option, Some, List, replicate}

-- An image of so many zeros.
abbrev pub zeros : (page_bytes : ℕ) → List ℕ
zeros page_bytes = replicate page_bytes 0

-- Such an image in each frame.
abbrev pub opening_images : (frames page_bytes : ℕ) → List (Option (List ℕ))
opening_images frames page_bytes = replicate frames (Some (zeros page_bytes))
