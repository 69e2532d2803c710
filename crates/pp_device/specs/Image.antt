-- The image of a page: its bytes as a device keeps them.
use Rattle.std.specs.Prelude.{ℕ, List, ◌++◌, take, drop, replicate}
use Rattle.std.specs.Int.{w32, w64, to_be_bytes, from_be_bytes}

-- Bytes 0 to 3 are the number of the page, and bytes 4 to 11 its stamp, both big-endian. The rest is the body.
abbrev pub head_of : List ℕ → ℕ × ℕ
head_of image = (from_be_bytes w32 (take 4 image), from_be_bytes w64 (take 8 (drop 4 image)))

abbrev pub body_of : List ℕ → List ℕ
body_of image = drop 12 image

-- The image with this number and this stamp at its front, and with its body as it was.
abbrev pub with_head : List ℕ → ℕ → ℕ → List ℕ
with_head image page stamp = to_be_bytes w32 page ++ to_be_bytes w64 stamp ++ body_of image

-- The image of a page to which nothing was written: its number, the stamp 0, and zeros.
abbrev pub blank_image : ℕ → ℕ → List ℕ
blank_image page_bytes page = with_head (replicate page_bytes 0) page 0
