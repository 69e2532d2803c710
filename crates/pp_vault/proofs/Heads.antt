-- The head of an image that gets one.
use Rattle.std.proofs.Common.{◌≡◌, ℕ, ◌<◌, ◌^◌, List}
use Rattle.std.proofs.lemmas.Nat.{from_be_bytes-to_be_bytes_4, from_be_bytes-to_be_bytes_8}
use Rattle.pp_device.specs.Image.{with_head, head_of}

pub head_written : (image : List ℕ) (page stamp : ℕ) → page < 2 ^ 32 → stamp < 2 ^ 64
    → head_of (with_head image page stamp) ≡ (page, stamp)
head_written image page stamp p s =
    λ i. (from_be_bytes-to_be_bytes_4 page p i, from_be_bytes-to_be_bytes_8 stamp s i)
