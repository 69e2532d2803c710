-- A device's file: the images of its pages, one behind the other.
use Rattle.std.specs.Prelude.{ℕ, ◌*◌, List, map, take, drop}
use Rattle.std.specs.List.{concat, range_with_len}
use Rattle.pp_device.specs.Image.{blank_image}

-- The file of a device with so many pages to which nothing was written, each of so many bytes.
unfoldable pub blank_file : (pages page_bytes : ℕ) → List ℕ
blank_file pages page_bytes = concat (map (blank_image page_bytes) (range_with_len 0 pages))

-- The image of a page in a file: so many bytes, from that many times the page's number on.
abbrev pub page_in_file : (bytes : List ℕ) (page_bytes page : ℕ) → List ℕ
page_in_file bytes page_bytes page = take page_bytes (drop (page * page_bytes) bytes)
