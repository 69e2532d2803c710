-- Where the pages of a shared device are: in memory or in a file.
use Rattle.std.specs.Prelude.{ℕ, Bool, true, false, vec_len}
use Rattle.pp_shared.specs.declared.store.Store.{Store}
use Rattle.pp_shared.specs.declared.store.Store.TheVariants.{Memory, File}

-- Whether they are in memory.
abbrev pub is_memory : Store → Bool
is_memory (Memory m) = true
is_memory (File f) = false

-- How many there are.
abbrev pub pages_of : Store → ℕ
pages_of (Memory m) = vec_len m.images
pages_of (File f) = f.pages

-- How many bytes the image of each has.
abbrev pub page_bytes_of : Store → ℕ
page_bytes_of (Memory m) = m.page_bytes
page_bytes_of (File f) = f.page_bytes
