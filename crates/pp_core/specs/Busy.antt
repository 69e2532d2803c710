-- Which pages may not leave the cache, by the marks and the page that is being flushed.
use Rattle.std.specs.Prelude.{ℕ, Bool, false, ◌||◌, ◌==◌, nat_lt, Option, None, Some, option_map}
use Rattle.pp_frames.specs.Marks.{PageMap, pins_of}
use Rattle.pp_core.specs.declared.table.Flush.{Flush}

abbrev pub is_that : Option ℕ → ℕ → Bool
is_that None page = false
is_that (Some p) page = p == page

-- the page of a flush
abbrev pub page_of : Option Flush → Option ℕ
page_of flush = option_map (λ (x : Flush). x.page) flush

abbrev pub is_busy_in : PageMap → Option ℕ → ℕ → Bool
is_busy_in marks flushed page = nat_lt 0 (pins_of marks page) || is_that flushed page
