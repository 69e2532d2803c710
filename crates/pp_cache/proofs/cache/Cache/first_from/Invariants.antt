-- What Cache::first_from keeps as it goes on: no key that it has passed has its page in a frame.
use Rattle.std.proofs.Common.{◌≡◌, ℕ, ◌<◌, ◌≤◌}
use Rattle.std.specs.Prelude.{None}
use Rattle.pp_cache.specs.Frames.{page_of}
use Rattle.pp_cache.proofs.cache.Cache.first_from.Given as goal

abbrev pub invariant-loop-key : goal.invariant-loop-key
invariant-loop-key l = (key : ℕ) → l.fn.from ≤ key → key < l.key → page_of l.fn.self.table key ≡ None
