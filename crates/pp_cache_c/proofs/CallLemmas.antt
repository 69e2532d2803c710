-- Lemmas on the calls: what a handle holds before and after them, and which status an answer is.
use Rattle.std.proofs.Common.{◌≡◌, ℕ, false, true, refl, ap}
use Rattle.std.specs.Prelude.{Option, None, Some, IsSome, ◌↔◌}
use Rattle.pp_cache.specs.declared.fetched.Fetched.{Fetched}
use Rattle.pp_cache.specs.declared.fetched.Fetched.TheVariants.{Hit}
use Rattle.pp_cache.specs.declared.left.Left.{Left}
use Rattle.pp_keyed.specs.Keyed.{Keyed}
use Rattle.pp_cache_c.specs.Calls.{code, place_of, Goes}
use Rattle.pp_cache_c.specs.declared.handle.Kept.{Kept}
use Rattle.pp_cache_c.specs.declared.place.Place.{Place}
use Rattle.pp_cache_c.specs.declared.status.Status.{Status}
use Rattle.pp_cache_c.specs.declared.status.Status.TheVariants as status

pub goes : (are : Keyed → Keyed → Type 0) (old new : Option Kept) (before after : Kept) → old ≡ Some before
    → new ≡ Some after → are before.cache after.cache → Goes are old new
goes are old new before after e f h = rw (e, f) h

-- a page that stands in a frame is a hit
pub some_is_hit : (answer : Fetched) (found : Option ℕ) → ((frame : ℕ) → (answer ≡ Hit frame) ↔ (found ≡ Some frame))
    → IsSome found → (frame : ℕ) × (answer ≡ Hit frame)
some_is_hit answer None h some = let n : false ≡ true = some in absurd (cc)
some_is_hit answer (Some frame) h some = (frame, (h frame).1 refl)

-- the frame of a place
pub framed : (place : Place) (frame : ℕ) (left : Option Left) → place ≡ place_of frame left → place.frame ≡ frame
framed place frame None e = ap (λ (p : Place). p.frame) e
framed place frame (Some left) e = ap (λ (p : Place). p.frame) e

-- no other status has the number 3
pub is_nothing : (s : Status) → code s ≡ 3 → s ≡ status.Nothing
is_nothing status.Done e = absurd (cc)
is_nothing status.Hit e = absurd (cc)
is_nothing status.New e = absurd (cc)
is_nothing status.Nothing e = refl
is_nothing status.NoCache e = absurd (cc)
is_nothing status.NoRoom e = absurd (cc)
is_nothing status.BadArgument e = absurd (cc)

-- and no other one the number 0
pub is_done : (s : Status) → code s ≡ 0 → s ≡ status.Done
is_done status.Done e = refl
is_done status.Hit e = absurd (cc)
is_done status.New e = absurd (cc)
is_done status.Nothing e = absurd (cc)
is_done status.NoCache e = absurd (cc)
is_done status.NoRoom e = absurd (cc)
is_done status.BadArgument e = absurd (cc)

-- nor the number 5
pub is_no_room : (s : Status) → code s ≡ 5 → s ≡ status.NoRoom
is_no_room status.Done e = absurd (cc)
is_no_room status.Hit e = absurd (cc)
is_no_room status.New e = absurd (cc)
is_no_room status.Nothing e = absurd (cc)
is_no_room status.NoCache e = absurd (cc)
is_no_room status.NoRoom e = refl
is_no_room status.BadArgument e = absurd (cc)
