-- The names that stand in ARC's four lists, and the one that a request loses.
use Rattle.std.specs.Prelude.{◌≡◌, ◌≢◌, ◌⊎◌, ◌↔◌, ℕ, Bool, IsTrue, ◌&&◌, ◌==◌, length, Option, None, Some, is_some, is_none}
use Rattle.std.specs.Prelude.{if◌then◌else◌}
use Rattle.pp_arc.specs.declared.answer.Answer.{Answer}
use Rattle.pp_arc.specs.declared.answer.Answer.TheVariants.{Evict}
use Rattle.pp_arc.specs.FourLists.{FourLists, place}
use Rattle.pp_arc.specs.Sizes.{dropped_name}

-- Whether a page is cached, or its name is remembered.
abbrev pub is_named : FourLists → ℕ → Bool
is_named s y = is_some (place s y)

-- The page that an answer says leaves the cache, if one does.
abbrev pub victim_of : Answer → Option ℕ
victim_of (Evict victim) = Some victim
victim_of _ = None

-- The name that the request for x loses, by its answer: the remembered name that it drops; or, where x stood in no list
-- and T1 was all of the cache, the victim, which is remembered nowhere.
abbrev pub lost_name : FourLists → ℕ → Answer → Option ℕ
lost_name s x answer =
    if is_none (place s x) && (length s.t1 == s.c) then victim_of answer else dropped_name s x

-- The new lists name the page x and what the old ones named, but for the name that was lost.
abbrev pub NamesInstead : FourLists → FourLists → ℕ → Option ℕ → Type 0
NamesInstead old new x lost =
    (y : ℕ) → IsTrue (is_named new y) ↔ ((y ≡ x) ⊎ (IsTrue (is_named old y) × (lost ≢ Some y)))
