-- What a request means to a user of the cache, in words that don't speak of ARC.
use Rattle.std.specs.Prelude.{◌≡◌, ◌≢◌, ◌⊎◌, ◌↔◌, ℕ, Bool, IsTrue}
use Rattle.pp_arc.specs.declared.answer.Answer.{Answer}
use Rattle.pp_arc.specs.declared.answer.Answer.TheVariants.{Evict}
use Rattle.pp_arc.specs.FourLists.{FourLists, is_cached}

-- each cached page is busy
abbrev pub AllCachedAreBusy : FourLists → (ℕ → Bool) → Type 0
AllCachedAreBusy s busy = (x : ℕ) → IsTrue (is_cached s x) → IsTrue (busy x)

-- the new cache has the page and what the old one had, but for the victim
abbrev pub CachesInstead : FourLists → FourLists → ℕ → Answer → Type 0
CachesInstead old new page answer =
    (x : ℕ) → IsTrue (is_cached new x) ↔ ((x ≡ page) ⊎ (IsTrue (is_cached old x) × (answer ≢ Evict x)))

-- the new cache has what the old one had, but for the page
abbrev pub CachesWithout : FourLists → FourLists → ℕ → Type 0
CachesWithout old new page =
    (x : ℕ) → IsTrue (is_cached new x) ↔ (IsTrue (is_cached old x) × (x ≢ page))

-- the new cache has the victim and what the old one had, but for the page
abbrev pub CachesAgain : FourLists → FourLists → ℕ → ℕ → Type 0
CachesAgain old new page victim =
    (x : ℕ) → IsTrue (is_cached new x) ↔ ((x ≡ victim) ⊎ (IsTrue (is_cached old x) × (x ≢ page)))

-- the new cache has the page `name` where the old one had `page`, and else what it had, but for these two
abbrev pub CachesRenamed : FourLists → FourLists → ℕ → ℕ → Type 0
CachesRenamed old new page name =
    (x : ℕ) → IsTrue (is_cached new x)
    ↔ (((x ≡ name) × IsTrue (is_cached old page)) ⊎ (IsTrue (is_cached old x) × (x ≢ page) × (x ≢ name)))
