-- Who holds what: computed from the actions that each worker has done.
use Rattle.std.specs.Prelude.{ℕ, zero, suc, ◌+◌, Bool, true, false, not, ◌||◌, ◌==◌, nat_lt, if◌then◌else◌, Option, None}
use Rattle.std.specs.Prelude.{Some, is_some, option_map}
use Rattle.std.specs.Prelude.{unwrap_or, List, [], ◌∷◌, ◌++◌, map, filter, sum_by, count_by}
use Rattle.std.specs.List.{list_any}
use Rattle.pp_cert.specs.declared.note.Held.{Held}
use Rattle.pp_cert.specs.declared.note.Held.TheVariants.{Free, S, X}
use Rattle.pp_cert.specs.Held.{Holding, Holdings, held, holding_at}
use Rattle.pp_frames.specs.Marks.{Latches, Shared, Exclusive}
use Rattle.pp_model.specs.Pool.{Stage, acting, writing, reading, leaving, Running, Flush, State}

-- ---- counts

-- How often a page stands in a list of pages.
abbrev pub times : ℕ → List ℕ → ℕ
times page pages = count_by (λ p. p == page) pages

-- How a page is latched by so many readers and writers: by a writer alone where one has it, else by its readers.
abbrev pub latches_at : (readers writers : ℕ) → Latches
latches_at readers writers = if nat_lt 0 writers then Exclusive else Shared readers

-- ---- one worker

-- The slots that a worker gave back since a fix failed.
abbrev pub given_back : Stage → List ℕ
given_back acting = []
given_back (writing slot page victim) = []
given_back (reading slot page) = []
given_back (leaving given) = given

-- Whether the holding's slot is one of these.
abbrev pub is_among : List ℕ → Holding → Bool
is_among slots h = list_any (λ slot. slot == h.slot) slots

-- What a worker holds: what is held after the actions that it has done, without the slots that it gave back
-- (fix, use, unfix: Gray and Reuter, chapter 13).
abbrev pub holdings : Running → Holdings
holdings r = filter (λ h. not (is_among (given_back r.stage) h)) (unwrap_or (held r.done) [])

-- How many of the first n slots hold something; a bundle is one of them.
unfoldable pub held_slots : ℕ → Holdings → ℕ
held_slots zero hs = 0
held_slots (suc n) hs = (if is_some (holding_at hs n) then 1 else 0) + held_slots n hs

-- The page in a slot, and how the slot holds it. (Where it holds none, 0 and Free; of a bundle, its last page and Free. No move
-- looks at either.)
abbrev pub page_in : Running → ℕ → ℕ
page_in r slot = unwrap_or (option_map (λ h. h.page) (holding_at (holdings r) slot)) 0

abbrev pub held_in : Running → ℕ → Held
held_in r slot = unwrap_or (option_map (λ h. h.held) (holding_at (holdings r) slot)) Free

-- The page that is loaded for a worker, if one is: its victim is written back, or it is read.
abbrev pub loading : Stage → List ℕ
loading acting = []
loading (writing slot page victim) = page ∷ []
loading (reading slot page) = page ∷ []
loading (leaving given) = []

-- The pages that are in flight for a worker: the one that is loaded, and the victim that is written back.
abbrev pub in_flight : Stage → List ℕ
in_flight acting = []
in_flight (writing slot page victim) = page ∷ victim ∷ []
in_flight (reading slot page) = page ∷ []
in_flight (leaving given) = []

-- The pages that are held, an entry for each pin.
abbrev pub held_pages : Holdings → List ℕ
held_pages hs = map (λ h. h.page) hs

-- Whether a page is latched S, and whether it is latched X.
abbrev pub is_shared : Held → Bool
is_shared Free = false
is_shared S = true
is_shared X = false

abbrev pub is_exclusive : Held → Bool
is_exclusive Free = false
is_exclusive S = false
is_exclusive X = true

-- The pages that a seat takes: an entry for each pin, and one for the page that is loaded.
abbrev pub takes : Option Running → List ℕ
takes None = []
takes (Some r) = held_pages (holdings r) ++ loading r.stage

-- The pages that a seat has latched so: an entry for each slot.
abbrev pub latched_by : (Held → Bool) → Option Running → List ℕ
latched_by is None = []
latched_by is (Some r) = held_pages (filter (λ h. is h.held) (holdings r))

-- The pages in flight for a seat.
abbrev pub flies : Option Running → List ℕ
flies None = []
flies (Some r) = in_flight r.stage

-- ---- all workers

-- How many pins a page has: one for each entry of it that is held, and one for each slot that loads it.
abbrev pub pins_of : State → ℕ → ℕ
pins_of s page = sum_by (λ seat. times page (takes seat)) s.seats

-- How many slots have the page latched S, and how many X.
abbrev pub readers_of : State → ℕ → ℕ
readers_of s page = sum_by (λ seat. times page (latched_by is_shared seat)) s.seats

abbrev pub writers_of : State → ℕ → ℕ
writers_of s page = sum_by (λ seat. times page (latched_by is_exclusive seat)) s.seats

-- How the page is latched.
abbrev pub latches_of : State → ℕ → Latches
latches_of s page = latches_at (readers_of s page) (writers_of s page)

-- How many errands of workers have to do with the page.
abbrev pub errands_of : State → ℕ → ℕ
errands_of s page = sum_by (λ seat. times page (flies seat)) s.seats

-- Whether this is the page that is being flushed.
abbrev pub is_flushed : Option Flush → ℕ → Bool
is_flushed None page = false
is_flushed (Some f) page = f.page == page

-- How many flushes of the page are in flight.
abbrev pub flushes_of : State → ℕ → ℕ
flushes_of s page = if is_flushed s.flush page then 1 else 0

-- Whether a page is in flight: it is loaded for some worker, or written back as a victim.
abbrev pub is_in_flight : State → ℕ → Bool
is_in_flight s page = nat_lt 0 (errands_of s page)

-- Whether a page is taken: some slot holds it or loads it.
abbrev pub is_taken : State → ℕ → Bool
is_taken s page = nat_lt 0 (pins_of s page)

-- Whether a page may not leave the cache: it is taken, or it is being flushed.
abbrev pub is_busy : State → ℕ → Bool
is_busy s page = is_taken s page || is_flushed s.flush page
