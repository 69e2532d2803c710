-- Laws of reached states, in the words of those who use a pool.
use Rattle.std.specs.Prelude.{◌≡◌, ◌≢◌, ◌⊎◌, ◌↔◌, ℕ, ◌+◌, ◌*◌, ◌<◌, ◌≤◌, true, false, None, Some, List, [], ◌∷◌}
use Rattle.std.specs.Prelude.{◌++◌, ◌==◌, Bool, Option, length, count_by, filter, slice_get, All, IsTrue, IsSome}
use Rattle.pp_settings.specs.Limits.{mark_limit}
use Rattle.pp_settings.specs.Layout.{page_count}
use Rattle.pp_plan.specs.declared.mode.Mode.{Mode}
use Rattle.pp_plan.specs.declared.action.Action.{Action}
use Rattle.pp_plan.specs.declared.action.Action.TheVariants as action
use Rattle.pp_plan.specs.Traces.{Begins}
use Rattle.pp_cert.specs.Held.{Holding, Holdings, IsAboveLatched}
use Rattle.pp_cert.specs.Accepted.{Acceptance, IsAccepted}
use Rattle.pp_arc.specs.FourLists.{is_cached, cached_count, times_named}
use Rattle.pp_cert.specs.declared.note.Held.TheVariants.{Free}
use Rattle.pp_frames.specs.Marks.{marks_of, with_marks, all_pins, least_free}
use Rattle.pp_model.specs.declared.event.Event.{Event}
use Rattle.pp_model.specs.declared.event.Event.TheVariants.{Submit, Step}
use Rattle.pp_model.specs.declared.turn.Turn.{Turn}
use Rattle.pp_model.specs.declared.moves.Move.{Move}
use Rattle.pp_model.specs.declared.moves.Move.TheVariants as moves
use Rattle.pp_model.specs.declared.refusals.Delay.TheVariants.{FlushHolds}
use Rattle.pp_model.specs.declared.reply.Reply.TheVariants.{NotNow}
use Rattle.pp_model.specs.Pool.{acting, writing, Running, Finished, Flush, State, Settings, opening, frame_of, is_dirty}
use Rattle.pp_model.specs.Pool.{known_mark, note_of, untouched}
use Rattle.pp_model.specs.Holders.{holdings, loading, is_taken, is_in_flight, readers_of, writers_of, errands_of}
use Rattle.pp_model.specs.Holders.{flushes_of}
use Rattle.pp_model.specs.Budget.{cost_of, bound}
use Rattle.pp_model.specs.Moves.{seat_of, reply_of, next_of, is_possible, IsPossible}
use Rattle.pp_model.specs.Submitting.{most_events, submit_error, after_submit}
use Rattle.pp_model.specs.declared.refusals.RenewError.{RenewError}
use Rattle.pp_model.specs.declared.refusals.RenewError.TheVariants.{NotAtRest, MarkTooHigh}
use Rattle.pp_model.specs.Renewing.{is_at_rest, renew_error, renewed, after_renewal}
use Rattle.pp_model.specs.Lives.{Life, AreLives, after_lives}
use Rattle.pp_model.specs.Runs.{Input, plan, move, renewal, run, state_after, count_done}
use Rattle.pp_model.specs.Journals.{IsJournalOf, IsJournalFrom}
use Rattle.pp_model.specs.JournalMarks.{journal_mark, mark_after}
use Rattle.pp_model.specs.Reached.{IsReached}
use Rattle.pp_model.specs.Marks.{marks_at, marks}
use Rattle.pp_model.specs.Turns.{Asks, IsOpen, next_turn, IsUnderWay}

-- ---- what the settings say

-- There is one seat for each worker.
abbrev pub SeatsAreWorkers : State → Type 0
SeatsAreWorkers s = length s.seats ≡ s.settings.workers

-- Each submitted plan is of the pool's layout.
abbrev pub PlansAreOfTheLayout : State → Type 0
PlansAreOfTheLayout s = (k : ℕ) (a : Acceptance) → slice_get s.plans k ≡ Some a → a.plan.layout ≡ s.settings.layout

-- There is a note for each page of the layout, and no other page has to do with the pool.
pub record PagesAreOfTheLayout (s : State) : Type 0 where
  -- as many notes as pages
  pub notes : length s.notes ≡ page_count s.settings.layout
  -- nothing is noted of any other page: it has no frame, isn't dirty, and its mark isn't known
  pub others : (page : ℕ) → page_count s.settings.layout ≤ page → note_of s page ≡ untouched
  -- a page that is cached, or whose name is remembered, is one of them
  pub named : (page : ℕ) → 0 < times_named s.lists page → page < page_count s.settings.layout
  -- so is one that a slot holds or loads
  pub taken : (page : ℕ) → IsTrue (is_taken s page) → page < page_count s.settings.layout
  -- so is one that is loaded, or written back as a victim
  pub in_flight : (page : ℕ) → IsTrue (is_in_flight s page) → page < page_count s.settings.layout
  -- so is one that is flushed
  pub flushed : (f : Flush) → s.flush ≡ Some f → f.page < page_count s.settings.layout

-- What a worker has done begins a trace of its plan.
abbrev pub DoneBeginsATrace : State → Type 0
DoneBeginsATrace s =
    (w : ℕ) (r : Running) → seat_of s w ≡ Some (Some r)
    → Begins r.accepted.plan.layout r.accepted.plan.body r.done

-- ---- all frames fixed

-- A fix of the page finds all frames fixed: the page isn't cached, the cache is full, and every cached page is taken.
pub record IsAllFixed (s : State) (page : ℕ) : Type 0 where
  pub away : is_cached s.lists page ≡ false
  pub full : cached_count s.lists ≡ s.settings.layout.frames
  pub fixed : (q : ℕ) → IsTrue (is_cached s.lists q) → IsTrue (is_taken s q)

-- Worker w runs its plan, and no errand is out for it.
pub record IsActing (s : State) (w : ℕ) (r : Running) : Type 0 where
  pub seat : seat_of s w ≡ Some (Some r)
  pub stage : r.stage ≡ acting

-- The action brings the page into a slot.
abbrev pub Brings : Action → (page : ℕ) → Type 0
Brings (action.Fix slot brought) page = brought ≡ page
Brings (action.Gather slot brought) page = brought ≡ page
Brings _ page = ⊥

-- No worker can find all frames fixed at a fix or a gather that its plan asks.
abbrev pub NoneStuck : State → Type 0
NoneStuck s =
    (w page : ℕ) (r : Running) (a : Action) → IsActing s w r → Asks r a → Brings a page → ¬ IsAllFixed s page

-- A fix is answered that a flush holds the frames only where a flush is in flight of a page that isn't taken.
abbrev pub FlushHoldsAlone : State → Type 0
FlushHoldsAlone s =
    (w page : ℕ) → reply_of s (moves.Fix w page) ≡ NotNow FlushHolds
    → (f : Flush) × (s.flush ≡ Some f) × (is_taken s f.page ≡ false)

-- ---- what a worker holds

-- What a worker holds, together with the page that is loaded for it, is at most its plan's peak, counted by pins.
abbrev pub WithinPeaks : State → Type 0
WithinPeaks s =
    (w : ℕ) (r : Running) → seat_of s w ≡ Some (Some r)
    → length (holdings r) + length (loading r.stage) ≤ r.accepted.peak

-- What may stand in a slot: nothing, one page of its own, or the pages of a bundle, of which none is latched.
abbrev pub IsOwn : Holdings → Type 0
IsOwn hs = (h : Holding) × (hs ≡ h ∷ []) × (h.bundled ≡ false)

abbrev pub AreOfABundle : Holdings → Type 0
AreOfABundle hs = All (λ h. (h.bundled ≡ true) × (h.held ≡ Free)) hs

-- Each slot of a worker holds nothing, one page of its own, or the pages of a bundle.
abbrev pub SlotsAreOfAKind : State → Type 0
SlotsAreOfAKind s =
    (w slot : ℕ) (r : Running) → seat_of s w ≡ Some (Some r)
    → IsOwn (filter (λ h. h.slot == slot) (holdings r)) ⊎ AreOfABundle (filter (λ h. h.slot == slot) (holdings r))

-- ---- latches

-- No worker asks a latch against the order of the classes: the class of the page that it asks for is greater than that
-- of each page that it has latched, in the layout of the pool.
abbrev pub InOrder : State → Type 0
InOrder s =
    (w slot : ℕ) (m : Mode) (r : Running) → IsActing s w r → Asks r (action.Latch slot m)
    → IsAboveLatched s.settings.layout (holdings r) slot

-- The latches on a page are all S, or a single X.
abbrev pub LatchesAgree : State → Type 0
LatchesAgree s =
    (page : ℕ) → (writers_of s page ≡ 0) ⊎ ((writers_of s page ≡ 1) × (readers_of s page ≡ 0))

-- ---- errands

-- No page has two errands out: it is read for one worker alone, or written back as a victim for one alone, or flushed.
abbrev pub OneErrand : State → Type 0
OneErrand s = (page : ℕ) → errands_of s page + flushes_of s page ≤ 1

-- ---- the bound

-- Each move that is done lowers the bound by 1 at least, and one that is refused leaves the state.
abbrev pub BoundFalls : State → Type 0
BoundFalls s = (m : Move) → IsPossible s m → bound (next_of s m) + 1 ≤ bound s

abbrev pub RefusedLeaves : State → Type 0
RefusedLeaves s = (m : Move) → is_possible s m ≡ false → next_of s m ≡ s

-- A plan that is taken in raises the bound by its cost.
abbrev pub BoundRises : State → Type 0
BoundRises s = (a : Acceptance) → submit_error s a ≡ None → bound (after_submit s a) ≡ bound s + cost_of a

-- After a renewal the bound is twice the flushes of the settings.
abbrev pub RenewalSetsBound : State → Type 0
RenewalSetsBound s = renew_error s ≡ None → bound (after_renewal s) ≡ 2 * s.settings.flushes

-- A list of moves has at most as many done ones as the bound at its start.
abbrev pub DoneWithinBound : State → Type 0
DoneWithinBound s = (ms : List Move) → count_done s ms + bound (state_after s ms) ≤ bound s

-- ---- going on

-- Whatever comes to the pool, a reached state follows: a move or a renewal, done or refused, or a plan that the checker
-- accepted.
abbrev pub IsAcceptedInput : Input → Type 0
IsAcceptedInput (plan a) = IsAccepted a
IsAcceptedInput (move m) = Unit {0}
IsAcceptedInput renewal = Unit {0}

abbrev pub StaysReached : State → Type 0
StaysReached s = (inputs : List Input) → All IsAcceptedInput inputs → IsReached (run s inputs)

-- A journal of the state, from whichever state on, and a possible move, with its reply, are a journal of the next state.
abbrev pub JournalGrows : State → Type 0
JournalGrows s =
    (o : State) (es : List Event) (m : Move) → IsJournalFrom o s es → IsPossible s m
    → IsJournalFrom o (next_of s m) (es ++ Step m (reply_of s m) ∷ [])

-- The same of a plan that is taken in.
abbrev pub JournalTakesIn : State → Type 0
JournalTakesIn s =
    (o : State) (es : List Event) (a : Acceptance) → IsJournalFrom o s es → submit_error s a ≡ None
    → IsJournalFrom o (after_submit s a) (es ++ Submit (length s.plans) ∷ [])

-- Where a reached pool is renewed, its plans and its journal become the last of the lives before, and the journal of the
-- next life is empty.
abbrev pub RenewalStaysReached : State → Type 0
RenewalStaysReached s =
    (h : IsReached s) → renew_error s ≡ None
    → (g : IsReached (renewed s)) × (g.journal ≡ [])
    × (g.before ≡ h.before ++ record { plans = s.plans; journal = h.journal } ∷ [])

-- The opening state of each life is reached.
abbrev pub LivesAreReached : Settings → Type 0
LivesAreReached k = (ls : List Life) → AreLives (opening k) ls → IsReached (after_lives (opening k) ls)

-- ---- the plans that were taken

-- Whether a seat has the plan of this number, and whether an ending is of it.
abbrev pub is_with : (number : ℕ) → Option Running → Bool
is_with number None = false
is_with number (Some r) = r.number == number

abbrev pub is_end_of : (number : ℕ) → Finished → Bool
is_end_of number f = f.number == number

-- How many workers have the plan, and how often it was ended.
abbrev pub workers_with : State → (number : ℕ) → ℕ
workers_with s number = count_by (is_with number) s.seats

abbrev pub endings_of : State → (number : ℕ) → ℕ
endings_of s number = count_by (is_end_of number) s.finished

-- Plans are taken in order, and one that was taken is with exactly one worker, or it was ended exactly once. So a plan
-- that isn't ended waits, or it is with a worker.
pub record PlansAreAccounted (s : State) : Type 0 where
  -- each plan below `taken` is with one worker and not ended, or with none and ended once
  pub taken : (number : ℕ) → number < s.taken → workers_with s number + endings_of s number ≡ 1
  -- no other plan is with a worker or was ended
  pub others : (number : ℕ) → s.taken ≤ number → workers_with s number + endings_of s number ≡ 0
  -- what was taken was submitted
  pub submitted : s.taken ≤ length s.plans
  -- the plan that a worker runs is the submitted one of its number
  pub named : (w : ℕ) (r : Running) → seat_of s w ≡ Some (Some r) → slice_get s.plans r.number ≡ Some r.accepted

-- ---- frames and marks

-- A page has a frame exactly where it is cached.
abbrev pub CachedAreFramed : State → Type 0
CachedAreFramed s = (page : ℕ) → IsTrue (is_cached s.lists page) ↔ IsSome (frame_of s page)

-- Where the cache isn't full, a frame is free.
abbrev pub FrameIsLeft : State → Type 0
FrameIsLeft s = cached_count s.lists < s.settings.layout.frames → IsSome (least_free (marks s))

-- Where a worker's plan asks a fix or a gather, there are fewer pins in all than frames.
abbrev pub PinIsLeft : State → Type 0
PinIsLeft s =
    (w page : ℕ) (r : Running) (a : Action) → IsActing s w r → Asks r a → Brings a page
    → all_pins (marks s) < s.settings.layout.frames

-- For some worker the page is written back as a victim.
abbrev pub IsWrittenBack : State → (victim : ℕ) → Type 0
IsWrittenBack s victim =
    (w : ℕ) × (r : Running) × (slot : ℕ) × (page : ℕ) × (seat_of s w ≡ Some (Some r))
    × (r.stage ≡ writing slot page victim)

-- A page that is newer than the device's is cached, or it is written back as a victim.
abbrev pub DirtyAreKept : State → Type 0
DirtyAreKept s = (page : ℕ) → is_dirty s page ≡ true → IsTrue (is_cached s.lists page) ⊎ IsWrittenBack s page

-- Each page that a slot holds has a known mark.
abbrev pub HeldAreKnown : State → Type 0
HeldAreKnown s =
    (w : ℕ) (r : Running) → seat_of s w ≡ Some (Some r) → All (λ h. IsSome (known_mark s h.page)) (holdings r)

-- For some worker the page is being loaded: its victim is written back, or it is read.
abbrev pub IsLoading : State → (page : ℕ) → Type 0
IsLoading s page =
    (w : ℕ) × (r : Running) × (seat_of s w ≡ Some (Some r)) × (loading r.stage ≡ page ∷ [])

-- A page that is cached, and not being loaded, has a known mark.
abbrev pub LoadedAreKnown : State → Type 0
LoadedAreKnown s =
    (page : ℕ) → IsTrue (is_cached s.lists page) → ¬ IsLoading s page → IsSome (known_mark s page)

-- The known mark of each page is the one that any journal of the state tells of it, from the opening state of the settings
-- on. (Of later lives MarksFollow tells.)
abbrev pub MarksAreTheJournals : State → Type 0
MarksAreTheJournals s =
    (es : List Event) (page : ℕ) → IsJournalOf s es
    → known_mark s page ≡ journal_mark s.plans (opening s.settings) es page

-- The known mark of each page is what a journal of the state, from any reached state on, tells of it: the last writing comes
-- first, then the mark that was known there, then the first good reading. So it is in every life, from its opening state on.
abbrev pub MarksFollow : State → Type 0
MarksFollow s =
    (o : State) (es : List Event) (page : ℕ) → IsReached o → IsJournalFrom o s es
    → known_mark s page ≡ mark_after s.plans o es page

-- No mark comes near 2^64: a mark and the bound on the moves that are left come together to at most 2^63 and the most
-- events besides submits of a life.
abbrev pub MarksAreSmall : State → Type 0
MarksAreSmall s = (page mark : ℕ) → known_mark s page ≡ Some mark → mark + bound s ≤ mark_limit + most_events s.settings.span

-- ---- the marks of all pages

-- The map has of each page what is marked of it.
abbrev pub MarksTell : State → Type 0
MarksTell s = (page : ℕ) → page < length s.notes → marks_of (marks s) page ≡ marks_at s page

-- Where two states of one pool differ in the marks of one page alone, so do their maps.
abbrev pub OnePageChanges : (s t : State) → Type 0
OnePageChanges s t =
    (page : ℕ) → ((q : ℕ) → q ≢ page → marks_at t q ≡ marks_at s q)
    → marks t ≡ with_marks (marks s) page (marks_at t page)

-- ---- turns

-- There is a next turn if and only if a plan waits, some worker isn't idle, or a flush is in flight.
abbrev pub NextWhileUnderWay : State → Type 0
NextWhileUnderWay s = IsSome (next_turn s) ↔ IsUnderWay s

-- The next turn is open: its moves are possible, whatever is decided in them.
abbrev pub NextIsOpen : State → Type 0
NextIsOpen s = (turn : Turn) → next_turn s ≡ Some turn → IsOpen s turn

-- ---- rest

-- A pool is at rest exactly where there is no next turn.
abbrev pub RestHasNoTurn : State → Type 0
RestHasNoTurn s = (is_at_rest s ≡ true) ↔ (next_turn s ≡ None)

-- Where a pool is at rest, no slot holds or loads a page, and each page that is newer than the device's is cached.
abbrev pub RestHoldsNothing : State → Type 0
RestHoldsNothing s = is_at_rest s ≡ true → (page : ℕ) → is_taken s page ≡ false

abbrev pub RestKeepsDirty : State → Type 0
RestKeepsDirty s =
    is_at_rest s ≡ true → (page : ℕ) → is_dirty s page ≡ true → IsTrue (is_cached s.lists page)

-- ---- renewals

-- When a pool is renewed, and why it isn't.
pub record RenewalAnswers (s : State) : Type 0 where
  -- it is done exactly where the pool is at rest and every known mark is below 2^63
  pub done : (renew_error s ≡ None)
      ↔ ((is_at_rest s ≡ true) × ((page mark : ℕ) → known_mark s page ≡ Some mark → mark < mark_limit))
  -- that the pool isn't at rest comes first
  pub under_way : (renew_error s ≡ Some NotAtRest) ↔ (is_at_rest s ≡ false)
  -- the page that is named is the least one whose known mark is 2^63 or more
  pub high : (page : ℕ) → renew_error s ≡ Some (MarkTooHigh page)
      → ((mark : ℕ) × (known_mark s page ≡ Some mark) × (mark_limit ≤ mark))
      × ((q mark : ℕ) → known_mark s q ≡ Some mark → mark_limit ≤ mark → page ≤ q)

-- A renewal that is done leads to the opening state, but for ARC's lists and what is noted of pages, which stay. One that
-- is refused leaves the state.
pub record RenewalOpens (s : State) : Type 0 where
  pub done : renew_error s ≡ None
      → after_renewal s ≡ record (opening s.settings) { lists = s.lists; notes = s.notes }
  pub refused : (error : RenewError) → renew_error s ≡ Some error → after_renewal s ≡ s

-- A renewal, done or refused, changes nothing of pages and workers: the settings, the seats, the flush, ARC's lists and
-- the notes stay.
pub record RenewalLeaves (s : State) : Type 0 where
  pub settings : (after_renewal s).settings ≡ s.settings
  pub seats : (after_renewal s).seats ≡ s.seats
  pub flush : (after_renewal s).flush ≡ s.flush
  pub lists : (after_renewal s).lists ≡ s.lists
  pub notes : (after_renewal s).notes ≡ s.notes
