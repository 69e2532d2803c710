-- Ready frames: those in which the image of their page stands; and what a move does to them.
use Rattle.std.specs.Prelude.{◌≡◌, ◌≢◌, ◌⊎◌, ◌↔◌, ℕ, ◌+◌, ◌<◌, Bool, true, false, ◌||◌, ◌==◌, nat_lt}
use Rattle.std.specs.Prelude.{if◌then◌else◌, Option, None, Some, IsSome, List, [], ◌∷◌, length, sum_by, IsTrue}
use Rattle.std.specs.List.{list_any, range_with_len}
use Rattle.pp_plan.specs.declared.mode.Mode.TheVariants as mode
use Rattle.pp_plan.specs.declared.action.Ask.TheVariants as ask
use Rattle.pp_cert.specs.declared.note.Held.TheVariants.{S, X}
use Rattle.pp_cert.specs.Accepted.{Acceptance}
use Rattle.pp_cert.specs.Held.{Holding, holding_at}
use Rattle.pp_arc.specs.FourLists.{is_cached}
use Rattle.pp_model.specs.declared.moves.Came.{Came}
use Rattle.pp_model.specs.declared.moves.Move.{Move}
use Rattle.pp_model.specs.declared.moves.Move.TheVariants as moves
use Rattle.pp_model.specs.declared.reply.Failure.{Failure}
use Rattle.pp_model.specs.declared.reply.Failure.TheVariants.{WriteFault}
use Rattle.pp_model.specs.declared.reply.Reply.{Reply}
use Rattle.pp_model.specs.declared.reply.Reply.TheVariants.{MustRead, MustWrite, Failed, Loaded, Latched, Unlatched}
use Rattle.pp_model.specs.declared.reply.Reply.TheVariants.{Flushing}
use Rattle.pp_model.specs.Pool.{writing, reading, Running, State, Settings, opening, frame_of, known_mark}
use Rattle.pp_model.specs.Pool.{frame_at, mark_at}
use Rattle.pp_model.specs.Holders.{times, holdings, loading, page_in, held_in, writers_of}
use Rattle.pp_model.specs.Moves.{asked_by, seat_of, reply_of, next_of}
use Rattle.pp_model.specs.Submitting.{after_submit}
use Rattle.pp_model.specs.Renewing.{after_renewal}
use Rattle.pp_model.specs.Laws.{IsWrittenBack}

-- ---- ready pages

-- The page that is loaded for a seat, if one is.
abbrev pub loaded_for : Option Running → List ℕ
loaded_for None = []
loaded_for (Some r) = loading r.stage

-- Whether a page is being loaded for some worker: its victim is written back, or it is read.
abbrev pub is_loading : State → ℕ → Bool
is_loading s page = nat_lt 0 (sum_by (λ seat. times page (loaded_for seat)) s.seats)

-- Whether some slot has the page latched X.
abbrev pub is_written : State → ℕ → Bool
is_written s page = nat_lt 0 (writers_of s page)

-- Whether the image of a page that has a frame is away from it: with the errand that loads the page, or with the worker
-- that has it latched X.
abbrev pub is_away : State → ℕ → Bool
is_away s page = is_loading s page || is_written s page

-- Where a page stands ready: its frame, and its mark, which the image there has.
pub record Standing : Type 0 where
  pub frame : ℕ
  pub mark : ℕ

abbrev pub standing : Option ℕ → Option ℕ → Option Standing
standing (Some frame) (Some mark) = Some (record { frame = frame; mark = mark })
standing (Some frame) None = None
standing None mark = None

abbrev pub standing_unless : (away : Bool) → Option ℕ → Option ℕ → Option Standing
standing_unless true frame mark = None
standing_unless false frame mark = standing frame mark

-- Where a page stands ready, if it does: it has a frame and a known mark, and its image isn't away.
abbrev pub ready_at : State → ℕ → Option Standing
ready_at s page = standing_unless (is_away s page) (frame_of s page) (known_mark s page)

-- Where a page stands that is ready. (No law looks there for another.)
abbrev pub standing_of : State → ℕ → Standing
standing_of s page = record { frame = frame_at s page; mark = mark_at s page }

-- ---- frames

-- No page is ready in the frame.
abbrev pub NoneReadyIn : State → (frame : ℕ) → Type 0
NoneReadyIn s frame = (page : ℕ) (x : Standing) → ready_at s page ≡ Some x → x.frame ≢ frame

-- The frame that a page's image is away from, if it is.
abbrev pub frame_if : (away : Bool) → Option ℕ → Option ℕ
frame_if true frame = frame
frame_if false frame = None

abbrev pub away_from : State → ℕ → Option ℕ
away_from s page = frame_if (is_away s page) (frame_of s page)

-- Whether it is this frame.
abbrev pub is_frame : (frame : ℕ) → Option ℕ → Bool
is_frame frame None = false
is_frame frame (Some f) = f == frame

-- Whether the image of a page is away from the frame. In each other frame an image stands: of the page that is ready
-- there, or a spare one where no page is.
abbrev pub is_away_at : State → (frame : ℕ) → Bool
is_away_at s frame = list_any (λ page. is_frame frame (away_from s page)) (range_with_len 0 (length s.notes))

-- ---- what a move can do

-- The same pages are ready, where they were.
abbrev pub ReadyStay : (s t : State) → Type 0
ReadyStay s t = (page : ℕ) → ready_at t page ≡ ready_at s page

abbrev pub OthersStay : (s t : State) → (page : ℕ) → Type 0
OthersStay s t page = (q : ℕ) → q ≢ page → ready_at t q ≡ ready_at s q

-- The same frames have their images away.
abbrev pub AwayStay : (s t : State) → Type 0
AwayStay s t = (frame : ℕ) → is_away_at t frame ≡ is_away_at s frame

-- An image goes away from the frame, and from no other; or it comes back to it, and to no other.
pub record ImageGoes (s t : State) (frame : ℕ) : Type 0 where
  pub was : is_away_at s frame ≡ false
  pub now : (f : ℕ) → is_away_at t f ≡ (if f == frame then true else is_away_at s f)

pub record ImageComes (s t : State) (frame : ℕ) : Type 0 where
  pub was : is_away_at s frame ≡ true
  pub now : (f : ℕ) → is_away_at t f ≡ (if f == frame then false else is_away_at s f)

-- All is as before.
pub record Keeps (s t : State) : Type 0 where
  pub ready : ReadyStay s t
  pub away : AwayStay s t

-- The page stood ready there, and doesn't any more; all others do as before. Its image goes.
pub record Leaves (s t : State) (page : ℕ) (x : Standing) : Type 0 where
  pub was : ready_at s page ≡ Some x
  pub gone : ready_at t page ≡ None
  pub others : OthersStay s t page
  pub image : ImageGoes s t x.frame

-- The page wasn't ready, and stands ready there now; all others do as before. Its image comes.
pub record Enters (s t : State) (page : ℕ) (x : Standing) : Type 0 where
  pub none : ready_at s page ≡ None
  pub is : ready_at t page ≡ Some x
  pub others : OthersStay s t page
  pub image : ImageComes s t x.frame

-- The image in a frame is given to another page: no page was ready there, and a spare image goes; or one was, and
-- leaves.
pub data Vacates (s t : State) (frame : ℕ) : Type 0 where
  empty : NoneReadyIn s frame → ReadyStay s t → ImageGoes s t frame → Vacates s t frame
  takes : (victim mark : ℕ) → Leaves s t victim (record { frame = frame; mark = mark }) → Vacates s t frame

-- ---- laws: which pages are ready

-- In a new pool no page is ready, and no image is away.
abbrev pub OpensEmpty : Settings → Type 0
OpensEmpty k =
    ((page : ℕ) → ready_at (opening k) page ≡ None) × ((frame : ℕ) → is_away_at (opening k) frame ≡ false)

-- A page is ready exactly where it is cached, not being loaded, and not latched X.
abbrev pub ReadyAreCached : State → Type 0
ReadyAreCached s =
    (page : ℕ) → IsSome (ready_at s page)
    ↔ (IsTrue (is_cached s.lists page) × (is_loading s page ≡ false) × (is_written s page ≡ false))

-- It stands in its frame, which is one of the pool's, with its known mark.
pub record StandsIn (s : State) (page : ℕ) (x : Standing) : Type 0 where
  pub frame : frame_of s page ≡ Some x.frame
  pub mark : known_mark s page ≡ Some x.mark
  pub low : x.frame < s.settings.layout.frames

abbrev pub ReadyStand : State → Type 0
ReadyStand s = (page : ℕ) (x : Standing) → ready_at s page ≡ Some x → StandsIn s page x

-- No two pages are ready in one frame.
abbrev pub ReadyAreApart : State → Type 0
ReadyAreApart s =
    (p q : ℕ) (x y : Standing) → ready_at s p ≡ Some x → ready_at s q ≡ Some y → x.frame ≡ y.frame → p ≡ q

-- A page that has a frame, which is one of the pool's, is ready there, or its image is away from it.
abbrev pub FramedAreReadyOrAway : State → Type 0
FramedAreReadyOrAway s =
    (page frame : ℕ) → frame_of s page ≡ Some frame
    → (frame < s.settings.layout.frames)
    × ((ready_at s page ≡ Some (record { frame = frame; mark = mark_at s page })) ⊎ (away_from s page ≡ Some frame))

-- An image is away from a frame exactly where it is a page's. Then no page is ready there.
abbrev pub AwayAreOfPages : State → Type 0
AwayAreOfPages s =
    (frame : ℕ) → (is_away_at s frame ≡ true) ↔ ((page : ℕ) × (away_from s page ≡ Some frame))

abbrev pub AwayAreApart : State → Type 0
AwayAreApart s = (frame : ℕ) → is_away_at s frame ≡ true → NoneReadyIn s frame

-- A page that a slot has latched S is ready; the image of one that a slot has latched X is away.
abbrev pub SharedAreReady : State → Type 0
SharedAreReady s =
    (w slot : ℕ) (r : Running) (h : Holding) → seat_of s w ≡ Some (Some r) → holding_at (holdings r) slot ≡ Some h
    → h.held ≡ S → ready_at s h.page ≡ Some (standing_of s h.page)

abbrev pub ExclusiveAreAway : State → Type 0
ExclusiveAreAway s =
    (w slot : ℕ) (r : Running) (h : Holding) → seat_of s w ≡ Some (Some r) → holding_at (holdings r) slot ≡ Some h
    → h.held ≡ X → away_from s h.page ≡ Some (frame_at s h.page)

-- The image of a page that is loaded for a worker is away.
abbrev pub LoadingAreAway : State → Type 0
LoadingAreAway s =
    (w page : ℕ) (r : Running) → seat_of s w ≡ Some (Some r) → loading r.stage ≡ page ∷ []
    → away_from s page ≡ Some (frame_at s page)

-- ---- laws: what a move that is answered so does to them

-- The replies after which all is as before, whatever was asked.
abbrev pub is_still : Reply → Bool
is_still (MustRead frame) = false
is_still (MustWrite frame victim) = false
is_still (Failed failure) = false
is_still (Loaded mark) = false
is_still (Latched mark) = false
is_still (Unlatched mark) = false
is_still _ = true

abbrev pub StillKeeps : State → Type 0
StillKeeps s = (m : Move) → IsTrue (is_still (reply_of s m)) → Keeps s (next_of s m)

-- A fix that has to read takes the image of a frame; one that has to write back first takes the victim's.
abbrev pub ReadVacates : State → Type 0
ReadVacates s =
    (w page frame : ℕ) → reply_of s (moves.Fix w page) ≡ MustRead frame
    → (frame < s.settings.layout.frames) × Vacates s (next_of s (moves.Fix w page)) frame

abbrev pub WriteLeaves : State → Type 0
WriteLeaves s =
    (w page frame victim : ℕ) → reply_of s (moves.Fix w page) ≡ MustWrite frame victim
    → Leaves s (next_of s (moves.Fix w page)) victim (record { frame = frame; mark = mark_at s victim })

-- A victim that was written stays away. One that was not is back, in the frame that the page had, with its known mark.
abbrev pub WrittenKeeps : State → Type 0
WrittenKeeps s =
    (w frame : ℕ) (ok : Bool) → reply_of s (moves.WriteDone w ok) ≡ MustRead frame
    → Keeps s (next_of s (moves.WriteDone w ok))

abbrev pub UnwrittenEnters : State → Type 0
UnwrittenEnters s =
    (w slot page victim : ℕ) (r : Running) (ok : Bool) → seat_of s w ≡ Some (Some r)
    → r.stage ≡ writing slot page victim → reply_of s (moves.WriteDone w ok) ≡ Failed WriteFault
    → Enters s (next_of s (moves.WriteDone w ok)) victim
    (record { frame = frame_at s page; mark = mark_at s victim })

-- A page that was not read isn't ready, and the image comes back to the frame that it had.
abbrev pub UnreadReturns : State → Type 0
UnreadReturns s =
    (w slot page : ℕ) (r : Running) (came : Came) (failure : Failure) → seat_of s w ≡ Some (Some r)
    → r.stage ≡ reading slot page → reply_of s (moves.ReadDone w came) ≡ Failed failure
    → ReadyStay s (next_of s (moves.ReadDone w came)) × ImageComes s (next_of s (moves.ReadDone w came)) (frame_at s page)

-- A page that was read is ready with the stamp that came.
abbrev pub LoadedEnters : State → Type 0
LoadedEnters s =
    (w slot page mark : ℕ) (r : Running) (came : Came) → seat_of s w ≡ Some (Some r) → r.stage ≡ reading slot page
    → reply_of s (moves.ReadDone w came) ≡ Loaded mark
    → Enters s (next_of s (moves.ReadDone w came)) page (record { frame = frame_at s page; mark = mark })

-- A page that gets latched was ready, with the mark that is told; it is still, under a latch S, and isn't under X.
abbrev pub SharedStays : State → Type 0
SharedStays s =
    (w slot mark : ℕ) (r : Running) → seat_of s w ≡ Some (Some r) → asked_by r ≡ ask.Latch slot mode.S
    → reply_of s (moves.Latch w) ≡ Latched mark
    → (ready_at s (page_in r slot) ≡ Some (record { frame = frame_at s (page_in r slot); mark = mark }))
    × Keeps s (next_of s (moves.Latch w))

abbrev pub ExclusiveLeaves : State → Type 0
ExclusiveLeaves s =
    (w slot mark : ℕ) (r : Running) → seat_of s w ≡ Some (Some r) → asked_by r ≡ ask.Latch slot mode.X
    → reply_of s (moves.Latch w) ≡ Latched mark
    → Leaves s (next_of s (moves.Latch w)) (page_in r slot)
    (record { frame = frame_at s (page_in r slot); mark = mark })

-- Where a latch S goes off a page, it stays ready. Where X does, it is ready again, with the raised mark that is told.
abbrev pub SharedGoes : State → Type 0
SharedGoes s =
    (w slot mark : ℕ) (r : Running) → seat_of s w ≡ Some (Some r) → asked_by r ≡ ask.Unlatch slot
    → held_in r slot ≡ S → reply_of s (moves.Unlatch w) ≡ Unlatched mark
    → (ready_at s (page_in r slot) ≡ Some (record { frame = frame_at s (page_in r slot); mark = mark }))
    × Keeps s (next_of s (moves.Unlatch w))

abbrev pub ExclusiveEnters : State → Type 0
ExclusiveEnters s =
    (w slot mark : ℕ) (r : Running) → seat_of s w ≡ Some (Some r) → asked_by r ≡ ask.Unlatch slot
    → held_in r slot ≡ X → reply_of s (moves.Unlatch w) ≡ Unlatched mark
    → (mark ≡ mark_at s (page_in r slot) + 1)
    × Enters s (next_of s (moves.Unlatch w)) (page_in r slot)
    (record { frame = frame_at s (page_in r slot); mark = mark })

abbrev pub UnwoundEnters : State → Type 0
UnwoundEnters s =
    (w slot mark : ℕ) (r : Running) → seat_of s w ≡ Some (Some r) → reply_of s (moves.Unwind w slot) ≡ Unlatched mark
    → (mark ≡ mark_at s (page_in r slot) + 1)
    × Enters s (next_of s (moves.Unwind w slot)) (page_in r slot)
    (record { frame = frame_at s (page_in r slot); mark = mark })

-- A page whose flush begins is ready, with the mark that is told.
abbrev pub FlushedAreReady : State → Type 0
FlushedAreReady s =
    (page mark : ℕ) → reply_of s (moves.FlushBegin page) ≡ Flushing mark
    → ready_at s page ≡ Some (record { frame = frame_at s page; mark = mark })

-- While a page's image is away, the page keeps its frame and its mark. And so does a victim that is written back keep
-- its mark, whether it is written or not.
abbrev pub AwayKeep : State → Type 0
AwayKeep s =
    (m : Move) (page : ℕ) → is_away s page ≡ true → is_away (next_of s m) page ≡ true
    → (frame_of (next_of s m) page ≡ frame_of s page) × (known_mark (next_of s m) page ≡ known_mark s page)

abbrev pub VictimsKeep : State → Type 0
VictimsKeep s =
    (m : Move) (victim : ℕ) → IsWrittenBack s victim → known_mark (next_of s m) victim ≡ known_mark s victim

-- A plan that is taken in or refused changes nothing: the pages' notes and the workers' seats stay.
abbrev pub SubmitKeeps : State → Type 0
SubmitKeeps s =
    (a : Acceptance) → Keeps s (after_submit s a) × ((after_submit s a).notes ≡ s.notes)
    × ((after_submit s a).seats ≡ s.seats)

-- A renewal, done or refused, leaves the same pages ready, and the same frames with their images away.
abbrev pub RenewalKeeps : State → Type 0
RenewalKeeps s = Keeps s (after_renewal s)
