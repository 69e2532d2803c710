-- What the calls of a hall do.
use Rattle.std.specs.Prelude.{◌≡◌, ◌⊎◌, ℕ, ◌+◌, ◌<◌, ◌≤◌, max, nat_lt, ◌&&◌, ◌==◌, not, Bool, true, false, Option}
use Rattle.std.specs.Prelude.{None, Some, is_some, is_none, length, replicate, slice_set, slice_index_or, count_by}
use Rattle.pp_settings.specs.Limits.{bell_count}
use Rattle.pp_settings.specs.Settings.{Configuration}
use Rattle.pp_settings.specs.Spans.{is_bounded}
use Rattle.pp_cert.specs.Accepted.{Acceptance}
use Rattle.pp_model.specs.Pool.{State, opening, dirty_pages}
use Rattle.pp_core.specs.Opening.{kept_of}
use Rattle.pp_core.specs.Queries.{is_idle}
use Rattle.pp_vault.specs.declared.stage.Stage.{Stage}
use Rattle.pp_vault.specs.declared.tokens.Chair.{Chair}
use Rattle.pp_vault.specs.declared.tokens.Session.{Session}
use Rattle.pp_vault.specs.declared.guards.ReadGuard.{ReadGuard}
use Rattle.pp_vault.specs.StandsFor.{StandsFor}
use Rattle.pp_vault.specs.Stages.{stage_worker, is_chair}
use Rattle.pp_vault.specs.Reads as vault
use Rattle.pp_pool.specs.declared.request.Request.{Request}
use Rattle.pp_pool.specs.declared.response.Response.{Response}
use Rattle.pp_pool.specs.Performing.{is_no}
use Rattle.pp_admission.specs.Queues as admission
use Rattle.pp_admission.specs.Queues.{IsFull, empty_queue, next_in, peak_at, started, left, put_to_sleep, entered}
use Rattle.pp_wants.specs.Wants.{want_of}
use Rattle.pp_hall.specs.declared.counts.Stats.{Stats}
use Rattle.pp_hall.specs.declared.error.OpenError.{OpenError}
use Rattle.pp_hall.specs.declared.error.OpenError.TheVariants.{OutOfMemory, Bounded, NoFlushes, OtherEnds}
use Rattle.pp_hall.specs.declared.error.OpenError.TheVariants.{TooManyWorkers}
use Rattle.pp_hall.specs.declared.error.EnterError.{EnterError}
use Rattle.pp_hall.specs.declared.error.EnterError.TheVariants.{Stopped, TooLarge, Full}
use Rattle.pp_hall.specs.declared.policy.Policy.{Policy}
use Rattle.pp_hall.specs.declared.told.Told.{Told}
use Rattle.pp_hall.specs.declared.hall.Started.{Started}
use Rattle.pp_hall.specs.declared.hall.Started.TheVariants as started
use Rattle.pp_hall.specs.Counting.{no_counts, raised}
use Rattle.pp_hall.specs.Askers.{asker}
use Rattle.pp_hall.specs.Seatings as seatings
use Rattle.pp_hall.specs.Seatings.{room_of, first_home, pages_out, out_with, come_home}
use Rattle.pp_hall.specs.Seatings.{TakesPlan, CannotTake}
use Rattle.pp_hall.specs.Waiters as waiters
use Rattle.pp_hall.specs.Waiters.{with_queue, with_place, place_after}
use Rattle.pp_hall.specs.Halls.{Parts}

-- ---- whom a call tells

-- Of what the call itself does this hall comes: those are told whose wake-up would be lost else, and nothing else
-- changes.
pub record Settles (before : Parts) (told : Told) (after : Parts) : Type 0 where
  pub tells : waiters.Settles before.seating before.policy.flush_from before.waiters told after.waiters
  pub rest : after ≡ record before { waiters = after.waiters }

-- The same hall, but for its vault and chairs.
abbrev pub with_seating : Parts → seatings.Parts → Parts
with_seating h seating = record h { seating = seating }

-- But for who waits.
abbrev pub with_waiters : Parts → waiters.Parts → Parts
with_waiters h w = record h { waiters = w }

-- But for its queue.
abbrev pub in_queue : Parts → admission.Parts → Parts
in_queue h queue = with_waiters h (with_queue h.waiters queue)

-- ---- a hall that is opened

-- The first fault, by whether the life is bounded, whether no flush may begin, whether there are more than 32 workers,
-- and whether there is one device for each of them and the flusher.
abbrev pub fault_by : (bounded none many ends : Bool) → Option OpenError
fault_by true none many ends = Some Bounded
fault_by false true many ends = Some NoFlushes
fault_by false false true ends = Some TooManyWorkers
fault_by false false false false = Some OtherEnds
fault_by false false false true = None

-- Why a hall isn't opened, but for want of memory, with so many devices.
abbrev pub open_fault : Configuration → (devices : ℕ) → Option OpenError
open_fault c devices =
    fault_by (is_bounded c.span) (c.flushes == 0) (nat_lt bell_count c.workers) (devices == c.workers + 1)

-- This is the error: the first fault; or there is none, and memory ran out.
abbrev pub OpenFails : Configuration → (devices : ℕ) → OpenError → Type 0
OpenFails c devices error =
    (open_fault c devices ≡ Some error) ⊎ ((open_fault c devices ≡ None) × (error ≡ OutOfMemory))

-- Nothing was done yet, each chair is home, with its worker, and the flusher, and nobody waits. Its pages are as long as the settings
-- say, and it has this policy.
pub record IsFresh (c : Configuration) (kept : Policy) (h : Parts) : Type 0 where
  pub opens : StandsFor h.seating.vault (opening (kept_of c))
  pub page_bytes : h.seating.vault.page_bytes ≡ c.page_bytes
  pub seating : h.seating ≡ record {
    vault = h.seating.vault;
    frames = c.frames;
    peaks = replicate c.workers None;
    counts = no_counts;
  }
  pub waiters : h.waiters ≡ record {
    queue = empty_queue kept.queue kept.bypass;
    sleepers = replicate c.workers None;
    is_flusher_asleep = false;
    is_stopped = false;
  }
  pub posts : h.posts ≡ record { there = replicate c.workers true; is_flusher_home = true }
  pub policy : h.policy ≡ kept

-- ---- plans

-- The plan is prepared, at this place.
pub record Prepares (old : Parts) (a : Acceptance) (place : ℕ) (told : Told) (new : Parts) : Type 0 where
  pub seating : seatings.Parts
  pub prepares : seatings.Prepares old.seating a place seating
  pub settles : Settles (with_seating old seating) told new

-- ---- the queue

-- One more waits, behind all others. A peak of no page counts as one.
abbrev pub one_more : Parts → (peak : ℕ) → Parts
one_more h peak = in_queue h (entered h.waiters.queue (max peak 1))

-- Why one doesn't come.
abbrev pub EnterFails : Parts → (peak : ℕ) → EnterError → Type 0
EnterFails h peak Stopped = h.waiters.is_stopped ≡ true
EnterFails h peak TooLarge = (h.waiters.is_stopped ≡ false) × (h.seating.frames < peak)
EnterFails h peak Full = (h.waiters.is_stopped ≡ false) × (peak ≤ h.seating.frames) × IsFull h.waiters.queue

-- The one with this ticket has this chair, which is out with its peak.
abbrev pub begun : Parts → (ticket chair peak : ℕ) → Parts
begun h ticket chair peak =
    record h {
      seating = out_with h.seating chair peak;
      waiters = with_queue h.waiters (started h.waiters.queue ticket);
      posts = record h.posts { there = slice_set h.posts.there chair false };
    }

-- It starts: it is the one that may, in the room that there is. The first chair that is home is out with its peak, and
-- this is the worker that is handed out.
pub record Starts (old : Parts) (ticket : ℕ) (worker : Option ℕ) (told : Told) (new : Parts) : Type 0 where
  pub going : old.waiters.is_stopped ≡ false
  pub may : next_in old.waiters.queue (room_of old.seating) ≡ Some ticket
  pub chair : ℕ
  pub home : first_home old.seating.peaks ≡ Some chair
  pub is : worker ≡ Some chair
  pub peak : ℕ
  pub waits : peak_at old.waiters.queue ticket ≡ Some peak
  pub settles : Settles (begun old ticket chair peak) told new

-- It isn't the one that may start, or no chair is home: it sleeps, and wasn't told.
pub record Waits (old : Parts) (ticket : ℕ) (told : Told) (new : Parts) : Type 0 where
  pub going : old.waiters.is_stopped ≡ false
  pub may_not : ¬ (next_in old.waiters.queue (room_of old.seating) ≡ Some ticket)
  pub settles : Settles (in_queue old (put_to_sleep old.waiters.queue ticket)) told new

-- It has left the queue.
abbrev pub Leaves : Parts → (ticket : ℕ) → Told → Parts → Type 0
Leaves old ticket told new = Settles (in_queue old (left old.waiters.queue ticket)) told new

-- Nobody starts any more, and it has left the queue.
pub record IsTurnedAway (old : Parts) (ticket : ℕ) (told : Told) (new : Parts) : Type 0 where
  pub stopped : old.waiters.is_stopped ≡ true
  pub leaves : Leaves old ticket told new

-- What one that wants to start is answered.
abbrev pub StartIs : {D : Type 0} → Parts → (ticket : ℕ) → Started D → Parts → Type 0
StartIs old ticket (started.Takes post told) new = Starts old ticket (stage_worker post.hand.stage) told new
StartIs old ticket (started.Waits told) new = Waits old ticket told new
StartIs old ticket (started.Stopped told) new = IsTurnedAway old ticket told new

-- ---- a plan that is taken

-- The plan that is prepared at this place was submitted and taken by the chair.
pub record Takes (old : Parts) (chair : Chair) (place : ℕ) (response : Response) (told : Told) (new : Parts) : Type 0 where
  pub seating : seatings.Parts
  pub takes : TakesPlan old.seating chair place response seating
  pub settles : Settles (with_seating old seating) told new

-- It isn't taken: the chair comes back, and nothing was done.
pub record Refuses (old : Parts) (chair : Chair) (place : ℕ) (response : Response) (told : Told) (new : Parts) : Type 0 where
  pub cannot : CannotTake old.seating chair place response.answer
  pub back : (response.event ≡ None) × (is_no response.answer ≡ true)
  pub settles : Settles old told new

-- What a worker that takes a plan is answered, refused or not.
abbrev pub TakeIs : (refused : Bool) → Parts → Chair → (place : ℕ) → Response → Told → Parts → Type 0
TakeIs false old chair place response told new = Takes old chair place response told new
TakeIs true old chair place response told new = Refuses old chair place response told new

-- ---- requests

-- The vault answers the request. Its worker sleeps with what it wants, where that isn't possible now, and else doesn't
-- sleep.
pub record Performs (old : Parts) (asked : Request) (response : Response) (told : Told) (new : Parts) : Type 0 where
  pub seating : seatings.Parts
  pub performs : seatings.Performs old.seating asked response seating
  pub settles : Settles (record old {
    seating = seating;
    waiters = with_place old.waiters (asker asked) (place_after (want_of asked) response.answer);
  }) told new

-- A worker's thread doesn't sleep any more.
abbrev pub Rises : Parts → (worker : ℕ) → Told → Parts → Type 0
Rises old worker told new = Settles (with_waiters old (with_place old.waiters (Some worker) None)) told new

-- A page that is cached was fixed and latched S: two moves. Its worker doesn't sleep any more.
pub record Reads (old : Parts) (x : Session) (page : ℕ) (y : Session) (h : ReadGuard) (frame : ℕ) (told : Told) (new : Parts)
    : Type 0 where
  pub seating : seatings.Parts
  pub reads : vault.Reads old.seating.vault x page seating.vault y h frame
  pub rest : seating ≡ record old.seating {
    vault = seating.vault;
    counts = record old.seating.counts { hits = raised old.seating.counts.hits };
  }
  pub settles : Settles (record old { seating = seating; waiters = with_place old.waiters (Some x.worker) None }) told new

-- A latch S was taken off, and its page unfixed: two moves. (Its worker's place stays: one whose plan asks an unlatch doesn't sleep.)
pub record EndsRead (old : Parts) (x : Session) (g : ReadGuard) (y : Session) (mark : ℕ) (told : Told) (new : Parts)
    : Type 0 where
  pub seating : seatings.Parts
  pub ends : vault.EndsRead old.seating.vault x g seating.vault y mark
  pub rest : seating ≡ record old.seating { vault = seating.vault }
  pub settles : Settles (with_seating old seating) told new

-- ---- a worker that comes home

-- Whether the chair of this number is out, and its worker isn't there.
abbrev pub is_out : Parts → Option ℕ → Bool
is_out h None = false
is_out h (Some chair) =
    is_some (slice_index_or h.seating.peaks chair None) && not (slice_index_or h.posts.there chair true)

-- Its worker is there again; the chair is home, where the worker is idle, and else stays out.
abbrev pub came : Parts → (chair : ℕ) → (idle : Bool) → Parts
came h chair true =
    record h {
      seating = come_home h.seating chair;
      posts = record h.posts { there = slice_set h.posts.there chair true };
    }
came h chair false = record h { posts = record h.posts { there = slice_set h.posts.there chair true } }

-- The worker, at this stage, is there again; its chair is home exactly where it is idle.
pub record Parks (old : Parts) (at : Stage) (told : Told) (new : Parts) : Type 0 where
  pub chair : ℕ
  pub is : stage_worker at ≡ Some chair
  pub idle : Bool
  pub rests : (s : State) → StandsFor old.seating.vault s → idle ≡ (is_chair at && is_idle s chair)
  pub settles : Settles (came old chair idle) told new

-- ---- the flusher

-- The same hall, whose flusher is home or not.
abbrev pub with_flusher : Parts → (home : Bool) → Parts
with_flusher h home = record h { posts = record h.posts { is_flusher_home = home } }

-- The same hall, whose flusher is asleep or not.
abbrev pub with_flusher_asleep : Parts → Bool → Parts
with_flusher_asleep h asleep = with_waiters h (record h.waiters { is_flusher_asleep = asleep })

-- ---- the end

-- Everybody in the queue is told, and the flusher, and nobody starts any more.
pub record Stops (old : Parts) (told : Told) (new : Parts) : Type 0 where
  pub is : new ≡ with_waiters old (waiters.stopped old.waiters)
  pub everybody : told.all ≡ true
  pub flusher : told.flusher ≡ old.waiters.is_flusher_asleep
  pub nobody_else : (told.workers ≡ 0) × (told.next ≡ None)

-- ---- what a hall tells

-- What was counted, and what stands so now: the pages that are newer than the device's, the peaks of the chairs that
-- are out, those that wait to start, and the chairs that are home.
pub record StatsAre (h : Parts) (stats : Stats) : Type 0 where
  pub counts : stats.counts ≡ h.seating.counts
  pub dirty : (s : State) → StandsFor h.seating.vault s → stats.dirty ≡ dirty_pages s
  pub running_peaks : stats.running_peaks ≡ pages_out h.seating.peaks
  pub waiting : stats.waiting ≡ length h.waiters.queue.waiting
  pub chairs : stats.chairs ≡ count_by is_none h.seating.peaks
