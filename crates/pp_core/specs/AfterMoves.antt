-- What a worker has after a move, told by what the move was answered, in the words of a core's queries.
use Rattle.std.specs.Prelude.{◌≡◌, ◌≢◌, ◌<◌, ◌⊎◌, ℕ, Bool, true, false, Option, None, Some, IsSome, option_and_then}
use Rattle.std.specs.Prelude.{[], ◌∷◌}
use Rattle.pp_plan.specs.declared.mode.Mode.{Mode}
use Rattle.pp_plan.specs.declared.action.Ask.TheVariants as ask
use Rattle.pp_cert.specs.declared.note.Held.{Held}
use Rattle.pp_cert.specs.declared.note.Held.TheVariants.{Free, S, X}
use Rattle.pp_cert.specs.Held.{held_in}
use Rattle.pp_cert.specs.Accepted.{Acceptance}
use Rattle.pp_model.specs.declared.moves.Move.{Move}
use Rattle.pp_model.specs.declared.moves.Move.TheVariants as move
use Rattle.pp_model.specs.declared.moves.Came.{Came}
use Rattle.pp_model.specs.declared.moves.Came.TheVariants.{Image}
use Rattle.pp_model.specs.declared.reply.Ending.{Ending}
use Rattle.pp_model.specs.declared.reply.Ending.TheVariants as ending
use Rattle.pp_model.specs.declared.reply.Failure.{Failure}
use Rattle.pp_model.specs.declared.reply.Reply.{Reply}
use Rattle.pp_model.specs.declared.reply.Reply.TheVariants as reply
use Rattle.pp_model.specs.Pool.{State, frame_of, known_mark}
use Rattle.pp_model.specs.Moves.{reply_of, next_of, is_refusal}
use Rattle.pp_model.specs.Submitting.{after_submit}
use Rattle.pp_model.specs.Laws.{RefusedLeaves}
use Rattle.pp_model.specs.WorkerParts.{worker_of}
use Rattle.pp_core.specs.Fixing.{wanted}
use Rattle.pp_core.specs.Queries.{is_idle, is_leaving, ask_of, pending_of, held_of, bundle_of, gathered_of, errand_of}
use Rattle.pp_core.specs.Queries.{flushed_page}

-- ---- words

-- Worker w acts: its plan asks something next.
abbrev pub Acts : State → (w : ℕ) → Type 0
Acts s w = IsSome (ask_of s w)

-- The slot and the region of which worker w's plan asks a page, by a fix or by a gather.
abbrev pub wanted_of : State → (w : ℕ) → Option (ℕ × ℕ)
wanted_of s w = option_and_then wanted (ask_of s w)

-- Each slot of worker w holds in t what it held in s of its own; each but this one does.
abbrev pub SlotsStay : (s t : State) → (w : ℕ) → Type 0
SlotsStay s t w = (slot : ℕ) → held_of t w slot ≡ held_of s w slot

abbrev pub OtherSlotsStay : (s t : State) → (w slot : ℕ) → Type 0
OtherSlotsStay s t w slot = (k : ℕ) → k ≢ slot → held_of t w k ≡ held_of s w k

-- Each bundle of worker w has the pages in t that it has in s; each but this one has.
abbrev pub BundlesStay : (s t : State) → (w : ℕ) → Type 0
BundlesStay s t w = (slot : ℕ) → bundle_of t w slot ≡ bundle_of s w slot

abbrev pub OtherBundlesStay : (s t : State) → (w slot : ℕ) → Type 0
OtherBundlesStay s t w slot = (k : ℕ) → k ≢ slot → bundle_of t w k ≡ bundle_of s w k

-- All that is told of worker v in t is as in s.
pub record WorkerStays (s t : State) (v : ℕ) : Type 0 where
  pub idle : is_idle t v ≡ is_idle s v
  pub leaving : is_leaving t v ≡ is_leaving s v
  pub asks : ask_of t v ≡ ask_of s v
  pub pending : pending_of t v ≡ pending_of s v
  pub held : (slot : ℕ) → held_of t v slot ≡ held_of s v slot
  pub bundles : BundlesStay s t v
  pub errand : errand_of t v ≡ errand_of s v

-- ---- what a done move found

-- The worker's plan ends, or the worker has left it.
abbrev pub EndsBy : State → (w : ℕ) → Ending → Type 0
EndsBy s w ending.Done = ask_of s w ≡ Some ask.End
EndsBy s w ending.Gone = is_leaving s w ≡ true

-- What the queries told, before a move that is done, of the worker that makes it, and of the flush before the flusher's.
abbrev pub Found : State → Move → Type 0
Found s (move.Take w) = is_idle s w ≡ true
Found s (move.Fix w page) = (slot : ℕ) × (region : ℕ) × (wanted_of s w ≡ Some (slot, region))
Found s (move.WriteDone w ok) =
    (slot : ℕ) × (page : ℕ) × (victim : ℕ) × (errand_of s w ≡ Some (slot, page, Some victim))
Found s (move.ReadDone w came) = (slot : ℕ) × (page : ℕ) × (errand_of s w ≡ Some (slot, page, None))
Found s (move.Unfix w) =
    ((slot : ℕ) × (page : ℕ) × (ask_of s w ≡ Some (ask.Unfix slot)) × (held_of s w slot ≡ Some (page, Free)))
    ⊎ ((slot : ℕ) × (ask_of s w ≡ Some (ask.Scatter slot)) × (0 < gathered_of s w slot))
Found s (move.Latch w) =
    (slot : ℕ) × (mode : Mode) × (page : ℕ) × (ask_of s w ≡ Some (ask.Latch slot mode))
    × (held_of s w slot ≡ Some (page, Free))
Found s (move.Unlatch w) =
    (slot : ℕ) × (mode : Mode) × (page : ℕ) × (ask_of s w ≡ Some (ask.Unlatch slot))
    × (held_of s w slot ≡ Some (page, held_in mode))
Found s (move.Choose w branch) = (count : ℕ) × (ask_of s w ≡ Some (ask.Choose count)) × (branch < count)
Found s (move.Unwind w slot) =
    (is_leaving s w ≡ true)
    × (((page : ℕ) × (held : Held) × (held_of s w slot ≡ Some (page, held))) ⊎ (0 < gathered_of s w slot))
Found s (move.Finish w) =
    (by : Ending) × (reply_of s (move.Finish w) ≡ reply.Finished by) × EndsBy s w by
Found s (move.FlushBegin page) = flushed_page s ≡ None
Found s (move.FlushDone ok) = (page : ℕ) × (flushed_page s ≡ Some page)

abbrev pub DoneFound : State → Type 0
DoneFound s = (m : Move) → is_refusal (reply_of s m) ≡ false → Found s m

-- ---- Take

-- A worker that takes a plan acts, and holds nothing.
pub record HasBegun (t : State) (w : ℕ) : Type 0 where
  pub acts : Acts t w
  pub empty : (slot : ℕ) → held_of t w slot ≡ None
  pub no_bundle : (slot : ℕ) → bundle_of t w slot ≡ []

abbrev pub TakenActs : State → Type 0
TakenActs s =
    (w plan : ℕ) → reply_of s (move.Take w) ≡ reply.Taken plan → HasBegun (next_of s (move.Take w)) w

-- ---- Fix, and what the device gave for it

-- The page is fixed into the slot, which was empty; it isn't latched, and this is its mark. The worker acts.
pub record HasFixed (s t : State) (w slot page mark : ℕ) : Type 0 where
  pub empty : held_of s w slot ≡ None
  pub no_bundle : bundle_of s w slot ≡ []
  pub held : held_of t w slot ≡ Some (page, Free)
  pub known : known_mark t page ≡ Some mark
  pub acts : Acts t w
  pub others : OtherSlotsStay s t w slot
  pub bundles : BundlesStay s t w

-- The page is gathered into the slot, a bundle or empty, before its other pages; this is its mark. The worker acts.
pub record HasGathered (s t : State) (w slot page mark : ℕ) : Type 0 where
  pub no_page : held_of s w slot ≡ None
  pub more : bundle_of t w slot ≡ page ∷ bundle_of s w slot
  pub known : known_mark t page ≡ Some mark
  pub acts : Acts t w
  pub slots : SlotsStay s t w
  pub others : OtherBundlesStay s t w slot

-- This errand is out for the worker, and its slots are as they were. The errand's one is empty, or a bundle where the plan asks
-- a gather.
pub record IsSent (s t : State) (w slot page : ℕ) (victim : Option ℕ) : Type 0 where
  pub errand : errand_of t w ≡ Some (slot, page, victim)
  pub empty : held_of s w slot ≡ None
  pub no_bundle : (region : ℕ) → pending_of s w ≡ Some (ask.Fix slot region) → bundle_of s w slot ≡ []
  pub pending : pending_of t w ≡ pending_of s w
  pub slots : SlotsStay s t w
  pub bundles : BundlesStay s t w

-- The worker leaves its plan, and its slots are as they were.
pub record HasLost (s t : State) (w : ℕ) : Type 0 where
  pub leaving : is_leaving t w ≡ true
  pub slots : SlotsStay s t w
  pub bundles : BundlesStay s t w

abbrev pub HitFixes : State → Type 0
HitFixes s =
    (w page slot region frame mark : ℕ) → reply_of s (move.Fix w page) ≡ reply.Hit frame mark
    → ask_of s w ≡ Some (ask.Fix slot region) → HasFixed s (next_of s (move.Fix w page)) w slot page mark

abbrev pub HitGathers : State → Type 0
HitGathers s =
    (w page slot region frame mark : ℕ) → reply_of s (move.Fix w page) ≡ reply.Hit frame mark
    → ask_of s w ≡ Some (ask.Gather slot region) → HasGathered s (next_of s (move.Fix w page)) w slot page mark

abbrev pub FixSends : State → Type 0
FixSends s =
    (w page slot region frame : ℕ) → reply_of s (move.Fix w page) ≡ reply.MustRead frame
    → wanted_of s w ≡ Some (slot, region) → IsSent s (next_of s (move.Fix w page)) w slot page None

abbrev pub FixSendsVictim : State → Type 0
FixSendsVictim s =
    (w page slot region frame victim : ℕ) → reply_of s (move.Fix w page) ≡ reply.MustWrite frame victim
    → wanted_of s w ≡ Some (slot, region) → IsSent s (next_of s (move.Fix w page)) w slot page (Some victim)

abbrev pub WrittenReads : State → Type 0
WrittenReads s =
    (w : ℕ) (ok : Bool) (slot page victim frame : ℕ) → reply_of s (move.WriteDone w ok) ≡ reply.MustRead frame
    → errand_of s w ≡ Some (slot, page, Some victim) → IsSent s (next_of s (move.WriteDone w ok)) w slot page None

abbrev pub WriteFails : State → Type 0
WriteFails s =
    (w : ℕ) (ok : Bool) (failure : Failure) → reply_of s (move.WriteDone w ok) ≡ reply.Failed failure
    → HasLost s (next_of s (move.WriteDone w ok)) w

-- What was read is loaded only where it named the page, and its stamp is the mark. The page is fixed or gathered, as the plan
-- asks it.
pub record HasLoaded (s t : State) (w slot page mark : ℕ) (came : Came) : Type 0 where
  pub asked : (region : ℕ) × (option_and_then wanted (pending_of s w) ≡ Some (slot, region))
  pub fixed : (region : ℕ) → pending_of s w ≡ Some (ask.Fix slot region) → HasFixed s t w slot page mark
  pub gathered : (region : ℕ) → pending_of s w ≡ Some (ask.Gather slot region) → HasGathered s t w slot page mark
  pub image : came ≡ Image page mark

abbrev pub ReadLoads : State → Type 0
ReadLoads s =
    (w : ℕ) (came : Came) (slot page mark : ℕ) → reply_of s (move.ReadDone w came) ≡ reply.Loaded mark
    → errand_of s w ≡ Some (slot, page, None)
    → HasLoaded s (next_of s (move.ReadDone w came)) w slot page mark came

abbrev pub ReadFails : State → Type 0
ReadFails s =
    (w : ℕ) (came : Came) (failure : Failure) → reply_of s (move.ReadDone w came) ≡ reply.Failed failure
    → HasLost s (next_of s (move.ReadDone w came)) w

-- ---- frames

-- The frame that is told of a fix is the page's.
abbrev pub HitFrame : State → Type 0
HitFrame s =
    (w page frame mark : ℕ) → reply_of s (move.Fix w page) ≡ reply.Hit frame mark
    → frame_of (next_of s (move.Fix w page)) page ≡ Some frame

abbrev pub FixFrame : State → Type 0
FixFrame s =
    (w page frame : ℕ) → reply_of s (move.Fix w page) ≡ reply.MustRead frame
    → frame_of (next_of s (move.Fix w page)) page ≡ Some frame

abbrev pub FixVictimFrame : State → Type 0
FixVictimFrame s =
    (w page frame victim : ℕ) → reply_of s (move.Fix w page) ≡ reply.MustWrite frame victim
    → frame_of (next_of s (move.Fix w page)) page ≡ Some frame

abbrev pub WrittenFrame : State → Type 0
WrittenFrame s =
    (w : ℕ) (ok : Bool) (slot page victim frame : ℕ) → reply_of s (move.WriteDone w ok) ≡ reply.MustRead frame
    → errand_of s w ≡ Some (slot, page, Some victim)
    → frame_of (next_of s (move.WriteDone w ok)) page ≡ Some frame

-- ---- Unfix, Latch, Unlatch, Choose

-- The slot is empty, and the worker acts.
pub record HasUnfixed (s t : State) (w slot : ℕ) : Type 0 where
  pub empty : held_of t w slot ≡ None
  pub acts : Acts t w
  pub others : OtherSlotsStay s t w slot
  pub bundles : BundlesStay s t w

-- The slot was a bundle and is empty, and the worker acts.
pub record HasScattered (s t : State) (w slot : ℕ) : Type 0 where
  pub some : 0 < gathered_of s w slot
  pub none : bundle_of t w slot ≡ []
  pub acts : Acts t w
  pub slots : SlotsStay s t w
  pub others : OtherBundlesStay s t w slot

abbrev pub UnfixEmpties : State → Type 0
UnfixEmpties s =
    (w slot : ℕ) → reply_of s (move.Unfix w) ≡ reply.Did → ask_of s w ≡ Some (ask.Unfix slot)
    → HasUnfixed s (next_of s (move.Unfix w)) w slot

abbrev pub ScatterEmpties : State → Type 0
ScatterEmpties s =
    (w slot : ℕ) → reply_of s (move.Unfix w) ≡ reply.Did → ask_of s w ≡ Some (ask.Scatter slot)
    → HasScattered s (next_of s (move.Unfix w)) w slot

-- The slot's page is held so, and this is its mark. The worker acts.
pub record NowHeld (s t : State) (w slot page mark : ℕ) (how : Held) : Type 0 where
  pub held : held_of t w slot ≡ Some (page, how)
  pub known : known_mark t page ≡ Some mark
  pub acts : Acts t w
  pub others : OtherSlotsStay s t w slot
  pub bundles : BundlesStay s t w

-- A latch leaves the page's mark.
pub record HasLatched (s t : State) (w slot page mark : ℕ) (mode : Mode) : Type 0 where
  pub now : NowHeld s t w slot page mark (held_in mode)
  pub known : known_mark s page ≡ Some mark

abbrev pub LatchHolds : State → Type 0
LatchHolds s =
    (w slot page mark : ℕ) (mode : Mode) → reply_of s (move.Latch w) ≡ reply.Latched mark
    → ask_of s w ≡ Some (ask.Latch slot mode) → held_of s w slot ≡ Some (page, Free)
    → HasLatched s (next_of s (move.Latch w)) w slot page mark mode

abbrev pub UnlatchFrees : State → Type 0
UnlatchFrees s =
    (w slot page mark : ℕ) (held : Held) → reply_of s (move.Unlatch w) ≡ reply.Unlatched mark
    → ask_of s w ≡ Some (ask.Unlatch slot) → held_of s w slot ≡ Some (page, held)
    → NowHeld s (next_of s (move.Unlatch w)) w slot page mark Free

-- The worker acts, and its slots are as they were.
pub record HasChosen (s t : State) (w : ℕ) : Type 0 where
  pub acts : Acts t w
  pub slots : SlotsStay s t w
  pub bundles : BundlesStay s t w

abbrev pub ChooseActs : State → Type 0
ChooseActs s =
    (w branch : ℕ) → reply_of s (move.Choose w branch) ≡ reply.Did → HasChosen s (next_of s (move.Choose w branch)) w

-- ---- Unwind and Finish

-- How the giving back of a slot is answered, by how the slot held its page: a latch X tells the page's mark.
abbrev pub IsUnwindReply : (t : State) → (page : ℕ) → Held → Reply → Type 0
IsUnwindReply t page Free r = r ≡ reply.Did
IsUnwindReply t page S r = r ≡ reply.Did
IsUnwindReply t page X r = (mark : ℕ) × (r ≡ reply.Unlatched mark) × (known_mark t page ≡ Some mark)

-- The slot is empty, and the worker still leaves its plan.
pub record HasUnwound (s t : State) (w slot page : ℕ) (held : Held) (r : Reply) : Type 0 where
  pub leaving : is_leaving t w ≡ true
  pub empty : held_of t w slot ≡ None
  pub others : OtherSlotsStay s t w slot
  pub bundles : BundlesStay s t w
  pub told : IsUnwindReply t page held r

-- The slot was a bundle and is empty, and the worker still leaves its plan.
pub record HasUnwoundBundle (s t : State) (w slot : ℕ) (r : Reply) : Type 0 where
  pub leaving : is_leaving t w ≡ true
  pub none : bundle_of t w slot ≡ []
  pub slots : SlotsStay s t w
  pub others : OtherBundlesStay s t w slot
  pub told : r ≡ reply.Did

abbrev pub UnwindEmpties : State → Type 0
UnwindEmpties s =
    (w slot page : ℕ) (held : Held) → is_refusal (reply_of s (move.Unwind w slot)) ≡ false
    → held_of s w slot ≡ Some (page, held)
    → HasUnwound s (next_of s (move.Unwind w slot)) w slot page held (reply_of s (move.Unwind w slot))

abbrev pub UnwindScatters : State → Type 0
UnwindScatters s =
    (w slot : ℕ) → is_refusal (reply_of s (move.Unwind w slot)) ≡ false → 0 < gathered_of s w slot
    → HasUnwoundBundle s (next_of s (move.Unwind w slot)) w slot (reply_of s (move.Unwind w slot))

-- The worker is idle. It ended its plan, or it had left it, and it held nothing.
pub record HasFinished (s t : State) (w : ℕ) (by : Ending) : Type 0 where
  pub idle : is_idle t w ≡ true
  pub ends : EndsBy s w by
  pub empty : (slot : ℕ) → held_of s w slot ≡ None
  pub no_bundle : (slot : ℕ) → bundle_of s w slot ≡ []
  pub after : (slot : ℕ) → held_of t w slot ≡ None
  pub no_bundle_after : (slot : ℕ) → bundle_of t w slot ≡ []

abbrev pub FinishIdles : State → Type 0
FinishIdles s =
    (w : ℕ) (by : Ending) → reply_of s (move.Finish w) ≡ reply.Finished by
    → HasFinished s (next_of s (move.Finish w)) w by

-- ---- the flusher

-- The page is being flushed, and this is its mark. As the flush began no worker loaded the page, and no slot held it X.
pub record IsFlushing (s t : State) (page mark : ℕ) : Type 0 where
  pub flushed : flushed_page t ≡ Some page
  pub marked : known_mark t page ≡ Some mark
  pub unloaded : (w slot : ℕ) (victim : Option ℕ) → errand_of s w ≢ Some (slot, page, victim)
  pub unwritten : (w slot : ℕ) → held_of s w slot ≢ Some (page, X)

abbrev pub FlushBegins : State → Type 0
FlushBegins s =
    (page mark : ℕ) → reply_of s (move.FlushBegin page) ≡ reply.Flushing mark
    → IsFlushing s (next_of s (move.FlushBegin page)) page mark

abbrev pub FlushEnds : State → Type 0
FlushEnds s =
    (ok clean : Bool) → reply_of s (move.FlushDone ok) ≡ reply.Flushed clean
    → flushed_page (next_of s (move.FlushDone ok)) ≡ None

-- The moves of workers leave the flush.
abbrev pub WorkersLeaveFlush : State → Type 0
WorkersLeaveFlush s =
    (m : Move) (w : ℕ) → worker_of m ≡ Some w → flushed_page (next_of s m) ≡ flushed_page s

-- ---- the others

-- A move leaves all workers but the one that makes it; the flusher's moves leave all, and so does a plan that comes.
abbrev pub OtherWorkersStay : State → Type 0
OtherWorkersStay s = (m : Move) (v : ℕ) → worker_of m ≢ Some v → WorkerStays s (next_of s m) v

abbrev pub PlansLeaveWorkers : State → Type 0
PlansLeaveWorkers s = (a : Acceptance) (v : ℕ) → WorkerStays s (after_submit s a) v

-- A page that is held X is held latched nowhere else.
abbrev pub ExclusiveAlone : State → Type 0
ExclusiveAlone s =
    (v slot w k page : ℕ) → held_of s v slot ≡ Some (page, X) → (held : Held) → held ≢ Free
    → held_of s w k ≡ Some (page, held) → (w ≡ v) × (k ≡ slot)

-- The move takes the latch off this slot of worker v.
abbrev pub Releases : State → Move → (v slot : ℕ) → Type 0
Releases s (move.Unlatch w) v slot = (w ≡ v) × (ask_of s v ≡ Some (ask.Unlatch slot))
Releases s (move.Unwind w k) v slot = (w ≡ v) × (k ≡ slot)
Releases s _ v slot = ⊥

-- A page that a slot holds X keeps its mark through each move that doesn't take this latch off.
abbrev pub ExclusiveKeepsMark : State → Type 0
ExclusiveKeepsMark s =
    (m : Move) (v slot page : ℕ) → held_of s v slot ≡ Some (page, X) → ¬ Releases s m v slot
    → known_mark (next_of s m) page ≡ known_mark s page

-- A page that a slot holds S keeps its mark through each move.
abbrev pub SharedKeepsMark : State → Type 0
SharedKeepsMark s =
    (m : Move) (v slot page : ℕ) → held_of s v slot ≡ Some (page, S)
    → known_mark (next_of s m) page ≡ known_mark s page

-- A victim that is written back keeps its mark through each move.
abbrev pub VictimKeepsMark : State → Type 0
VictimKeepsMark s =
    (m : Move) (v slot page victim : ℕ) → errand_of s v ≡ Some (slot, page, Some victim)
    → known_mark (next_of s m) victim ≡ known_mark s victim

-- A known mark changes only where a latch X is taken off its page.
abbrev pub MarkStays : State → Type 0
MarkStays s =
    (m : Move) (page mark : ℕ) → known_mark s page ≡ Some mark
    → ((v slot : ℕ) → Releases s m v slot → held_of s v slot ≢ Some (page, X))
    → known_mark (next_of s m) page ≡ Some mark

-- No slot has a page of its own beside a bundle's.
abbrev pub OneKind : State → Type 0
OneKind s = (w slot : ℕ) → (held_of s w slot ≡ None) ⊎ (bundle_of s w slot ≡ [])

-- All of these; and a move that is refused leaves the state.
pub record AfterMoves (s : State) : Type 0 where
  pub refused : RefusedLeaves s
  pub found : DoneFound s
  pub taken : TakenActs s
  pub hit : HitFixes s
  pub hit_gather : HitGathers s
  pub sent : FixSends s
  pub sent_victim : FixSendsVictim s
  pub written : WrittenReads s
  pub not_written : WriteFails s
  pub loaded : ReadLoads s
  pub not_read : ReadFails s
  pub hit_frame : HitFrame s
  pub sent_frame : FixFrame s
  pub sent_victim_frame : FixVictimFrame s
  pub written_frame : WrittenFrame s
  pub unfixed : UnfixEmpties s
  pub scattered : ScatterEmpties s
  pub latched : LatchHolds s
  pub unlatched : UnlatchFrees s
  pub chosen : ChooseActs s
  pub unwound : UnwindEmpties s
  pub unwound_bundle : UnwindScatters s
  pub finished : FinishIdles s
  pub flush_begun : FlushBegins s
  pub flush_ended : FlushEnds s
  pub flush_left : WorkersLeaveFlush s
  pub others : OtherWorkersStay s
  pub plans : PlansLeaveWorkers s
  pub alone : ExclusiveAlone s
  pub exclusive_mark : ExclusiveKeepsMark s
  pub shared_mark : SharedKeepsMark s
  pub victim_mark : VictimKeepsMark s
  pub mark : MarkStays s
  pub one_kind : OneKind s
