-- What the functions that play one cue tell one another.
use Rattle.std.specs.Prelude.{◌≡◌, ◌≢◌, ℕ, Bool, true, ◌&&◌, ◌||◌, Option, None, Some, List}
use Rattle.pp_plan.specs.declared.action.Ask.{Ask}
use Rattle.pp_plan.specs.declared.action.Ask.TheVariants as ask
use Rattle.pp_model.specs.declared.moves.Move.{Move}
use Rattle.pp_model.specs.declared.reply.Reply.{Reply}
use Rattle.pp_model.specs.Pool.{State}
use Rattle.pp_model.specs.Moves.{reply_of, next_of, seat_of}
use Rattle.pp_core.specs.Queries.{ask_of, errand_of}
use Rattle.pp_vault.specs.Calls.{refusal_in}
use Rattle.pp_vault.specs.Parts.{Parts}
use Rattle.pp_vault.specs.StandsFor.{StandsFor}
use Rattle.pp_vault.specs.Fits.{is_gathered}
use Rattle.pp_vault.specs.Holding.{has_bundle, placed, is_free}
use Rattle.pp_script.specs.declared.cue.Cue.{Cue}
use Rattle.pp_script.specs.declared.cue.Cue.TheVariants.{Take, Fix, Device, Unfix, Latch, Unlatch, Choose, Unwind, Finish}
use Rattle.pp_script.specs.declared.cue.Cue.TheVariants.{Flush, FlushDevice, Write, Look}
use Rattle.pp_vault.specs.declared.guards.Guard.{Guard}
use Rattle.pp_vault.specs.declared.stage.Hand.{Hand}
use Rattle.pp_vault.specs.declared.hands.Flushing.{Flushing}
use Rattle.pp_vault.specs.Hands.{FlushingFits}
use Rattle.pp_vault.specs.HandLaws.{FitsIn}
use Rattle.pp_play.specs.declared.line.Line.{Line}
use Rattle.pp_play.specs.declared.line.Line.TheVariants.{Did, Wrote}
use Rattle.pp_play.specs.Plays.{IsMoveOf}
use Rattle.pp_play.specs.Exact.{IsLineOf}

-- The worker of a cue; none where it is of the flusher.
abbrev pub cue_worker : Cue → Option ℕ
cue_worker (Take w) = Some w
cue_worker (Fix w page) = Some w
cue_worker (Device w) = Some w
cue_worker (Unfix w) = Some w
cue_worker (Latch w) = Some w
cue_worker (Unlatch w) = Some w
cue_worker (Choose w branch) = Some w
cue_worker (Unwind w slot) = Some w
cue_worker (Finish w) = Some w
cue_worker (Flush page) = None
cue_worker FlushDevice = None
cue_worker (Write w slot byte) = Some w
cue_worker (Look w slot) = Some w

-- A move that the cue asks is done, and these are the move and the model's reply to it, which is no refusal.
pub record IsDone (old : Parts) (cue : Cue) (done : Move × Reply) (new : Parts) : Type 0 where
  pub asked : IsMoveOf cue done.0
  pub allowed : refusal_in done.1 ≡ None
  pub replies : (s : State) → StandsFor old s → reply_of s done.0 ≡ done.1
  pub stands : (s : State) → StandsFor old s → StandsFor new (next_of s done.0)

-- Whether a page may come into the slot of worker w with these guards in their places: nothing is in its place, or the slot is
-- a bundle, and the guard of one is there.
abbrev pub has_room : State → (w : ℕ) → List (Option Guard) → (slot : ℕ) → Bool
has_room s w places slot = is_free places slot || (has_bundle (placed places slot) && is_gathered s w slot)

-- The slot into which a plan asks a page, by a fix or by a gather.
abbrev pub slot_wanted : Ask → Option ℕ
slot_wanted (ask.Fix slot region) = Some slot
slot_wanted (ask.Gather slot region) = Some slot
slot_wanted _ = None

-- The slot into which the worker's plan asks a page has room for it.
abbrev pub FixHasPlace : Parts → (w : ℕ) → List (Option Guard) → Type 0
FixHasPlace v w places =
    (s : State) → StandsFor v s → (a : Ask) (slot : ℕ) → ask_of s w ≡ Some a → slot_wanted a ≡ Some slot
    → has_room s w places slot ≡ true

-- The slot of the worker's errand has room for its page.
abbrev pub ErrandHasPlace : Parts → (w : ℕ) → List (Option Guard) → Type 0
ErrandHasPlace v w places =
    (s : State) → StandsFor v s → (slot page : ℕ) (victim : Option ℕ) → errand_of s w ≡ Some (slot, page, victim)
    → has_room s w places slot ≡ true

-- The flusher's token fits, in every state that the parts stand for.
abbrev pub FlushingFitsIn : Parts → Option Flushing → Type 0
FlushingFitsIn v flushing = (s : State) → StandsFor v s → FlushingFits v.page_bytes s flushing

-- The hands of all other workers and the flusher's token, where they fit, still do.
pub record LeavesOthers (old : Parts) (w : ℕ) (new : Parts) : Type 0 where
  pub hands : (v : ℕ) → v ≢ w → (hand : Hand) → FitsIn old v hand → FitsIn new v hand
  pub flushing : (flushing : Option Flushing) → FlushingFitsIn old flushing → FlushingFitsIn new flushing

-- A cue that isn't done leaves the vault and the hand; one that writes a byte leaves the vault and the token.
abbrev pub LeavesHand : Parts → Hand → Line → (new : Parts) → (left : Hand) → Type 0
LeavesHand old hand (Did m reply) new left = Unit {0}
LeavesHand old hand Wrote new left = (new ≡ old) × (left.stage ≡ hand.stage)
LeavesHand old hand line new left = (new ≡ old) × (left ≡ hand)

-- A cue of worker w is played with a hand that fits: its line is exact, it leaves all else where it isn't done, and all
-- hands still fit.
pub record HandPlays (old : Parts) (w : ℕ) (hand : Hand) (cue : Cue) (line : Line) (new : Parts)
    (left : Hand) : Type 0 where
  pub exact : (s : State) → StandsFor old s → IsLineOf old s hand.guards left.guards cue line
  pub leaves : LeavesHand old hand line new left
  pub fit : FitsIn new w left
  pub others : LeavesOthers old w new

-- The line of a cue whose worker isn't there is exact.
abbrev pub IsLineWithout : Cue → Line → Type 0
IsLineWithout cue line =
    (v : Parts) (s : State) (w : ℕ) (guards : List (Option Guard)) → cue_worker cue ≡ Some w → seat_of s w ≡ None
    → IsLineOf v s guards guards cue line
