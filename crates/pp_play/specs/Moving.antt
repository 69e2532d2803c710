-- What the functions that play one cue tell one another of the tokens that they move, and of the device that they ask.
use Rattle.std.specs.Prelude.{◌≡◌, ℕ, Bool, true, false, Option, None, Some, IfSome, List, slice_set}
use Rattle.pp_model.specs.declared.moves.Move.{Move}
use Rattle.pp_model.specs.declared.reply.Reply.{Reply}
use Rattle.pp_model.specs.Pool.{State}
use Rattle.pp_device.specs.Answers.{Answer}
use Rattle.pp_cert.specs.declared.note.Held.TheVariants.{S}
use Rattle.pp_plan.specs.declared.mode.Mode.TheVariants as mode
use Rattle.pp_vault.specs.declared.tokens.Errand.{Errand}
use Rattle.pp_vault.specs.declared.tokens.Returned.{Returned}
use Rattle.pp_vault.specs.declared.tokens.Session.{Session}
use Rattle.pp_vault.specs.declared.guards.Guard.{Guard}
use Rattle.pp_vault.specs.declared.guards.Guard.TheVariants.{Pin, Read, Write, Bundle}
use Rattle.pp_vault.specs.declared.guards.PinGuard.{PinGuard}
use Rattle.pp_vault.specs.declared.stage.Stage.{Stage}
use Rattle.pp_vault.specs.declared.stage.Stage.TheVariants.{In, Back}
use Rattle.pp_vault.specs.Stages.{stage_worker}
use Rattle.pp_vault.specs.declared.stage.Hand.{Hand}
use Rattle.pp_vault.specs.declared.hands.Hands.{Hands}
use Rattle.pp_vault.specs.declared.answering.Answered.TheVariants.{Flushed}
use Rattle.pp_vault.specs.Parts.{Parts}
use Rattle.pp_vault.specs.StandsFor.{StandsFor}
use Rattle.pp_vault.specs.Events as event
use Rattle.pp_vault.specs.Fits.{latch_call, unlatch_call, put_back_call}
use Rattle.pp_vault.specs.Tokens.{is_long}
use Rattle.pp_vault.specs.Answers.{answer_call, AnswerComesTo}
use Rattle.pp_vault.specs.Carrying.{CarriesOut}
use Rattle.pp_contents.specs.HandMoves.{HandMoves, call_in}
use Rattle.pp_vault.specs.Hands.{HandsFit}
use Rattle.pp_vault.specs.Holding.{slot_by, placed}
use Rattle.pp_vault.specs.declared.refusal.Refusal.{Refusal}
use Rattle.pp_vault.specs.Uses.{LatchesShared, LatchesExclusive, UnlatchesShared, UnlatchesExclusive}
use Rattle.pp_contents.specs.ContentLaws.{returned_of, KeepsContents}
use Rattle.pp_contents.specs.Agreeing.{Agrees}
use Rattle.pp_script.specs.declared.cue.Cue.{Cue}
use Rattle.pp_script.specs.declared.cue.Cue.TheVariants.{Device, Take, Choose, Finish}
use Rattle.pp_play.specs.declared.line.Line.{Line}
use Rattle.pp_play.specs.declared.line.Line.TheVariants.{Did, Refused}
use Rattle.pp_play.specs.Doing.{IsDone}
use Rattle.pp_play.specs.Guarding.{hand_of, PlaysHand}
use Rattle.pp_play.specs.Calling.{is_back}
use Rattle.pp_play.specs.Plays.{Tells}
use Rattle.pp_play.specs.Following.{errand_at, answer_move, FlusherFollows, PlaysOver}

-- ---- one hand

-- Whether the line says that a move is done.
abbrev pub tells_move : Line → Bool
tells_move (Did m reply) = true
tells_move _ = false

-- A call of the vault was done with the tokens of the hand, and was answered so.
abbrev pub CallsWith : (old : Parts) → Hand → (Move × Reply) → (new : Parts) → (left : Hand) → Type 0
CallsWith old hand done new left =
    (moves : HandMoves old hand new left) × event.Tells old (call_in old hand new left moves) done

-- A line that says that a move is done: a call of the vault was done with the tokens of the hand, and answered what the
-- line tells.
abbrev pub MovesHand : (old : Parts) → Hand → Line → (new : Parts) → (left : Hand) → Type 0
MovesHand old hand (Did m reply) new left = CallsWith old hand (m, reply) new left
MovesHand old hand line new left = Unit {0}

-- The page of a guard was latched, S or X, and the call was answered so.
abbrev pub LatchesWith : (old : Parts) → Session → PinGuard → (Move × Reply) → (new : Parts) → Session → Guard → Type 0
LatchesWith old x g done new y (Pin h) = ⊥
LatchesWith old x g done new y (Read h) =
    LatchesShared old x g new y h × event.Tells old (latch_call mode.S x.worker g.worker g.slot g.page) done
LatchesWith old x g done new y (Write h) =
    LatchesExclusive old x g new y h × event.Tells old (latch_call mode.X x.worker g.worker g.slot g.page) done
LatchesWith old x g done new y (Bundle h) = ⊥

-- The latch of a guard is off its page, and the call was answered so.
abbrev pub UnlatchesWith : (old : Parts) → Session → Guard → (Move × Reply) → (new : Parts) → Session → PinGuard → Type 0
UnlatchesWith old x (Pin g) done new y h = ⊥
UnlatchesWith old x (Read g) done new y h =
    UnlatchesShared old x g new y h × event.Tells old (unlatch_call S x.worker g.worker g.slot g.page) done
UnlatchesWith old x (Write g) done new y h =
    UnlatchesExclusive old x g new y h
    × event.Tells old (put_back_call (is_long old g.image) x.worker g.worker g.slot g.page) done
UnlatchesWith old x (Bundle g) done new y h = ⊥

-- The worker of a cue that needs no page: it takes a plan, goes on with a branch, or is done.
abbrev pub acts_by : Cue → Option ℕ
acts_by (Take w) = Some w
acts_by (Choose w branch) = Some w
acts_by (Finish w) = Some w
acts_by cue = None

-- A call of the vault was done with the token of worker w, as the cue asks it, and gave the worker another. Whatever guards are in
-- the hand, the cue was played so.
pub record ActsWith (old : Parts) (w : ℕ) (stage : Stage) (cue : Cue) (did : Move × Reply) (new : Parts)
    (now : Stage) : Type 0 where
  pub of : stage_worker now ≡ Some w
  pub forth : is_back now ≡ false
  pub is_done : IsDone old cue did new
  pub plays : (guards : List (Option Guard))
      → PlaysHand old w (hand_of stage guards) cue (Did did.0 did.1) new (hand_of now guards)
  pub moves : (guards : List (Option Guard)) → CallsWith old (hand_of stage guards) did new (hand_of now guards)

-- It was refused so. Whatever guards are in the hand, the cue was played.
abbrev pub RefusesStage : (old : Parts) → (w : ℕ) → Stage → Cue → Refusal → Type 0
RefusesStage old w stage cue why =
    (guards : List (Option Guard))
    → PlaysHand old w (hand_of stage guards) cue (Refused cue why) old (hand_of stage guards)

-- A call of the vault was done with this guard, as the cue asks it, and gave a session and a guard of the slot, or none. Where
-- the guard stood in its place, and what the call gave stands there now, the cue was played so.
pub record UsesGuard (old : Parts) (x : Session) (g : Guard) (cue : Cue) (did : Move × Reply) (new : Parts) (y : Session)
    (h : Option Guard) : Type 0 where
  pub of : y.worker ≡ x.worker
  pub slot : IfSome h (λ left. slot_by left ≡ slot_by g)
  pub is_done : IsDone old cue did new
  pub plays : (places : List (Option Guard)) → placed places (slot_by g) ≡ Some g
      → PlaysHand old x.worker (hand_of (In x) places) cue (Did did.0 did.1) new
      (hand_of (In y) (slice_set places (slot_by g) h))
  pub moves : (places : List (Option Guard)) → placed places (slot_by g) ≡ Some g
      → CallsWith old (hand_of (In x) places) did new (hand_of (In y) (slice_set places (slot_by g) h))

-- It was refused so. Where the guard stood in its place, the cue was played.
abbrev pub RefusesGuard : (old : Parts) → Session → Guard → Cue → Refusal → Type 0
RefusesGuard old x g cue why =
    (places : List (Option Guard)) → placed places (slot_by g) ≡ Some g
    → PlaysHand old x.worker (hand_of (In x) places) cue (Refused cue why) old (hand_of (In x) places)

-- ---- a device

-- A line that says that a move is done: it is the one by which the core is told of this answer.
abbrev pub TellsAnswer : Returned → Line → Type 0
TellsAnswer returned (Did m reply) = m ≡ answer_move returned.duty returned.image returned.answer
TellsAnswer returned line = Unit {0}

-- The errand in the hand that a cue has carried out.
abbrev pub hand_errand : Hand → Cue → Option Errand
hand_errand hand (Device w) = errand_at hand.stage
hand_errand hand cue = None

-- What a cue does with a hand and a device. The errand, if there is one, is carried out by one call of the device, and a
-- call of the vault is done with exactly what that answered. Without an errand the device is as it was.
abbrev pub DoesWith : {D : Type 0} → (D → ℕ → List ℕ → Answer → List ℕ → D → Type 0)
    → (D → ℕ → List ℕ → Answer → D → Type 0) → Option Errand → (old : Parts) → Hand → (d : D) → Line → (new : Parts)
    → (left : Hand) → (e : D) → Type 0
DoesWith reads writes None old hand d line new left e = (e ≡ d) × MovesHand old hand line new left
DoesWith reads writes (Some errand) old hand d line new left e =
    (given : List ℕ) × (answer : Answer) × (reply : Reply)
    × CarriesOut reads writes errand.duty d errand.image answer given e
    × (line ≡ Did (answer_move errand.duty given answer) reply)
    × CallsWith old (record hand { stage = Back (returned_of errand given answer) })
    (answer_move errand.duty given answer, reply) new left

-- A line that says that a flush is over: the vault took this answer to it, and the line tells that.
abbrev pub EndsFlush : (old : Parts) → Returned → Hands → Line → (new : Parts) → (left : Hands) → Type 0
EndsFlush old returned hands (Did m reply) new left =
    ((clean : Bool) × AnswerComesTo old returned (Flushed clean) new)
    × event.Tells old (answer_call old.page_bytes returned) (m, reply)
    × (m ≡ answer_move returned.duty returned.image returned.answer) × (left ≡ hands)
EndsFlush old returned hands line new left = Unit {0}

-- ---- all hands

-- A cue that asks no device keeps all contents and the length of a page, from each state where the vault and the hands
-- agree with what a device told.
abbrev pub KeepsAll : (old : Parts) → Hands → Cue → Line → (new : Parts) → (left : Hands) → Type 0
KeepsAll old hands cue line new left =
    HandsFit old hands → (s : State) → StandsFor old s → (told : ℕ → List ℕ) → Agrees old s hands told
    → (t : State) × Tells s cue line t × StandsFor new t × FlusherFollows old s hands cue line left
    × (new.page_bytes ≡ old.page_bytes) × KeepsContents old s hands told new t left told

-- A cue is played over a device, from each such state.
abbrev pub PlaysFromAll : {D : Type 0} → (D → ℕ → List ℕ → Answer → List ℕ → D → Type 0)
    → (D → ℕ → List ℕ → Answer → D → Type 0) → (old : Parts) → Hands → (d : D) → Cue → Line → (new : Parts)
    → (left : Hands) → (e : D) → Type 0
PlaysFromAll reads writes old hands d cue line new left e =
    HandsFit old hands → (s : State) → StandsFor old s → (told : ℕ → List ℕ) → Agrees old s hands told
    → (t : State) × (now : ℕ → List ℕ) × PlaysOver reads writes old s hands d told cue line new t left e now
