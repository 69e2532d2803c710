-- What a cue comes to whatever the hands have: hands that are out, tokens of another vault, or guards that are missing.
use Rattle.std.specs.Prelude.{◌≡◌, ◌++◌, ℕ, Bool, true, false, Option, None, Some, unwrap_or, List, [], ◌∷◌}
use Rattle.std.specs.Option.{is_some}
use Rattle.pp_model.specs.declared.moves.Move.{Move}
use Rattle.pp_model.specs.declared.moves.Move.TheVariants as move
use Rattle.pp_model.specs.declared.refusals.Cause.TheVariants.{NoErrand}
use Rattle.pp_model.specs.Pool.{State}
use Rattle.pp_model.specs.Moves.{reply_of}
use Rattle.pp_vault.specs.declared.refusal.Refusal.{Refusal}
use Rattle.pp_vault.specs.declared.refusal.Refusal.TheVariants.{OffPlan, Stranger}
use Rattle.pp_vault.specs.declared.guards.Guard.{Guard}
use Rattle.pp_vault.specs.declared.stage.Stage.{Stage}
use Rattle.pp_vault.specs.declared.stage.Stage.TheVariants as stage
use Rattle.pp_vault.specs.declared.stage.Hand.{Hand}
use Rattle.pp_vault.specs.declared.hands.Hands.{Hands}
use Rattle.pp_vault.specs.Calls.{refusal_in}
use Rattle.pp_vault.specs.Holding.{placed}
use Rattle.pp_vault.specs.Parts.{Parts}
use Rattle.pp_vault.specs.StandsFor.{StandsFor}
use Rattle.pp_script.specs.declared.cue.Cue.{Cue}
use Rattle.pp_script.specs.declared.cue.Cue.TheVariants.{Take, Fix, Device, Unfix, Latch, Unlatch, Choose, Unwind, Finish}
use Rattle.pp_script.specs.declared.cue.Cue.TheVariants.{Flush, FlushDevice, Write, Look}
use Rattle.pp_play.specs.declared.line.Line.{Line}
use Rattle.pp_play.specs.declared.line.Line.TheVariants.{Did, Refused, Wrote, Looked, NoLatch}
use Rattle.pp_play.specs.Plays.{ComesTo}
use Rattle.pp_play.specs.Exact.{refusal_to, Lets, first_of, guards_by, guards_of, Writes}

-- ---- refusals

-- The move that a cue asks; none where it is of a device, whose answer isn't in the cue, or of a byte.
abbrev pub move_of : Cue → Option Move
move_of (Take w) = Some (move.Take w)
move_of (Fix w page) = Some (move.Fix w page)
move_of (Device w) = None
move_of (Unfix w) = Some (move.Unfix w)
move_of (Latch w) = Some (move.Latch w)
move_of (Unlatch w) = Some (move.Unlatch w)
move_of (Choose w branch) = Some (move.Choose w branch)
move_of (Unwind w slot) = Some (move.Unwind w slot)
move_of (Finish w) = Some (move.Finish w)
move_of (Flush page) = Some (move.FlushBegin page)
move_of FlushDevice = None
move_of (Write w slot byte) = None
move_of (Look w slot) = None

-- Whether a token is of an errand: one to be carried out, or one that a device has carried out.
abbrev pub is_errand : Stage → Bool
is_errand (stage.Out errand) = true
is_errand (stage.Back returned) = true
is_errand _ = false

-- Whether an errand of worker w is in the hands.
abbrev pub errand_by : Option Hand → Bool
errand_by None = false
errand_by (Some hand) = is_errand hand.stage

abbrev pub has_errand : Hands → (w : ℕ) → Bool
has_errand hands w = errand_by (placed hands.workers w)

-- The device has nothing to do where no errand is in the hands; one that is there and isn't taken is a stranger's.
abbrev pub errand_refusal : (here : Bool) → Refusal
errand_refusal true = Stranger
errand_refusal false = OffPlan NoErrand

-- What a cue is refused with that isn't done: as the core refuses the move that it asks; or as a stranger's, where that
-- move is possible and the tokens for it aren't in the hands.
abbrev pub refusal_with : State → Hands → Cue → Refusal
refusal_with s hands (Device w) = errand_refusal (has_errand hands w)
refusal_with s hands FlushDevice = errand_refusal (is_some hands.flushing)
refusal_with s hands cue = unwrap_or (refusal_to s cue) Stranger

-- ---- bytes

-- The line of a write with these guards of its worker before and after it: a writer's guard of the slot gets the byte,
-- or all guards stay.
abbrev pub IsWriteLine : (slot byte : ℕ) → (old new : List (Option Guard)) → Line → Type 0
IsWriteLine slot byte old new Wrote = Writes slot byte old new
IsWriteLine slot byte old new NoLatch = new ≡ old
IsWriteLine slot byte old new line = ⊥

-- The line of a look, which leaves the guards: the first byte of the image that the guard of the slot lets its worker
-- see, or none.
abbrev pub IsLookLine : Parts → State → (slot : ℕ) → (old new : List (Option Guard)) → Line → Type 0
IsLookLine v s slot old new (Looked byte) =
    (new ≡ old) × ((image : List ℕ) × Lets v s (placed old slot) image × (first_of image ≡ Some byte))
IsLookLine v s slot old new NoLatch = new ≡ old
IsLookLine v s slot old new line = ⊥

-- ---- lines

-- The line of a cue from this state, with the hands before and after it: a cue that is done is one that nothing refuses,
-- and every other says why it isn't done.
abbrev pub IsLineWith : Parts → State → (old new : Hands) → Cue → Line → Type 0
IsLineWith v s old new (Write w slot byte) line = IsWriteLine slot byte (guards_of old w) (guards_of new w) line
IsLineWith v s old new (Look w slot) line = IsLookLine v s slot (guards_of old w) (guards_of new w) line
IsLineWith v s old new cue (Did m reply) = refusal_to s cue ≡ None
IsLineWith v s old new cue (Refused asked why) = why ≡ refusal_with s old cue
IsLineWith v s old new cue line = ⊥

-- A cue is answered, whatever the hands have.
pub record Answers (v : Parts) (hands : Hands) (cue : Cue) (line : Line) (next : Parts) (left : Hands) : Type 0 where
  pub comes : ComesTo v cue line next
  pub exact : (s : State) → StandsFor v s → IsLineWith v s hands left cue line

-- Each cue in its turn, a line for each.
abbrev pub AnswersAll : Parts → Hands → List Cue → List Line → (next : Parts) → (left : Hands) → Type 0
AnswersAll v hands [] [] next left = (next ≡ v) × (left ≡ hands)
AnswersAll v hands [] (line ∷ lines) next left = ⊥
AnswersAll v hands (cue ∷ cues) [] next left = ⊥
AnswersAll v hands (cue ∷ cues) (line ∷ lines) next left =
    (mid : Parts) × (held : Hands) × Answers v hands cue line mid held × AnswersAll mid held cues lines next left

-- The same of a script whose lines come behind those that were there.
abbrev pub AnswersFrom : (old : Parts) → Hands → List Cue → (before now : List Line) → (new : Parts) → Hands → Type 0
AnswersFrom old hands cues before now new left =
    (told : List Line) × (now ≡ before ++ told) × AnswersAll old hands cues told new left

-- ---- inside

-- Whether it is done or a byte's, or a stranger's.
abbrev pub IsStrangers : Line → Type 0
IsStrangers (Refused asked why) = why ≡ Stranger
IsStrangers line = Unit {0}

-- What a line says of the hand of its worker, by the hand before and after it.
abbrev pub IsHandLine : Parts → (old new : Option Hand) → Cue → Line → Type 0
IsHandLine v old new (Device w) (Refused asked why) = why ≡ errand_refusal (errand_by old)
IsHandLine v old new (Write w slot byte) line = IsWriteLine slot byte (guards_by old) (guards_by new) line
IsHandLine v old new (Look w slot) line =
    (s : State) → StandsFor v s → IsLookLine v s slot (guards_by old) (guards_by new) line
IsHandLine v old new cue line = Unit {0}

-- What it says of all hands.
abbrev pub IsHandsLine : Parts → (old new : Hands) → Cue → Line → Type 0
IsHandsLine v old new (Device w) (Refused asked why) = why ≡ errand_refusal (has_errand old w)
IsHandsLine v old new FlushDevice (Refused asked why) = why ≡ errand_refusal (is_some old.flushing)
IsHandsLine v old new (Write w slot byte) line = IsWriteLine slot byte (guards_of old w) (guards_of new w) line
IsHandsLine v old new (Look w slot) line =
    (s : State) → StandsFor v s → IsLookLine v s slot (guards_of old w) (guards_of new w) line
IsHandsLine v old new cue line = Unit {0}

-- Why a cue isn't done, by the move that it asks, if it asks one.
abbrev pub told_why : State → Option Move → (why : Refusal) → Refusal
told_why s None why = why
told_why s (Some m) why = unwrap_or (refusal_in (reply_of s m)) Stranger

-- A line is told as it is; but where it is a refusal of a move, with the core's, or a stranger's.
abbrev pub IsTold : Parts → Cue → (line told : Line) → Type 0
IsTold v cue (Refused asked why) told =
    (s : State) → StandsFor v s → told ≡ Refused asked (told_why s (move_of cue) why)
IsTold v cue line told = told ≡ line
