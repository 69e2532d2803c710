-- What a cue comes to, from a state of the pool's model: its line, and the state after it.
use Rattle.std.specs.Prelude.{◌≡◌, ◌⊎◌, ◌++◌, Bool, true, false, None, List, [], ◌∷◌}
use Rattle.pp_model.specs.declared.moves.Came.{Came}
use Rattle.pp_model.specs.declared.moves.Move.{Move}
use Rattle.pp_model.specs.declared.moves.Move.TheVariants as move
use Rattle.pp_model.specs.Pool.{State}
use Rattle.pp_model.specs.Moves.{reply_of, next_of}
use Rattle.pp_vault.specs.Calls.{refusal_in}
use Rattle.pp_vault.specs.Parts.{Parts}
use Rattle.pp_vault.specs.StandsFor.{StandsFor}
use Rattle.pp_script.specs.declared.cue.Cue.{Cue}
use Rattle.pp_script.specs.declared.cue.Cue.TheVariants.{Take, Fix, Device, Unfix, Latch, Unlatch, Choose, Unwind, Finish}
use Rattle.pp_script.specs.declared.cue.Cue.TheVariants.{Flush, FlushDevice, Write, Look}
use Rattle.pp_play.specs.declared.line.Line.{Line}
use Rattle.pp_play.specs.declared.line.Line.TheVariants.{Did, Refused, Wrote, Looked, NoLatch}

-- Whether the cue asks this move. What a device answers to an errand isn't in the cue.
abbrev pub IsMoveOf : Cue → Move → Type 0
IsMoveOf (Take w) m = m ≡ move.Take w
IsMoveOf (Fix w page) m = m ≡ move.Fix w page
IsMoveOf (Device w) m =
    ((ok : Bool) × (m ≡ move.WriteDone w ok)) ⊎ ((came : Came) × (m ≡ move.ReadDone w came))
IsMoveOf (Unfix w) m = m ≡ move.Unfix w
IsMoveOf (Latch w) m = m ≡ move.Latch w
IsMoveOf (Unlatch w) m = m ≡ move.Unlatch w
IsMoveOf (Choose w branch) m = m ≡ move.Choose w branch
IsMoveOf (Unwind w slot) m = m ≡ move.Unwind w slot
IsMoveOf (Finish w) m = m ≡ move.Finish w
IsMoveOf (Flush page) m = m ≡ move.FlushBegin page
IsMoveOf FlushDevice m = (ok : Bool) × (m ≡ move.FlushDone ok)
IsMoveOf (Write w slot byte) m = ⊥
IsMoveOf (Look w slot) m = ⊥

-- Whether the cue writes a byte; whether it looks at one.
abbrev pub is_write : Cue → Bool
is_write (Write w slot byte) = true
is_write _ = false

abbrev pub is_look : Cue → Bool
is_look (Look w slot) = true
is_look _ = false

-- Whether it does one of the two.
abbrev pub asks_byte : Cue → Bool
asks_byte (Write w slot byte) = true
asks_byte (Look w slot) = true
asks_byte _ = false

-- What a line tells of a cue. A move that is done is one that the cue asks and that is possible in the state; the reply
-- is the model's, and so is the state after it. Every other line leaves the state.
abbrev pub Tells : (s : State) → Cue → Line → (t : State) → Type 0
Tells s cue (Did m reply) t =
    IsMoveOf cue m × (reply_of s m ≡ reply) × (refusal_in reply ≡ None) × (t ≡ next_of s m)
Tells s cue (Refused asked why) t = (asked ≡ cue) × (t ≡ s)
Tells s cue Wrote t = (is_write cue ≡ true) × (t ≡ s)
Tells s cue (Looked byte) t = (is_look cue ≡ true) × (t ≡ s)
Tells s cue NoLatch t = (asks_byte cue ≡ true) × (t ≡ s)

-- Each cue in its turn: a line for each, from the state that the one before it left.
abbrev pub TellsAll : (s : State) → List Cue → List Line → (t : State) → Type 0
TellsAll s [] [] t = t ≡ s
TellsAll s [] (line ∷ lines) t = ⊥
TellsAll s (cue ∷ cues) [] t = ⊥
TellsAll s (cue ∷ cues) (line ∷ lines) t = (mid : State) × Tells s cue line mid × TellsAll mid cues lines t

-- From every state that the old parts stand for, the line tells what the cue came to, and the new parts stand for the
-- state after it.
abbrev pub ComesTo : (old : Parts) → Cue → Line → (new : Parts) → Type 0
ComesTo old cue line new =
    (s : State) → StandsFor old s → (t : State) × Tells s cue line t × StandsFor new t

-- The same of a script, whose lines come behind those that were there.
abbrev pub AllComeTo : (old : Parts) → List Cue → (before now : List Line) → (new : Parts) → Type 0
AllComeTo old cues before now new =
    (s : State) → StandsFor old s
    → (t : State) × (told : List Line) × (now ≡ before ++ told) × TellsAll s cues told t × StandsFor new t
