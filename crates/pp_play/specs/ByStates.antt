-- What a script comes to, told by states of the pool's model alone. Only which byte is looked at they don't tell.
use Rattle.std.specs.Prelude.{◌≡◌, true, false, None, Some, List, [], ◌∷◌}
use Rattle.pp_model.specs.Pool.{State}
use Rattle.pp_core.specs.Queries.{held_of}
use Rattle.pp_script.specs.declared.cue.Cue.{Cue}
use Rattle.pp_script.specs.declared.cue.Cue.TheVariants.{Write, Look}
use Rattle.pp_play.specs.declared.line.Line.{Line}
use Rattle.pp_play.specs.declared.line.Line.TheVariants.{Did, Refused, Wrote, Looked, NoLatch}
use Rattle.pp_play.specs.Plays.{Tells}
use Rattle.pp_play.specs.Exact.{refusal_to, may_write, may_look}

-- Whether the line is one of the cue in this state. A cue is done exactly where nothing refuses it, and refused with
-- that refusal. A byte is written exactly where the slot is latched X, and looked at exactly where it is latched.
abbrev pub IsLineIn : State → Cue → Line → Type 0
IsLineIn s cue (Did m reply) = refusal_to s cue ≡ None
IsLineIn s cue (Refused asked why) = refusal_to s cue ≡ Some why
IsLineIn s (Write w slot byte) Wrote = may_write (held_of s w slot) ≡ true
IsLineIn s (Write w slot byte) NoLatch = may_write (held_of s w slot) ≡ false
IsLineIn s (Look w slot) (Looked byte) = may_look (held_of s w slot) ≡ true
IsLineIn s (Look w slot) NoLatch = may_look (held_of s w slot) ≡ false
IsLineIn s cue line = ⊥

-- Each cue in its turn comes to a line that is its own, and tells the state that the next one starts from.
abbrev pub ComeInTurn : (s : State) → List Cue → List Line → (t : State) → Type 0
ComeInTurn s [] [] t = t ≡ s
ComeInTurn s [] (line ∷ lines) t = ⊥
ComeInTurn s (cue ∷ cues) [] t = ⊥
ComeInTurn s (cue ∷ cues) (line ∷ lines) t =
    (mid : State) × IsLineIn s cue line × Tells s cue line mid × ComeInTurn mid cues lines t
