-- From cues that a vault played to what the states alone tell of them.
use Rattle.std.proofs.Common.{ℕ, List, [], ◌∷◌, Option}
use Rattle.pp_device.specs.Answers.{Answer}
use Rattle.pp_model.specs.Pool.{State}
use Rattle.pp_play.specs.ByStates.{IsLineIn, ComeInTurn}
use Rattle.pp_play.specs.Exact.{IsLineOf}
use Rattle.pp_play.specs.Following.{AllOver}
use Rattle.pp_play.specs.declared.line.Line.{Line}
use Rattle.pp_play.specs.declared.line.Line.TheVariants.{Did, Refused, Wrote, Looked, NoLatch}
use Rattle.pp_script.specs.declared.cue.Cue.{Cue}
use Rattle.pp_script.specs.declared.cue.Cue.TheVariants.{Write, Look}
use Rattle.pp_vault.specs.Parts.{Parts}
use Rattle.pp_vault.specs.StandsFor.{StandsFor}
use Rattle.pp_vault.specs.declared.guards.Guard.{Guard}
use Rattle.pp_vault.specs.declared.hands.Hands.{Hands}

line_in : (v : Parts) (s : State) (old new : List (Option Guard)) (cue : Cue) (line : Line)
    → IsLineOf v s old new cue line → IsLineIn s cue line
line_in v s old new cue (Did m reply) h = h
line_in v s old new cue (Refused asked why) h = h
line_in v s old new (Write w slot byte) Wrote h = h.0
line_in v s old new (Write w slot byte) NoLatch h = h.0
line_in v s old new (Write w slot byte) (Looked seen) h = absurd h
line_in v s old new (Look w slot) (Looked byte) h = h.0
line_in v s old new (Look w slot) NoLatch h = h.0
line_in v s old new (Look w slot) Wrote h = absurd h
line_in v s old new cue Wrote h = absurd h
line_in v s old new cue (Looked byte) h = absurd h
line_in v s old new cue NoLatch h = absurd h

pub in_turn : {D : Type 0} (reads : D → ℕ → List ℕ → Answer → List ℕ → D → Type 0)
    (writes : D → ℕ → List ℕ → Answer → D → Type 0) (v : Parts) (s : State) (hands : Hands) (d : D) (told : ℕ → List ℕ)
    (cues : List Cue) (lines : List Line) (after : Parts) (t : State) (left : Hands) (e : D) (now : ℕ → List ℕ)
    → StandsFor v s → AllOver reads writes v s hands d told cues lines after t left e now → ComeInTurn s cues lines t
in_turn reads writes v s hands d told [] [] after t left e now st all = all.1
in_turn reads writes v s hands d told [] (line ∷ lines) after t left e now st all = absurd all
in_turn reads writes v s hands d told (cue ∷ cues) [] after t left e now st all = absurd all
in_turn reads writes v s hands d told (cue ∷ cues) (line ∷ lines) after t left e now st
    (mid, there, held, device, tells, one, rest) = (
      there,
      line_in v s _ _ cue line (one.plays.exact s st),
      one.tells,
      in_turn reads writes mid there held device tells cues lines after t left e now one.stands rest,
    )
