-- How often a script calls its device.
use Rattle.std.specs.Prelude.{◌≡◌, ◌+◌, ℕ, Bool, true, false, Option, Some, List, [], ◌∷◌, if◌then◌else◌}
use Rattle.pp_model.specs.declared.moves.Move.{Move}
use Rattle.pp_model.specs.declared.moves.Move.TheVariants.{WriteDone, ReadDone, FlushDone}
use Rattle.pp_vault.specs.declared.stage.Stage.{Stage}
use Rattle.pp_vault.specs.declared.stage.Stage.TheVariants as stage
use Rattle.pp_vault.specs.declared.stage.Hand.{Hand}
use Rattle.pp_vault.specs.declared.hands.Flushing.{Flushing}
use Rattle.pp_vault.specs.declared.hands.Flushing.TheVariants as flushing
use Rattle.pp_vault.specs.declared.hands.Hands.{Hands}
use Rattle.pp_vault.specs.Holding.{placed}
use Rattle.pp_play.specs.declared.line.Line.{Line}
use Rattle.pp_play.specs.declared.line.Line.TheVariants.{Did}

-- Whether the move is a device's answer.
abbrev pub is_answer : Move → Bool
is_answer (WriteDone w ok) = true
is_answer (ReadDone w came) = true
is_answer (FlushDone ok) = true
is_answer _ = false

-- Whether the line tells of a device's answer that was taken.
abbrev pub tells_answer : Line → Bool
tells_answer (Did m reply) = is_answer m
tells_answer _ = false

-- How many of the lines do.
abbrev pub answers : List Line → ℕ
answers [] = 0
answers (line ∷ lines) = (if tells_answer line then 1 else 0) + answers lines

-- Whether the token is of an errand that a device has carried out, and whose answer the vault doesn't have yet.
abbrev pub is_back : Stage → Bool
is_back (stage.Back returned) = true
is_back _ = false

abbrev pub is_flush_back : Option Flushing → Bool
is_flush_back (Some (flushing.Back returned)) = true
is_flush_back _ = false

-- No token in the hands is.
pub record NoneBack (hands : Hands) : Type 0 where
  pub workers : (w : ℕ) (hand : Hand) → placed hands.workers w ≡ Some hand → is_back hand.stage ≡ false
  pub flushing : is_flush_back hands.flushing ≡ false

-- The device was called once, or it is as it was.
abbrev pub IsCalled : {D : Type 0} → (calls : D → ℕ) → Bool → (old new : D) → Type 0
IsCalled calls true old new = calls new ≡ calls old + 1
IsCalled calls false old new = new ≡ old
