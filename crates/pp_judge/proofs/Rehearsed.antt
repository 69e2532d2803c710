-- What playing a script from its files ends with.
use Rattle.std.proofs.Common.{◌≡◌, ℕ, Bool, true, false, List, Result, Ok, Err, IsErrAnd}
use Rattle.std.proofs.Common.{refl, sym, ap, subst, ◌∙◌, inl, inr}
use Rattle.std.proofs.Common.{◌⊎◌, String}
use Rattle.pp_core.specs.Opening.{kept_of}
use Rattle.pp_model.specs.Pool.{opening}
use Rattle.pp_simulate.specs.Simulating.{IsSimulateError, Simulates}
use Rattle.pp_simulate.specs.declared.error.SimulateError.{SimulateError}
use Rattle.pp_simulate.specs.declared.error.SimulateError.TheVariants.{Submit, TooManyPrepared, OutOfMemory}
use Rattle.pp_judge.specs.Answers.{IsSimulationAnswer, RefusesPlan, Rehearses, refused, simulated}
use Rattle.pp_judge.specs.Judgement.{Stage}
use Rattle.pp_judge.specs.Steps.{is_want_of_memory}
use Rattle.pp_judge.specs.declared.error.JudgeError.{JudgeError}
use Rattle.pp_judge.specs.declared.error.JudgeError.TheVariants.{Simulate}

-- An end that want of memory excuses, and that is else this refusal.
abbrev Ends : (b : Bool) → Result Stage JudgeError → JudgeError → Type 0
Ends b staged refusal = (b ≡ true) ⊎ IsSimulationAnswer staged (refused refusal)

either : (b : Bool) (staged : Result Stage JudgeError) (e : JudgeError) → (b ≡ false → staged ≡ Err e) → Ends b staged e
either true staged e told = inl refl
either false staged e told =
    inr (subst (λ r. IsSimulationAnswer r (refused e)) (sym (told refl)) refl)

-- A file that is refused in its turn ends it so.
pub stopped : {Z : Type 0} (staged : Result Stage JudgeError) (r : Result (String Z) JudgeError) (e : JudgeError)
    → IsErrAnd r (λ f. f ≡ e) → (is_want_of_memory e ≡ false → staged ≡ Err e) → Rehearses staged r
stopped staged (Ok x) e same told = absurd same
stopped staged (Err f) e same told =
    either (is_want_of_memory f) staged f
    (λ memory. told (ap is_want_of_memory (sym same) ∙ memory) ∙ ap Err (sym same))

-- A plan that isn't taken in ends it so.
pub not_played : {Z : Type 0} (staged : Result Stage JudgeError) (stage : Stage) (r : Result (String Z) JudgeError)
    (e : SimulateError)
    → staged ≡ Ok stage → IsErrAnd r (λ f. f ≡ Simulate e)
    → IsSimulateError (opening (kept_of stage.settings)) stage.plans e → Rehearses staged r
not_played staged stage (Ok x) e is same told = absurd same
not_played staged stage (Err f) (Submit error) is same told =
    inr (subst (λ s. IsSimulationAnswer s (refused f)) (sym is) (subst (RefusesPlan stage) (sym same) told))
not_played staged stage (Err f) TooManyPrepared is same told =
    inr (subst (λ s. IsSimulationAnswer s (refused f)) (sym is) (subst (RefusesPlan stage) (sym same) told))
not_played staged stage (Err f) OutOfMemory is same told = inl (ap is_want_of_memory same)

-- Where all files are read, the text is what playing the script may come to.
pub played : (staged : Result Stage JudgeError) (stage : Stage) (text : List ℕ) → staged ≡ Ok stage
    → Simulates stage.settings stage.plans stage.script text → IsSimulationAnswer staged (simulated text)
played staged stage text is told = subst (λ s. IsSimulationAnswer s (simulated text)) (sym is) told
