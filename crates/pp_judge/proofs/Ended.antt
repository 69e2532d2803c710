-- Refusals as outcomes.
use Rattle.std.proofs.Common.{◌≡◌, ◌⊎◌, Bool, true, false, Result, Err, sym, ap, subst, ◌∙◌, inl, inr, if◌then◌else◌}
use Rattle.pp_text.specs.Steps.{Refuses}
use Rattle.pp_judge.specs.Answers.{Answer, ComesTo, IsSimulationAnswer, MayCome, refused, seen}
use Rattle.pp_judge.specs.Judgement.{Stage}
use Rattle.pp_judge.specs.declared.error.JudgeError.{JudgeError}
use Rattle.pp_judge.specs.declared.exit.Exit.{Exit}
use Rattle.pp_judge.specs.declared.exit.Exit.TheVariants as exit

-- The refusal of some work is what the work comes to.
pub refused_from : {Y : Type 0} (b : Bool) (answer_of : Result Y JudgeError → Answer) (work : Result Y JudgeError)
    (refusal : JudgeError) (ended : Exit)
    → answer_of (Err refusal) ≡ refused refusal
    → ended ≡ (if b then exit.OutOfMemory else exit.Refused refusal)
    → Refuses b refusal work → ComesTo (answer_of work) ended
refused_from true answer_of work refusal ended says is told = inr is
refused_from false answer_of work refusal ended says is told = inl (ap seen is ∙ sym (ap answer_of told ∙ says))

-- What is refused so comes to that.
pub refused_so : (b : Bool) (staged : Result Stage JudgeError) (refusal : JudgeError) (ended : Exit)
    → ended ≡ (if b then exit.OutOfMemory else exit.Refused refusal)
    → (b ≡ true) ⊎ IsSimulationAnswer staged (refused refusal) → MayCome (IsSimulationAnswer staged) ended
refused_so true staged refusal ended is told = inr is
refused_so false staged refusal ended is (inl wrong) = absurd cc
refused_so false staged refusal ended is (inr told) =
    let P : Exit → Type 0 = λ o. MayCome (IsSimulationAnswer staged) o in subst P (sym is) (inl told)
