-- What drawing a journal from its files ends with.
use Rattle.std.proofs.Common.{◌≡◌, ℕ, Bool, true, false, List, Result, Ok, Err, IsErrAnd, String, sym, subst, ap, inl, inr}
use Rattle.std.proofs.Common.{if◌then◌else◌}
use Rattle.pp_text.specs.Steps.{Refuses}
use Rattle.pp_judge.specs.Answers.{Draws, IsDrawingAnswer, MayCome, drawn, seen}
use Rattle.pp_judge.specs.Steps.{is_want_of_memory}
use Rattle.pp_judge.specs.declared.error.JudgeError.{JudgeError}
use Rattle.pp_judge.specs.declared.exit.Exit.{Exit}
use Rattle.pp_judge.specs.declared.exit.Exit.TheVariants as exit

-- Files that are refused end it so.
pub not_painted : {Z : Type 0} (verdict : Result ℕ JudgeError) (r : Result (String Z) JudgeError) (e : JudgeError)
    → IsErrAnd r (λ f. f ≡ e) → Refuses (is_want_of_memory e) e verdict → Draws verdict r
not_painted verdict (Ok x) e same told = absurd same
not_painted verdict (Err f) e same told =
    let P : JudgeError → Type 0 = λ g. Refuses (is_want_of_memory g) g verdict in subst P (sym same) told

-- A true journal is drawn, whatever the text.
pub painted : (verdict : Result ℕ JudgeError) (lines : ℕ) (text : List ℕ) → verdict ≡ Ok lines
    → IsDrawingAnswer verdict (drawn text)
painted verdict lines text is = subst (λ v. IsDrawingAnswer v (drawn text)) (sym is) tt

-- What is refused so comes to that.
pub not_drawn : (b : Bool) (verdict : Result ℕ JudgeError) (refusal : JudgeError) (ended : Exit)
    → ended ≡ (if b then exit.OutOfMemory else exit.Refused refusal) → Refuses b refusal verdict
    → MayCome (IsDrawingAnswer verdict) ended
not_drawn true verdict refusal ended is told = inr is
not_drawn false verdict refusal ended is told =
    inl (subst (λ v. IsDrawingAnswer v (seen ended)) (sym told) (ap seen is))
