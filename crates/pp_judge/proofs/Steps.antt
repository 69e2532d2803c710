-- Refusals that are handed on, and bytes that are read.
use Rattle.std.proofs.Common.{◌≡◌, Bool, true, false, List, ℕ, Result, Ok, Err, IsErrAnd, refl, ap, sym, ◌∙◌}
use Rattle.std.proofs.Common.{if◌then◌else◌}
use Rattle.std.specs.Str.{IsUtf8, is_utf8}
use Rattle.std.proofs.lemmas.Str.{IsUtf8-from_is_utf8, is_utf8-from_IsUtf8}
use Rattle.pp_judge.specs.declared.error.JudgeError.{JudgeError}
use Rattle.pp_text.specs.Steps.{Gives}
use Rattle.pp_judge.specs.Steps.{is_want_of_memory, refusing}
use Rattle.pp_judge.proofs.Refusals.{refuses_if}

-- a refusal that is handed on is the answer's
pub handed_on : {A B : Type 0} (seen : A → B) (r : Result A JudgeError) (e : JudgeError) (answer : Result B JudgeError)
    → IsErrAnd r (λ f. f ≡ e) → (is_want_of_memory e ≡ false → answer ≡ Err e) → Gives is_want_of_memory seen r answer
handed_on seen (Ok x) e answer same told = absurd same
handed_on seen (Err f) e answer same told =
    refuses_if (is_want_of_memory f) f answer
    (λ memory. told (ap is_want_of_memory (sym same) ∙ memory) ∙ ap Err (sym same))

is_false : (b : Bool) → (b ≡ true → ⊥) → b ≡ false
is_false true never = absurd (never refl)
is_false false never = refl

when_text : {A : Type 0} (bytes : List ℕ) (x y : A) → IsUtf8 bytes → (if is_utf8 bytes then x else y) ≡ x
when_text bytes x y text = ap (λ b. if b then x else y) (is_utf8-from_IsUtf8 bytes text)

when_none : {A : Type 0} (bytes : List ℕ) (x y : A) → ¬ (IsUtf8 bytes) → (if is_utf8 bytes then x else y) ≡ y
when_none bytes x y none =
    ap (λ b. if b then x else y) (is_false (is_utf8 bytes) (λ is. none (IsUtf8-from_is_utf8 bytes is)))

-- bytes that are a text are read as it is
pub read_in : {A E : Type 0} (refusal : E → JudgeError) (reading : List ℕ → Result A E) (none : E) (bytes text : List ℕ)
    (x : A)
    → text ≡ bytes → IsUtf8 bytes → reading text ≡ Ok x
    → refusing refusal (if is_utf8 bytes then reading bytes else Err none) ≡ Ok x
read_in refusal reading none bytes text x is utf8 read =
    ap (λ r. refusing refusal r) (when_text bytes (reading bytes) (Err none) utf8 ∙ ap reading (sym is) ∙ read)

-- and refused as it is
pub refused_in : {A E : Type 0} (refusal : E → JudgeError) (reading : List ℕ → Result A E) (none : E)
    (bytes text : List ℕ)
    (e : E)
    → text ≡ bytes → IsUtf8 bytes → reading text ≡ Err e
    → refusing refusal (if is_utf8 bytes then reading bytes else Err none) ≡ Err (refusal e)
refused_in refusal reading none bytes text e is utf8 read =
    ap (λ r. refusing refusal r) (when_text bytes (reading bytes) (Err none) utf8 ∙ ap reading (sym is) ∙ read)

-- bytes that are no text are refused as such
pub none_in : {A E : Type 0} (refusal : E → JudgeError) (reading : List ℕ → Result A E) (none : E) (bytes : List ℕ)
    → ¬ (IsUtf8 bytes)
    → refusing refusal (if is_utf8 bytes then reading bytes else Err none) ≡ Err (refusal none)
none_in refusal reading none bytes never =
    ap (λ r. refusing refusal r) (when_none bytes (reading bytes) (Err none) never)
