-- What is read of a text is what it spells, and what it spells is read; and the first wrong line is the one refused.
use Rattle.std.proofs.Common.{◌≡◌, ℕ, ◌+◌, List, [], ◌∷◌, ◌++◌, length, Option, Some, None, Result, Ok, Err, IfOk}
use Rattle.std.proofs.Common.{IfErr}
use Rattle.std.proofs.Common.{refl, sym, ap, subst, ◌∙◌, append_assoc, arith}
use Rattle.std.specs.List.{AllByRecursion}
use Rattle.std.specs.Option.{ok_or}
use Rattle.std.proofs.lemmas.List.{append-nil}
use Rattle.pp_text.specs.Steps.{◌>>=◌, Gives}
use Rattle.pp_text.proofs.Steps.{bind_ok, ok_or_ok}
use Rattle.pp_script.specs.declared.line.Line.{Line}
use Rattle.pp_script.specs.declared.line.Line.TheVariants.{Blank, Cued, Planted}
use Rattle.pp_script.specs.declared.error.ScriptError.{ScriptError}
use Rattle.pp_script.specs.declared.error.ScriptError.TheVariants.{NotACue, OutOfMemory}
use Rattle.pp_script.specs.Lines.{lines, words}
use Rattle.pp_script.specs.Scripts.{Scenario, cues_of, troubles_of, SayAll, Spells, IsWrong, IsRight, IsFirstWrong}
use Rattle.pp_script.specs.Scripts.{TellsFirst}
use Rattle.pp_script.specs.Reading.{line_in, after_line, reading_from, reading}
use Rattle.pp_script.specs.Refusals.{is_script_memory}
use Rattle.pp_script.proofs.Spoken.{line_found, line_again}

-- The script with what these lines say at its end.
abbrev with_said : Scenario → List Line → Scenario
with_said s said = record { cues = s.cues ++ cues_of said; troubles = s.troubles ++ troubles_of said }

with_none : (s : Scenario) → with_said s [] ≡ s
with_none s = rw (append-nil s.cues, append-nil s.troubles) refl

with_more : (s : Scenario) (line : Line) (said : List Line)
    → with_said (after_line s line) said ≡ with_said s (line ∷ said)
with_more s Blank said = refl
with_more s (Cued cue) said = rw append_assoc refl
with_more s (Planted n trouble) said = rw append_assoc refl

-- ---- what is read

all_found : (s : Scenario) (n : ℕ) (texts : List (List ℕ)) (r : Scenario) → reading_from s n texts ≡ Ok r
    → (said : List Line) × SayAll texts said × (r ≡ with_said s said)
all_found s n [] r e = ([], tt, (let same : s ≡ r = cc in sym same ∙ sym (with_none s)))
all_found s n (text ∷ texts) r e =
    let (line, f, g) = bind_ok (ok_or (line_in (words text)) (NotACue (n + 1)))
    (λ line. reading_from (after_line s line) (n + 1) texts) r e in
    let (said, each, is) = all_found (after_line s line) (n + 1) texts r g in
    (line ∷ said, (line_found text line (ok_or_ok _ _ line f), each), is ∙ with_more s line said)

all_again : (s : Scenario) (n : ℕ) (texts : List (List ℕ)) (said : List Line) → SayAll texts said
    → reading_from s n texts ≡ Ok (with_said s said)
all_again s n [] [] h = ap Ok (sym (with_none s))
all_again s n (text ∷ texts) (line ∷ said) (h, hs) =
    ap (λ o. ok_or o (NotACue (n + 1)) >>= λ l. reading_from (after_line s l) (n + 1) texts) (line_again text line h)
    ∙ all_again (after_line s line) (n + 1) texts said hs ∙ ap Ok (with_more s line said)
all_again s n [] (line ∷ said) h = absurd h
all_again s n (text ∷ texts) [] h = absurd h

-- ---- what is refused

wrong_from : (text : List ℕ) → line_in (words text) ≡ None → IsWrong text
wrong_from text e = λ line h. let again = line_again text line h in absurd cc

none_from : (o : Option Line) → ((line : Line) → o ≡ Some line → ⊥) → o ≡ None
none_from None h = refl
none_from (Some line) h = absurd (h line refl)

wrong_again : (text : List ℕ) → IsWrong text → line_in (words text) ≡ None
wrong_again text h = none_from (line_in (words text)) (λ line e. h line (line_found text line e))

-- the first wrong line, after n lines
pub record FirstWrong (texts : List (List ℕ)) (n : ℕ) (e : ScriptError) : Type 0 where
  pub before : List (List ℕ)
  pub line : List ℕ
  pub after : List (List ℕ)
  pub stands : texts ≡ before ++ (line ∷ after)
  pub told : e ≡ NotACue (n + length before + 1)
  pub right : AllByRecursion IsRight before
  pub wrong : IsWrong line

first_wrong : (s : Scenario) (n : ℕ) (texts : List (List ℕ)) (e : ScriptError) → reading_from s n texts ≡ Err e
    → FirstWrong texts n e
first_wrong s n [] e h = absurd cc
first_wrong s n (text ∷ texts) e h =
    by (λ line. first_wrong (after_line s line) (n + 1) texts e) (line_in (words text)) refl h
  where
    by : ((line : Line) → reading_from (after_line s line) (n + 1) texts ≡ Err e → FirstWrong texts (n + 1) e)
        → (o : Option Line) → line_in (words text) ≡ o
        → (ok_or o (NotACue (n + 1)) >>= λ l. reading_from (after_line s l) (n + 1) texts) ≡ Err e
        → FirstWrong (text ∷ texts) n e
    by next None is h = record {
      before = [];
      line = text;
      after = texts;
      stands = refl;
      told = (let same : NotACue (n + 1) ≡ e = cc in sym same ∙ ap NotACue (omega arith));
      right = tt;
      wrong = wrong_from text is;
    }
    by others (Some line) is h =
        let next = others line h in record {
          before = text ∷ next.before;
          line = next.line;
          after = next.after;
          stands = ap (λ ts. text ∷ ts) next.stands;
          told = next.told ∙ ap NotACue (omega arith);
          right = ((line, line_found text line is), next.right);
          wrong = next.wrong;
        }

wrong_refused : (s : Scenario) (n : ℕ) (before : List (List ℕ)) (line : List ℕ) (after : List (List ℕ))
    → AllByRecursion IsRight before → IsWrong line
    → reading_from s n (before ++ (line ∷ after)) ≡ Err (NotACue (n + length before + 1))
wrong_refused s n [] line after right wrong =
    ap (λ o. ok_or o (NotACue (n + 1)) >>= λ l. reading_from (after_line s l) (n + 1) after) (wrong_again line wrong)
    ∙ ap (λ k. Err (NotACue k)) (omega arith)
wrong_refused s n (text ∷ before) line after ((said, h), right) wrong =
    ap (λ o. ok_or o (NotACue (n + 1)) >>= λ l. reading_from (after_line s l) (n + 1) (before ++ (line ∷ after)))
    (line_again text said h)
    ∙ wrong_refused (after_line s said) (n + 1) before line after right wrong
    ∙ ap (λ k. Err (NotACue k)) (omega arith)

-- ---- texts

abbrev nothing : Scenario
nothing = record { cues = []; troubles = [] }

spelled : (text : List ℕ) (r : Scenario) → reading text ≡ Ok r → Spells text r
spelled text r e =
    let (said, each, is) = all_found nothing 0 (lines text) r e in
    record { said = said; each = each; cues = ap (λ s. s.cues) is; troubles = ap (λ s. s.troubles) is }

spelled_again : (text : List ℕ) (r : Scenario) → Spells text r → reading text ≡ Ok r
spelled_again text r h = all_again nothing 0 (lines text) h.said h.each ∙ ap Ok (same r h.said h.cues h.troubles)
  where
    same : (r : Scenario) (said : List Line) → r.cues ≡ cues_of said → r.troubles ≡ troubles_of said
        → with_said nothing said ≡ r
    same r said c t = rw (← c, ← t) refl

-- What is read is spelled so.
pub text_found : (text : List ℕ) (r : Result Scenario ScriptError)
    → Gives is_script_memory (λ (s : Scenario). s) r (reading text) → IfOk r (Spells text)
text_found text (Ok s) gives = spelled text s gives
text_found text (Err e) gives = tt

-- What is spelled so is read.
pub text_only : (text : List ℕ) (r : Result Scenario ScriptError) (s : Scenario)
    → Gives is_script_memory (λ (s : Scenario). s) r (reading text) → Spells text s
    → Gives is_script_memory (λ (s : Scenario). s) r (Ok s)
text_only text r s gives h =
    subst (λ (x : Result Scenario ScriptError). Gives is_script_memory (λ (s : Scenario). s) r x)
    (spelled_again text s h) gives

-- A refusal tells the first wrong line.
pub text_first : (text : List ℕ) (r : Result Scenario ScriptError)
    → Gives is_script_memory (λ (s : Scenario). s) r (reading text) → IfErr r (TellsFirst text)
text_first text (Ok s) gives = tt
text_first text (Err OutOfMemory) gives = tt
text_first text (Err (NotACue n)) gives =
    let w = first_wrong nothing 0 (lines text) (NotACue n) gives in record {
      before = w.before;
      line = w.line;
      after = w.after;
      stands = w.stands;
      number = (let told = w.told in let is : n ≡ 0 + length w.before + 1 = cc in omega arith);
      right = w.right;
      wrong = w.wrong;
    }

-- The first wrong line is told.
pub text_refused : (text : List ℕ) (r : Result Scenario ScriptError) (n : ℕ)
    → Gives is_script_memory (λ (s : Scenario). s) r (reading text) → IsFirstWrong text n
    → Gives is_script_memory (λ (s : Scenario). s) r (Err (NotACue n))
text_refused text r n gives h =
    subst (λ (x : Result Scenario ScriptError). Gives is_script_memory (λ (s : Scenario). s) r x)
    (ap (reading_from nothing 0) h.stands ∙ wrong_refused nothing 0 h.before h.line h.after h.right h.wrong
    ∙ ap (λ k. Err (NotACue k)) (omega (arith, h.number))) gives
