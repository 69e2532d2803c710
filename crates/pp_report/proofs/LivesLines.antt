-- The lines of a text of lives: those of its journals' events, with the line of a renewal between two journals.
use Rattle.std.proofs.Common.{◌≡◌, ◌≢◌, ◌⊎◌, inl, inr, ℕ, Bool, true, false, not, ◌==◌, List, [], ◌∷◌, ◌++◌, map}
use Rattle.std.proofs.Common.{Option, Some, None, codes, arith, refl, sym, ap, ◌∙◌, append_assoc}
use Rattle.std.specs.List.{list_all, AllByRecursion}
use Rattle.std.specs.Str.{bytes_eq}
use Rattle.std.proofs.lemmas.Bool.Decides.{nat_tests}
use Rattle.std.proofs.lemmas.Slice.Eq.{bytes_eq-Decides}
use Rattle.pp_model.specs.declared.event.Event.{Event}
use Rattle.pp_report.specs.declared.line.Line.{Line}
use Rattle.pp_report.specs.Lines.{line_of, journal_words, FitsEvent, Says}
use Rattle.pp_report.specs.Journals.{journal_lines}
use Rattle.pp_report.specs.AuditingLives.{renewal_line}
use Rattle.pp_report.specs.Lives.{lives_words, lives_lines, FitLives, SpellsLives}
use Rattle.pp_report.proofs.Plain.{parted}
use Rattle.pp_report.proofs.Spoken.{line_again}
use Rattle.pp_report.proofs.Splitting.{Lacks, one_line, line_ended, cut_front, cancel, has_byte, words_of, words_some}
use Rattle.pp_report.proofs.Splitting.{ended, IsOf, lines_of, ended_words}

-- ---- the line between two lives

lacks_by : (bs : List ℕ) → list_all (λ b. not (b == 10)) bs ≡ true → Lacks bs
lacks_by [] e = tt
lacks_by (b ∷ bs) e =
    let (here, more) = parted (not (b == 10)) (list_all (λ b. not (b == 10)) bs) e in
    ((λ same. differs b here same), lacks_by bs more)
  where
    ten : (b : ℕ) → b ≡ 10 → (b == 10) ≡ true
    ten b e = grind (arith, nat_tests)

    differs : (b : ℕ) → not (b == 10) ≡ true → b ≡ 10 → ⊥
    differs b h e = let no : not (b == 10) ≡ false = ap not (ten b e) in cc

-- It is no line of a journal.
pub renewal_unsaid : (l : Line) → Says renewal_line l → ⊥
renewal_unsaid l says = nothing (line_again renewal_line l says)
  where
    nothing : ◌≡◌ {A = Option Line} None (Some l) → ⊥
    nothing e = cc

-- And no line of a journal is it.
pub event_apart : (e : Event) → FitsEvent e → bytes_eq (words_of e) renewal_line ≡ false
event_apart e fits =
    by (bytes_eq (words_of e) renewal_line)
    (λ same. renewal_unsaid (line_of e) (fits, sym ((bytes_eq-Decides (words_of e) renewal_line).0 same)))
  where
    by : (b : Bool) → (b ≡ true → ⊥) → b ≡ false
    by true h = absurd (h refl)
    by false h = refl

-- ---- texts of lines

abbrev IsLine : List ℕ → Type 0
IsLine line = Lacks line × (line ≢ [])

whole : (lines : List (List ℕ)) → AllByRecursion IsLine lines → journal_lines (ended lines) ≡ lines
whole [] h = refl
whole (l ∷ ls) h = line_ended l (ended ls) h.0.0 ∙ ap (λ x. l ∷ x) (whole ls h.1)

some_ended : (l : List ℕ) (ls : List (List ℕ)) → ended (l ∷ ls) ≢ []
some_ended [] ls e = absurd cc
some_ended (b ∷ bs) ls e = absurd cc

short : (lines : List (List ℕ)) (text : List ℕ) → AllByRecursion IsLine lines → text ++ (10 ∷ []) ≡ ended lines
    → journal_lines text ≡ lines
short [] [] h e = absurd cc
short [] (b ∷ bs) h e = absurd cc
short (l ∷ []) text h e = ap journal_lines (cancel text l e) ∙ has_byte l h.0.0 h.0.1
short (l ∷ m ∷ ls) text h e =
    let (zs, front, last) =
    cut_front text (l ++ (10 ∷ [])) (ended (m ∷ ls)) (some_ended m ls) (e ∙ sym (append_assoc l (10 ∷ []) (ended (m ∷ ls)))) in
    ap journal_lines (front ∙ append_assoc l (10 ∷ []) zs) ∙ line_ended l zs h.0.0
    ∙ ap (λ x. l ∷ x) (short (m ∷ ls) zs h.1 last)

-- ---- the lines of lives

all_more : (xs ys : List (List ℕ)) → AllByRecursion IsLine xs → AllByRecursion IsLine ys → AllByRecursion IsLine (xs ++ ys)
all_more [] ys h k = k
all_more (x ∷ xs) ys h k = (h.0, all_more xs ys h.1 k)

event_lines : (es : List Event) → AllByRecursion FitsEvent es → AllByRecursion IsLine (map words_of es)
event_lines [] h = tt
event_lines (e ∷ es) h = ((one_line (line_of e) h.0, words_some e), event_lines es h.1)

lives_are_lines : (journals : List (List Event)) (last : List Event) → AllByRecursion (AllByRecursion FitsEvent) journals
    → AllByRecursion FitsEvent last → AllByRecursion IsLine (lives_lines journals last)
lives_are_lines [] last h k = event_lines last k
lives_are_lines (es ∷ journals) last h k =
    all_more (map words_of es) (renewal_line ∷ lives_lines journals last) (event_lines es h.0)
    ((lacks_by renewal_line refl, (λ e. absurd cc)), lives_are_lines journals last h.1 k)

ended_more : (xs ys : List (List ℕ)) → ended (xs ++ ys) ≡ ended xs ++ ended ys
ended_more [] ys = refl
ended_more (x ∷ xs) ys =
    ap (λ l. x ++ (10 ∷ l)) (ended_more xs ys) ∙ sym (append_assoc x (10 ∷ ended xs) (ended ys))

ended_lives : (journals : List (List Event)) (last : List Event)
    → ended (lives_lines journals last) ≡ lives_words journals last
ended_lives [] last = ended_words last
ended_lives (es ∷ journals) last =
    ended_more (map words_of es) (renewal_line ∷ lives_lines journals last)
    ∙ ap (λ l. l ++ (renewal_line ++ (10 ∷ ended (lives_lines journals last)))) (ended_words es)
    ∙ ap (λ l. journal_words es ++ (renewal_line ++ (10 ∷ l))) (ended_lives journals last)
    ∙ sym (append_assoc (journal_words es) (renewal_line ++ codes "\n") (lives_words journals last))

-- The text of lives has their lines.
pub spelled_lives : (text : List ℕ) (journals : List (List Event)) (last : List Event) → SpellsLives text journals last
    → journal_lines text ≡ lives_lines journals last
spelled_lives text journals last h = by h.text_is
  where
    lines : AllByRecursion IsLine (lives_lines journals last)
    lines = lives_are_lines journals last h.fits.each h.fits.latest

    by : ((text ≡ lives_words journals last) ⊎ (text ++ codes "\n" ≡ lives_words journals last))
        → journal_lines text ≡ lives_lines journals last
    by (inl e) = ap journal_lines (e ∙ sym (ended_lives journals last)) ∙ whole (lives_lines journals last) lines
    by (inr e) = short (lives_lines journals last) text lines (e ∙ sym (ended_lives journals last))

-- A text with the lines of lives is theirs.
pub lives_spelled : (text : List ℕ) (journals : List (List Event)) (last : List Event) → FitLives journals last
    → journal_lines text ≡ lives_lines journals last → SpellsLives text journals last
lives_spelled text journals last fits e = by (lines_of text)
  where
    by : IsOf (journal_lines text) text → SpellsLives text journals last
    by (inl f) = record { fits = fits; text_is = inl (f ∙ ap ended e ∙ ended_lives journals last) }
    by (inr f) = record { fits = fits; text_is = inr (f ∙ ap ended e ∙ ended_lives journals last) }
