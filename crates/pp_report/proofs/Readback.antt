-- A text spells one list of events at most.
use Rattle.std.proofs.Common.{◌≡◌, ℕ, List, [], ◌∷◌, map, Some, refl, sym, ap, ◌∙◌}
use Rattle.std.specs.List.{AllByRecursion}
use Rattle.pp_model.specs.declared.event.Event.{Event}
use Rattle.pp_model.specs.declared.event.Event.TheVariants.{Submit, Step}
use Rattle.pp_report.specs.declared.line.Asked.TheVariants as asked
use Rattle.pp_report.specs.declared.line.Told.TheVariants as told
use Rattle.pp_report.specs.declared.line.Line.{Line}
use Rattle.pp_report.specs.Lines.{line_of, line_words, FitsEvent, Spells}
use Rattle.pp_report.specs.Reading.{line_in}
use Rattle.pp_report.proofs.Spoken.{line_again}
use Rattle.pp_report.proofs.Splitting.{spelled_lines}

abbrev words_of : Event → List ℕ
words_of e = line_words (line_of e)

same_line : (x y : Line) → Some x ≡ Some y → x ≡ y
same_line x y e = cc

same_event : (e f : Event) → line_of e ≡ line_of f → e ≡ f
same_event (Submit k) (Submit j) h = let a : asked.Submit k ≡ asked.Submit j = ap (λ l. l.asked) h in cc
same_event (Step m r) (Step n q) h =
    let a : asked.Do m ≡ asked.Do n = ap (λ l. l.asked) h in
    let t : told.Answer r ≡ told.Answer q = ap (λ l. l.told) h in cc
same_event (Submit k) (Step n q) h = let a : asked.Submit k ≡ asked.Do n = ap (λ l. l.asked) h in absurd cc
same_event (Step m r) (Submit j) h = let a : asked.Do m ≡ asked.Submit j = ap (λ l. l.asked) h in absurd cc

read_again : (e f : Event) → FitsEvent e → FitsEvent f → words_of e ≡ words_of f → e ≡ f
read_again e f fits fits' h =
    same_event e f (same_line (line_of e) (line_of f)
    (sym (line_again (words_of e) (line_of e) (fits, refl)) ∙ ap line_in h
    ∙ line_again (words_of f) (line_of f) (fits', refl)))

same_events : (es fs : List Event) → AllByRecursion FitsEvent es → AllByRecursion FitsEvent fs
    → map words_of es ≡ map words_of fs → es ≡ fs
same_events [] [] h k e = refl
same_events (x ∷ es) (y ∷ fs) h k e =
    let head : words_of x ≡ words_of y = cc in
    let rest : map words_of es ≡ map words_of fs = cc in
    ap (λ z. z ∷ es) (read_again x y h.0 k.0 head) ∙ ap (λ zs. y ∷ zs) (same_events es fs h.1 k.1 rest)
same_events [] (y ∷ fs) h k e = absurd cc
same_events (x ∷ es) [] h k e = absurd cc

pub once : (text : List ℕ) (es fs : List Event) → Spells text es → Spells text fs → es ≡ fs
once text es fs h k =
    same_events es fs h.fits k.fits (sym (spelled_lines text es h) ∙ spelled_lines text fs k)
