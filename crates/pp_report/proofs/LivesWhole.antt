-- Whole lives are audited, and one life is audited as ever.
use Rattle.std.proofs.Common.{◌≡◌, ◌≢◌, ◌∙◌, ℕ, ◌+◌, Bool, true, false, List, [], ◌∷◌, length, map, inl, refl, sym, ap, subst, arith}
use Rattle.std.proofs.Common.{Result, Ok, Err, if◌then◌else◌}
use Rattle.std.specs.List.{AllByRecursion}
use Rattle.std.specs.Str.{bytes_eq}
use Rattle.std.proofs.lemmas.Slice.Eq.{bytes_eq-Decides}
use Rattle.pp_text.specs.Steps.{◌>>=◌}
use Rattle.pp_settings.specs.Settings.{Configuration}
use Rattle.pp_settings.specs.declared.span.Span.TheVariants.{Bounded}
use Rattle.pp_cert.specs.Accepted.{Acceptance}
use Rattle.pp_model.specs.declared.event.Event.{Event}
use Rattle.pp_model.specs.Pool.{State, opening}
use Rattle.pp_model.specs.Renewing.{renewed}
use Rattle.pp_model.specs.Lives.{Life, life_end, AreLives, after_lives}
use Rattle.pp_model.specs.Journals.{IsTrueFrom}
use Rattle.pp_core.specs.Opening.{kept_of}
use Rattle.pp_report.specs.declared.error.AuditError.{AuditError}
use Rattle.pp_report.specs.Lines.{HasNumbers, FitsEvent}
use Rattle.pp_report.specs.Journals.{journal_lines}
use Rattle.pp_report.specs.Auditing.{Progress, pass_text, auditing_from, outset, auditing}
use Rattle.pp_report.specs.Audits.{IsAudited}
use Rattle.pp_report.specs.AuditingLives.{renewal_line, pass_renewal, lives_from, auditing_lives}
use Rattle.pp_report.specs.Lives.{journals_of, lives_words, lives_lines, FitLives, next_opening}
use Rattle.pp_report.specs.Lives.{AreWholeJournals, IsAuditedLives, HasNoRenewal}
use Rattle.pp_report.proofs.Splitting.{words_of, spelled_lines}
use Rattle.pp_report.proofs.Verdicts as verdicts
use Rattle.pp_report.proofs.Few.{Few, few_from}
use Rattle.pp_report.proofs.Whole.{all_fit, few_at_first}
use Rattle.pp_report.proofs.LivesLines.{event_apart}
use Rattle.pp_report.proofs.LivesAudited as lives

-- ---- whole lives

-- None is submitted where the next life begins.
few_next : (o : State) (l : Life) → Few o → IsTrueFrom l.plans o l.journal → Few (renewed (life_end o l))
few_next o l few t = record { span = (few_from l.plans o l.journal t few).span; plans = omega arith }

lives_fit : (o : State) (ls : List Life) → AllByRecursion (AllByRecursion HasNumbers) (journals_of ls) → AreLives o ls
    → Few o → AllByRecursion (AllByRecursion FitsEvent) (journals_of ls)
lives_fit o [] h are few = tt
lives_fit o (l ∷ ls) h are few = (
  all_fit l.plans o l.journal h.0 are.0.is_true few,
  lives_fit (renewed (life_end o l)) ls h.1 are.1 (few_next o l few are.0.is_true),
)

-- So few are submitted where a life begins.
few_after_lives : (o : State) (ls : List Life) → AreLives o ls → Few o → Few (after_lives o ls)
few_after_lives o [] are few = few
few_after_lives o (l ∷ ls) are few =
    few_after_lives (renewed (life_end o l)) ls are.1 (few_next o l few are.0.is_true)

pub whole_spelled : (c : Configuration) (plans : List Acceptance) → c.span ≡ Bounded
    → (journals : List (List Event)) (last : List Event) → AllByRecursion (AllByRecursion HasNumbers) journals
    → AllByRecursion HasNumbers last
    → AreWholeJournals c plans journals last
    → IsAuditedLives c plans (lives_words journals last) (length (lives_lines journals last))
whole_spelled c plans bounded journals last h k are =
    let is = are.whole.are_true in
    let fits : FitLives (journals_of are.lives) last = record {
      each = lives_fit (opening (kept_of c)) are.lives (subst (AllByRecursion (AllByRecursion HasNumbers)) are.journals_are h)
          is.over (few_at_first (kept_of c) bounded);
      latest = all_fit are.rest (next_opening c are.lives) last k is.is_true
          (few_after_lives (opening (kept_of c)) are.lives is.over (few_at_first (kept_of c) bounded));
    } in
    record {
      lives = are.lives;
      last = record { plans = are.rest; journal = last };
      spelled = record { fits = fits; text_is = inl (ap (λ js. lives_words js last) are.journals_are) };
      whole = are.whole;
      number = ap (λ js. length (lives_lines js last)) are.journals_are;
    }

pub whole_audited : (c : Configuration) (plans : List Acceptance) → c.span ≡ Bounded
    → (journals : List (List Event)) (last : List Event) → AllByRecursion (AllByRecursion HasNumbers) journals
    → AllByRecursion HasNumbers last
    → AreWholeJournals c plans journals last
    → auditing_lives c plans (lives_words journals last) ≡ Ok (length (lives_lines journals last))
whole_audited c plans bounded journals last h k are =
    lives.audited_again c plans (lives_words journals last) (length (lives_lines journals last))
    (whole_spelled c plans bounded journals last h k are)

-- ---- one life

apart : (b : Bool) → (b ≡ true → ⊥) → b ≡ false
apart true h = absurd (h refl)
apart false h = refl

alike_behind : (n : ℕ) (texts : List (List ℕ)) → ((q : Progress) → lives_from q n texts ≡ auditing_from q n texts)
    → (r : Result Progress AuditError)
    → (r >>= λ q. lives_from q n texts) ≡ (r >>= λ q. auditing_from q n texts)
alike_behind n texts h (Ok q) = h q
alike_behind n texts h (Err e) = refl

alike_from : (p : Progress) (n : ℕ) (texts : List (List ℕ)) → AllByRecursion (λ line. line ≢ renewal_line) texts
    → lives_from p n texts ≡ auditing_from p n texts
alike_from p n [] h = refl
alike_from p n (text ∷ texts) h =
    ap (λ b. (if b then pass_renewal p (n + 1) else pass_text p (n + 1) text) >>= λ q. lives_from q (n + 1) texts)
    (apart (bytes_eq text renewal_line) (λ e. h.0 ((bytes_eq-Decides text renewal_line).0 e)))
    ∙ alike_behind (n + 1) texts (λ q. alike_from q (n + 1) texts h.1) (pass_text p (n + 1) text)

-- Where no line is the one between two lives, both audits say the same.
pub alike : (c : Configuration) (plans : List Acceptance) (text : List ℕ) → HasNoRenewal text
    → auditing_lives c plans text ≡ auditing c plans text
alike c plans text h = alike_from (outset c plans) 0 (journal_lines text) h

-- A journal of one life has no such line.
journal_apart : (es : List Event) → AllByRecursion FitsEvent es
    → AllByRecursion (λ line. line ≢ renewal_line) (map words_of es)
journal_apart [] h = tt
journal_apart (e ∷ es) h = (
  (λ same. let yes : bytes_eq (words_of e) renewal_line ≡ true = (bytes_eq-Decides (words_of e) renewal_line).1 same in
      let no : bytes_eq (words_of e) renewal_line ≡ false = event_apart e h.0 in cc),
  journal_apart es h.1,
)

pub accepted_alike : (c : Configuration) (plans : List Acceptance) (text : List ℕ) (n : ℕ) → IsAudited c plans text n
    → auditing_lives c plans text ≡ Ok n
accepted_alike c plans text n h =
    alike c plans text
    (subst (AllByRecursion (λ line. line ≢ renewal_line)) (sym (spelled_lines text h.events h.spelled))
    (journal_apart h.events h.spelled.fits))
    ∙ verdicts.audited_again c plans text n h
