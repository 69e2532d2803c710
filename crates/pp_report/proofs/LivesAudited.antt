-- The verdict of an audit of lives: what is passed is the journals of whole lives, such journals are passed, and the first
-- fault is told.
use Rattle.std.proofs.Common.{◌≡◌, ◌≢◌, ℕ, suc, ◌+◌, Bool, true, false, List, [], ◌∷◌, ◌++◌, length, map}
use Rattle.std.proofs.Common.{Option, Some, None, Result, Ok, Err, IfOk, IfErr, if◌then◌else◌, arith, refl, sym, ap, subst, ◌∙◌}
use Rattle.std.proofs.Common.{length-append}
use Rattle.std.specs.Prelude.{All}
use Rattle.std.specs.List.{AllByRecursion}
use Rattle.std.specs.Str.{bytes_eq}
use Rattle.std.proofs.lemmas.List.{append-nil, append_cancel_left}
use Rattle.std.proofs.lemmas.List.Elements.{recursion_from_All}
use Rattle.std.proofs.lemmas.Slice.Eq.{bytes_eq-Decides}
use Rattle.pp_text.specs.Steps.{◌>>=◌, must, Gives}
use Rattle.pp_text.proofs.Steps.{bind_ok, must_ok, ok_is}
use Rattle.pp_settings.specs.Settings.{Configuration}
use Rattle.pp_cert.specs.Accepted.{Acceptance, IsAccepted}
use Rattle.pp_model.specs.declared.event.Event.{Event}
use Rattle.pp_model.specs.declared.refusals.RenewError.{RenewError}
use Rattle.pp_model.specs.Pool.{State, opening}
use Rattle.pp_model.specs.Turns.{next_turn}
use Rattle.pp_model.specs.Journals.{after_event, replay, IsTrueAt, IsTrueFrom}
use Rattle.pp_model.specs.Renewing.{renew_error, renewed}
use Rattle.pp_model.specs.Lives.{Life, AreLives}
use Rattle.pp_core.specs.Opening.{kept_of}
use Rattle.pp_report.specs.declared.error.AuditError.{AuditError}
use Rattle.pp_report.specs.declared.error.AuditError.TheVariants.{NotALine, NotPossible, ReplyDiffers, NotRenewed}
use Rattle.pp_report.specs.declared.error.AuditError.TheVariants.{Unfinished, OutOfMemory}
use Rattle.pp_report.specs.Lines.{FitsEvent}
use Rattle.pp_report.specs.Journals.{journal_lines}
use Rattle.pp_report.specs.Auditing.{Progress, pass_text, is_over, outset}
use Rattle.pp_report.specs.Audits.{IsOver, AsksImpossible, TellsOther}
use Rattle.pp_report.specs.AuditingLives.{renewal_line, renewal_passed_unless, pass_renewal, pass_in_lives, lives_from}
use Rattle.pp_report.specs.AuditingLives.{auditing_lives}
use Rattle.pp_report.specs.Lives.{lives_lines, FitLives, journals_of, plans_of, next_opening}
use Rattle.pp_report.specs.Lives.{AreTrueLives, IsAuditedLives, StopsInLives, IsNoLineOfLives}
use Rattle.pp_report.specs.Lives.{CannotRenew, TellsFaultOfLives}
use Rattle.pp_report.specs.Refusals.{is_audit_memory}
use Rattle.pp_report.proofs.Verdicts.{words_of, Waits, Passed, text_passed, over_is, over_again, event_passed, Wrongs}
use Rattle.pp_report.proofs.Verdicts.{text_wrong, err_is, starts}
use Rattle.pp_report.proofs.LivesLines.{event_apart, spelled_lives, lives_spelled}
use Rattle.pp_report.proofs.LivesPassed.{Ending, Runs, lived, run_again}

-- ---- lines that are passed, from the middle of a life

-- An ending of a life whose last events are these is one of the events behind the first.
abbrev Grows : Ending → Type 0
Grows E = (plans : List Acceptance) (s : State) (e : Event) (es : List Event) → IsTrueAt plans s e
    → E plans (after_event plans s e) es → E plans s (e ∷ es)

-- The texts are the lines of lives from the state on, and what is behind them.
record Went (E : Ending) (plans : List Acceptance) (s : State) (texts after : List (List ℕ)) : Type 0 where
  pub journals : List (List Event)
  pub last : List Event
  pub fits : FitLives journals last
  pub texts_are : texts ≡ lives_lines journals last ++ after
  pub runs : Runs E plans s journals last

event_before : (E : Ending) (plans : List Acceptance) (s : State) (e : Event) (text : List ℕ) (texts after : List (List ℕ))
    → Grows E → FitsEvent e → text ≡ words_of e → IsTrueAt plans s e → (journals : List (List Event)) (last : List Event)
    → FitLives journals last → texts ≡ lives_lines journals last ++ after
    → Runs E plans (after_event plans s e) journals last → Went E plans s (text ∷ texts) after
event_before E plans s e text texts after grow fit line here [] last fits is runs = record {
  journals = [];
  last = e ∷ last;
  fits = record { each = tt; latest = (fit, fits.latest) };
  texts_are = ap (λ t. t ∷ texts) line ∙ ap (λ ts. words_of e ∷ ts) is;
  runs = grow plans s e last here runs;
}
event_before E plans s e text texts after grow fit line here (es ∷ journals) last fits is runs = record {
  journals = (e ∷ es) ∷ journals;
  last = last;
  fits = record { each = ((fit, fits.each.0), fits.each.1); latest = fits.latest };
  texts_are = ap (λ t. t ∷ texts) line ∙ ap (λ ts. words_of e ∷ ts) is;
  runs = ((here, runs.0), runs.1, runs.2);
}

went_event : (E : Ending) (plans : List Acceptance) (p q : Progress) (text : List ℕ) (texts after : List (List ℕ))
    → Grows E → Passed plans p q text → Went E plans q.state texts after → Went E plans p.state (text ∷ texts) after
went_event E plans p q text texts after grow here h =
    event_before E plans p.state here.event_is text texts after grow here.fits here.text_is here.is_true h.journals h.last
    h.fits h.texts_are (subst (λ s. Runs E plans s h.journals h.last) here.leads h.runs)

went_renewal : (E : Ending) (plans rest : List Acceptance) (s : State) (text : List ℕ) (texts after : List (List ℕ))
    → text ≡ renewal_line → renew_error s ≡ None → plans ≡ s.plans ++ rest → Went E rest (renewed s) texts after
    → Went E plans s (text ∷ texts) after
went_renewal E plans rest s text texts after line none parts h = record {
  journals = [] ∷ h.journals;
  last = h.last;
  fits = record { each = (tt, h.fits.each); latest = h.fits.latest };
  texts_are = ap (λ t. t ∷ texts) line ∙ ap (λ ts. renewal_line ∷ ts) h.texts_are;
  runs = (tt, none, (rest, parts, h.runs));
}

went_nowhere : (E : Ending) (plans : List Acceptance) (s : State) (after : List (List ℕ)) → E plans s []
    → Went E plans s after after
went_nowhere E plans s after ends = record {
  journals = [];
  last = [];
  fits = record { each = tt; latest = tt };
  texts_are = refl;
  runs = ends;
}

-- ---- a line of either kind

renewal_passed : (p q : Progress) (number : ℕ) → pass_renewal p number ≡ Ok q
    → (renew_error p.state ≡ None) × (record p { state = renewed p.state } ≡ q)
renewal_passed p q number e = by (renew_error p.state) e
  where
    by : (o : Option RenewError) → renewal_passed_unless o p number ≡ Ok q
        → (o ≡ None) × (record p { state = renewed p.state } ≡ q)
    by None e = (refl, ok_is (record p { state = renewed p.state }) q e)
    by (Some why) e = absurd cc

-- A line that is passed leads on, and what goes on behind it goes on from before it.
record Leads (plans : List Acceptance) (p q : Progress) (text : List ℕ) : Type 1 where
  pub rest : List Acceptance
  pub waits : Waits rest q
  pub on : (E : Ending) → Grows E → (texts after : List (List ℕ)) → Went E rest q.state texts after
      → Went E plans p.state (text ∷ texts) after

leads_by : (plans : List Acceptance) (p q : Progress) (number : ℕ) (text : List ℕ) → Waits plans p
    → pass_in_lives p number text ≡ Ok q → Leads plans p q text
leads_by plans p q number text waits e = by (bytes_eq text renewal_line) (bytes_eq-Decides text renewal_line).0 e
  where
    by : (b : Bool) → (b ≡ true → text ≡ renewal_line)
        → (if b then pass_renewal p number else pass_text p number text) ≡ Ok q → Leads plans p q text
    by true line e =
        let (none, is) = renewal_passed p q number e in record {
          rest = p.waiting;
          waits = subst (Waits p.waiting) is refl;
          on = λ E grow texts after h.
              went_renewal E plans p.waiting p.state text texts after (line refl) none waits
              (subst (λ r. Went E p.waiting r.state texts after) (sym is) h);
        }
    by false line e =
        let here = text_passed plans p q number text waits e in record {
          rest = plans;
          waits = here.waits;
          on = λ E grow texts after h. went_event E plans p q text texts after grow here h;
        }

-- ---- a text that is passed

abbrev Whole : List Acceptance → State → List Event → Type 0
Whole plans s es = IsTrueFrom plans s es × IsOver plans (replay plans s es)

whole_grows : Grows Whole
whole_grows plans s e es here h = ((here, h.0), h.1)

abbrev FoundLives : List Acceptance → State → (n : ℕ) → List (List ℕ) → (lines : ℕ) → Type 0
FoundLives plans s n texts lines = Went Whole plans s texts [] × (lines ≡ n + length texts)

found_lives : (plans : List Acceptance) (p : Progress) (n : ℕ) (texts : List (List ℕ)) (lines : ℕ) → Waits plans p
    → lives_from p n texts ≡ Ok lines → FoundLives plans p.state n texts lines
found_lives plans p n [] lines waits e =
    let (x, h, i) = bind_ok (must (is_over p) Unfinished) (λ passed. Ok n) lines e in
    let same : n ≡ lines = ok_is n lines i in
    (went_nowhere Whole plans p.state [] (tt, over_is plans p waits (must_ok _ _ x h)), omega arith)
found_lives plans p n (text ∷ texts) lines waits e =
    let (q, f, g) = bind_ok (pass_in_lives p (n + 1) text) (λ q. lives_from q (n + 1) texts) lines e in
    let here = leads_by plans p q (n + 1) text waits f in
    let (more, counted) = found_lives here.rest q (n + 1) texts lines here.waits g in
    (here.on Whole whole_grows texts [] more, omega arith)

-- ---- whole lives are passed

event_in_lives : (plans : List Acceptance) (p : Progress) (n : ℕ) (e : Event) → Waits plans p → FitsEvent e
    → IsTrueAt plans p.state e
    → (q : Progress) × (pass_in_lives p n (words_of e) ≡ Ok q) × (q.state ≡ after_event plans p.state e) × Waits plans q
event_in_lives plans p n e waits fits h =
    let (q, passes, leads, more) = event_passed plans p n e waits fits h in (
      q,
      ap (λ b. if b then pass_renewal p n else pass_text p n (words_of e)) (event_apart e fits) ∙ passes,
      leads,
      more,
    )

plus_none : (n : ℕ) → n ≡ n + 0
plus_none n = omega arith

plus_one : (n m : ℕ) → n + 1 + m ≡ n + suc m
plus_one n m = omega arith

record Through (plans : List Acceptance) (p : Progress) (n : ℕ) (es : List Event) (texts : List (List ℕ)) : Type 0 where
  pub to : Progress
  pub leads : to.state ≡ replay plans p.state es
  pub waits : Waits plans to
  pub goes : lives_from p n (map words_of es ++ texts) ≡ lives_from to (n + length es) texts

through : (plans : List Acceptance) (p : Progress) (n : ℕ) (es : List Event) (texts : List (List ℕ)) → Waits plans p
    → AllByRecursion FitsEvent es → IsTrueFrom plans p.state es → Through plans p n es texts
through plans p n [] texts waits fits h = record {
  to = p;
  leads = refl;
  waits = waits;
  goes = ap (λ k. lives_from p k texts) (plus_none n);
}
through plans p n (e ∷ es) texts waits fits h =
    let (q, passes, leads, more) = event_in_lives plans p (n + 1) e waits fits.0 h.0 in
    let rest = through plans q (n + 1) es texts more fits.1 (subst (λ s. IsTrueFrom plans s es) (sym leads) h.1) in
    record {
      to = rest.to;
      leads = rest.leads ∙ ap (λ s. replay plans s es) leads;
      waits = rest.waits;
      goes = ap (λ r. r >>= λ q. lives_from q (n + 1) (map words_of es ++ texts)) passes ∙ rest.goes
          ∙ ap (λ k. lives_from rest.to k texts) (plus_one n (length es));
    }

ends_well : (plans : List Acceptance) (p : Progress) (n : ℕ) → Waits plans p → IsOver plans p.state
    → lives_from p n [] ≡ Ok n
ends_well plans p n waits over = ap (λ b. must b Unfinished >>= λ passed. Ok n) (over_again plans p waits over)

renews : (p : Progress) (n : ℕ) (texts : List (List ℕ)) → renew_error p.state ≡ None
    → lives_from p n (renewal_line ∷ texts) ≡ lives_from (record p { state = renewed p.state }) (n + 1) texts
renews p n texts none =
    ap (λ b. (if b then pass_renewal p (n + 1) else pass_text p (n + 1) renewal_line) >>= λ q. lives_from q (n + 1) texts)
    ((bytes_eq-Decides renewal_line renewal_line).1 refl)
    ∙ ap (λ o. renewal_passed_unless o p (n + 1) >>= λ q. lives_from q (n + 1) texts) none

mapped : (es : List Event) → length (map words_of es) ≡ length es
mapped [] = refl
mapped (e ∷ es) = ap suc (mapped es)

lives_again : (plans : List Acceptance) (p : Progress) (n : ℕ) (journals : List (List Event)) (last : List Event)
    → Waits plans p → FitLives journals last → Runs Whole plans p.state journals last
    → lives_from p n (lives_lines journals last) ≡ Ok (n + length (lives_lines journals last))
lives_again plans p n [] last waits fits (is_true, over) =
    let there = through plans p n last [] waits fits.latest is_true in
    let counted : n + length last ≡ n + length (map words_of last) = omega (arith, mapped last) in
    ap (lives_from p n) (sym (append-nil (map words_of last))) ∙ there.goes
    ∙ ends_well plans there.to (n + length last) there.waits (subst (IsOver plans) (sym there.leads) over)
    ∙ ap Ok counted
lives_again plans p n (es ∷ journals) last waits fits (is_true, none, (rest, parts, more)) =
    let texts = renewal_line ∷ lives_lines journals last in
    let there = through plans p n es texts waits fits.each.0 is_true in
    let q : Progress = there.to in
    let left : rest ≡ q.waiting =
    append_cancel_left q.state.plans rest q.waiting
    (ap (λ s. s.plans ++ rest) there.leads ∙ sym parts ∙ there.waits) in
    there.goes ∙ renews q (n + length es) (lives_lines journals last) (ap renew_error there.leads ∙ none)
    ∙ lives_again rest (record q { state = renewed q.state }) (n + length es + 1) journals last left
    (record { each = fits.each.1; latest = fits.latest })
    (subst (λ s. Runs Whole rest (renewed s) journals last) (sym there.leads) more)
    ∙ ap Ok (counted n (map words_of es) es (lives_lines journals last) (mapped es))
  where
    counted : (n : ℕ) (xs : List (List ℕ)) (es : List Event) (ys : List (List ℕ)) → length xs ≡ length es
        → n + length es + 1 + length ys ≡ n + length (xs ++ (renewal_line ∷ ys))
    counted n xs es ys e = omega (arith, length-append xs (renewal_line ∷ ys))

-- ---- the first fault

abbrev Fault : Type 1
Fault = List Acceptance → State → List ℕ → Type 0

-- The ending of the lines before a wrong one.
abbrev Stopped : Fault → List ℕ → List Acceptance → State → List Event → Type 0
Stopped W line plans s es = IsTrueFrom plans s es × W plans (replay plans s es) line

stopped_grows : (W : Fault) (line : List ℕ) → Grows (Stopped W line)
stopped_grows W line plans s e es here h = ((here, h.0), h.1)

record Stops (W : Fault) (plans : List Acceptance) (s : State) (n : ℕ) (texts : List (List ℕ)) (number : ℕ)
    : Type 0 where
  pub line : List ℕ
  pub after : List (List ℕ)
  pub went : Went (Stopped W line) plans s texts (line ∷ after)
  pub number_is : number + length after ≡ n + length texts

-- The ending of true lines behind which there are too few.
abbrev Early : List Acceptance → State → List Event → Type 0
Early plans s es = IsTrueFrom plans s es × ¬ IsOver plans (replay plans s es)

early_grows : Grows Early
early_grows plans s e es here h = ((here, h.0), h.1)

abbrev Faults : List Acceptance → State → ℕ → List (List ℕ) → AuditError → Type 0
Faults plans s n texts (NotALine k) = Stops IsNoLineOfLives plans s n texts k
Faults plans s n texts (NotPossible k asked next) = Stops (λ ps. AsksImpossible ps asked next) plans s n texts k
Faults plans s n texts (ReplyDiffers k told right) = Stops (λ ps. TellsOther ps told right) plans s n texts k
Faults plans s n texts (NotRenewed k why next) = Stops (CannotRenew why next) plans s n texts k
Faults plans s n texts Unfinished = Went Early plans s texts []
Faults plans s n texts OutOfMemory = Unit {0}

stops_here : (W : Fault) (plans : List Acceptance) (s : State) (n : ℕ) (text : List ℕ) (texts : List (List ℕ)) (k : ℕ)
    → k ≡ n + 1 → W plans s text → Stops W plans s n (text ∷ texts) k
stops_here W plans s n text texts k is wrong = record {
  line = text;
  after = texts;
  went = went_nowhere (Stopped W text) plans s (text ∷ texts) (tt, wrong);
  number_is = omega arith;
}

stops_later : (W : Fault) (plans : List Acceptance) (p q : Progress) (n : ℕ) (text : List ℕ) (texts : List (List ℕ)) (k : ℕ)
    → (here : Leads plans p q text) → Stops W here.rest q.state (n + 1) texts k → Stops W plans p.state n (text ∷ texts) k
stops_later W plans p q n text texts k here h =
    let counted = h.number_is in record {
      line = h.line;
      after = h.after;
      went = here.on (Stopped W h.line) (stopped_grows W h.line) texts (h.line ∷ h.after) h.went;
      number_is = omega arith;
    }

faults_later : (plans : List Acceptance) (p q : Progress) (n : ℕ) (text : List ℕ) (texts : List (List ℕ)) (e : AuditError)
    → (here : Leads plans p q text) → Faults here.rest q.state (n + 1) texts e → Faults plans p.state n (text ∷ texts) e
faults_later plans p q n text texts (NotALine k) here h = stops_later IsNoLineOfLives plans p q n text texts k here h
faults_later plans p q n text texts (NotPossible k asked next) here h =
    stops_later (λ ps. AsksImpossible ps asked next) plans p q n text texts k here h
faults_later plans p q n text texts (ReplyDiffers k told right) here h =
    stops_later (λ ps. TellsOther ps told right) plans p q n text texts k here h
faults_later plans p q n text texts (NotRenewed k why next) here h =
    stops_later (CannotRenew why next) plans p q n text texts k here h
faults_later plans p q n text texts Unfinished here h = here.on Early early_grows texts [] h
faults_later plans p q n text texts OutOfMemory here h = tt

-- what an audit of one life says of a line that isn't the one between lives
text_faults : (plans : List Acceptance) (s : State) (n : ℕ) (text : List ℕ) (texts : List (List ℕ)) (e : AuditError)
    → text ≢ renewal_line → Wrongs plans s text (n + 1) e → Faults plans s n (text ∷ texts) e
text_faults plans s n text texts (NotALine k) apart h =
    stops_here IsNoLineOfLives plans s n text texts k h.0 (h.1, apart)
text_faults plans s n text texts (NotPossible k asked next) apart h =
    stops_here (λ ps. AsksImpossible ps asked next) plans s n text texts k h.0 h.1
text_faults plans s n text texts (ReplyDiffers k told right) apart h =
    stops_here (λ ps. TellsOther ps told right) plans s n text texts k h.0 h.1
text_faults plans s n text texts (NotRenewed k why next) apart h = absurd h
text_faults plans s n text texts Unfinished apart h = absurd h
text_faults plans s n text texts OutOfMemory apart h = absurd h

renewal_faults : (plans : List Acceptance) (p : Progress) (n : ℕ) (text : List ℕ) (texts : List (List ℕ)) (e : AuditError)
    → text ≡ renewal_line → pass_renewal p (n + 1) ≡ Err e → Faults plans p.state n (text ∷ texts) e
renewal_faults plans p n text texts e line h = by (renew_error p.state) refl h
  where
    by : (o : Option RenewError) → renew_error p.state ≡ o → renewal_passed_unless o p (n + 1) ≡ Err e
        → Faults plans p.state n (text ∷ texts) e
    by None is h = absurd cc
    by (Some why) is h =
        subst (Faults plans p.state n (text ∷ texts))
        (err_is (NotRenewed (n + 1) why (record { turn = next_turn p.state })) e h)
        (stops_here (CannotRenew why (record { turn = next_turn p.state })) plans p.state n text texts (n + 1) refl
        (line, is, refl))

faults_here : (plans : List Acceptance) (p : Progress) (n : ℕ) (text : List ℕ) (texts : List (List ℕ)) (e : AuditError)
    → Waits plans p → pass_in_lives p (n + 1) text ≡ Err e → Faults plans p.state n (text ∷ texts) e
faults_here plans p n text texts e waits h =
    by (bytes_eq text renewal_line) refl h
  where
    by : (b : Bool) → bytes_eq text renewal_line ≡ b
        → (if b then pass_renewal p (n + 1) else pass_text p (n + 1) text) ≡ Err e
        → Faults plans p.state n (text ∷ texts) e
    by true is h = renewal_faults plans p n text texts e ((bytes_eq-Decides text renewal_line).0 is) h
    by false is h =
        text_faults plans p.state n text texts e
        (λ line. let yes : bytes_eq text renewal_line ≡ true = (bytes_eq-Decides text renewal_line).1 line in cc)
        (text_wrong plans p (n + 1) text e waits h)

ends_early : (plans : List Acceptance) (p : Progress) (n : ℕ) (e : AuditError) → Waits plans p
    → lives_from p n [] ≡ Err e → Faults plans p.state n [] e
ends_early plans p n e waits h = by (is_over p) refl h
  where
    by : (b : Bool) → is_over p ≡ b → (must b Unfinished >>= λ passed. Ok n) ≡ Err e → Faults plans p.state n [] e
    by true is h = absurd cc
    by false is h =
        subst (Faults plans p.state n []) (err_is Unfinished e h)
        (went_nowhere Early plans p.state [] (tt, (λ over. let again = over_again plans p waits over in cc)))

first_fault : (plans : List Acceptance) (p : Progress) (n : ℕ) (texts : List (List ℕ)) (e : AuditError) → Waits plans p
    → lives_from p n texts ≡ Err e → Faults plans p.state n texts e
first_fault plans p n [] e waits h = ends_early plans p n e waits h
first_fault plans p n (text ∷ texts) e waits h =
    by (λ ps q more g. first_fault ps q (n + 1) texts e more g) (pass_in_lives p (n + 1) text) refl h
  where
    by : ((ps : List Acceptance) (q : Progress) → Waits ps q → lives_from q (n + 1) texts ≡ Err e
        → Faults ps q.state (n + 1) texts e)
        → (r : Result Progress AuditError) → pass_in_lives p (n + 1) text ≡ r
        → (r >>= λ q. lives_from q (n + 1) texts) ≡ Err e → Faults plans p.state n (text ∷ texts) e
    by rest (Ok q) is h =
        let here = leads_by plans p q (n + 1) text waits is in
        faults_later plans p q n text texts e here (rest here.rest q here.waits h)
    by rest (Err d) is h =
        let same : d ≡ e = cc in
        faults_here plans p n text texts e waits (is ∙ ap (λ x. Err x) same)

-- ---- texts

abbrev begun : Configuration → State
begun c = opening (kept_of c)

lines_are : (journals : List (List Event)) (lives : List Life) (last : List Event) → journals ≡ journals_of lives
    → lives_lines journals last ≡ lives_lines (journals_of lives) last
lines_are journals lives last e = ap (λ js. lives_lines js last) e

true_lives : (c : Configuration) (plans : List Acceptance) (lives : List Life) (rest : List Acceptance)
    (last : List Event) → AreLives (begun c) lives → plans ≡ plans_of lives ++ rest
    → IsTrueFrom rest (next_opening c lives) last
    → AreTrueLives c plans lives (record { plans = rest; journal = last })
true_lives c plans lives rest last over parts is_true =
    record { over = over; is_true = is_true; plans_are = parts }

audited : (c : Configuration) (plans : List Acceptance) (text : List ℕ) (n : ℕ) → All IsAccepted plans
    → auditing_lives c plans text ≡ Ok n → IsAuditedLives c plans text n
audited c plans text n all e =
    let (went, counted) = found_lives plans (outset c plans) 0 (journal_lines text) n (starts c plans) e in
    let of = lived Whole plans (begun c) went.journals went.last (recursion_from_All IsAccepted plans all) went.runs in
    let lines : journal_lines text ≡ lives_lines (journals_of of.lives) went.last =
    went.texts_are ∙ append-nil (lives_lines went.journals went.last) ∙ lines_are went.journals of.lives went.last of.journals_are in
    record {
      lives = of.lives;
      last = record { plans = of.rest; journal = went.last };
      spelled = lives_spelled text (journals_of of.lives) went.last
          (subst (λ js. FitLives js went.last) of.journals_are went.fits) lines;
      whole = record {
        are_true = true_lives c plans of.lives of.rest went.last of.over of.plans_are of.ends.0;
        over = of.ends.1;
      };
      number = omega (arith, ap length lines);
    }

pub audited_again : (c : Configuration) (plans : List Acceptance) (text : List ℕ) (n : ℕ) → IsAuditedLives c plans text n
    → auditing_lives c plans text ≡ Ok n
audited_again c plans text n h =
    let is = h.whole.are_true in
    let runs : Runs Whole plans (begun c) (journals_of h.lives) h.last.journal =
    subst (λ ps. Runs Whole ps (begun c) (journals_of h.lives) h.last.journal) (sym is.plans_are)
    (run_again Whole (begun c) h.lives h.last.plans h.last.journal is.over (is.is_true, h.whole.over)) in
    ap (lives_from (outset c plans) 0) (spelled_lives text (journals_of h.lives) h.last.journal h.spelled)
    ∙ lives_again plans (outset c plans) 0 (journals_of h.lives) h.last.journal (starts c plans) h.spelled.fits runs
    ∙ ap Ok (sym (h.number ∙ omega arith))

stops_at : (W : Fault) (c : Configuration) (plans : List Acceptance) (text : List ℕ) (k : ℕ) → All IsAccepted plans
    → Stops W plans (begun c) 0 (journal_lines text) k → StopsInLives c plans text k W
stops_at W c plans text k all h =
    let went = h.went in
    let of =
    lived (Stopped W h.line) plans (begun c) went.journals went.last (recursion_from_All IsAccepted plans all) went.runs in
    let lines : journal_lines text ≡ lives_lines (journals_of of.lives) went.last ++ (h.line ∷ h.after) =
    went.texts_are ∙ ap (λ ls. ls ++ (h.line ∷ h.after)) (lines_are went.journals of.lives went.last of.journals_are) in
    record {
      lives = of.lives;
      present = record { plans = of.rest; journal = went.last };
      line = h.line;
      after = h.after;
      fits = subst (λ js. FitLives js went.last) of.journals_are went.fits;
      are_true = true_lives c plans of.lives of.rest went.last of.over of.plans_are of.ends.0;
      stands = lines;
      number_is = counted (lives_lines (journals_of of.lives) went.last) h.line h.after (journal_lines text) k
          lines h.number_is;
      wrong = of.ends.1;
    }
  where
    counted : (before : List (List ℕ)) (line : List ℕ) (after texts : List (List ℕ)) (k : ℕ)
        → texts ≡ before ++ (line ∷ after) → k + length after ≡ 0 + length texts → k ≡ length before + 1
    counted before line after texts k e f =
        omega (arith, ap length e, length-append before (line ∷ after))

tells : (c : Configuration) (plans : List Acceptance) (text : List ℕ) (e : AuditError) → All IsAccepted plans
    → Faults plans (begun c) 0 (journal_lines text) e → TellsFaultOfLives c plans text e
tells c plans text (NotALine k) all h = stops_at IsNoLineOfLives c plans text k all h
tells c plans text (NotPossible k asked next) all h = stops_at (λ ps. AsksImpossible ps asked next) c plans text k all h
tells c plans text (ReplyDiffers k told right) all h = stops_at (λ ps. TellsOther ps told right) c plans text k all h
tells c plans text (NotRenewed k why next) all h = stops_at (CannotRenew why next) c plans text k all h
tells c plans text Unfinished all went =
    let of = lived Early plans (begun c) went.journals went.last (recursion_from_All IsAccepted plans all) went.runs in
    let lines : journal_lines text ≡ lives_lines (journals_of of.lives) went.last =
    went.texts_are ∙ append-nil (lives_lines went.journals went.last) ∙ lines_are went.journals of.lives went.last of.journals_are in
    record {
      lives = of.lives;
      last = record { plans = of.rest; journal = went.last };
      spelled = lives_spelled text (journals_of of.lives) went.last
          (subst (λ js. FitLives js went.last) of.journals_are went.fits) lines;
      are_true = true_lives c plans of.lives of.rest went.last of.over of.plans_are of.ends.0;
      early = of.ends.1;
    }
tells c plans text OutOfMemory all h = tt

-- What is accepted is the journals of whole lives.
pub verdict_found : {X : Type 0} (view : X → ℕ) (c : Configuration) (plans : List Acceptance) (text : List ℕ)
    (r : Result X AuditError) → All IsAccepted plans → Gives is_audit_memory view r (auditing_lives c plans text)
    → IfOk r (λ x. IsAuditedLives c plans text (view x))
verdict_found view c plans text (Ok x) all gives = audited c plans text (view x) all gives
verdict_found view c plans text (Err e) all gives = tt

-- The journals of whole lives are accepted.
pub verdict_only : {X : Type 0} (view : X → ℕ) (c : Configuration) (plans : List Acceptance) (text : List ℕ)
    (r : Result X AuditError) (n : ℕ) → Gives is_audit_memory view r (auditing_lives c plans text)
    → IsAuditedLives c plans text n → Gives is_audit_memory view r (Ok n)
verdict_only view c plans text r n gives h =
    subst (λ (x : Result ℕ AuditError). Gives is_audit_memory view r x) (audited_again c plans text n h) gives

-- A refusal tells the first fault.
pub verdict_first : {X : Type 0} (view : X → ℕ) (c : Configuration) (plans : List Acceptance) (text : List ℕ)
    (r : Result X AuditError) → All IsAccepted plans → Gives is_audit_memory view r (auditing_lives c plans text)
    → IfErr r (TellsFaultOfLives c plans text)
verdict_first view c plans text (Ok x) all gives = tt
verdict_first view c plans text (Err e) all gives = by e gives
  where
    told : (e : AuditError) → auditing_lives c plans text ≡ Err e → TellsFaultOfLives c plans text e
    told e h =
        tells c plans text e all (first_fault plans (outset c plans) 0 (journal_lines text) e (starts c plans) h)

    by : (e : AuditError) → Gives is_audit_memory view (Err e) (auditing_lives c plans text)
        → TellsFaultOfLives c plans text e
    by (NotALine k) gives = told (NotALine k) gives
    by (NotPossible k asked next) gives = told (NotPossible k asked next) gives
    by (ReplyDiffers k told' right) gives = told (ReplyDiffers k told' right) gives
    by (NotRenewed k why next) gives = told (NotRenewed k why next) gives
    by Unfinished gives = told Unfinished gives
    by OutOfMemory gives = tt
