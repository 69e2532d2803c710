-- The verdict of an audit: what is passed is a true journal, a true journal is passed, and the first fault is told.
use Rattle.std.proofs.Common.{◌≡◌, ℕ, suc, ◌+◌, Bool, true, false, not, ◌==◌, ◌&&◌, List, [], ◌∷◌, ◌++◌, length, map}
use Rattle.std.proofs.Common.{Option, Some, None, Result, Ok, Err, IfOk, IfErr, if◌then◌else◌, arith, refl, sym, ap, subst, ◌∙◌}
use Rattle.std.proofs.Common.{append_assoc, length-append}
use Rattle.std.specs.Prelude.{slice_get}
use Rattle.std.specs.List.{AllByRecursion}
use Rattle.std.specs.Option.{ok_or}
use Rattle.std.proofs.lemmas.Bool.Decides.{nat_tests}
use Rattle.std.proofs.lemmas.List.{append-nil}
use Rattle.pp_text.specs.Steps.{◌>>=◌, must, Gives}
use Rattle.pp_text.proofs.Steps.{bind_ok, must_ok, ok_or_ok, ok_is}
use Rattle.pp_settings.specs.Settings.{Configuration}
use Rattle.pp_cert.specs.Accepted.{Acceptance}
use Rattle.pp_model.specs.declared.event.Event.{Event}
use Rattle.pp_model.specs.declared.event.Event.TheVariants as event
use Rattle.pp_model.specs.declared.refusals.SubmitError.{SubmitError}
use Rattle.pp_model.specs.declared.reply.Reply.{Reply}
use Rattle.pp_model.specs.Pool.{State}
use Rattle.pp_model.specs.Moves.{reply_of, is_refusal}
use Rattle.pp_model.specs.Submitting.{submit_error, submitted_unless}
use Rattle.pp_model.specs.Turns.{next_turn}
use Rattle.pp_model.specs.Journals.{after_plan, after_event, replay, IsNextPlan, IsTrueAt, IsTrueFrom}
use Rattle.pp_model.proofs.Journeys.{same_plans}
use Rattle.pp_report.specs.declared.line.Asked.{Asked}
use Rattle.pp_report.specs.declared.line.Asked.TheVariants.{Submit, Do}
use Rattle.pp_report.specs.declared.line.Told.{Told}
use Rattle.pp_report.specs.declared.line.Told.TheVariants.{Queued, Answer}
use Rattle.pp_report.specs.declared.line.Line.{Line}
use Rattle.pp_report.specs.declared.error.AuditError.{AuditError}
use Rattle.pp_report.specs.declared.error.AuditError.TheVariants.{NotALine, NotPossible, ReplyDiffers, NotRenewed}
use Rattle.pp_report.specs.declared.error.AuditError.TheVariants.{Unfinished, OutOfMemory}
use Rattle.pp_report.specs.Lines.{line_of, line_words, FitsAsked, FitsTold, FitsLine, FitsEvent, Says}
use Rattle.pp_report.specs.Reading.{line_in}
use Rattle.pp_report.specs.Journals.{journal_lines}
use Rattle.pp_report.specs.Sameness.{same_told}
use Rattle.pp_report.specs.Auditing.{Progress, told_unless, told_plan, told_reply, told_to, after_next, after_asked}
use Rattle.pp_report.specs.Auditing.{pass_told, pass, pass_text, is_none, is_over, auditing_from, outset, auditing}
use Rattle.pp_report.specs.Audits.{IsOver, IsAudited, CanAsk, due, StopsAt, IsNoLine, AsksImpossible}
use Rattle.pp_report.specs.Audits.{TellsOther, TellsFault}
use Rattle.pp_report.specs.Refusals.{is_audit_memory}
use Rattle.pp_report.proofs.Spoken.{line_found, line_again}
use Rattle.pp_report.proofs.Splitting.{spelled_lines, lines_spelled}
use Rattle.pp_report.proofs.Same.{same_told_is, same_told_same}

abbrev pub words_of : Event → List ℕ
words_of e = line_words (line_of e)

-- The plans are those that were submitted, and those that wait.
abbrev pub Waits : List Acceptance → Progress → Type 0
Waits plans p = plans ≡ p.state.plans ++ p.waiting

-- ---- the next plan

seam : (ps : List Acceptance) (a : Acceptance) (rest : List Acceptance)
    → slice_get (ps ++ (a ∷ rest)) (length ps) ≡ Some a
seam [] a rest = refl
seam (p ∷ ps) a rest = seam ps a rest

seam_is : (ps rest : List Acceptance) (a : Acceptance) → slice_get (ps ++ rest) (length ps) ≡ Some a
    → (more : List Acceptance) × (rest ≡ a ∷ more)
seam_is [] [] a e = absurd cc
seam_is [] (b ∷ more) a e = let same : b ≡ a = cc in (more, ap (λ x. x ∷ more) same)
seam_is (p ∷ ps) rest a e = seam_is ps rest a e

equal : (k n : ℕ) → (k == n) ≡ true → k ≡ n
equal k n e = grind (arith, nat_tests)

equal_again : (k n : ℕ) → k ≡ n → (k == n) ≡ true
equal_again k n e = grind (arith, nat_tests)

-- what is told of a submit, where it is told
record Next (s : State) (k : ℕ) (waiting : List Acceptance) (told : Told) : Type 0 where
  pub plan : Acceptance
  pub rest : List Acceptance
  pub waiting_is : waiting ≡ plan ∷ rest
  pub number : k ≡ length s.plans
  pub allowed : submit_error s plan ≡ None
  pub queued : told ≡ Queued

told_submit : (s : State) (k : ℕ) (waiting : List Acceptance) (told : Told) → told_plan s k waiting ≡ Some told
    → Next s k waiting told
told_submit s k [] told e = absurd cc
told_submit s k (a ∷ rest) told e = by (k == length s.plans) refl (submit_error s a) refl e
  where
    by : (t : Bool) → (k == length s.plans) ≡ t → (o : Option SubmitError) → submit_error s a ≡ o
        → (if t then told_unless o else None) ≡ Some told → Next s k (a ∷ rest) told
    by true is None allowed e = record {
      plan = a;
      rest = rest;
      waiting_is = refl;
      number = equal k (length s.plans) is;
      allowed = allowed;
      queued = (let same : Queued ≡ told = cc in sym same);
    }
    by true is (Some error) refused e = absurd cc
    by false is o allowed e = absurd cc

submit_again : (plans : List Acceptance) (s : State) (k : ℕ) (waiting : List Acceptance) → plans ≡ s.plans ++ waiting
    → IsNextPlan plans s k → (told_plan s k waiting ≡ Some Queued) × Next s k waiting Queued
submit_again plans s k waiting waits h =
    let there : slice_get (s.plans ++ waiting) (length s.plans) ≡ Some h.plan =
    ap (slice_get (s.plans ++ waiting)) (sym h.next) ∙ ap (λ ps. slice_get ps k) (sym waits) ∙ h.named in
    let (rest, is) = seam_is s.plans waiting h.plan there in (
      ap (told_plan s k) is
          ∙ ap (λ t. if t then told_unless (submit_error s h.plan) else None) (equal_again k (length s.plans) h.next)
          ∙ ap told_unless h.taken_in,
      record {
        plan = h.plan;
        rest = rest;
        waiting_is = is;
        number = h.next;
        allowed = h.taken_in;
        queued = refl;
      },
    )

named : (plans : List Acceptance) (s : State) (k : ℕ) (waiting : List Acceptance) (t : Told)
    → plans ≡ s.plans ++ waiting → (n : Next s k waiting t) → slice_get plans k ≡ Some n.plan
named plans s k waiting t waits n =
    ap (λ ps. slice_get ps k) (waits ∙ ap (λ w. s.plans ++ w) n.waiting_is)
    ∙ ap (slice_get (s.plans ++ (n.plan ∷ n.rest))) n.number ∙ seam s.plans n.plan n.rest

is_next : (plans : List Acceptance) (s : State) (k : ℕ) (waiting : List Acceptance) (t : Told)
    → plans ≡ s.plans ++ waiting → Next s k waiting t → IsNextPlan plans s k
is_next plans s k waiting t waits n =
    record { next = n.number; plan = n.plan; named = named plans s k waiting t waits n; taken_in = n.allowed }

submit_leads : (plans : List Acceptance) (s : State) (k : ℕ) (waiting : List Acceptance) (t : Told)
    → plans ≡ s.plans ++ waiting → Next s k waiting t
    → ((after_next s waiting).state ≡ after_event plans s (event.Submit k)) × Waits plans (after_next s waiting)
submit_leads plans s k waiting t waits n = (
  ap (λ w. (after_next s w).state) n.waiting_is ∙ sym (ap (after_plan s) (named plans s k waiting t waits n)),
  waits ∙ ap (λ w. s.plans ++ w) n.waiting_is ∙ sym (append_assoc s.plans (n.plan ∷ []) n.rest)
      ∙ ap (λ o. (submitted_unless o s n.plan).plans ++ n.rest) (sym n.allowed)
      ∙ ap (λ w. (after_next s w).state.plans ++ (after_next s w).waiting) (sym n.waiting_is),
)

-- ---- what may be asked

told_given : (r : Reply) (told : Told) → told_reply r ≡ Some told → (not (is_refusal r) ≡ true) × (told ≡ Answer r)
told_given r told e = by (is_refusal r) e
  where
    by : (b : Bool) → (if b then None else Some (Answer r)) ≡ Some told → (not b ≡ true) × (told ≡ Answer r)
    by true e = absurd cc
    by false e = (refl, (let same : Answer r ≡ told = cc in sym same))

told_again : (r : Reply) → not (is_refusal r) ≡ true → told_reply r ≡ Some (Answer r)
told_again r h = by (is_refusal r) h
  where
    by : (b : Bool) → not b ≡ true → (if b then None else Some (Answer r)) ≡ Some (Answer r)
    by true h = absurd cc
    by false h = refl

can_ask : (plans : List Acceptance) (p : Progress) (asked : Asked) (told : Told) → Waits plans p
    → told_to p asked ≡ Some told → CanAsk plans p.state asked × (told ≡ due p.state asked)
can_ask plans p (Submit k) told waits e =
    let n = told_submit p.state k p.waiting told e in
    (is_next plans p.state k p.waiting told waits n, n.queued)
can_ask plans p (Do m) told waits e = told_given (reply_of p.state m) told e

told_due : (plans : List Acceptance) (p : Progress) (asked : Asked) → Waits plans p → CanAsk plans p.state asked
    → told_to p asked ≡ Some (due p.state asked)
told_due plans p (Submit k) waits h = (submit_again plans p.state k p.waiting waits h).0
told_due plans p (Do m) waits h = told_again (reply_of p.state m) h

-- ---- a line that is passed

pub record Passed (plans : List Acceptance) (p q : Progress) (text : List ℕ) : Type 0 where
  pub event_is : Event
  pub fits : FitsEvent event_is
  pub text_is : text ≡ words_of event_is
  pub is_true : IsTrueAt plans p.state event_is
  pub leads : q.state ≡ after_event plans p.state event_is
  pub waits : Waits plans q

passed_by : (plans : List Acceptance) (p : Progress) (asked : Asked) (told : Told) → Waits plans p → FitsAsked asked
    → FitsTold told → told_to p asked ≡ Some told
    → Passed plans p (after_asked p asked) (line_words (record { asked = asked; told = told }))
passed_by plans p (Submit k) told waits fits fits' e =
    let n = told_submit p.state k p.waiting told e in
    let (leads, more) = submit_leads plans p.state k p.waiting told waits n in
    record {
      event_is = event.Submit k;
      fits = (fits, tt);
      text_is = ap (λ t. line_words (record { asked = Submit k; told = t })) n.queued;
      is_true = is_next plans p.state k p.waiting told waits n;
      leads = leads;
      waits = more;
    }
passed_by plans p (Do m) told waits fits fits' e =
    let (can, is) = told_given (reply_of p.state m) told e in
    record {
      event_is = event.Step m (reply_of p.state m);
      fits = (fits, subst FitsTold is fits');
      text_is = ap (λ t. line_words (record { asked = Do m; told = t })) is;
      is_true = (can, refl);
      leads = refl;
      waits = waits ∙ ap (λ ps. ps ++ p.waiting) (sym (same_plans p.state m));
    }

line_passed : (plans : List Acceptance) (p q : Progress) (number : ℕ) (l : Line) → Waits plans p → FitsLine l
    → pass p number l ≡ Ok q → Passed plans p q (line_words l)
line_passed plans p q number l waits fits e =
    let (right, f, g) = bind_ok (ok_or (told_to p l.asked) (NotPossible number l.asked (record { turn = next_turn p.state })))
    (pass_told p number l) q e in
    let (x, h, i) = bind_ok (must (same_told l.told right) (ReplyDiffers number l.told right))
    (λ passed. Ok (after_asked p l.asked)) q g in
    let same : l.told ≡ right = same_told_is l.told right (must_ok _ _ x h) in
    let tells : told_to p l.asked ≡ Some l.told = ok_or_ok _ _ right f ∙ ap Some (sym same) in
    subst (λ r. Passed plans p r (line_words l)) (ok_is (after_asked p l.asked) q i)
    (passed_by plans p l.asked l.told waits fits.0 fits.1 tells)

pub text_passed : (plans : List Acceptance) (p q : Progress) (number : ℕ) (text : List ℕ) → Waits plans p
    → pass_text p number text ≡ Ok q → Passed plans p q text
text_passed plans p q number text waits e =
    let (l, f, g) = bind_ok (ok_or (line_in text) (NotALine number)) (pass p number) q e in
    let (fits, is) = line_found text l (ok_or_ok _ _ l f) in
    subst (Passed plans p q) (sym is) (line_passed plans p q number l waits fits g)

-- ---- a text that is passed

record Found (plans : List Acceptance) (p : Progress) (n : ℕ) (texts : List (List ℕ)) (lines : ℕ) : Type 0 where
  pub events : List Event
  pub fits : AllByRecursion FitsEvent events
  pub texts_are : texts ≡ map words_of events
  pub is_true : IsTrueFrom plans p.state events
  pub over : IsOver plans (replay plans p.state events)
  pub number : lines ≡ n + length events

none_waits : (ps : List Acceptance) → (length ps == 0) ≡ true → ps ≡ []
none_waits [] e = refl
none_waits (p ∷ ps) e = absurd (some (length ps) (equal (length (p ∷ ps)) 0 e))
  where
    some : (n : ℕ) → suc n ≡ 0 → ⊥
    some n e = omega arith

none_is : {A : Type 0} (o : Option A) → is_none o ≡ true → o ≡ None
none_is None e = refl
none_is (Some x) e = absurd cc

two : (a b : Bool) → (a && b) ≡ true → (a ≡ true) × (b ≡ true)
two true b e = (refl, e)
two false b e = absurd cc

pub over_is : (plans : List Acceptance) (p : Progress) → Waits plans p → is_over p ≡ true → IsOver plans p.state
over_is plans p waits e =
    let (a, b) = two (length p.waiting == 0) (is_none (next_turn p.state)) e in record {
      submitted = sym (waits ∙ ap (λ w. p.state.plans ++ w) (none_waits p.waiting a) ∙ append-nil p.state.plans);
      ended = none_is (next_turn p.state) b;
    }

short : (ps qs : List Acceptance) → ps ≡ ps ++ qs → (length qs == 0) ≡ true
short ps qs e = equal_again (length qs) 0 (omega (arith, ap length e, length-append ps qs))

pub over_again : (plans : List Acceptance) (p : Progress) → Waits plans p → IsOver plans p.state → is_over p ≡ true
over_again plans p waits h =
    ap (λ b. b && is_none (next_turn p.state)) (short p.state.plans p.waiting (h.submitted ∙ waits))
    ∙ ap is_none h.ended

found_from : (plans : List Acceptance) (p : Progress) (n : ℕ) (texts : List (List ℕ)) (lines : ℕ) → Waits plans p
    → auditing_from p n texts ≡ Ok lines → Found plans p n texts lines
found_from plans p n [] lines waits e =
    let (x, h, i) = bind_ok (must (is_over p) Unfinished) (λ passed. Ok n) lines e in
    let same : n ≡ lines = ok_is n lines i in
    record {
      events = [];
      fits = tt;
      texts_are = refl;
      is_true = tt;
      over = over_is plans p waits (must_ok _ _ x h);
      number = omega arith;
    }
found_from plans p n (text ∷ texts) lines waits e =
    let (q, f, g) = bind_ok (pass_text p (n + 1) text) (λ q. auditing_from q (n + 1) texts) lines e in
    let here = text_passed plans p q (n + 1) text waits f in
    let rest = found_from plans q (n + 1) texts lines here.waits g in
    let counted = rest.number in
    record {
      events = here.event_is ∷ rest.events;
      fits = (here.fits, rest.fits);
      texts_are = ap (λ t. t ∷ texts) here.text_is ∙ ap (λ ts. words_of here.event_is ∷ ts) rest.texts_are;
      is_true = (here.is_true, subst (λ s. IsTrueFrom plans s rest.events) here.leads rest.is_true);
      over = subst (λ s. IsOver plans (replay plans s rest.events)) here.leads rest.over;
      number = omega arith;
    }

-- ---- a true journal is passed

pub event_passed : (plans : List Acceptance) (p : Progress) (n : ℕ) (e : Event) → Waits plans p → FitsEvent e
    → IsTrueAt plans p.state e
    → (q : Progress) × (pass_text p n (words_of e) ≡ Ok q) × (q.state ≡ after_event plans p.state e) × Waits plans q
event_passed plans p n (event.Submit k) waits fits h =
    let (tells, next) = submit_again plans p.state k p.waiting waits h in
    let (leads, more) = submit_leads plans p.state k p.waiting Queued waits next in (
      after_next p.state p.waiting,
      ap (λ o. ok_or o (NotALine n) >>= pass p n)
          (line_again (words_of (event.Submit k)) (line_of (event.Submit k)) (fits, refl))
          ∙ ap (λ o. ok_or o (NotPossible n (Submit k) (record { turn = next_turn p.state }))
          >>= pass_told p n (line_of (event.Submit k))) tells,
      leads,
      more,
    )
event_passed plans p n (event.Step m r) waits fits (can, is) =
    let l : Line = line_of (event.Step m r) in
    let tells : told_to p (Do m) ≡ Some (Answer r) = told_again (reply_of p.state m) can ∙ ap (λ x. Some (Answer x)) (sym is) in (
      after_asked p (Do m),
      ap (λ o. ok_or o (NotALine n) >>= pass p n) (line_again (words_of (event.Step m r)) l (fits, refl))
          ∙ ap (λ o. ok_or o (NotPossible n (Do m) (record { turn = next_turn p.state })) >>= pass_told p n l) tells
          ∙ ap (λ b. must b (ReplyDiffers n (Answer r) (Answer r)) >>= λ passed. Ok (after_asked p (Do m)))
          (same_told_same (Answer r)),
      refl,
      waits ∙ ap (λ ps. ps ++ p.waiting) (sym (same_plans p.state m)),
    )

again_from : (plans : List Acceptance) (p : Progress) (n : ℕ) (es : List Event) → Waits plans p
    → AllByRecursion FitsEvent es → IsTrueFrom plans p.state es → IsOver plans (replay plans p.state es)
    → auditing_from p n (map words_of es) ≡ Ok (n + length es)
again_from plans p n [] waits fits h over =
    ap (λ b. must b Unfinished >>= λ passed. Ok n) (over_again plans p waits over) ∙ ap Ok (omega arith)
again_from plans p n (e ∷ es) waits fits h over =
    let (q, passes, leads, more) = event_passed plans p (n + 1) e waits fits.0 h.0 in
    ap (λ r. r >>= λ q. auditing_from q (n + 1) (map words_of es)) passes
    ∙ again_from plans q (n + 1) es more fits.1 (subst (λ s. IsTrueFrom plans s es) (sym leads) h.1)
    (subst (λ s. IsOver plans (replay plans s es)) (sym leads) over)
    ∙ ap Ok (omega arith)

-- ---- a line that isn't passed

abbrev pub Wrongs : List Acceptance → State → List ℕ → ℕ → AuditError → Type 0
Wrongs plans s text number (NotALine n) = (n ≡ number) × IsNoLine s text
Wrongs plans s text number (NotPossible n asked next) = (n ≡ number) × AsksImpossible plans asked next s text
Wrongs plans s text number (ReplyDiffers n told right) = (n ≡ number) × TellsOther plans told right s text
Wrongs plans s text number (NotRenewed n why next) = ⊥
Wrongs plans s text number Unfinished = ⊥
Wrongs plans s text number OutOfMemory = ⊥

pub err_is : {A E : Type 0} (x y : E) → ◌≡◌ {A = Result A E} (Err x) (Err y) → x ≡ y
err_is x y e = cc

line_wrong : (plans : List Acceptance) (p : Progress) (number : ℕ) (text : List ℕ) (l : Line) (e : AuditError)
    → Waits plans p → Says text l → pass p number l ≡ Err e → Wrongs plans p.state text number e
line_wrong plans p number text l e waits says h =
    by (told_to p l.asked) refl h
  where
    differs : (right : Told) → told_to p l.asked ≡ Some right → (b : Bool) → same_told l.told right ≡ b
        → (must b (ReplyDiffers number l.told right) >>= λ passed. Ok (after_asked p l.asked)) ≡ Err e
        → Wrongs plans p.state text number e
    differs right tells true is h = absurd cc
    differs right tells false is h =
        let (can, due_is) = can_ask plans p l.asked right waits tells in
        subst (Wrongs plans p.state text number) (err_is (ReplyDiffers number l.told right) e h) (
          refl,
          (
            l.asked,
            says,
            can,
            due_is,
            λ same. let yes_same : same_told l.told right ≡ true = ap (same_told l.told) (sym same) ∙ same_told_same l.told in cc,
          ),
        )

    by : (o : Option Told) → told_to p l.asked ≡ o
        → (ok_or o (NotPossible number l.asked (record { turn = next_turn p.state })) >>= pass_told p number l) ≡ Err e
        → Wrongs plans p.state text number e
    by None is h =
        subst (Wrongs plans p.state text number)
        (err_is (NotPossible number l.asked (record { turn = next_turn p.state })) e h)
        (refl, (l.told, says, (λ can. let tells = told_due plans p l.asked waits can in cc), refl))
    by (Some right) is h = differs right is (same_told l.told right) refl h

pub text_wrong : (plans : List Acceptance) (p : Progress) (number : ℕ) (text : List ℕ) (e : AuditError) → Waits plans p
    → pass_text p number text ≡ Err e → Wrongs plans p.state text number e
text_wrong plans p number text e waits h = by (line_in text) refl h
  where
    by : (o : Option Line) → line_in text ≡ o → (ok_or o (NotALine number) >>= pass p number) ≡ Err e
        → Wrongs plans p.state text number e
    by None is h =
        subst (Wrongs plans p.state text number) (err_is (NotALine number) e h)
        (refl, (λ l says. let again = line_again text l says in cc))
    by (Some l) is h = line_wrong plans p number text l e waits (line_found text l is) h

-- ---- the first fault, after n lines

record Stops (plans : List Acceptance) (p : Progress) (n : ℕ) (texts : List (List ℕ)) (number : ℕ)
    (IsWrong : State → List ℕ → Type 0) : Type 0 where
  pub before : List Event
  pub line : List ℕ
  pub after : List (List ℕ)
  pub fits : AllByRecursion FitsEvent before
  pub is_true : IsTrueFrom plans p.state before
  pub stands : texts ≡ map words_of before ++ (line ∷ after)
  pub number_is : number ≡ n + length before + 1
  pub wrong : IsWrong (replay plans p.state before) line

record Early (plans : List Acceptance) (p : Progress) (texts : List (List ℕ)) : Type 0 where
  pub events : List Event
  pub fits : AllByRecursion FitsEvent events
  pub texts_are : texts ≡ map words_of events
  pub is_true : IsTrueFrom plans p.state events
  pub early : ¬ IsOver plans (replay plans p.state events)

abbrev Faults : List Acceptance → Progress → ℕ → List (List ℕ) → AuditError → Type 0
Faults plans p n texts (NotALine k) = Stops plans p n texts k IsNoLine
Faults plans p n texts (NotPossible k asked next) = Stops plans p n texts k (AsksImpossible plans asked next)
Faults plans p n texts (ReplyDiffers k told right) = Stops plans p n texts k (TellsOther plans told right)
Faults plans p n texts (NotRenewed k why next) = ⊥
Faults plans p n texts Unfinished = Early plans p texts
Faults plans p n texts OutOfMemory = Unit {0}

stops_here : (plans : List Acceptance) (p : Progress) (n : ℕ) (text : List ℕ) (texts : List (List ℕ)) (k : ℕ)
    (W : State → List ℕ → Type 0) → k ≡ n + 1 → W p.state text → Stops plans p n (text ∷ texts) k W
stops_here plans p n text texts k W is wrong = record {
  before = [];
  line = text;
  after = texts;
  fits = tt;
  is_true = tt;
  stands = refl;
  number_is = omega arith;
  wrong = wrong;
}

faults_here : (plans : List Acceptance) (p : Progress) (n : ℕ) (text : List ℕ) (texts : List (List ℕ)) (e : AuditError)
    → Wrongs plans p.state text (n + 1) e → Faults plans p n (text ∷ texts) e
faults_here plans p n text texts (NotALine k) h = stops_here plans p n text texts k IsNoLine h.0 h.1
faults_here plans p n text texts (NotPossible k asked next) h =
    stops_here plans p n text texts k (AsksImpossible plans asked next) h.0 h.1
faults_here plans p n text texts (ReplyDiffers k told right) h =
    stops_here plans p n text texts k (TellsOther plans told right) h.0 h.1
faults_here plans p n text texts (NotRenewed k why next) h = absurd h
faults_here plans p n text texts Unfinished h = absurd h
faults_here plans p n text texts OutOfMemory h = absurd h

stops_later : (plans : List Acceptance) (p q : Progress) (n : ℕ) (text : List ℕ) (texts : List (List ℕ)) (k : ℕ)
    (W : State → List ℕ → Type 0) → Passed plans p q text → Stops plans q (n + 1) texts k W
    → Stops plans p n (text ∷ texts) k W
stops_later plans p q n text texts k W here h =
    let counted = h.number_is in record {
      before = here.event_is ∷ h.before;
      line = h.line;
      after = h.after;
      fits = (here.fits, h.fits);
      is_true = (here.is_true, subst (λ s. IsTrueFrom plans s h.before) here.leads h.is_true);
      stands = ap (λ t. t ∷ texts) here.text_is ∙ ap (λ ts. words_of here.event_is ∷ ts) h.stands;
      number_is = omega arith;
      wrong = subst (λ s. W (replay plans s h.before) h.line) here.leads h.wrong;
    }

faults_later : (plans : List Acceptance) (p q : Progress) (n : ℕ) (text : List ℕ) (texts : List (List ℕ)) (e : AuditError)
    → Passed plans p q text → Faults plans q (n + 1) texts e → Faults plans p n (text ∷ texts) e
faults_later plans p q n text texts (NotALine k) here h = stops_later plans p q n text texts k IsNoLine here h
faults_later plans p q n text texts (NotPossible k asked next) here h =
    stops_later plans p q n text texts k (AsksImpossible plans asked next) here h
faults_later plans p q n text texts (ReplyDiffers k told right) here h =
    stops_later plans p q n text texts k (TellsOther plans told right) here h
faults_later plans p q n text texts (NotRenewed k why next) here h = absurd h
faults_later plans p q n text texts Unfinished here h = record {
  events = here.event_is ∷ h.events;
  fits = (here.fits, h.fits);
  texts_are = ap (λ t. t ∷ texts) here.text_is ∙ ap (λ ts. words_of here.event_is ∷ ts) h.texts_are;
  is_true = (here.is_true, subst (λ s. IsTrueFrom plans s h.events) here.leads h.is_true);
  early = subst (λ s. ¬ IsOver plans (replay plans s h.events)) here.leads h.early;
}
faults_later plans p q n text texts OutOfMemory here h = tt

ends_early : (plans : List Acceptance) (p : Progress) (n : ℕ) (e : AuditError) → Waits plans p
    → auditing_from p n [] ≡ Err e → Faults plans p n [] e
ends_early plans p n e waits h = by (is_over p) refl h
  where
    by : (b : Bool) → is_over p ≡ b → (must b Unfinished >>= λ passed. Ok n) ≡ Err e → Faults plans p n [] e
    by true is h = absurd cc
    by false is h = subst (Faults plans p n []) (err_is Unfinished e h) (record {
      events = [];
      fits = tt;
      texts_are = refl;
      is_true = tt;
      early = λ over. let again = over_again plans p waits over in cc;
    })

first_fault : (plans : List Acceptance) (p : Progress) (n : ℕ) (texts : List (List ℕ)) (e : AuditError) → Waits plans p
    → auditing_from p n texts ≡ Err e → Faults plans p n texts e
first_fault plans p n [] e waits h = ends_early plans p n e waits h
first_fault plans p n (text ∷ texts) e waits h =
    by (λ q more g. first_fault plans q (n + 1) texts e more g) (pass_text p (n + 1) text) refl h
  where
    by : ((q : Progress) → Waits plans q → auditing_from q (n + 1) texts ≡ Err e → Faults plans q (n + 1) texts e)
        → (r : Result Progress AuditError) → pass_text p (n + 1) text ≡ r
        → (r >>= λ q. auditing_from q (n + 1) texts) ≡ Err e → Faults plans p n (text ∷ texts) e
    by rest (Ok q) is h =
        let here = text_passed plans p q (n + 1) text waits is in
        faults_later plans p q n text texts e here (rest q here.waits h)
    by rest (Err d) is h =
        let same : d ≡ e = cc in
        faults_here plans p n text texts e
        (text_wrong plans p (n + 1) text e waits (is ∙ ap (λ x. Err x) same))

-- ---- texts

pub starts : (c : Configuration) (plans : List Acceptance) → Waits plans (outset c plans)
starts c plans = refl

audited : (c : Configuration) (plans : List Acceptance) (text : List ℕ) (n : ℕ) → auditing c plans text ≡ Ok n
    → IsAudited c plans text n
audited c plans text n e =
    let f = found_from plans (outset c plans) 0 (journal_lines text) n (starts c plans) e in
    let counted = f.number in record {
      events = f.events;
      spelled = lines_spelled text f.events f.fits f.texts_are;
      is_true = f.is_true;
      over = f.over;
      number = omega arith;
    }

pub audited_again : (c : Configuration) (plans : List Acceptance) (text : List ℕ) (n : ℕ) → IsAudited c plans text n
    → auditing c plans text ≡ Ok n
audited_again c plans text n h =
    ap (auditing_from (outset c plans) 0) (spelled_lines text h.events h.spelled)
    ∙ again_from plans (outset c plans) 0 h.events (starts c plans) h.spelled.fits h.is_true h.over
    ∙ ap Ok (sym (h.number ∙ omega arith))

stops_at : (c : Configuration) (plans : List Acceptance) (text : List ℕ) (k : ℕ) (W : State → List ℕ → Type 0)
    → Stops plans (outset c plans) 0 (journal_lines text) k W → StopsAt c plans text k W
stops_at c plans text k W h = let counted = h.number_is in record {
  before = h.before;
  line = h.line;
  after = h.after;
  fits = h.fits;
  is_true = h.is_true;
  stands = h.stands;
  number_is = omega arith;
  wrong = h.wrong;
}

tells : (c : Configuration) (plans : List Acceptance) (text : List ℕ) (e : AuditError)
    → Faults plans (outset c plans) 0 (journal_lines text) e → TellsFault c plans text e
tells c plans text (NotALine k) h = stops_at c plans text k IsNoLine h
tells c plans text (NotPossible k asked next) h = stops_at c plans text k (AsksImpossible plans asked next) h
tells c plans text (ReplyDiffers k told right) h = stops_at c plans text k (TellsOther plans told right) h
tells c plans text (NotRenewed k why next) h = absurd h
tells c plans text Unfinished h = record {
  events = h.events;
  spelled = lines_spelled text h.events h.fits h.texts_are;
  is_true = h.is_true;
  early = h.early;
}
tells c plans text OutOfMemory h = tt

-- What is accepted is a true journal of the plans.
pub verdict_found : {X : Type 0} (view : X → ℕ) (c : Configuration) (plans : List Acceptance) (text : List ℕ)
    (r : Result X AuditError) → Gives is_audit_memory view r (auditing c plans text)
    → IfOk r (λ x. IsAudited c plans text (view x))
verdict_found view c plans text (Ok x) gives = audited c plans text (view x) gives
verdict_found view c plans text (Err e) gives = tt

-- A true journal of the plans is accepted.
pub verdict_only : {X : Type 0} (view : X → ℕ) (c : Configuration) (plans : List Acceptance) (text : List ℕ)
    (r : Result X AuditError) (n : ℕ) → Gives is_audit_memory view r (auditing c plans text) → IsAudited c plans text n
    → Gives is_audit_memory view r (Ok n)
verdict_only view c plans text r n gives h =
    subst (λ (x : Result ℕ AuditError). Gives is_audit_memory view r x) (audited_again c plans text n h) gives

-- A refusal tells the first fault.
pub verdict_first : {X : Type 0} (view : X → ℕ) (c : Configuration) (plans : List Acceptance) (text : List ℕ)
    (r : Result X AuditError) → Gives is_audit_memory view r (auditing c plans text) → IfErr r (TellsFault c plans text)
verdict_first view c plans text (Ok x) gives = tt
verdict_first view c plans text (Err OutOfMemory) gives = tt
verdict_first view c plans text (Err (NotALine k)) gives =
    tells c plans text (NotALine k)
    (first_fault plans (outset c plans) 0 (journal_lines text) (NotALine k) (starts c plans) gives)
verdict_first view c plans text (Err (NotPossible k asked next)) gives =
    tells c plans text (NotPossible k asked next)
    (first_fault plans (outset c plans) 0 (journal_lines text) (NotPossible k asked next) (starts c plans) gives)
verdict_first view c plans text (Err (ReplyDiffers k told right)) gives =
    tells c plans text (ReplyDiffers k told right)
    (first_fault plans (outset c plans) 0 (journal_lines text) (ReplyDiffers k told right) (starts c plans) gives)
verdict_first view c plans text (Err (NotRenewed k why next)) gives =
    absurd (first_fault plans (outset c plans) 0 (journal_lines text) (NotRenewed k why next) (starts c plans) gives)
verdict_first view c plans text (Err Unfinished) gives =
    tells c plans text Unfinished
    (first_fault plans (outset c plans) 0 (journal_lines text) Unfinished (starts c plans) gives)
