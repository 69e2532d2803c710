-- What auditing segments from their files ends with.
use Rattle.std.proofs.Common.{◌≡◌, ℕ, Bool, true, false, List, [], ◌∷◌, ◌++◌, flat_map}
use Rattle.std.proofs.Common.{None, Result, Ok, Err, IfErr, IsErrAnd, refl, sym, ap, ◌∙◌, append_assoc}
use Rattle.pp_text.specs.Steps.{◌>>=◌, must, Refuses}
use Rattle.pp_settings.specs.Settings.{Configuration}
use Rattle.pp_settings.specs.Spans.{is_bounded}
use Rattle.pp_cert.specs.Accepted.{Acceptance}
use Rattle.pp_report.specs.Journals.{journal_lines}
use Rattle.pp_report.specs.declared.error.AuditError.TheVariants.{Unfinished}
use Rattle.pp_segments.specs.Auditing.{Progress, auditing, begin_fault, counts_of, is_over, no_fault, outset}
use Rattle.pp_segments.specs.Auditing.{pass_lines, pass_text, see_end, told_count}
use Rattle.pp_segments.specs.Auditors.{IsAt, PassesAll}
use Rattle.pp_segments.specs.declared.auditor.SegmentAuditor.{SegmentAuditor}
use Rattle.pp_segments.specs.declared.error.SegmentError.{SegmentError}
use Rattle.pp_segments.specs.declared.error.SegmentError.TheVariants as segment_error
use Rattle.pp_judge.specs.declared.error.JudgeError.{JudgeError}
use Rattle.pp_judge.specs.declared.error.JudgeError.TheVariants.{Segments}
use Rattle.pp_judge.specs.Judgement.{accepted_all, endless_in, prepared_in, segments_audited_in, settings_in}
use Rattle.pp_judge.specs.Passed.{HasPassed}
use Rattle.pp_judge.specs.Steps.{is_want_of_memory, refusing}
use Rattle.pp_judge.proofs.Refusals.{refuses_if}

-- ---- settings of endless lives

pub none_settled : (settings : List ℕ) (e : JudgeError) → settings_in settings ≡ Err e → endless_in settings ≡ Err e
unfolding endless_in
none_settled settings e refused = rw refused refl

pub bounded_refused : (settings : List ℕ) (s : Configuration) → settings_in settings ≡ Ok s
    → is_bounded s.span ≡ true → endless_in settings ≡ Err (Segments segment_error.OtherLife)
unfolding endless_in
bounded_refused settings s is bounded = rw (is, bounded) refl

pub endless_settled : (settings : List ℕ) (s : Configuration) → settings_in settings ≡ Ok s
    → is_bounded s.span ≡ false → endless_in settings ≡ Ok s
unfolding endless_in
endless_settled settings s is endless = rw (is, endless) refl

-- ---- the settings and the prepared plans

unsettled : (settings : List ℕ) (plans : List (List ℕ)) (e : JudgeError) → endless_in settings ≡ Err e
    → prepared_in settings plans ≡ Err e
unfolding prepared_in
unsettled settings plans e refused = rw refused refl

no_plans : (settings : List ℕ) (plans : List (List ℕ)) (s : Configuration) (e : JudgeError)
    → endless_in settings ≡ Ok s → accepted_all s plans ≡ Err e → prepared_in settings plans ≡ Err e
unfolding prepared_in
no_plans settings plans s e is refused = rw (is, refused) refl

pub both_read : (settings : List ℕ) (plans : List (List ℕ)) (s : Configuration) (accepted : List Acceptance)
    → endless_in settings ≡ Ok s → accepted_all s plans ≡ Ok accepted → prepared_in settings plans ≡ Ok (s, accepted)
unfolding prepared_in
both_read settings plans s accepted is taken = rw (is, taken) refl

-- ---- the files

unprepared : (ended : Bool) (settings : List ℕ) (plans files : List (List ℕ)) (e : JudgeError)
    → prepared_in settings plans ≡ Err e → segments_audited_in ended settings plans files ≡ Err e
unfolding segments_audited_in
unprepared ended settings plans files e refused = rw refused refl

audited : (ended : Bool) (settings : List ℕ) (plans files : List (List ℕ)) (w : Configuration × List Acceptance)
    → prepared_in settings plans ≡ Ok w
    → segments_audited_in ended settings plans files ≡ refusing Segments (auditing w.0 w.1 ended files)
unfolding segments_audited_in
audited ended settings plans files w is = rw is refl

-- ---- what is refused before the first file

pub none_begun : (settings : List ℕ) (plans : List (List ℕ)) (e : JudgeError) → endless_in settings ≡ Err e
    → (ended : Bool) (files : List (List ℕ)) → segments_audited_in ended settings plans files ≡ Err e
none_begun settings plans e refused ended files =
    unprepared ended settings plans files e (unsettled settings plans e refused)

pub none_prepared : (settings : List ℕ) (plans : List (List ℕ)) (s : Configuration) (e : JudgeError)
    → endless_in settings ≡ Ok s → accepted_all s plans ≡ Err e
    → (ended : Bool) (files : List (List ℕ)) → segments_audited_in ended settings plans files ≡ Err e
none_prepared settings plans s e is refused ended files =
    unprepared ended settings plans files e (no_plans settings plans s e is refused)

pub none_kept : (settings : List ℕ) (plans : List (List ℕ)) (s : Configuration) (accepted : List Acceptance)
    (e : SegmentError) → endless_in settings ≡ Ok s → accepted_all s plans ≡ Ok accepted
    → no_fault (begin_fault s accepted) ≡ Err e
    → (ended : Bool) (files : List (List ℕ)) → segments_audited_in ended settings plans files ≡ Err (Segments e)
none_kept settings plans s accepted e is taken fault ended files =
    audited ended settings plans files (s, accepted) (both_read settings plans s accepted is taken)
    ∙ ap (λ begun. refusing Segments (begun >>= λ seen.
    pass_lines accepted (outset s) (flat_map journal_lines files) >>= see_end ended >>= λ p. Ok (counts_of p))) fault

-- ---- file after file

lines_both : (prepared : List Acceptance) (p : Progress) (before behind : List (List ℕ))
    → pass_lines prepared p (before ++ behind)
    ≡ (pass_lines prepared p before >>= λ q. pass_lines prepared q behind)
lines_both prepared p [] behind = refl
lines_both prepared p (line ∷ before) behind =
    by (λ q. lines_both prepared q before behind) (pass_text prepared p line)
  where
    by : ((q : Progress) → pass_lines prepared q (before ++ behind)
        ≡ (pass_lines prepared q before >>= λ r. pass_lines prepared r behind))
        → (passed : Result Progress SegmentError) → (passed >>= λ q. pass_lines prepared q (before ++ behind))
        ≡ ((passed >>= (λ q. pass_lines prepared q before)) >>= (λ r. pass_lines prepared r behind))
    by more (Ok q) = more q
    by more (Err e) = refl

lines_of : (files more : List (List ℕ))
    → flat_map journal_lines (files ++ more) ≡ flat_map journal_lines files ++ flat_map journal_lines more
lines_of [] more = refl
lines_of (file ∷ files) more =
    ap (λ lines. journal_lines file ++ lines) (lines_of files more)
    ∙ sym (append_assoc (journal_lines file) (flat_map journal_lines files) (flat_map journal_lines more))

-- What comes behind files that are passed.
behind : (prepared : List Acceptance) (p q : Progress) (files more : List (List ℕ))
    → pass_lines prepared p (flat_map journal_lines files) ≡ Ok q
    → pass_lines prepared p (flat_map journal_lines (files ++ more))
    ≡ pass_lines prepared q (flat_map journal_lines more)
behind prepared p q files more passed =
    ap (pass_lines prepared p) (lines_of files more)
    ∙ lines_both prepared p (flat_map journal_lines files) (flat_map journal_lines more)
    ∙ ap (λ r. r >>= λ r. pass_lines prepared r (flat_map journal_lines more)) passed

-- The verdict where the first of the files left has this fault.
pub stops : (settings : List ℕ) (plans files : List (List ℕ)) (text : List ℕ) (old new : SegmentAuditor)
    (e : SegmentError)
    → ((prepared : List Acceptance) (p : Progress) → IsAt prepared old p
    → PassesAll prepared new (pass_lines prepared p (journal_lines text)) (Err e))
    → HasPassed settings plans files old → (ended : Bool) (more : List (List ℕ))
    → segments_audited_in ended settings plans (files ++ text ∷ more) ≡ Err (Segments e)
stops settings plans files text old new e passes h ended more =
    by (pass_lines h.pool.1 h.progress (journal_lines text)) refl (passes h.pool.1 h.progress h.stands)
  where
    by : (r : Result Progress SegmentError) → pass_lines h.pool.1 h.progress (journal_lines text) ≡ r
        → PassesAll h.pool.1 new r (Err e)
        → segments_audited_in ended settings plans (files ++ text ∷ more) ≡ Err (Segments e)
    by (Ok q) is there = absurd there
    by (Err d) is there =
        audited ended settings plans (files ++ text ∷ more) h.pool h.read
        ∙ ap (λ fault. refusing Segments (no_fault fault >>= λ seen. pass_lines h.pool.1 (outset h.pool.0)
        (flat_map journal_lines (files ++ text ∷ more)) >>= see_end ended >>= λ p. Ok (counts_of p))) h.begins
        ∙ ap (λ r. refusing Segments (r >>= see_end ended >>= λ p. Ok (counts_of p)))
        (behind h.pool.1 (outset h.pool.0) h.progress files (text ∷ more) h.passed
        ∙ lines_both h.pool.1 h.progress (journal_lines text) (flat_map journal_lines more)
        ∙ ap (λ r. r >>= λ q. pass_lines h.pool.1 q (flat_map journal_lines more)) (is ∙ ap (λ x. Err x) (sym there)))

-- ---- the end

-- The verdict on files that are passed.
comes_to : (ended : Bool) (settings : List ℕ) (plans files : List (List ℕ)) (w : Configuration × List Acceptance)
    (p : Progress) → prepared_in settings plans ≡ Ok w → begin_fault w.0 w.1 ≡ None
    → pass_lines w.1 (outset w.0) (flat_map journal_lines files) ≡ Ok p
    → segments_audited_in ended settings plans files
    ≡ refusing Segments (see_end ended p >>= λ q. Ok (counts_of q))
comes_to ended settings plans files w p read begins passed =
    audited ended settings plans files w read
    ∙ ap (λ fault. refusing Segments (no_fault fault >>= λ seen. pass_lines w.1 (outset w.0)
    (flat_map journal_lines files) >>= see_end ended >>= λ q. Ok (counts_of q))) begins
    ∙ ap (λ r. refusing Segments (r >>= see_end ended >>= λ q. Ok (counts_of q))) passed

-- What was passed.
pub has_passed : (settings : List ℕ) (plans files : List (List ℕ)) (auditor : SegmentAuditor)
    (w : Configuration × List Acceptance) (p : Progress) → prepared_in settings plans ≡ Ok w
    → begin_fault w.0 w.1 ≡ None
    → pass_lines w.1 (outset w.0) (flat_map journal_lines files) ≡ Ok p → IsAt w.1 auditor p
    → HasPassed settings plans files auditor
has_passed settings plans files auditor w p read begins passed stands = record {
  pool = w;
  progress = p;
  read = read;
  begins = begins;
  passed = passed;
  stands = stands;
  right = comes_to false settings plans files w p read begins passed;
}

-- A file that is passed leads on.
pub one_more : (settings : List ℕ) (plans files : List (List ℕ)) (text : List ℕ) (old new : SegmentAuditor) (lines : ℕ)
    → ((prepared : List Acceptance) (p : Progress) → IsAt prepared old p
    → PassesAll prepared new (pass_lines prepared p (journal_lines text)) (Ok lines))
    → HasPassed settings plans files old → HasPassed settings plans (files ++ text ∷ []) new
one_more settings plans files text old new lines passes h =
    by (pass_lines h.pool.1 h.progress (journal_lines text)) refl (passes h.pool.1 h.progress h.stands)
  where
    by : (r : Result Progress SegmentError) → pass_lines h.pool.1 h.progress (journal_lines text) ≡ r
        → PassesAll h.pool.1 new r (Ok lines) → HasPassed settings plans (files ++ text ∷ []) new
    by (Ok q) is there =
        has_passed settings plans (files ++ text ∷ []) new h.pool q h.read h.begins
        (behind h.pool.1 (outset h.pool.0) h.progress files (text ∷ []) h.passed
        ∙ lines_both h.pool.1 h.progress (journal_lines text) [] ∙ ap (λ r. r >>= λ q. Ok q) is)
        there.0
    by (Err e) is there = absurd there

pub unfinished : (ended : Bool) (settings : List ℕ) (plans files : List (List ℕ)) (auditor : SegmentAuditor)
    (over : Bool)
    → ((prepared : List Acceptance) (p : Progress) → IsAt prepared auditor p → over ≡ is_over p)
    → ended ≡ true → over ≡ false → HasPassed settings plans files auditor
    → segments_audited_in ended settings plans files ≡ Err (Segments (segment_error.Audit Unfinished))
unfinished ended settings plans files auditor over told wanted left h =
    comes_to ended settings plans files h.pool h.progress h.read h.begins h.passed
    ∙ ap (λ b. refusing Segments (see_end b h.progress >>= λ p. Ok (counts_of p))) wanted
    ∙ by (is_over h.progress) (sym (told h.pool.1 h.progress h.stands) ∙ left)
  where
    by : (b : Bool) → b ≡ false
        → refusing Segments ((must b (segment_error.Audit Unfinished) >>= λ passed. Ok h.progress)
        >>= λ p. Ok (counts_of p))
        ≡ Err (Segments (segment_error.Audit Unfinished))
    by true is = absurd cc
    by false is = refl

pub finished : (ended : Bool) (settings : List ℕ) (plans files : List (List ℕ)) (auditor : SegmentAuditor)
    (lines segments : ℕ)
    → ((prepared : List Acceptance) (p : Progress) → IsAt prepared auditor p → lines ≡ told_count p.lines)
    → ((prepared : List Acceptance) (p : Progress) → IsAt prepared auditor p → segments ≡ told_count p.segments)
    → (h : HasPassed settings plans files auditor) → (ended ≡ true → is_over h.progress ≡ true)
    → segments_audited_in ended settings plans files ≡ Ok (lines, segments)
finished ended settings plans files auditor lines segments counted heads h over =
    comes_to ended settings plans files h.pool h.progress h.read h.begins h.passed
    ∙ ap (λ r. refusing Segments (r >>= λ p. Ok (counts_of p))) (sees ended over)
    ∙ (λ i. Ok (sym (counted h.pool.1 h.progress h.stands) i, sym (heads h.pool.1 h.progress h.stands) i))
  where
    sees : (b : Bool) → (b ≡ true → is_over h.progress ≡ true) → see_end b h.progress ≡ Ok h.progress
    sees false done = refl
    sees true done = ap (λ b. must b (segment_error.Audit Unfinished) >>= λ passed. Ok h.progress) (done refl)

-- ---- what is handed on

-- What is refused before the first file is refused of every audit.
pub handed_on : {A : Type 0} (settings : List ℕ) (plans : List (List ℕ)) (r : Result A JudgeError) (e : JudgeError)
    → IsErrAnd r (λ f. f ≡ e)
    → (is_want_of_memory e ≡ false → (ended : Bool) (files : List (List ℕ))
    → segments_audited_in ended settings plans files ≡ Err e)
    → IfErr r (λ f. (ended : Bool) (files : List (List ℕ))
    → Refuses (is_want_of_memory f) f (segments_audited_in ended settings plans files))
handed_on settings plans (Ok x) e same told = absurd same
handed_on settings plans (Err f) e same told = λ ended files.
    refuses_if (is_want_of_memory f) f (segments_audited_in ended settings plans files)
    (λ memory. told (ap is_want_of_memory (sym same) ∙ memory) ended files ∙ ap (λ x. Err x) (sym same))
