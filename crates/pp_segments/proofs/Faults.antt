-- The first fault of segments is told.
use Rattle.std.proofs.Common.{◌≡◌, ◌≢◌, ◌⊎◌, inl, inr, ℕ, suc, ◌+◌, Bool, true, false, ◌==◌, ◌&&◌, nat_lt, List, []}
use Rattle.std.proofs.Common.{◌∷◌, ◌++◌}
use Rattle.std.proofs.Common.{length, map, flat_map, Option, Some, None, Result, Ok, Err, arith, refl, sym, ap, subst}
use Rattle.std.proofs.Common.{◌∙◌}
use Rattle.std.specs.Prelude.{slice_get}
use Rattle.std.specs.Option.{ok_or}
use Rattle.std.proofs.lemmas.Bool.Decides.{nat_tests}
use Rattle.pp_text.specs.Steps.{◌>>=◌, must}
use Rattle.pp_settings.specs.Settings.{Configuration}
use Rattle.pp_cert.specs.Accepted.{Acceptance}
use Rattle.pp_model.specs.declared.moves.Move.{Move}
use Rattle.pp_model.specs.Pool.{State}
use Rattle.pp_model.specs.Moves.{reply_of, next_of}
use Rattle.pp_model.specs.Submitting.{submit_error, after_submit}
use Rattle.pp_model.specs.Turns.{next_turn}
use Rattle.pp_report.specs.declared.line.Asked.TheVariants as asked
use Rattle.pp_report.specs.declared.line.Told.{Told}
use Rattle.pp_report.specs.declared.error.AuditError.TheVariants.{NotALine, ReplyDiffers}
use Rattle.pp_report.specs.Auditing.{told_reply, is_none}
use Rattle.pp_report.specs.Journals.{journal_lines}
use Rattle.pp_report.specs.Sameness.{same_told}
use Rattle.pp_report.proofs.Same.{equal, itself, same_told_same}
use Rattle.pp_segments.specs.declared.line.SegmentLine.{SegmentLine}
use Rattle.pp_segments.specs.declared.line.SegmentLine.TheVariants.{Head, Submit, Step}
use Rattle.pp_segments.specs.declared.error.SegmentError.{SegmentError}
use Rattle.pp_segments.specs.declared.error.SegmentError.TheVariants.{Audit, OtherSegment, NotPrepared}
use Rattle.pp_segments.specs.Lines.{line_words, Says}
use Rattle.pp_segments.specs.Reading.{line_in}
use Rattle.pp_segments.specs.Segments.{ToldSegment, all_lines}
use Rattle.pp_segments.specs.Auditing.{Progress, told_count, begin_fault, next_line, not_possible, pass_head, pass_plan}
use Rattle.pp_segments.specs.Auditing.{pass_submit, pass_told, pass_step, pass, pass_text, pass_lines}
use Rattle.pp_segments.specs.Audits.{StopsAt, IsNoLine, IsOtherLine, IsNoNextHead, NamesNone, AsksImpossible}
use Rattle.pp_segments.specs.Audits.{TellsOther, TellsFault}
use Rattle.pp_segments.proofs.Spoken.{line_found, line_again}
use Rattle.pp_segments.proofs.Verdicts.{Holds, told_given, told_none, some_is, no_segment, text_passed, joined}

-- ---- a step that fails

-- The test fails with its own refusal, or the step behind it does.
must_err : {A : Type 0} (b : Bool) (d e : SegmentError) (next : Unit {0} → Result A SegmentError)
    → (must b d >>= next) ≡ Err e → ((b ≡ false) × (d ≡ e)) ⊎ ((b ≡ true) × (next tt ≡ Err e))
must_err true d e next h = inr (refl, h)
must_err false d e next h = inl (refl, cc)

or_err : {A B : Type 0} (o : Option A) (d e : SegmentError) (next : A → Result B SegmentError)
    → (ok_or o d >>= next) ≡ Err e → ((o ≡ None) × (d ≡ e)) ⊎ ((x : A) × (o ≡ Some x) × (next x ≡ Err e))
or_err None d e next h = inl (refl, cc)
or_err (Some x) d e next h = inr (x, refl, h)

no_ok : {A : Type 0} (x : A) (e : SegmentError) → ◌≡◌ {A = Result A SegmentError} (Ok x) (Err e) → ⊥
no_ok x e h = absurd cc

not_equal : (m n : ℕ) → (m == n) ≡ false → m ≢ n
not_equal m n h = λ e. let yes_same : (m == n) ≡ true = ap (λ k. m == k) (sym e) ∙ itself m in cc

one_differs : (a b : Bool) → (a && b) ≡ false → (a ≡ false) ⊎ (b ≡ false)
one_differs true b e = inr e
one_differs false b e = inl refl

none_yet : (xs : List ToldSegment) (n : ℕ) → n ≡ length xs → nat_lt 0 n ≡ false → xs ≡ []
none_yet [] n e h = refl
none_yet (x ∷ xs) n e h = let yes_some = some n (length xs) e in absurd cc
  where
    some : (n m : ℕ) → n ≡ suc m → nat_lt 0 n ≡ true
    some n m e = grind (arith, nat_tests)

some_yet : (xs : List ToldSegment) (n : ℕ) → n ≡ length xs → nat_lt 0 n ≡ true → xs ≢ []
some_yet [] n e h = absurd (no_segment n h e)
some_yet (x ∷ xs) n e h = λ e. absurd cc

module _ (c : Configuration) (prepared : List Acceptance) (ended : Bool) (texts : List (List ℕ))
    (begins : begin_fault c prepared ≡ None) where
  abbrev Tells : SegmentError → Type 0
  Tells e = TellsFault c prepared ended texts e

  module _ (xs : List ToldSegment) (p : Progress) (text : List ℕ) (rest : List (List ℕ)) (h : Holds c prepared xs p)
      (stands : flat_map journal_lines texts ≡ map line_words (all_lines xs) ++ (text ∷ rest)) where
    stops : (W : List ToldSegment → State → List ℕ → Type 0) → W xs p.state text
        → StopsAt c prepared texts (next_line p) W
    stops W wrong = record {
      begins = begins;
      before = xs;
      state = p.state;
      line = text;
      after = rest;
      fits = h.fits;
      are_true = h.are_true;
      stands = stands;
      number_is = ap (λ n. told_count (n + 1)) h.lines;
      wrong = wrong;
    }

    head_wrong : (n k : ℕ) (e : SegmentError) → Says text (Head n k) → pass_head p n k ≡ Err e → Tells e
    head_wrong n k e says f =
        by (must_err (n == p.segments && k == length p.state.plans) (OtherSegment (next_line p)) e _ f)
      where
        differs : ((n == p.segments) ≡ false) ⊎ ((k == length p.state.plans) ≡ false)
            → (n ≢ length xs) ⊎ (k ≢ length p.state.plans)
        differs (inl a) = inl (subst (λ m. n ≢ m) h.segments (not_equal n p.segments a))
        differs (inr b) = inr (not_equal k (length p.state.plans) b)

        by : (((n == p.segments && k == length p.state.plans) ≡ false) × (OtherSegment (next_line p) ≡ e))
            ⊎ (((n == p.segments && k == length p.state.plans) ≡ true)
            × (Ok (record p { lines = p.lines + 1; segments = p.segments + 1 }) ≡ Err e)) → Tells e
        by (inl (fails, is)) =
            subst Tells is (stops IsNoNextHead (Head n k, says, differs (one_differs (n == p.segments) _ fails)))
        by (inr (yes_same, g)) = absurd (no_ok _ e g)

    submit_wrong : (k name : ℕ) (e : SegmentError) → nat_lt 0 p.segments ≡ true → Says text (Submit k name)
        → pass_submit prepared p k name ≡ Err e → Tells e
    submit_wrong k name e some says f =
        by (must_err (k == length p.state.plans) (not_possible p (asked.Submit k)) e
        (λ passed. ok_or (slice_get prepared name) (NotPrepared (next_line p)) >>= pass_plan p k) f)
      where
        in_one : xs ≢ []
        in_one = some_yet xs p.segments h.segments some

        refused : (a : Acceptance) → slice_get prepared name ≡ Some a → pass_plan p k a ≡ Err e → Tells e
        refused a there g =
            last (must_err (is_none (submit_error p.state a)) (not_possible p (asked.Submit k)) e _ g)
          where
            last : ((is_none (submit_error p.state a) ≡ false) × (not_possible p (asked.Submit k) ≡ e))
                ⊎ ((is_none (submit_error p.state a) ≡ true)
                × (Ok (record p { state = after_submit p.state a; lines = p.lines + 1 }) ≡ Err e)) → Tells e
            last (inl (fails, is)) =
                subst Tells is (stops (AsksImpossible prepared (asked.Submit k) (record { turn = next_turn p.state }))
                (in_one, (name, says, inr (a, there, some_is (submit_error p.state a) fails)), refl))
            last (inr (yes_none, i)) = absurd (no_ok _ e i)

        named : k ≡ length p.state.plans
            → (((slice_get prepared name ≡ None) × (NotPrepared (next_line p) ≡ e))
            ⊎ ((a : Acceptance) × (slice_get prepared name ≡ Some a) × (pass_plan p k a ≡ Err e))) → Tells e
        named next (inl (none, is)) =
            subst Tells is (stops (NamesNone prepared)
            (in_one, name, subst (λ m. Says text (Submit m name)) next says, none))
        named next (inr (a, there, g)) = refused a there g

        by : (((k == length p.state.plans) ≡ false) × (not_possible p (asked.Submit k) ≡ e))
            ⊎ (((k == length p.state.plans) ≡ true)
            × ((ok_or (slice_get prepared name) (NotPrepared (next_line p)) >>= pass_plan p k) ≡ Err e)) → Tells e
        by (inl (fails, is)) =
            subst Tells is (stops (AsksImpossible prepared (asked.Submit k) (record { turn = next_turn p.state }))
            (in_one, (name, says, inl (not_equal k (length p.state.plans) fails)), refl))
        by (inr (yes_same, g)) =
            named (equal k (length p.state.plans) yes_same)
            (or_err (slice_get prepared name) (NotPrepared (next_line p)) e (pass_plan p k) g)

    step_wrong : (did : Move) (told : Told) (e : SegmentError) → nat_lt 0 p.segments ≡ true → Says text (Step did told)
        → pass_step p did told ≡ Err e → Tells e
    step_wrong did told e some says f =
        by (or_err (told_reply (reply_of p.state did)) (not_possible p (asked.Do did)) e (pass_told p did told) f)
      where
        in_one : xs ≢ []
        in_one = some_yet xs p.segments h.segments some

        last : (right : Told) → told_reply (reply_of p.state did) ≡ Some right
            → (((same_told told right ≡ false) × (Audit (ReplyDiffers (next_line p) told right) ≡ e))
            ⊎ ((same_told told right ≡ true)
            × (Ok (record p { state = next_of p.state did; lines = p.lines + 1 }) ≡ Err e))) → Tells e
        last right tells (inl (fails, is)) =
            let (can, due) = told_given (reply_of p.state did) right tells in
            subst Tells is (stops (TellsOther told right) (
              in_one,
              did,
              says,
              can,
              due,
              λ same.
                  let yes_same : same_told told right ≡ true =
                  ap (same_told told) (sym same) ∙ same_told_same told in cc,
            ))
        last right tells (inr (yes_same, g)) = absurd (no_ok _ e g)

        by : ((told_reply (reply_of p.state did) ≡ None) × (not_possible p (asked.Do did) ≡ e))
            ⊎ ((right : Told) × (told_reply (reply_of p.state did) ≡ Some right) × (pass_told p did told right ≡ Err e))
            → Tells e
        by (inl (none, is)) =
            subst Tells is (stops (AsksImpossible prepared (asked.Do did) (record { turn = next_turn p.state }))
            (in_one, (told, says, told_none (reply_of p.state did) none), refl))
        by (inr (right, tells, g)) =
            last right tells (must_err (same_told told right) (Audit (ReplyDiffers (next_line p) told right)) e _ g)

    -- The first line of all is no head.
    outside : (l : SegmentLine) (e : SegmentError) → Says text l → nat_lt 0 p.segments ≡ false
        → ((xs ≡ []) → IsOtherLine xs p.state l) → OtherSegment (next_line p) ≡ e → Tells e
    outside l e says none other is =
        subst Tells is (stops IsNoNextHead (l, says, other (none_yet xs p.segments h.segments none)))

    line_wrong : (l : SegmentLine) (e : SegmentError) → Says text l → pass prepared p l ≡ Err e → Tells e
    line_wrong (Head n k) e says f = head_wrong n k e says f
    line_wrong (Submit k name) e says f =
        by (must_err (nat_lt 0 p.segments) (OtherSegment (next_line p)) e (λ passed. pass_submit prepared p k name) f)
      where
        by : ((nat_lt 0 p.segments ≡ false) × (OtherSegment (next_line p) ≡ e))
            ⊎ ((nat_lt 0 p.segments ≡ true) × (pass_submit prepared p k name ≡ Err e)) → Tells e
        by (inl (none, is)) = outside (Submit k name) e says none (λ empty. empty) is
        by (inr (some, g)) = submit_wrong k name e some says g
    line_wrong (Step did told) e says f =
        by (must_err (nat_lt 0 p.segments) (OtherSegment (next_line p)) e (λ passed. pass_step p did told) f)
      where
        by : ((nat_lt 0 p.segments ≡ false) × (OtherSegment (next_line p) ≡ e))
            ⊎ ((nat_lt 0 p.segments ≡ true) × (pass_step p did told ≡ Err e)) → Tells e
        by (inl (none, is)) = outside (Step did told) e says none (λ empty. empty) is
        by (inr (some, g)) = step_wrong did told e some says g

    text_wrong : (e : SegmentError) → pass_text prepared p text ≡ Err e → Tells e
    text_wrong e f = by (line_in text) refl f
      where
        by : (o : Option SegmentLine) → line_in text ≡ o
            → (ok_or o (Audit (NotALine (next_line p))) >>= pass prepared p) ≡ Err e → Tells e
        by None is f =
            let same : Audit (NotALine (next_line p)) ≡ e = cc in
            subst Tells same (stops IsNoLine (λ l says. let again = line_again text l says in cc))
        by (Some l) is f = line_wrong l e (line_found text l is) f

  pub lines_wrong : (xs : List ToldSegment) (p : Progress) (rest : List (List ℕ)) (e : SegmentError)
      → Holds c prepared xs p
      → flat_map journal_lines texts ≡ map line_words (all_lines xs) ++ rest → pass_lines prepared p rest ≡ Err e
      → Tells e
  lines_wrong xs p [] e h stands f = absurd (no_ok p e f)
  lines_wrong xs p (text ∷ rest) e h stands f =
      by (λ ys q k s g. lines_wrong ys q rest e k s g) (pass_text prepared p text) refl f
    where
      by : ((ys : List ToldSegment) (q : Progress) → Holds c prepared ys q
          → flat_map journal_lines texts ≡ map line_words (all_lines ys) ++ rest → pass_lines prepared q rest ≡ Err e
          → Tells e)
          → (r : Result Progress SegmentError) → pass_text prepared p text ≡ r
          → (r >>= λ q. pass_lines prepared q rest) ≡ Err e → Tells e
      by later (Ok q) is f =
          let n = text_passed c prepared xs p q text h is in
          later n.told q n.holds
          (joined c prepared (all_lines xs) (all_lines n.told) n.line text rest (flat_map journal_lines texts)
          n.all n.text_is stands) f
      by later (Err d) is f =
          let same : d ≡ e = cc in
          text_wrong xs p text rest h stands e (is ∙ ap (λ x. Err x) same)
