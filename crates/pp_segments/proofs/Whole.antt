-- The verdict on texts of segments.
use Rattle.std.proofs.Common.{◌≡◌, ◌∙◌, ℕ, Bool, true, false, List, [], map, flat_map, length, Option, Some, None}
use Rattle.std.proofs.Common.{Result, Ok, Err, IfOk, IfErr, refl, sym, ap, subst, arith}
use Rattle.std.specs.List.{AllByRecursion}
use Rattle.pp_text.specs.Steps.{◌>>=◌, must, Gives, Refuses}
use Rattle.pp_text.proofs.Steps.{bind_ok, must_ok, ok_is, refuses_then}
use Rattle.pp_settings.specs.Layout.{Geometry}
use Rattle.pp_settings.specs.declared.span.Span.{Span}
use Rattle.pp_settings.specs.declared.span.Span.TheVariants.{Bounded, Endless}
use Rattle.pp_settings.specs.Settings.{Configuration}
use Rattle.pp_cert.specs.Accepted.{Acceptance}
use Rattle.pp_model.specs.Turns.{next_turn}
use Rattle.pp_core.specs.declared.error.PrepareError.{PrepareError}
use Rattle.pp_core.specs.Opening.{kept_of}
use Rattle.pp_report.specs.declared.error.AuditError.TheVariants.{NotALine, NotPossible, ReplyDiffers, NotRenewed}
use Rattle.pp_report.specs.declared.error.AuditError.TheVariants.{Unfinished, OutOfMemory}
use Rattle.pp_report.specs.Auditing.{is_none}
use Rattle.pp_report.specs.Journals.{journal_lines}
use Rattle.pp_segments.specs.declared.auditing.AuditedSegments.{AuditedSegments}
use Rattle.pp_segments.specs.declared.error.SegmentError.{SegmentError}
use Rattle.pp_segments.specs.declared.error.SegmentError.TheVariants.{Audit, OtherSegment, NotPrepared, OtherLife}
use Rattle.pp_segments.specs.declared.error.SegmentError.TheVariants.{Prepare}
use Rattle.pp_segments.specs.Lines.{line_words, FitsLine}
use Rattle.pp_segments.specs.Refusals.{is_segment_memory}
use Rattle.pp_segments.specs.Segments.{all_lines}
use Rattle.pp_segments.specs.Auditing.{Progress, told_count, prepared_unless, prepare_fault, span_fault, begin_fault}
use Rattle.pp_segments.specs.Auditing.{outset}
use Rattle.pp_segments.specs.Auditing.{pass_lines, is_over, see_end, no_fault, counts_of, auditing}
use Rattle.pp_segments.specs.Audits.{counts, EndsSo, IsAuditedSegments, TellsFault}
use Rattle.pp_segments.proofs.Splitting.{each_lines, each_fits, each_spelled}
use Rattle.pp_segments.proofs.Verdicts.{Stands, lines_found, holds_first, none_is, some_is}
use Rattle.pp_segments.proofs.Faults.{lines_wrong}
use Rattle.pp_segments.proofs.Again.{segments_again}

-- ---- the end

see_end_ok : (ended : Bool) (p q : Progress) → see_end ended p ≡ Ok q → (p ≡ q) × EndsSo ended p.state
see_end_ok true p q e =
    let (x, h, i) = bind_ok (must (is_over p) (Audit Unfinished)) (λ passed. Ok p) q e in
    (ok_is p q i, λ yes_true. none_is (next_turn p.state) (must_ok _ _ x h))
see_end_ok false p q e = (ok_is p q e, λ e. absurd cc)

see_end_again : (ended : Bool) (p : Progress) → EndsSo ended p.state → see_end ended p ≡ Ok p
see_end_again true p h =
    ap (λ o. must (is_none o) (Audit Unfinished) >>= λ passed. Ok p) (h refl)
see_end_again false p h = refl

see_end_err : (ended : Bool) (p : Progress) (e : SegmentError) → see_end ended p ≡ Err e
    → (ended ≡ true) × (is_over p ≡ false) × (Audit Unfinished ≡ e)
see_end_err true p e h = by (is_over p) refl h
  where
    by : (b : Bool) → is_over p ≡ b → (must b (Audit Unfinished) >>= λ passed. Ok p) ≡ Err e
        → (true ≡ true) × (is_over p ≡ false) × (Audit Unfinished ≡ e)
    by true is h = absurd cc
    by false is h = (refl, is, cc)
see_end_err false p e h = absurd cc

-- ---- the beginning

fault_ok : (o : Option SegmentError) (x : Unit {0}) → no_fault o ≡ Ok x → o ≡ None
fault_ok None x e = refl
fault_ok (Some error) x e = absurd cc

begin_told : (g : Geometry) (span : Span) (prepared : List Acceptance) (P : SegmentError → Type 0)
    → (span ≡ Bounded → P OtherLife)
    → ((x : PrepareError) → span_fault g span prepared ≡ Some (Prepare x) → P (Prepare x))
    → (e : SegmentError) → span_fault g span prepared ≡ Some e → P e
begin_told g Bounded prepared P life prep e f =
    let same : OtherLife ≡ e = cc in subst P same (life refl)
begin_told g (Endless waiting) prepared P life prep e f =
    by (prepare_fault g (Endless waiting) 0 prepared) refl f
  where
    by : (o : Option PrepareError) → prepare_fault g (Endless waiting) 0 prepared ≡ o → prepared_unless o ≡ Some e → P e
    by None is f = absurd cc
    by (Some x) is f =
        let same : Prepare x ≡ e = cc in
        subst P same (prep x (ap prepared_unless is))

module _ (c : Configuration) (prepared : List Acceptance) (ended : Bool) (texts : List (List ℕ)) where
  abbrev lines_of_texts : List (List ℕ)
  lines_of_texts = flat_map journal_lines texts

  -- ---- what is accepted

  audited : (n m : ℕ) → auditing c prepared ended texts ≡ Ok (n, m) → IsAuditedSegments c prepared ended texts n m
  audited n m e =
      let (x, begun, f) = bind_ok (no_fault (begin_fault c prepared))
      (λ begun. pass_lines prepared (outset c) lines_of_texts >>= see_end ended >>= λ p. Ok (counts_of p)) (n, m) e in
      let (q, sees, g) = bind_ok (pass_lines prepared (outset c) lines_of_texts >>= see_end ended)
      (λ p. Ok (counts_of p)) (n, m) f in
      let (p, passes, ends) = bind_ok (pass_lines prepared (outset c) lines_of_texts) (see_end ended) q sees in
      let (same, over) = see_end_ok ended p q ends in
      let s : Stands c prepared lines_of_texts p =
      lines_found c prepared [] (outset c) p lines_of_texts lines_of_texts (holds_first c prepared) refl passes in
      let (parts, each, whole) = each_spelled texts (all_lines s.told) s.holds.fits s.lines_are in
      let told : counts_of q ≡ (n, m) = ok_is (counts_of q) (n, m) g in
      record {
        begins = fault_ok (begin_fault c prepared) x begun;
        told = s.told;
        state = p.state;
        spelled = record { parts = parts; each = each; whole = whole };
        are_true = s.holds.are_true;
        ends = over;
        lines_are = sym (ap (λ (k : ℕ × ℕ). k.0) told) ∙ ap (λ (r : Progress). told_count r.lines) (sym same)
            ∙ ap told_count s.holds.lines;
        segments_are = sym (ap (λ (k : ℕ × ℕ). k.1) told) ∙ ap (λ (r : Progress). told_count r.segments) (sym same)
            ∙ ap told_count s.holds.segments;
      }

  pub audited_again : (n m : ℕ) → IsAuditedSegments c prepared ended texts n m
      → auditing c prepared ended texts ≡ Ok (n, m)
  audited_again n m h =
      let lines : lines_of_texts ≡ map line_words (all_lines h.told) =
      each_lines texts h.spelled.parts h.spelled.each ∙ ap (map line_words) h.spelled.whole in
      let w = segments_again prepared h.state.plans (outset c) 0 0 h.told refl refl h.are_true.is_true.is_true
      h.are_true.named
      h.are_true.plans
      (subst (AllByRecursion FitsLine) h.spelled.whole (each_fits texts h.spelled.parts h.spelled.each)) in
      let there : w.to.state ≡ h.state = w.state_is ∙ h.are_true.is_true.leads_here in
      let w_lines = w.lines in
      let w_segments = w.segments in
      let many : w.to.lines ≡ length (all_lines h.told) = omega (arith, w_lines) in
      let heads : w.to.segments ≡ length h.told = omega (arith, w_segments) in
      let ends : EndsSo ended w.to.state = λ e. ap next_turn there ∙ h.ends e in
      ap (λ o. no_fault o >>= λ begun. pass_lines prepared (outset c) lines_of_texts
      >>= see_end ended >>= λ p. Ok (counts_of p))
      h.begins
      ∙ ap (λ ls. pass_lines prepared (outset c) ls >>= see_end ended >>= λ p. Ok (counts_of p)) lines
      ∙ ap (λ r. r >>= see_end ended >>= λ p. Ok (counts_of p)) w.passes
      ∙ ap (λ r. r >>= λ p. Ok (counts_of p)) (see_end_again ended w.to ends)
      ∙ (λ i. Ok (told_count (many i), told_count (heads i)))
      ∙ (λ i. Ok (sym h.lines_are i, sym h.segments_are i))

  -- ---- the first fault

  wrong : (e : SegmentError) → auditing c prepared ended texts ≡ Err e → TellsFault c prepared ended texts e
  wrong e f = begin (begin_fault c prepared) refl f
    where
      end : (begin_fault c prepared ≡ None) → (p : Progress) → pass_lines prepared (outset c) lines_of_texts ≡ Ok p
          → (r : Result Progress SegmentError) → see_end ended p ≡ r → (r >>= λ q. Ok (counts_of q)) ≡ Err e
          → TellsFault c prepared ended texts e
      end begins p passes (Ok q) is f = absurd cc
      end begins p passes (Err d) is f =
          let same : d ≡ e = cc in
          let (wanted, early, unfinished) = see_end_err ended p d is in
          let s : Stands c prepared lines_of_texts p =
          lines_found c prepared [] (outset c) p lines_of_texts lines_of_texts (holds_first c prepared) refl passes in
          let (parts, each, whole) = each_spelled texts (all_lines s.told) s.holds.fits s.lines_are in
          subst (TellsFault c prepared ended texts) (unfinished ∙ same) (record {
            begins = begins;
            told = s.told;
            state = p.state;
            spelled = record { parts = parts; each = each; whole = whole };
            are_true = s.holds.are_true;
            wanted = wanted;
            early = some_is (next_turn p.state) early;
          })

      lines : (begin_fault c prepared ≡ None) → (r : Result Progress SegmentError)
          → pass_lines prepared (outset c) lines_of_texts ≡ r
          → (r >>= see_end ended >>= λ q. Ok (counts_of q)) ≡ Err e → TellsFault c prepared ended texts e
      lines begins (Ok p) is f = end begins p is (see_end ended p) refl f
      lines begins (Err d) is f =
          let same : d ≡ e = cc in
          lines_wrong c prepared ended texts begins [] (outset c) lines_of_texts e (holds_first c prepared) refl
          (is ∙ ap (λ x. Err x) same)

      begin : (o : Option SegmentError) → begin_fault c prepared ≡ o
          → (no_fault o >>= λ begun. pass_lines prepared (outset c) lines_of_texts
          >>= see_end ended >>= λ p. Ok (counts_of p))
          ≡ Err e → TellsFault c prepared ended texts e
      begin None is f = lines is (pass_lines prepared (outset c) lines_of_texts) refl f
      begin (Some d) is f =
          let same : d ≡ e = cc in
          begin_told (kept_of c).layout c.span prepared (TellsFault c prepared ended texts)
          (λ life. life) (λ x prep. prep) e
          (is ∙ ap Some same)

  -- What is accepted are the segments of a true journal.
  pub verdict_found : (r : Result AuditedSegments SegmentError)
      → Gives is_segment_memory counts r (auditing c prepared ended texts)
      → IfOk r (λ a. IsAuditedSegments c prepared ended texts a.lines a.segments)
  verdict_found (Ok a) gives = audited a.lines a.segments gives
  verdict_found (Err e) gives = tt

  -- Such segments are accepted.
  pub verdict_only : (r : Result AuditedSegments SegmentError) (n m : ℕ)
      → Gives is_segment_memory counts r (auditing c prepared ended texts)
      → IsAuditedSegments c prepared ended texts n m
      → Gives is_segment_memory counts r (Ok (n, m))
  verdict_only r n m gives h =
      subst (λ (x : Result (ℕ × ℕ) SegmentError). Gives is_segment_memory counts r x) (audited_again n m h) gives

  -- A refusal tells the first fault.
  pub verdict_first : (r : Result AuditedSegments SegmentError)
      → Gives is_segment_memory counts r (auditing c prepared ended texts) → IfErr r (TellsFault c prepared ended texts)
  verdict_first (Ok a) gives = tt
  verdict_first (Err (Audit OutOfMemory)) gives = tt
  verdict_first (Err (Audit (NotALine n))) gives = wrong (Audit (NotALine n)) gives
  verdict_first (Err (Audit (NotPossible n asked next))) gives = wrong (Audit (NotPossible n asked next)) gives
  verdict_first (Err (Audit (ReplyDiffers n told right))) gives = wrong (Audit (ReplyDiffers n told right)) gives
  verdict_first (Err (Audit (NotRenewed n why next))) gives = wrong (Audit (NotRenewed n why next)) gives
  verdict_first (Err (Audit Unfinished)) gives = wrong (Audit Unfinished) gives
  verdict_first (Err (OtherSegment n)) gives = wrong (OtherSegment n) gives
  verdict_first (Err (NotPrepared n)) gives = wrong (NotPrepared n) gives
  verdict_first (Err OtherLife) gives = wrong OtherLife gives
  verdict_first (Err (Prepare x)) gives = wrong (Prepare x) gives

-- ---- what the code comes to

pub comes_to : (c : Configuration) (prepared : List Acceptance) (ended : Bool) (texts : List (List ℕ)) (p : Progress)
    (lines segments : ℕ) → begin_fault c prepared ≡ None
    → pass_lines prepared (outset c) (flat_map journal_lines texts) ≡ Ok p → (ended ≡ true → is_over p ≡ true)
    → lines ≡ told_count p.lines → segments ≡ told_count p.segments
    → auditing c prepared ended texts ≡ Ok (lines, segments)
comes_to c prepared ended texts p lines segments begins passes over a b =
    ap (λ o. no_fault o >>= λ begun. pass_lines prepared (outset c) (flat_map journal_lines texts) >>= see_end ended
    >>= λ p. Ok (counts_of p)) begins
    ∙ ap (λ r. r >>= see_end ended >>= λ p. Ok (counts_of p)) passes
    ∙ ap (λ r. r >>= λ p. Ok (counts_of p))
    (see_end_again ended p (λ e. none_is (next_turn p.state) (over e)))
    ∙ (λ i. Ok (sym a i, sym b i))

pub stops_with : (c : Configuration) (prepared : List Acceptance) (ended : Bool) (texts : List (List ℕ))
    (e : SegmentError)
    → begin_fault c prepared ≡ None → pass_lines prepared (outset c) (flat_map journal_lines texts) ≡ Err e
    → auditing c prepared ended texts ≡ Err e
stops_with c prepared ended texts e begins fails =
    ap (λ o. no_fault o >>= λ begun. pass_lines prepared (outset c) (flat_map journal_lines texts) >>= see_end ended
    >>= λ p. Ok (counts_of p)) begins
    ∙ ap (λ r. r >>= see_end ended >>= λ p. Ok (counts_of p)) fails

pub left_over : (c : Configuration) (prepared : List Acceptance) (ended : Bool) (texts : List (List ℕ)) (p : Progress)
    → begin_fault c prepared ≡ None → pass_lines prepared (outset c) (flat_map journal_lines texts) ≡ Ok p
    → ended ≡ true → is_over p ≡ false → auditing c prepared ended texts ≡ Err (Audit Unfinished)
left_over c prepared ended texts p begins passes wanted left =
    ap (λ o. no_fault o >>= λ begun. pass_lines prepared (outset c) (flat_map journal_lines texts) >>= see_end ended
    >>= λ p. Ok (counts_of p)) begins
    ∙ ap (λ r. r >>= see_end ended >>= λ p. Ok (counts_of p)) passes
    ∙ ap (λ b. see_end b p >>= λ p. Ok (counts_of p)) wanted
    ∙ ap (λ b. (must b (Audit Unfinished) >>= λ passed. Ok p) >>= λ p. Ok (counts_of p)) left

pub begins_with : (c : Configuration) (prepared : List Acceptance) (ended : Bool) (texts : List (List ℕ))
    (e : SegmentError)
    → Refuses (is_segment_memory e) e (no_fault (begin_fault c prepared))
    → Refuses (is_segment_memory e) e (auditing c prepared ended texts)
begins_with c prepared ended texts e h =
    refuses_then (is_segment_memory e) e (no_fault (begin_fault c prepared))
    (λ begun. pass_lines prepared (outset c) (flat_map journal_lines texts)
    >>= see_end ended >>= λ p. Ok (counts_of p)) h

-- A fault of these texts isn't want of memory, and is told.
pub gives_err : {X : Type 0} (view : X → ℕ × ℕ) (e : SegmentError) (w : Result (ℕ × ℕ) SegmentError) → w ≡ Err e
    → Gives is_segment_memory view (Err e) w
gives_err view e w is = by (is_segment_memory e)
  where
    by : (b : Bool) → Refuses b e w
    by true = tt
    by false = is
