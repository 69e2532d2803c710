-- True segments are passed.
use Rattle.std.proofs.Common.{◌≡◌, ◌∙◌, ℕ, zero, suc, ◌+◌, Bool, true, false, not, ◌==◌, nat_lt, List, [], ◌∷◌, ◌++◌}
use Rattle.std.proofs.Common.{length, map}
use Rattle.std.proofs.Common.{drop, Some, None, Result, Ok, Err, if◌then◌else◌, refl, sym, ap, subst, arith}
use Rattle.std.proofs.Common.{length-append}
use Rattle.std.specs.Prelude.{slice_get}
use Rattle.std.specs.List.{AllByRecursion}
use Rattle.std.specs.Option.{ok_or}
use Rattle.std.proofs.lemmas.Bool.Decides.{nat_tests}
use Rattle.std.proofs.lemmas.List.{map-append}
use Rattle.pp_text.specs.Steps.{◌>>=◌, must}
use Rattle.pp_cert.specs.Accepted.{Acceptance}
use Rattle.pp_model.specs.declared.event.Event.{Event}
use Rattle.pp_model.specs.declared.event.Event.TheVariants as event
use Rattle.pp_model.specs.declared.moves.Move.{Move}
use Rattle.pp_model.specs.declared.reply.Reply.{Reply}
use Rattle.pp_model.specs.Pool.{State}
use Rattle.pp_model.specs.Moves.{reply_of, next_of, is_refusal}
use Rattle.pp_model.specs.Submitting.{submitted, submitted_unless, after_submit}
use Rattle.pp_model.specs.Journals.{after_plan, after_event, replay, IsNextPlan, IsTrueFrom}
use Rattle.pp_model.proofs.Journeys.{replay_more, same_plans}
use Rattle.pp_report.specs.declared.line.Asked.TheVariants as asked
use Rattle.pp_report.specs.declared.line.Told.TheVariants.{Answer}
use Rattle.pp_report.specs.declared.error.AuditError.TheVariants.{NotALine, ReplyDiffers}
use Rattle.pp_report.specs.Auditing.{told_reply, is_none}
use Rattle.pp_report.proofs.Same.{itself, both, same_told_same}
use Rattle.pp_segments.specs.declared.line.SegmentLine.{SegmentLine}
use Rattle.pp_segments.specs.declared.line.SegmentLine.TheVariants.{Head, Submit, Step}
use Rattle.pp_segments.specs.declared.error.SegmentError.{SegmentError}
use Rattle.pp_segments.specs.declared.error.SegmentError.TheVariants.{Audit, OtherSegment, NotPrepared}
use Rattle.pp_segments.specs.Lines.{line_words, FitsLine}
use Rattle.pp_segments.specs.Segments.{ToldSegment, IsNamed, all_events, all_names, event_lines, segment_lines}
use Rattle.pp_segments.specs.Segments.{lines_from}
use Rattle.pp_segments.specs.Auditing.{Progress, next_line, not_possible, pass_plan, pass_submit, pass_told, pass_step}
use Rattle.pp_segments.specs.Auditing.{pass, pass_text, pass_lines}
use Rattle.pp_segments.proofs.Spoken.{line_again}
use Rattle.pp_segments.proofs.Splitting.{fits_parts}
use Rattle.pp_segments.proofs.Told.{submits, count_submit, count_step}

told_again : (r : Reply) → not (is_refusal r) ≡ true → told_reply r ≡ Some (Answer r)
told_again r h = by (is_refusal r) h
  where
    by : (b : Bool) → not b ≡ true → (if b then None else Some (Answer r)) ≡ Some (Answer r)
    by true h = absurd cc
    by false h = refl

equal_again : (m n : ℕ) → m ≡ n → (m == n) ≡ true
equal_again m n e = ap (λ k. m == k) (sym e) ∙ itself m

-- What stands at a place is the first of what is left there.
drop_at : (xs : List Acceptance) (k : ℕ) (a : Acceptance) → slice_get xs k ≡ Some a → drop k xs ≡ a ∷ drop (suc k) xs
drop_at [] k a e = absurd cc
drop_at (x ∷ xs) zero a e = let same : x ≡ a = cc in ap (λ y. y ∷ xs) same
drop_at (x ∷ xs) (suc k) a e = drop_at xs k a e

true_parts : (plans : List Acceptance) (s : State) (es fs : List Event) → IsTrueFrom plans s (es ++ fs)
    → IsTrueFrom plans s es × IsTrueFrom plans (replay plans s es) fs
true_parts plans s [] fs h = (tt, h)
true_parts plans s (e ∷ es) fs h =
    let (a, b) = true_parts plans (after_event plans s e) es fs h.1 in ((h.0, a), b)

module _ (prepared plans : List Acceptance) where
  -- The plans that are to come are those of these names.
  abbrev Ahead : State → List ℕ → Type 0
  Ahead s names = map (slice_get prepared) names ≡ map Some (drop (length s.plans) plans)

  pass_both : (p q : Progress) (ls ms : List (List ℕ)) → pass_lines prepared p ls ≡ Ok q
      → pass_lines prepared p (ls ++ ms) ≡ pass_lines prepared q ms
  pass_both p q [] ms e = let same : p ≡ q = cc in ap (λ r. pass_lines prepared r ms) same
  pass_both p q (l ∷ ls) ms e = by (λ r. pass_both r q ls ms) (pass_text prepared p l) e
    where
      by : ((r : Progress) → pass_lines prepared r ls ≡ Ok q
          → pass_lines prepared r (ls ++ ms) ≡ pass_lines prepared q ms)
          → (o : Result Progress SegmentError) → (o >>= λ r. pass_lines prepared r ls) ≡ Ok q
          → (o >>= λ r. pass_lines prepared r (ls ++ ms)) ≡ pass_lines prepared q ms
      by more (Ok r) e = more r e
      by more (Err d) e = absurd cc

  -- Events were passed by their lines.
  record Went (p : Progress) (es : List Event) (ns ms : List ℕ) : Type 0 where
    pub to : Progress
    pub passes : pass_lines prepared p (map line_words (event_lines es ns)) ≡ Ok to
    pub state_is : to.state ≡ replay plans p.state es
    pub lines : to.lines ≡ p.lines + length (event_lines es ns)
    pub segments : to.segments ≡ p.segments
    pub many : length to.state.plans ≡ length p.state.plans + length ns
    pub ahead : Ahead to.state ms

  -- A plan that is submitted.
  abbrev after_one : Progress → State → Progress
  after_one p s = record { state = s; lines = p.lines + 1; segments = p.segments }

  submit_again : (p : Progress) (k name : ℕ) (h : IsNextPlan plans p.state k) → nat_lt 0 p.segments ≡ true
      → slice_get prepared name ≡ Some h.plan → FitsLine (Submit k name)
      → pass_text prepared p (line_words (Submit k name)) ≡ Ok (after_one p (after_submit p.state h.plan))
  submit_again p k name h some named fits =
      ap (λ o. ok_or o (Audit (NotALine (next_line p))) >>= pass prepared p)
      (line_again (line_words (Submit k name)) (Submit k name) (fits, refl))
      ∙ ap (λ b. must b (OtherSegment (next_line p)) >>= λ passed. pass_submit prepared p k name) some
      ∙ ap (λ b. must b (not_possible p (asked.Submit k)) >>= λ passed.
      ok_or (slice_get prepared name) (NotPrepared (next_line p)) >>= pass_plan p k)
      (equal_again k (length p.state.plans) h.next)
      ∙ ap (λ o. ok_or o (NotPrepared (next_line p)) >>= pass_plan p k) named
      ∙ ap (λ o. must (is_none o) (not_possible p (asked.Submit k)) >>= λ passed.
      Ok (after_one p (after_submit p.state h.plan))) h.taken_in

  step_again : (p : Progress) (did : Move) (reply : Reply) → nat_lt 0 p.segments ≡ true
      → not (is_refusal (reply_of p.state did)) ≡ true → reply ≡ reply_of p.state did
      → FitsLine (Step did (Answer reply))
      → pass_text prepared p (line_words (Step did (Answer reply))) ≡ Ok (after_one p (next_of p.state did))
  step_again p did reply some can is fits =
      let l : SegmentLine = Step did (Answer reply) in
      ap (λ o. ok_or o (Audit (NotALine (next_line p))) >>= pass prepared p) (line_again (line_words l) l (fits, refl))
      ∙ ap (λ b. must b (OtherSegment (next_line p)) >>= λ passed. pass_step p did (Answer reply)) some
      ∙ ap (λ o. ok_or o (not_possible p (asked.Do did)) >>= pass_told p did (Answer reply))
      (told_again (reply_of p.state did) can ∙ ap (λ r. Some (Answer r)) (sym is))
      ∙ ap (λ b. must b (Audit (ReplyDiffers (next_line p) (Answer reply) (Answer reply))) >>= λ passed.
      Ok (after_one p (next_of p.state did))) (same_told_same (Answer reply))

  -- One line more in front.
  went : (p : Progress) (e : Event) (es : List Event) (ns more ms : List ℕ) (l : SegmentLine) (s : State)
      → pass_text prepared p (line_words l) ≡ Ok (after_one p s) → after_event plans p.state e ≡ s
      → event_lines (e ∷ es) ns ≡ l ∷ event_lines es more
      → length s.plans + length more ≡ length p.state.plans + length ns
      → Went (after_one p s) es more ms → Went p (e ∷ es) ns ms
  went p e es ns more ms l s passes after is many w =
      let lines = w.lines in
      let plans_are = w.many in record {
        to = w.to;
        passes = ap (λ ls. pass_lines prepared p (map line_words ls)) is
            ∙ ap (λ r. r >>= λ q. pass_lines prepared q (map line_words (event_lines es more))) passes ∙ w.passes;
        state_is = w.state_is ∙ ap (λ s. replay plans s es) (sym after);
        lines = omega (arith, lines, ap length is);
        segments = w.segments;
        many = omega (arith, plans_are, many);
        ahead = w.ahead;
      }

  events_again : (p : Progress) (es : List Event) (ns ms : List ℕ) → IsTrueFrom plans p.state es
      → length ns ≡ submits es → Ahead p.state (ns ++ ms) → nat_lt 0 p.segments ≡ true
      → AllByRecursion FitsLine (event_lines es ns) → Went p es ns ms
  events_again p [] [] ms h one ahead some fits = record {
    to = p;
    passes = refl;
    state_is = refl;
    lines = omega arith;
    segments = refl;
    many = omega arith;
    ahead = ahead;
  }
  events_again p [] (n ∷ ns) ms h one ahead some fits = absurd (omega (arith, one))
  events_again p (event.Submit k ∷ es) [] ms h one ahead some fits = absurd (omega (arith, one, count_submit k es))
  events_again p (event.Submit k ∷ es) (name ∷ ns) ms h one ahead some fits =
      let next : IsNextPlan plans p.state k = h.0 in
      let left : drop (length p.state.plans) plans ≡ next.plan ∷ drop (suc (length p.state.plans)) plans =
      drop_at plans (length p.state.plans) next.plan (ap (slice_get plans) (sym next.next) ∙ next.named) in
      let both_are : map (slice_get prepared) (name ∷ (ns ++ ms))
      ≡ map Some (next.plan ∷ drop (suc (length p.state.plans)) plans) = ahead ∙ ap (map Some) left in
      let named : slice_get prepared name ≡ Some next.plan = cc in
      let rest : map (slice_get prepared) (ns ++ ms) ≡ map Some (drop (suc (length p.state.plans)) plans) = cc in
      let s : State = after_submit p.state next.plan in
      let s_is : s ≡ submitted p.state next.plan = ap (λ o. submitted_unless o p.state next.plan) next.taken_in in
      let long : length s.plans ≡ suc (length p.state.plans) =
      ap (λ (x : State). length x.plans) s_is ∙ omega (arith, length-append p.state.plans (next.plan ∷ [])) in
      let after : after_event plans p.state (event.Submit k) ≡ s = ap (after_plan p.state) next.named in
      went p (event.Submit k) es (name ∷ ns) ns ms (Submit k name) s
      (submit_again p k name next some named fits.0) after refl (omega (arith, long))
      (events_again (after_one p s) es ns ms (subst (λ x. IsTrueFrom plans x es) after h.1)
      (omega (arith, one, count_submit k es))
      (rest ∙ ap (λ n. map Some (drop n plans)) (sym long)) some fits.1)
  events_again p (event.Step did reply ∷ es) ns ms h one ahead some fits =
      let s : State = next_of p.state did in
      let same : s.plans ≡ p.state.plans = same_plans p.state did in
      went p (event.Step did reply) es ns ns ms (Step did (Answer reply)) s
      (step_again p did reply some h.0.0 h.0.1 fits.0) refl refl
      (ap (λ (ps : List Acceptance). length ps + length ns) same)
      (events_again (after_one p s) es ns ms h.1
      (omega (arith, one, count_step (event.Step did reply) es refl))
      (ahead ∙ ap (λ (ps : List Acceptance). map Some (drop (length ps) plans)) (sym same)) some fits.1)

  head_again : (p : Progress) (n k : ℕ) → p.segments ≡ n → length p.state.plans ≡ k → FitsLine (Head n k)
      → pass_text prepared p (line_words (Head n k)) ≡ Ok (record p { lines = p.lines + 1; segments = p.segments + 1 })
  head_again p n k e f fits =
      ap (λ o. ok_or o (Audit (NotALine (next_line p))) >>= pass prepared p)
      (line_again (line_words (Head n k)) (Head n k) (fits, refl))
      ∙ ap (λ b. must b (OtherSegment (next_line p)) >>= λ passed.
      Ok (record p { lines = p.lines + 1; segments = p.segments + 1 }))
      (both (n == p.segments) (k == length p.state.plans) (equal_again n p.segments (sym e))
      (equal_again k (length p.state.plans) (sym f)))

  -- Segments were passed by their lines.
  pub record WentAll (p : Progress) (n k : ℕ) (xs : List ToldSegment) : Type 0 where
    pub to : Progress
    pub passes : pass_lines prepared p (map line_words (lines_from n k xs)) ≡ Ok to
    pub state_is : to.state ≡ replay plans p.state (all_events xs)
    pub lines : to.lines ≡ p.lines + length (lines_from n k xs)
    pub segments : to.segments ≡ p.segments + length xs

  pub segments_again : (p : Progress) (n k : ℕ) (xs : List ToldSegment) → p.segments ≡ n → length p.state.plans ≡ k
      → IsTrueFrom plans p.state (all_events xs) → AllByRecursion IsNamed xs → Ahead p.state (all_names xs)
      → AllByRecursion FitsLine (lines_from n k xs) → WentAll p n k xs
  segments_again p n k [] e f h named ahead fits =
      record { to = p; passes = refl; state_is = refl; lines = omega arith; segments = omega arith }
  segments_again p n k (x ∷ xs) e f h named ahead fits =
      let q : Progress = record p { lines = p.lines + 1; segments = p.segments + 1 } in
      let (first, rest) = true_parts plans p.state x.events (all_events xs) h in
      let (fits_here, fits_later) =
      fits_parts (segment_lines n k x) (lines_from (n + 1) (k + length x.prepared) xs) fits in
      let some : nat_lt 0 (p.segments + 1) ≡ true = grind (arith, nat_tests) in
      let w = events_again q x.events x.prepared (all_names xs) first named.0 ahead some fits_here.1 in
      let w_many = w.many in
      let w_lines = w.lines in
      let w_segments = w.segments in
      let all = segments_again w.to (n + 1) (k + length x.prepared) xs
      (omega (arith, e, w_segments)) (omega (arith, f, w_many))
      (subst (λ s. IsTrueFrom plans s (all_events xs)) (sym w.state_is) rest) named.1 w.ahead fits_later in
      let all_lines = all.lines in
      let all_segments = all.segments in
      let long : length (segment_lines n k x ++ lines_from (n + 1) (k + length x.prepared) xs)
      ≡ suc (length (event_lines x.events x.prepared)) + length (lines_from (n + 1) (k + length x.prepared) xs) =
      length-append (segment_lines n k x) (lines_from (n + 1) (k + length x.prepared) xs) in
      record {
        to = all.to;
        passes = ap (pass_lines prepared p)
            (map-append line_words (segment_lines n k x) (lines_from (n + 1) (k + length x.prepared) xs))
            ∙ pass_both p w.to (map line_words (segment_lines n k x))
            (map line_words (lines_from (n + 1) (k + length x.prepared) xs))
            (ap (λ r. r >>= λ q. pass_lines prepared q (map line_words (event_lines x.events x.prepared)))
            (head_again p n k e f fits_here.0) ∙ w.passes)
            ∙ all.passes;
        state_is = all.state_is ∙ ap (λ s. replay plans s (all_events xs)) w.state_is
            ∙ sym (replay_more plans p.state x.events (all_events xs));
        lines = omega (arith, w_lines, all_lines, long);
        segments = omega (arith, w_segments, all_segments);
      }
