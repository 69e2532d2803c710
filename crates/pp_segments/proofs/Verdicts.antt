-- The verdict of an audit of segments: what is passed are true segments, and the first fault is told.
use Rattle.std.proofs.Common.{◌≡◌, ◌≢◌, ℕ, ◌+◌, Bool, true, false, not, ◌==◌, ◌&&◌, nat_lt, List, [], ◌∷◌, ◌++◌}
use Rattle.std.proofs.Common.{length, map, Option, Some, None, Ok, if◌then◌else◌, arith, refl, sym}
use Rattle.std.proofs.Common.{ap, subst, ◌∙◌, append_assoc, length-append}
use Rattle.std.specs.Prelude.{slice_get}
use Rattle.std.specs.List.{AllByRecursion}
use Rattle.std.specs.Option.{ok_or}
use Rattle.std.proofs.lemmas.List.{append-nil, map-append, length-map}
use Rattle.pp_text.specs.Steps.{◌>>=◌, must}
use Rattle.pp_text.proofs.Steps.{bind_ok, must_ok, ok_or_ok, ok_is}
use Rattle.pp_settings.specs.Settings.{Configuration}
use Rattle.pp_cert.specs.Accepted.{Acceptance}
use Rattle.pp_model.specs.declared.event.Event.{Event}
use Rattle.pp_model.specs.declared.event.Event.TheVariants as event
use Rattle.pp_model.specs.declared.moves.Move.{Move}
use Rattle.pp_model.specs.declared.reply.Reply.{Reply}
use Rattle.pp_model.specs.Pool.{State, opening}
use Rattle.pp_model.specs.Moves.{reply_of, next_of, is_refusal}
use Rattle.pp_model.specs.Submitting.{submit_error, submitted, submitted_unless, after_submit}
use Rattle.pp_model.specs.Journals.{IsJournalFrom}
use Rattle.pp_model.proofs.Journeys.{same_plans, step_told, submit_told}
use Rattle.pp_core.specs.Opening.{kept_of}
use Rattle.pp_report.specs.declared.line.Asked.TheVariants as asked
use Rattle.pp_report.specs.declared.line.Told.{Told}
use Rattle.pp_report.specs.declared.line.Told.TheVariants.{Answer}
use Rattle.pp_report.specs.declared.error.AuditError.TheVariants.{NotALine, ReplyDiffers}
use Rattle.pp_report.specs.Auditing.{told_reply, is_none}
use Rattle.pp_report.specs.Sameness.{same_told}
use Rattle.pp_report.proofs.Same.{equal, two, same_told_is}
use Rattle.pp_segments.specs.declared.line.SegmentLine.{SegmentLine}
use Rattle.pp_segments.specs.declared.line.SegmentLine.TheVariants.{Head, Submit, Step}
use Rattle.pp_segments.specs.declared.error.SegmentError.TheVariants.{Audit, OtherSegment, NotPrepared}
use Rattle.pp_segments.specs.Lines.{line_words, FitsLine, Says}
use Rattle.pp_segments.specs.Reading.{line_in}
use Rattle.pp_segments.specs.Segments.{ToldSegment, all_events, all_names, event_lines, all_lines}
use Rattle.pp_segments.specs.Auditing.{Progress, outset, next_line, not_possible, pass_head, pass_plan}
use Rattle.pp_segments.specs.Auditing.{pass_submit, pass_told, pass_step, in_segment, pass, pass_text, pass_lines}
use Rattle.pp_segments.specs.Audits.{AreTrueSegments}
use Rattle.pp_segments.proofs.Spoken.{line_found}
use Rattle.pp_segments.proofs.Told.{extended, empty, submits, count_submit, count_step, lines_more, events_more}
use Rattle.pp_segments.proofs.Told.{names_more}
use Rattle.pp_segments.proofs.Told.{length_more, named_more, lines_new, events_new, names_new, named_new}

-- ---- what is told

pub told_given : (r : Reply) (told : Told) → told_reply r ≡ Some told → (not (is_refusal r) ≡ true) × (told ≡ Answer r)
told_given r told e = by (is_refusal r) e
  where
    by : (b : Bool) → (if b then None else Some (Answer r)) ≡ Some told → (not b ≡ true) × (told ≡ Answer r)
    by true e = absurd cc
    by false e = (refl, (let same : Answer r ≡ told = cc in sym same))

pub told_none : (r : Reply) → told_reply r ≡ None → not (is_refusal r) ≡ true → ⊥
told_none r e h = by (is_refusal r) e h
  where
    by : (b : Bool) → (if b then None else Some (Answer r)) ≡ None → not b ≡ true → ⊥
    by true e h = absurd cc
    by false e h = absurd cc

pub none_is : {A : Type 0} (o : Option A) → is_none o ≡ true → o ≡ None
none_is None e = refl
none_is (Some x) e = absurd cc

pub some_is : {A : Type 0} (o : Option A) → is_none o ≡ false → o ≢ None
some_is None e = absurd cc
some_is (Some x) e = λ e. absurd cc

-- ---- segments that hold

-- These are true segments, the lines of which the audit has passed.
pub record Holds (c : Configuration) (prepared : List Acceptance) (xs : List ToldSegment) (p : Progress) : Type 0 where
  pub fits : AllByRecursion FitsLine (all_lines xs)
  pub are_true : AreTrueSegments c prepared xs p.state
  pub lines : p.lines ≡ length (all_lines xs)
  pub segments : p.segments ≡ length xs

-- One line more was passed.
pub record Next (c : Configuration) (prepared : List Acceptance) (xs : List ToldSegment) (q : Progress) (text : List ℕ)
    : Type 0 where
  pub told : List ToldSegment
  pub line : SegmentLine
  pub text_is : text ≡ line_words line
  pub all : all_lines told ≡ all_lines xs ++ (line ∷ [])
  pub holds : Holds c prepared told q

fits_one : (ls : List SegmentLine) (l : SegmentLine) → AllByRecursion FitsLine ls → FitsLine l
    → AllByRecursion FitsLine (ls ++ (l ∷ []))
fits_one [] l h k = (k, tt)
fits_one (x ∷ xs) l h k = (h.0, fits_one xs l h.1 k)

long_one : (ls : List SegmentLine) (l : SegmentLine) → length (ls ++ (l ∷ [])) ≡ length ls + 1
long_one ls l = length-append ls (l ∷ [])

pub no_segment : (n : ℕ) → nat_lt 0 n ≡ true → n ≡ 0 → ⊥
no_segment n some none = let no : nat_lt 0 n ≡ false = ap (nat_lt 0) none in cc

module _ (c : Configuration) (prepared : List Acceptance) where
  -- As many plans were submitted as are named.
  as_many : (xs : List ToldSegment) (s : State) → AreTrueSegments c prepared xs s
      → length (all_names xs) ≡ length s.plans
  as_many xs s h =
      sym (length-map (all_names xs) (slice_get prepared)) ∙ ap length h.plans ∙ length-map s.plans Some

  head_passed : (xs : List ToldSegment) (p q : Progress) (n k : ℕ) (text : List ℕ) → Holds c prepared xs p
      → Says text (Head n k) → pass_head p n k ≡ Ok q → Next c prepared xs q text
  head_passed xs p q n k text h says e =
      let (x, f, g) = bind_ok (must (n == p.segments && k == length p.state.plans) (OtherSegment (next_line p)))
      (λ passed. Ok (record p { lines = p.lines + 1; segments = p.segments + 1 })) q e in
      let (a, b) = two (n == p.segments) (k == length p.state.plans) (must_ok _ _ x f) in
      let number : 0 + length xs ≡ n = omega (arith, equal n p.segments a, h.segments) in
      let plans : 0 + length (all_names xs) ≡ k =
      omega (arith, equal k (length p.state.plans) b, as_many xs p.state h.are_true) in
      let all : all_lines (xs ++ (empty ∷ [])) ≡ all_lines xs ++ (Head n k ∷ []) =
      lines_new 0 0 xs ∙ (λ i. all_lines xs ++ (Head (number i) (plans i) ∷ [])) in
      record {
        told = xs ++ (empty ∷ []);
        line = Head n k;
        text_is = says.1;
        all = all;
        holds = subst (Holds c prepared (xs ++ (empty ∷ [])))
            (ok_is (record p { lines = p.lines + 1; segments = p.segments + 1 }) q g) (record {
              fits = subst (AllByRecursion FitsLine) (sym all) (fits_one (all_lines xs) (Head n k) h.fits says.0);
              are_true = record {
                is_true = subst (IsJournalFrom (opening (kept_of c)) p.state) (sym (events_new xs)) h.are_true.is_true;
                plans = ap (map (slice_get prepared)) (names_new xs) ∙ h.are_true.plans;
                named = named_new xs h.are_true.named;
              };
              lines = ap (λ m. m + 1) h.lines ∙ sym (long_one (all_lines xs) (Head n k)) ∙ ap length (sym all);
              segments = ap (λ m. m + 1) h.segments ∙ sym (length-append xs (empty ∷ []));
            });
      }

  -- An event more in the last segment.
  event_more : (x : ToldSegment) (xs : List ToldSegment) (p : Progress) (s : State) (e : Event) (ns : List ℕ)
      (l : SegmentLine) (text : List ℕ) → Holds c prepared (x ∷ xs) p → Says text l → event_lines (e ∷ []) ns ≡ l ∷ []
      → length ns ≡ submits (e ∷ []) → IsJournalFrom (opening (kept_of c)) s (all_events (x ∷ xs) ++ (e ∷ []))
      → map (slice_get prepared) (all_names (x ∷ xs) ++ ns) ≡ map Some s.plans
      → Next c prepared (x ∷ xs) (record { state = s; lines = p.lines + 1; segments = p.segments }) text
  event_more x xs p s e ns l text h says is one told plans =
      let more : List ToldSegment = extended x xs (e ∷ []) ns in
      let all : all_lines more ≡ all_lines (x ∷ xs) ++ (l ∷ []) =
      lines_more 0 0 x xs (e ∷ []) ns h.are_true.named ∙ ap (λ ls. all_lines (x ∷ xs) ++ ls) is in
      record {
        told = more;
        line = l;
        text_is = says.1;
        all = all;
        holds = record {
          fits = subst (AllByRecursion FitsLine) (sym all) (fits_one (all_lines (x ∷ xs)) l h.fits says.0);
          are_true = record {
            is_true = subst (IsJournalFrom (opening (kept_of c)) s) (sym (events_more x xs (e ∷ []) ns)) told;
            plans = ap (map (slice_get prepared)) (names_more x xs (e ∷ []) ns) ∙ plans;
            named = named_more x xs (e ∷ []) ns h.are_true.named one;
          };
          lines = ap (λ m. m + 1) h.lines ∙ sym (long_one (all_lines (x ∷ xs)) l) ∙ ap length (sym all);
          segments = h.segments ∙ sym (length_more x xs (e ∷ []) ns);
        };
      }

  submit_passed : (x : ToldSegment) (xs : List ToldSegment) (p q : Progress) (k name : ℕ) (text : List ℕ)
      → Holds c prepared (x ∷ xs) p → Says text (Submit k name) → pass_submit prepared p k name ≡ Ok q
      → Next c prepared (x ∷ xs) q text
  submit_passed x xs p q k name text h says e =
      let (u, f, g) = bind_ok (must (k == length p.state.plans) (not_possible p (asked.Submit k)))
      (λ passed. ok_or (slice_get prepared name) (NotPrepared (next_line p)) >>= pass_plan p k) q e in
      let (a, there, i) = bind_ok (ok_or (slice_get prepared name) (NotPrepared (next_line p))) (pass_plan p k) q g in
      let (v, allowed, j) = bind_ok (must (is_none (submit_error p.state a)) (not_possible p (asked.Submit k)))
      (λ passed. Ok (record p { state = after_submit p.state a; lines = p.lines + 1 })) q i in
      let none : submit_error p.state a ≡ None = none_is (submit_error p.state a) (must_ok _ _ v allowed) in
      let number : length p.state.plans ≡ k = sym (equal k (length p.state.plans) (must_ok _ _ u f)) in
      let after : submitted p.state a ≡ after_submit p.state a = ap (λ o. submitted_unless o p.state a) (sym none) in
      let es : List Event = all_events (x ∷ xs) in
      let told : IsJournalFrom (opening (kept_of c)) (submitted p.state a) (es ++ (event.Submit k ∷ [])) =
      subst (λ n. IsJournalFrom (opening (kept_of c)) (submitted p.state a) (es ++ (event.Submit n ∷ []))) number
      (submit_told p.state (opening (kept_of c)) es a h.are_true.is_true none) in
      let named : slice_get prepared name ≡ Some a = ok_or_ok _ _ a there in
      let plans : map (slice_get prepared) (all_names (x ∷ xs) ++ (name ∷ [])) ≡ map Some (submitted p.state a).plans =
      map-append (slice_get prepared) (all_names (x ∷ xs)) (name ∷ [])
      ∙ (λ i. h.are_true.plans i ++ (named i ∷ []))
      ∙ sym (map-append Some p.state.plans (a ∷ [])) in
      subst (λ r. Next c prepared (x ∷ xs) r text)
      ((λ i. record { state = after i; lines = p.lines + 1; segments = p.segments })
      ∙ ok_is (record p { state = after_submit p.state a; lines = p.lines + 1 }) q j)
      (event_more x xs p (submitted p.state a) (event.Submit k) (name ∷ []) (Submit k name) text h says refl
      (sym (count_submit k [])) told plans)

  step_passed : (x : ToldSegment) (xs : List ToldSegment) (p q : Progress) (did : Move) (told : Told) (text : List ℕ)
      → Holds c prepared (x ∷ xs) p → Says text (Step did told) → pass_step p did told ≡ Ok q
      → Next c prepared (x ∷ xs) q text
  step_passed x xs p q did told text h says e =
      let reply : Reply = reply_of p.state did in
      let (right, f, g) = bind_ok (ok_or (told_reply reply) (not_possible p (asked.Do did)))
      (pass_told p did told) q e in
      let (u, i, j) = bind_ok (must (same_told told right) (Audit (ReplyDiffers (next_line p) told right)))
      (λ passed. Ok (record p { state = next_of p.state did; lines = p.lines + 1 })) q g in
      let (can, right_is) = told_given reply right (ok_or_ok _ _ right f) in
      let told_is : told ≡ Answer reply = same_told_is told right (must_ok _ _ u i) ∙ right_is in
      let names : List ℕ = all_names (x ∷ xs) in
      subst (λ r. Next c prepared (x ∷ xs) r text)
      (ok_is (record p { state = next_of p.state did; lines = p.lines + 1 }) q j)
      (event_more x xs p (next_of p.state did) (event.Step did reply) [] (Step did told) text h says
      (ap (λ t. Step did t ∷ []) (sym told_is))
      (sym (count_step (event.Step did reply) [] refl))
      (step_told p.state (opening (kept_of c)) (all_events (x ∷ xs)) did h.are_true.is_true can)
      (ap (map (slice_get prepared)) (append-nil names) ∙ h.are_true.plans
      ∙ ap (map Some) (sym (same_plans p.state did))))

  line_passed : (xs : List ToldSegment) (p q : Progress) (l : SegmentLine) (text : List ℕ) → Holds c prepared xs p
      → Says text l → pass prepared p l ≡ Ok q → Next c prepared xs q text
  line_passed xs p q (Head n k) text h says e = head_passed xs p q n k text h says e
  line_passed xs p q (Submit k name) text h says e =
      let (u, f, g) = bind_ok (in_segment p) (λ passed. pass_submit prepared p k name) q e in
      by xs h (must_ok _ _ u f) g
    where
      by : (xs : List ToldSegment) → Holds c prepared xs p → nat_lt 0 p.segments ≡ true
          → pass_submit prepared p k name ≡ Ok q → Next c prepared xs q text
      by [] h some g = absurd (no_segment p.segments some h.segments)
      by (x ∷ xs) h some g = submit_passed x xs p q k name text h says g
  line_passed xs p q (Step did told) text h says e =
      let (u, f, g) = bind_ok (in_segment p) (λ passed. pass_step p did told) q e in
      by xs h (must_ok _ _ u f) g
    where
      by : (xs : List ToldSegment) → Holds c prepared xs p → nat_lt 0 p.segments ≡ true → pass_step p did told ≡ Ok q
          → Next c prepared xs q text
      by [] h some g = absurd (no_segment p.segments some h.segments)
      by (x ∷ xs) h some g = step_passed x xs p q did told text h says g

  pub text_passed : (xs : List ToldSegment) (p q : Progress) (text : List ℕ) → Holds c prepared xs p
      → pass_text prepared p text ≡ Ok q → Next c prepared xs q text
  text_passed xs p q text h e =
      let (l, f, g) = bind_ok (ok_or (line_in text) (Audit (NotALine (next_line p)))) (pass prepared p) q e in
      line_passed xs p q l text h (line_found text l (ok_or_ok _ _ l f)) g

  -- ---- all lines

  -- So far these segments have the lines of the texts, and the audit stands behind them.
  pub record Stands (lines : List (List ℕ)) (p : Progress) : Type 0 where
    pub told : List ToldSegment
    pub lines_are : lines ≡ map line_words (all_lines told)
    pub holds : Holds c prepared told p

  pub joined : (xs ys : List SegmentLine) (l : SegmentLine) (text : List ℕ) (rest lines : List (List ℕ))
      → ys ≡ xs ++ (l ∷ []) → text ≡ line_words l → lines ≡ map line_words xs ++ (text ∷ rest)
      → lines ≡ map line_words ys ++ rest
  joined xs ys l text rest lines all is e =
      e ∙ ap (λ t. map line_words xs ++ (t ∷ rest)) is
      ∙ sym (append_assoc (map line_words xs) (line_words l ∷ []) rest)
      ∙ ap (λ ts. ts ++ rest) (sym (map-append line_words xs (l ∷ [])))
      ∙ ap (λ ls. map line_words ls ++ rest) (sym all)

  pub lines_found : (xs : List ToldSegment) (p q : Progress) (lines rest : List (List ℕ)) → Holds c prepared xs p
      → lines ≡ map line_words (all_lines xs) ++ rest → pass_lines prepared p rest ≡ Ok q → Stands lines q
  lines_found xs p q lines [] h e f = record {
    told = xs;
    lines_are = e ∙ append-nil (map line_words (all_lines xs));
    holds = subst (Holds c prepared xs) (ok_is p q f) h;
  }
  lines_found xs p q lines (text ∷ rest) h e f =
      let (r, g, i) = bind_ok (pass_text prepared p text) (λ r. pass_lines prepared r rest) q f in
      let n = text_passed xs p r text h g in
      lines_found n.told r q lines rest n.holds
      (joined (all_lines xs) (all_lines n.told) n.line text rest lines n.all n.text_is e) i

  -- Where nothing was done yet.
  pub holds_first : Holds c prepared [] (outset c)
  holds_first = record {
    fits = tt;
    are_true = record { is_true = record { is_true = tt; leads_here = refl }; plans = refl; named = tt };
    lines = refl;
    segments = refl;
  }
