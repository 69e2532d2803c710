-- Lines that an auditor of segments passes, one after the other.
use Rattle.std.proofs.Common.{◌≡◌, ◌∙◌, ℕ, zero, suc, ◌+◌, ◌<◌, ◌≤◌, get_or, true, false, List, [], ◌∷◌, ◌++◌, length}
use Rattle.std.proofs.Common.{drop, map, flat_map, Bor, Option, Some, None, ◌==◌}
use Rattle.std.proofs.Common.{Result, Ok, Err, refl, sym, ap, subst, arith}
use Rattle.std.specs.Prelude.{slice_get, option_map}
use Rattle.std.specs.List.{range_with_len}
use Rattle.std.proofs.lemmas.List.{drop_all, length-map}
use Rattle.std.proofs.lemmas.Option.{slice_get-get_or, slice_get_past}
use Rattle.std.specs.Option.{ok_or}
use Rattle.pp_text.specs.Steps.{◌>>=◌, must}
use Rattle.pp_model.specs.declared.moves.Move.{Move}
use Rattle.pp_model.specs.declared.reply.Reply.{Reply}
use Rattle.pp_model.specs.Moves.{reply_of, next_of}
use Rattle.pp_model.proofs.Alone.{settings_stay}
use Rattle.pp_report.specs.declared.line.Told.{Told}
use Rattle.pp_report.specs.declared.error.AuditError.TheVariants.{ReplyDiffers}
use Rattle.pp_report.specs.Journals.{journal_lines}
use Rattle.pp_report.specs.Sameness.{same_told}
use Rattle.pp_report.proofs.Same.{itself}
use Rattle.pp_cert.specs.Accepted.{Acceptance}
use Rattle.pp_model.specs.Pool.{Settings}
use Rattle.pp_model.specs.Submitting.{submit_error, after_submit}
use Rattle.pp_core.specs.Parts.{Parts}
use Rattle.pp_core.specs.StandsFor.{StandsFor, Moves}
use Rattle.pp_core.specs.Submits.{TakesPrepared}
use Rattle.pp_report.specs.declared.line.Asked.TheVariants as asked
use Rattle.pp_report.specs.Auditing.{is_none, told_reply}
use Rattle.pp_segments.specs.declared.auditor.SegmentAuditor.{SegmentAuditor}
use Rattle.pp_segments.specs.declared.error.SegmentError.{SegmentError}
use Rattle.pp_segments.specs.declared.error.SegmentError.TheVariants.{Audit, NotPrepared}
use Rattle.pp_segments.specs.Auditing.{Progress, next_line, not_possible, pass_plan, pass_submit, pass_told, pass_step}
use Rattle.pp_segments.specs.Auditing.{pass_text}
use Rattle.pp_segments.specs.Auditing.{pass_lines}
use Rattle.pp_segments.specs.Auditors.{IsAt, Passes, PassesAll}

-- ---- lines in turn

pub passed : (prepared : List Acceptance) (a : SegmentAuditor) (r : Result Progress SegmentError) (x : Unit {0})
    → Passes prepared a r (Ok x) → (q : Progress) × (r ≡ Ok q) × IsAt prepared a q
passed prepared a (Ok q) x h = (q, refl, h)
passed prepared a (Err e) x h = absurd h

pub stopped : (prepared : List Acceptance) (a : SegmentAuditor) (r : Result Progress SegmentError) (e : SegmentError)
    → Passes prepared a r (Err e) → r ≡ Err e
stopped prepared a (Ok q) e h = absurd h
stopped prepared a (Err d) e h = ap (λ x. Err x) (sym h)

-- A line that is passed leads on.
pub went_on : (prepared : List Acceptance) (a : SegmentAuditor) (q : Progress) (lines : List (List ℕ)) (line : List ℕ)
    (rest : List (List ℕ)) (x : Unit {0}) → lines ≡ line ∷ rest → Passes prepared a (pass_text prepared q line) (Ok x)
    → (r : Progress) × IsAt prepared a r × (pass_lines prepared q lines ≡ pass_lines prepared r rest)
went_on prepared a q lines line rest x e h =
    let (r, is, at) = passed prepared a (pass_text prepared q line) x h in
    (r, at, ap (pass_lines prepared q) e ∙ ap (λ o. o >>= λ r. pass_lines prepared r rest) is)

-- A fault ends the audit.
pub went_wrong : (prepared : List Acceptance) (a : SegmentAuditor) (q : Progress) (lines : List (List ℕ))
    (line : List ℕ) (rest : List (List ℕ)) (error : SegmentError) → lines ≡ line ∷ rest
    → Passes prepared a (pass_text prepared q line) (Err error) → pass_lines prepared q lines ≡ Err error
went_wrong prepared a q lines line rest error e h =
    ap (pass_lines prepared q) e
    ∙ ap (λ o. o >>= λ r. pass_lines prepared r rest) (stopped prepared a (pass_text prepared q line) error h)

-- ---- prepared plans

some_same : {A : Type 0} (x y : A) → Some x ≡ Some y → x ≡ y
some_same x y e = cc

-- The plan at a place is prepared there, and nothing behind the last.
place_at : (from : ℕ) (plans : List Acceptance) (i : ℕ)
    → slice_get (range_with_len from (length plans)) i ≡ option_map (λ a. from + i) (slice_get plans i)
place_at from [] i = refl
place_at from (a ∷ plans) zero = ap Some (omega arith)
place_at from (a ∷ plans) (suc i) =
    let next : from + 1 + i ≡ from + suc i = omega arith in
    place_at (from + 1) plans i ∙ ap (λ n. option_map (λ a. n) (slice_get plans i)) next

pub place_of : (places : List ℕ) (plans : List Acceptance) (i : ℕ) → places ≡ range_with_len 0 (length plans)
    → slice_get places i ≡ option_map (λ a. i) (slice_get plans i)
place_of places plans i e =
    let same : 0 + i ≡ i = omega arith in
    ap (λ ps. slice_get ps i) e ∙ place_at 0 plans i ∙ ap (λ n. option_map (λ a. n) (slice_get plans i)) same

-- The place of a prepared plan is its name.
pub named_some : (place name : ℕ) (o : Option Acceptance) → Some place ≡ option_map (λ a. name) o
    → (a : Acceptance) × (o ≡ Some a) × (place ≡ name)
named_some place name None e = absurd cc
named_some place name (Some a) e = (a, refl, some_same place name e)

pub named_none : (name : ℕ) (o : Option Acceptance) → None ≡ option_map (λ a. name) o → o ≡ None
named_none name None e = refl
named_none name (Some a) e = absurd cc

-- ---- one line more

pub counted : (prepared : List Acceptance) (a : SegmentAuditor) (p : Progress) (lines : ℕ) → IsAt prepared a p
    → lines ≡ next_line p → IsAt prepared (record a { lines = lines }) (record p { lines = p.lines + 1 })
counted prepared a p lines at is = record {
  stands = at.stands;
  endless = at.endless;
  plans = at.plans;
  places = at.places;
  lines = is;
  next = at.next;
  sound = at.sound;
}

-- A prepared plan was submitted.
pub submitted_at : (prepared : List Acceptance) (was : SegmentAuditor) (core : Parts) (lines : ℕ) (p : Progress)
    (plan place number : ℕ) (a b : Acceptance) → IsAt prepared was p → slice_get prepared place ≡ Some a
    → TakesPrepared was.core place number b core
    → ((q : Progress) → IsAt prepared (record was { core = core }) q → lines ≡ next_line q)
    → Passes prepared (record was { core = core; lines = lines }) (pass_plan p plan a) (Ok tt)
submitted_at prepared was core lines p plan place number a b at there takes is =
    let same : b ≡ a =
    some_same b a (sym takes.plan ∙ ap (λ ps. slice_get ps place) at.plans ∙ there) in
    let allowed : submit_error p.state a ≡ None =
    ap (submit_error p.state) (sym same) ∙ takes.allowed p.state at.stands in
    let q : Progress = record p { state = after_submit p.state a } in
    let here : IsAt prepared (record was { core = core }) q = record {
      stands = subst (λ d. StandsFor core (after_submit p.state d)) same (takes.stands p.state at.stands);
      endless = λ e. at.endless (sym (ap (λ (f : Parts). f.span) takes.parts) ∙ e);
      plans = ap (λ (f : Parts). f.plans) takes.parts ∙ at.plans;
      places = at.places;
      lines = at.lines;
      next = at.next;
      sound = at.sound;
    } in
    let passes : pass_plan p plan a ≡ Ok (record q { lines = p.lines + 1 }) =
    ap (λ o. must (is_none o) (not_possible p (asked.Submit plan)) >>= λ passed. Ok (record q { lines = p.lines + 1 }))
    allowed in
    subst (λ r. Passes prepared (record was { core = core; lines = lines }) r (Ok tt)) (sym passes)
    (counted prepared (record was { core = core }) q lines here (is q here))

-- The submit of a prepared plan.
pub submit_named : (prepared : List Acceptance) (p : Progress) (plan name : ℕ) (a : Acceptance)
    → plan ≡ length p.state.plans → slice_get prepared name ≡ Some a
    → pass_submit prepared p plan name ≡ pass_plan p plan a
submit_named prepared p plan name a next there =
    ap (λ b. must b (not_possible p (asked.Submit plan)) >>= λ passed.
    ok_or (slice_get prepared name) (NotPrepared (next_line p)) >>= pass_plan p plan)
    (ap (λ k. plan == k) (sym next) ∙ itself plan)
    ∙ ap (λ o. ok_or o (NotPrepared (next_line p)) >>= pass_plan p plan) there

pub submit_unnamed : (prepared : List Acceptance) (p : Progress) (plan name : ℕ) → plan ≡ length p.state.plans
    → slice_get prepared name ≡ None → pass_submit prepared p plan name ≡ Err (NotPrepared (next_line p))
submit_unnamed prepared p plan name next none =
    ap (λ b. must b (not_possible p (asked.Submit plan)) >>= λ passed.
    ok_or (slice_get prepared name) (NotPrepared (next_line p)) >>= pass_plan p plan)
    (ap (λ k. plan == k) (sym next) ∙ itself plan)
    ∙ ap (λ o. ok_or o (NotPrepared (next_line p)) >>= pass_plan p plan) none

-- ---- a move

pub stepped_at : (prepared : List Acceptance) (was : SegmentAuditor) (core : Parts) (p : Progress) (did : Move)
    (reply : Reply)
    → IsAt prepared was p → Moves was.core did reply core
    → IsAt prepared (record was { core = core }) (record p { state = next_of p.state did })
stepped_at prepared was core p did reply at moves =
    let after = moves.stands p.state at.stands in
    let span : core.span ≡ was.core.span =
    after.span ∙ ap (λ (k : Settings). k.span) (settings_stay p.state did) ∙ sym at.stands.span in
    record {
      stands = after;
      endless = λ e. at.endless (sym span ∙ e);
      plans = moves.plans p.state at.stands ∙ at.plans;
      places = at.places;
      lines = at.lines;
      next = at.next;
      sound = at.sound;
    }

tells : (p : Progress) (did : Move) (reply : Reply) (right : Told) → reply ≡ reply_of p.state did
    → Some right ≡ told_reply reply → told_reply (reply_of p.state did) ≡ Some right
tells p did reply right is e = ap told_reply (sym is) ∙ sym e

pub told_other : (prepared : List Acceptance) (a : SegmentAuditor) (p : Progress) (did : Move) (told right : Told)
    (reply : Reply) (line : ℕ) → reply ≡ reply_of p.state did → Some right ≡ told_reply reply
    → same_told told right ≡ false → line ≡ next_line p
    → Passes prepared a (pass_step p did told) (Err (Audit (ReplyDiffers line told right)))
told_other prepared a p did told right reply line is e other number =
    let wrong : pass_step p did told ≡ Err (Audit (ReplyDiffers (next_line p) told right)) =
    ap (λ o. ok_or o (not_possible p (asked.Do did)) >>= pass_told p did told) (tells p did reply right is e)
    ∙ ap (λ b. must b (Audit (ReplyDiffers (next_line p) told right)) >>= λ passed.
    Ok (record p { state = next_of p.state did; lines = p.lines + 1 })) other in
    subst (λ r. Passes prepared a r (Err (Audit (ReplyDiffers line told right)))) (sym wrong)
    (ap (λ n. Audit (ReplyDiffers n told right)) number)

pub told_same : (prepared : List Acceptance) (a : SegmentAuditor) (p : Progress) (did : Move) (told right : Told)
    (reply : Reply) (line : ℕ) → reply ≡ reply_of p.state did → Some right ≡ told_reply reply
    → same_told told right ≡ true → IsAt prepared a (record p { state = next_of p.state did })
    → line ≡ next_line p → Passes prepared (record a { lines = line }) (pass_step p did told) (Ok tt)
told_same prepared a p did told right reply line is e yes_same at number =
    let right_is : pass_step p did told ≡ Ok (record p { state = next_of p.state did; lines = p.lines + 1 }) =
    ap (λ o. ok_or o (not_possible p (asked.Do did)) >>= pass_told p did told) (tells p did reply right is e)
    ∙ ap (λ b. must b (Audit (ReplyDiffers (next_line p) told right)) >>= λ passed.
    Ok (record p { state = next_of p.state did; lines = p.lines + 1 })) yes_same in
    subst (λ r. Passes prepared (record a { lines = line }) r (Ok tt)) (sym right_is)
    (counted prepared a (record p { state = next_of p.state did }) line at number)

-- ---- the end of a text

-- A line's fault is the text's.
pub went_through : (prepared : List Acceptance) (a : SegmentAuditor) (p q : Progress) (text left : List ℕ)
    → length left ≡ 0 → IsAt prepared a q
    → pass_lines prepared p (journal_lines text) ≡ pass_lines prepared q (journal_lines left)
    → Passes prepared a (pass_lines prepared p (journal_lines text)) (Ok tt)
went_through prepared a p q text [] none at e = subst (λ r. Passes prepared a r (Ok tt)) (sym e) at
went_through prepared a p q text (b ∷ bs) none at e = absurd (omega (arith, none))

pub went_short : (prepared : List Acceptance) (a : SegmentAuditor) (p : Progress) (text : List ℕ) (e d : SegmentError)
    → pass_lines prepared p (journal_lines text) ≡ Err e → d ≡ e
    → Passes prepared a (pass_lines prepared p (journal_lines text)) (Err d)
went_short prepared a p text e d wrong same = subst (λ r. Passes prepared a r (Err d)) (sym wrong) same

pub place_here : (places : List ℕ) (plans : List Acceptance) (i d x : ℕ) → places ≡ range_with_len 0 (length plans)
    → i < length places → x ≡ get_or places i d → Some x ≡ option_map (λ a. i) (slice_get plans i)
place_here places plans i d x e low is =
    ap Some is ∙ sym (slice_get-get_or places i d low) ∙ place_of places plans i e

pub place_past : (places : List ℕ) (plans : List Acceptance) (i : ℕ) → places ≡ range_with_len 0 (length plans)
    → length places ≤ i → None ≡ option_map (λ a. i) (slice_get plans i)
place_past places plans i e past = sym (slice_get_past places i past) ∙ place_of places plans i e

-- ---- text after text

lines_both : (prepared : List Acceptance) (q : Progress) (xs ys : List (List ℕ))
    → pass_lines prepared q (xs ++ ys) ≡ (pass_lines prepared q xs >>= λ r. pass_lines prepared r ys)
lines_both prepared q [] ys = refl
lines_both prepared q (x ∷ xs) ys = by (λ r. lines_both prepared r xs ys) (pass_text prepared q x)
  where
    by : ((r : Progress) → pass_lines prepared r (xs ++ ys)
        ≡ (pass_lines prepared r xs >>= λ s. pass_lines prepared s ys))
        → (o : Result Progress SegmentError) → (o >>= λ r. pass_lines prepared r (xs ++ ys))
        ≡ ((o >>= (λ r. pass_lines prepared r xs)) >>= (λ s. pass_lines prepared s ys))
    by more (Ok r) = more r
    by more (Err e) = refl

abbrev pub lines_at : List (List ℕ) → ℕ → List (List ℕ)
lines_at texts i = flat_map journal_lines (drop i texts)

-- A text that is passed leads on.
pub text_on : (prepared : List Acceptance) (a : SegmentAuditor) (q : Progress) (texts : List (List ℕ)) (i n : ℕ)
    (text : List ℕ) → drop i texts ≡ text ∷ drop (i + 1) texts
    → PassesAll prepared a (pass_lines prepared q (journal_lines text)) (Ok n)
    → (r : Progress) × IsAt prepared a r
    × (pass_lines prepared q (lines_at texts i) ≡ pass_lines prepared r (lines_at texts (i + 1)))
text_on prepared a q texts i n text is h =
    by (pass_lines prepared q (journal_lines text)) h
    (ap (λ ts. pass_lines prepared q (flat_map journal_lines ts)) is
    ∙ lines_both prepared q (journal_lines text) (lines_at texts (i + 1)))
  where
    by : (o : Result Progress SegmentError) → PassesAll prepared a o (Ok n)
        → pass_lines prepared q (lines_at texts i) ≡ (o >>= λ r. pass_lines prepared r (lines_at texts (i + 1)))
        → (r : Progress) × IsAt prepared a r
        × (pass_lines prepared q (lines_at texts i) ≡ pass_lines prepared r (lines_at texts (i + 1)))
    by (Ok r) h e = (r, h.0, e)
    by (Err d) h e = absurd h

-- A text with a fault ends the audit.
pub text_stops : (prepared : List Acceptance) (a : SegmentAuditor) (q : Progress) (texts : List (List ℕ)) (i : ℕ)
    (d : SegmentError) (text : List ℕ) → drop i texts ≡ text ∷ drop (i + 1) texts
    → PassesAll prepared a (pass_lines prepared q (journal_lines text)) (Err d)
    → pass_lines prepared q (lines_at texts i) ≡ Err d
text_stops prepared a q texts i d text is h =
    by (pass_lines prepared q (journal_lines text)) h
    (ap (λ ts. pass_lines prepared q (flat_map journal_lines ts)) is
    ∙ lines_both prepared q (journal_lines text) (lines_at texts (i + 1)))
  where
    by : (o : Result Progress SegmentError) → PassesAll prepared a o (Err d)
        → pass_lines prepared q (lines_at texts i) ≡ (o >>= λ r. pass_lines prepared r (lines_at texts (i + 1)))
        → pass_lines prepared q (lines_at texts i) ≡ Err d
    by (Ok r) h e = absurd h
    by (Err x) h e = e ∙ ap (λ y. Err y) (sym h)

-- The text at a place of a list of texts.
pub text_at : (texts : List (Bor (List ℕ))) (i : ℕ) (d : Bor (List ℕ)) → i < length texts
    → drop i (map (λ t. t.now) texts) ≡ (get_or texts i d).now ∷ drop (i + 1) (map (λ t. t.now) texts)
text_at [] i d low = absurd (omega (arith, low))
text_at (t ∷ texts) zero d low = refl
text_at (t ∷ texts) (suc i) d low =
    let next : suc (i + 1) ≡ suc i + 1 = omega arith in
    text_at texts i d (omega (arith, low))
    ∙ ap (λ n. (get_or texts i d).now ∷ drop n (map (λ t. t.now) (t ∷ texts))) next

pub texts_end : (texts : List (Bor (List ℕ))) (i : ℕ) → length texts ≤ i → lines_at (map (λ t. t.now) texts) i ≡ []
texts_end texts i past =
    ap (λ ts. flat_map journal_lines ts) (drop_all i (map (λ t. t.now) texts)
    (omega (arith, past, length-map texts (λ t. t.now))))
