-- Segments as they grow, line by line.
use Rattle.std.proofs.Common.{◌≡◌, ◌∙◌, ℕ, suc, ◌+◌, false, cond, List, [], ◌∷◌, ◌++◌, length, count_by}
use Rattle.std.proofs.Common.{refl, sym, ap, arith, append_assoc, length-append}
use Rattle.std.specs.List.{AllByRecursion}
use Rattle.std.proofs.lemmas.List.{append-nil}
use Rattle.std.proofs.lemmas.List.Sums.{sum_by-cons, sum_by-append}
use Rattle.pp_model.specs.declared.event.Event.{Event}
use Rattle.pp_model.specs.declared.event.Event.TheVariants as event
use Rattle.pp_report.specs.declared.line.Told.TheVariants.{Answer}
use Rattle.pp_segments.specs.declared.line.SegmentLine.TheVariants.{Head, Submit, Step}
use Rattle.pp_segments.specs.Segments.{ToldSegment, is_submit, IsNamed, all_events, all_names, event_lines}
use Rattle.pp_segments.specs.Segments.{segment_lines}
use Rattle.pp_segments.specs.Segments.{lines_from}

-- ---- submits

abbrev pub submits : List Event → ℕ
submits es = count_by is_submit es

pub count_submit : (k : ℕ) (es : List Event) → submits (event.Submit k ∷ es) ≡ 1 + submits es
count_submit k es = sum_by-cons (λ e. cond (is_submit e) 1 0) (event.Submit k) es

pub count_step : (e : Event) (es : List Event) → is_submit e ≡ false → submits (e ∷ es) ≡ 0 + submits es
count_step e es other =
    sum_by-cons (λ e. cond (is_submit e) 1 0) e es ∙ ap (λ b. cond b 1 0 + submits es) other

count_both : (es fs : List Event) → submits (es ++ fs) ≡ submits es + submits fs
count_both es fs = sum_by-append (λ e. cond (is_submit e) 1 0) es fs

-- ---- lines of events

lines_both : (es fs : List Event) (ns ms : List ℕ) → length ns ≡ submits es
    → event_lines (es ++ fs) (ns ++ ms) ≡ event_lines es ns ++ event_lines fs ms
lines_both [] fs [] ms h = refl
lines_both [] fs (n ∷ ns) ms h = absurd (omega (arith, h))
lines_both (event.Submit k ∷ es) fs [] ms h = absurd (omega (arith, h, count_submit k es))
lines_both (event.Submit k ∷ es) fs (n ∷ ns) ms h =
    ap (λ ls. Submit k n ∷ ls) (lines_both es fs ns ms (omega (arith, h, count_submit k es)))
lines_both (event.Step m r ∷ es) fs ns ms h =
    ap (λ ls. Step m (Answer r) ∷ ls) (lines_both es fs ns ms (omega (arith, h, count_step (event.Step m r) es refl)))

-- ---- the last segment grows

-- These segments, with more at the end of the last one.
abbrev pub extended : ToldSegment → List ToldSegment → List Event → List ℕ → List ToldSegment
extended x [] es ns = record { events = x.events ++ es; prepared = x.prepared ++ ns } ∷ []
extended x (y ∷ xs) es ns = x ∷ extended y xs es ns

pub lines_more : (n k : ℕ) (x : ToldSegment) (xs : List ToldSegment) (es : List Event) (ns : List ℕ)
    → AllByRecursion IsNamed (x ∷ xs)
    → lines_from n k (extended x xs es ns) ≡ lines_from n k (x ∷ xs) ++ event_lines es ns
lines_more n k x [] es ns h =
    append-nil (Head n k ∷ event_lines (x.events ++ es) (x.prepared ++ ns))
    ∙ ap (λ ls. Head n k ∷ ls) (lines_both x.events es x.prepared ns h.0)
    ∙ ap (λ ls. ls ++ event_lines es ns) (sym (append-nil (segment_lines n k x)))
lines_more n k x (y ∷ xs) es ns h =
    ap (λ ls. segment_lines n k x ++ ls) (lines_more (n + 1) (k + length x.prepared) y xs es ns h.1)
    ∙ sym (append_assoc (segment_lines n k x) (lines_from (n + 1) (k + length x.prepared) (y ∷ xs)) (event_lines es ns))

pub events_more : (x : ToldSegment) (xs : List ToldSegment) (es : List Event) (ns : List ℕ)
    → all_events (extended x xs es ns) ≡ all_events (x ∷ xs) ++ es
events_more x [] es ns = append-nil (x.events ++ es) ∙ ap (λ fs. fs ++ es) (sym (append-nil x.events))
events_more x (y ∷ xs) es ns =
    ap (λ fs. x.events ++ fs) (events_more y xs es ns) ∙ sym (append_assoc x.events (all_events (y ∷ xs)) es)

pub names_more : (x : ToldSegment) (xs : List ToldSegment) (es : List Event) (ns : List ℕ)
    → all_names (extended x xs es ns) ≡ all_names (x ∷ xs) ++ ns
names_more x [] es ns = append-nil (x.prepared ++ ns) ∙ ap (λ ms. ms ++ ns) (sym (append-nil x.prepared))
names_more x (y ∷ xs) es ns =
    ap (λ ms. x.prepared ++ ms) (names_more y xs es ns) ∙ sym (append_assoc x.prepared (all_names (y ∷ xs)) ns)

pub length_more : (x : ToldSegment) (xs : List ToldSegment) (es : List Event) (ns : List ℕ)
    → length (extended x xs es ns) ≡ length (x ∷ xs)
length_more x [] es ns = refl
length_more x (y ∷ xs) es ns = ap suc (length_more y xs es ns)

pub named_more : (x : ToldSegment) (xs : List ToldSegment) (es : List Event) (ns : List ℕ)
    → AllByRecursion IsNamed (x ∷ xs) → length ns ≡ submits es → AllByRecursion IsNamed (extended x xs es ns)
named_more x [] es ns h e =
    (omega (arith, h.0, e, length-append x.prepared ns, count_both x.events es), tt)
named_more x (y ∷ xs) es ns h e = (h.0, named_more y xs es ns h.1 e)

-- ---- a new segment

abbrev pub empty : ToldSegment
empty = record { events = []; prepared = [] }

pub lines_new : (n k : ℕ) (xs : List ToldSegment)
    → lines_from n k (xs ++ (empty ∷ []))
    ≡ lines_from n k xs ++ (Head (n + length xs) (k + length (all_names xs)) ∷ [])
lines_new n k [] =
    let a : n ≡ n + 0 = omega arith in
    let b : k ≡ k + 0 = omega arith in
    λ i. Head (a i) (b i) ∷ []
lines_new n k (x ∷ xs) =
    let a : n + 1 + length xs ≡ n + suc (length xs) = omega arith in
    let b : k + length x.prepared + length (all_names xs) ≡ k + length (x.prepared ++ all_names xs) =
    omega (arith, length-append x.prepared (all_names xs)) in
    ap (λ ls. segment_lines n k x ++ ls)
    (lines_new (n + 1) (k + length x.prepared) xs
    ∙ (λ i. lines_from (n + 1) (k + length x.prepared) xs ++ (Head (a i) (b i) ∷ [])))
    ∙ sym (append_assoc (segment_lines n k x) (lines_from (n + 1) (k + length x.prepared) xs)
    (Head (n + suc (length xs)) (k + length (x.prepared ++ all_names xs)) ∷ []))

pub events_new : (xs : List ToldSegment) → all_events (xs ++ (empty ∷ [])) ≡ all_events xs
events_new [] = refl
events_new (x ∷ xs) = ap (λ es. x.events ++ es) (events_new xs)

pub names_new : (xs : List ToldSegment) → all_names (xs ++ (empty ∷ [])) ≡ all_names xs
names_new [] = refl
names_new (x ∷ xs) = ap (λ ns. x.prepared ++ ns) (names_new xs)

pub named_new : (xs : List ToldSegment) → AllByRecursion IsNamed xs → AllByRecursion IsNamed (xs ++ (empty ∷ []))
named_new [] h = (refl, tt)
named_new (x ∷ xs) h = (h.0, named_new xs h.1)
