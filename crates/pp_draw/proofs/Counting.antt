-- What is counted of a line, and of the lines behind it.
use Rattle.std.proofs.Common.{◌≡◌, ℕ, ◌+◌, ◌≤◌, Bool, true, false, List, [], ◌∷◌, ◌++◌, Option, Some, None, refl, sym, ap, ◌∙◌}
use Rattle.std.proofs.Common.{append_assoc, append-nil, arith, map, count_by, subst}
use Rattle.std.proofs.lemmas.List.{map-append, length-append, length-map, take-append-drop, get_or_default}
use Rattle.std.proofs.lemmas.List.Sums.{sum_by-cons}
use Rattle.std.proofs.lemmas.List.Edits.{map_over_more}
use Rattle.std.proofs.Common.{◌<◌, length, take, drop, set, get_or, Result, Ok, Err, OnOk}
use Rattle.std.specs.Prelude.{if◌then◌else◌, option_and_then, option_map, ◌==◌}
use Rattle.std.specs.List.{cons_option, filter_map}
use Rattle.std.specs.Option.{option_or}
use Rattle.pp_model.specs.declared.event.Event.{Event}
use Rattle.pp_model.specs.declared.reply.Ending.{Ending}
use Rattle.pp_report.specs.declared.figure.Figure.{Figure}
use Rattle.pp_report.specs.Reports.{counts, taken_in}
use Rattle.pp_draw.specs.declared.tally.Tally.{Tally}
use Rattle.pp_draw.specs.declared.tally.Turn.{Turn}
use Rattle.pp_draw.specs.Counted.{begun_by, begun_in, count_of, end_in, event_in, finish_of, finished_in}
use Rattle.pp_draw.specs.Counted.{total_of, turns_from}
use Rattle.pp_draw.specs.Walks.{after_event, ended_by, opened_by, settled, with_event, Counts}

-- ---- figures

counted_first : {X : Type 0} (p : X → Bool) (x : X) (xs : List X)
    → count_by p (x ∷ xs) ≡ (if p x then 1 else 0) + count_by p xs
counted_first p x xs = sum_by-cons (λ x. if p x then 1 else 0) x xs

counted_alone : {X : Type 0} (p : X → Bool) (x : X) → count_by p (x ∷ []) ≡ (if p x then 1 else 0)
counted_alone p x =
    let first : count_by p (x ∷ []) ≡ (if p x then 1 else 0) + 0 = counted_first p x [] in omega (arith, first)

count_some : {X : Type 0} (p : X → Bool) (o : Option X) (ys : List X)
    → count_by p (cons_option o ys) ≡ count_by p (cons_option o []) + count_by p ys
count_some p None ys = let none : count_by p ys ≡ 0 + count_by p ys = omega (arith) in none
count_some p (Some x) ys = counted_first p x ys ∙ ap (λ n. n + count_by p ys) (sym (counted_alone p x))

-- A line counts beside those behind it, and once at most.
pub count_more : (f : Figure) (text : List ℕ) (after : List (List ℕ))
    → count_of f (text ∷ after) ≡ count_of f (text ∷ []) + count_of f after
count_more f text after = count_some (counts f) (event_in text) (filter_map event_in after)

one_at_most : (b : Bool) → (if b then 1 else 0) ≤ 1
one_at_most true = omega (arith)
one_at_most false = omega (arith)

count_one : {X : Type 0} (p : X → Bool) (o : Option X) → count_by p (cons_option o []) ≤ 1
count_one p None = omega (arith)
count_one p (Some x) = subst (λ (n : ℕ). n ≤ 1) (sym (counted_alone p x)) (one_at_most (p x))

pub once_at_most : (f : Figure) (text : List ℕ) → count_of f (text ∷ []) ≤ 1
once_at_most f text = count_one (counts f) (event_in text)

counted_as : (f : Figure) (e : Event) → (if counts f e then 1 else 0) ≡ count_by (counts f) (cons_option (Some e) [])
counted_as f e = sym (counted_alone (counts f) e)

none_counted : (t : ℕ) → t ≡ t + 0
none_counted t = omega (arith)

-- ---- turns

or_assoc : {X : Type 0} (a b c : Option X) → option_or (option_or a b) c ≡ option_or a (option_or b c)
or_assoc None b c = refl
or_assoc (Some x) b c = refl

or_none : {X : Type 0} (a : Option X) → option_or a None ≡ a
or_none None = refl
or_none (Some x) = refl

-- A turn that the event ended, or not, ends in the lines behind it as it does in all.
settled_after : (n : ℕ) (text : List ℕ) (after : List (List ℕ)) (e : Event) (t : Turn) → event_in text ≡ Some e
    → settled (n + 1) after (after_event n e t) ≡ settled n (text ∷ after) t
unfolding end_in
settled_after n text after e t is =
    ap (λ end. record t { end = end })
    (or_assoc t.end (option_map (λ ending. (n, ending)) (finish_of t.worker e)) (end_in t.worker (n + 1) after)
    ∙ ap (λ o. option_or t.end (option_or (option_map (λ ending. (n, ending)) (option_and_then (finish_of t.worker) o))
    (end_in t.worker (n + 1) after))) (sym is))

all_settled : (n : ℕ) (text : List ℕ) (after : List (List ℕ)) (e : Event) → event_in text ≡ Some e → (ts : List Turn)
    → map (settled (n + 1) after) (map (after_event n e) ts) ≡ map (settled n (text ∷ after)) ts
all_settled n text after e is [] = refl
all_settled n text after e is (t ∷ ts) =
    let first = settled_after n text after e t is in
    let others = all_settled n text after e is ts in cc

opened : (n : ℕ) (after : List (List ℕ)) (o : Option (ℕ × ℕ)) → map (settled (n + 1) after) (opened_by n o) ≡ begun_by n after o
opened n after None = refl
opened n after (Some taken) = refl

begun : (n : ℕ) (text : List ℕ) (after : List (List ℕ)) (e : Event) → event_in text ≡ Some e
    → begun_by n after (taken_in e) ≡ begun_in n text after
begun n text after e is = ap (λ o. begun_by n after (option_and_then taken_in o)) (sym is)

-- What is counted of a line that tells an event.
pub counted : (n : ℕ) (text : List ℕ) (e : Event) (old new : Tally) → event_in text ≡ Some e
    → ((f : Figure) → total_of new.totals f ≡ total_of old.totals f + (if counts f e then 1 else 0))
    → new.turns.items ≡ with_event n e old.turns.items → Counts n text old new
counted n text e old new is totals turns = record {
  totals = λ f.
      totals f ∙ ap (λ k. total_of old.totals f + k)
      (counted_as f e ∙ ap (λ o. count_by (counts f) (cons_option o [])) (sym is));
  turns = λ after.
      ap (map (settled (n + 1) after)) turns
      ∙ map-append (settled (n + 1) after) (map (after_event n e) old.turns.items) (opened_by n (taken_in e))
      ∙ ap (λ ts. ts ++ map (settled (n + 1) after) (opened_by n (taken_in e))) (all_settled n text after e is old.turns.items)
      ∙ ap (λ ts. map (settled n (text ∷ after)) old.turns.items ++ ts)
      (opened n after (taken_in e) ∙ begun n text after e is);
}

passed_by : (n : ℕ) (text : List ℕ) (after : List (List ℕ)) (t : Turn) → event_in text ≡ None
    → settled (n + 1) after t ≡ settled n (text ∷ after) t
unfolding end_in
passed_by n text after t is =
    ap (λ o. record t {
      end = option_or t.end (option_or (option_map (λ ending. (n, ending)) (option_and_then (finish_of t.worker) o))
          (end_in t.worker (n + 1) after));
    }) (sym is)

all_passed_by : (n : ℕ) (text : List ℕ) (after : List (List ℕ)) → event_in text ≡ None → (ts : List Turn)
    → map (settled (n + 1) after) ts ≡ map (settled n (text ∷ after)) ts
all_passed_by n text after is [] = refl
all_passed_by n text after is (t ∷ ts) =
    let first = passed_by n text after t is in let others = all_passed_by n text after is ts in cc

none_begun : (n : ℕ) (text : List ℕ) (after : List (List ℕ)) → event_in text ≡ None → [] ≡ begun_in n text after
none_begun n text after is = ap (λ o. begun_by n after (option_and_then taken_in o)) (sym is)

-- What is counted of a line that tells none.
pub not_counted : (n : ℕ) (text : List ℕ) (t : Tally) → event_in text ≡ None → Counts n text t t
not_counted n text t is = record {
  totals = λ f.
      none_counted (total_of t.totals f)
      ∙ ap (λ o. total_of t.totals f + count_by (counts f) (cons_option o [])) (sym is);
  turns = λ after.
      all_passed_by n text after is t.turns.items ∙ sym (append-nil (map (settled n (text ∷ after)) t.turns.items))
      ∙ ap (λ ts. map (settled n (text ∷ after)) t.turns.items ++ ts) (none_begun n text after is);
}

-- The same where memory may have run out.
pub counted_if : {E : Type 0} (n : ℕ) (text : List ℕ) (e : Event) (old new : Tally) (r : Result (Unit {0}) E)
    → event_in text ≡ Some e
    → ((f : Figure) → total_of new.totals f ≡ total_of old.totals f + (if counts f e then 1 else 0))
    → OnOk r (new.turns.items ≡ with_event n e old.turns.items) → OnOk r (Counts n text old new)
counted_if n text e old new (Ok x) is totals turns = counted n text e old new is totals turns
counted_if n text e old new (Err x) is totals turns = turns

-- ---- one event

abbrev told : (n : ℕ) → Ending → ℕ × Ending
told n ending = (n, ending)

one_ended : (n : ℕ) (ending : Ending) (b : Bool)
    → (if b then Some (told n ending) else None) ≡ option_map (told n) (if b then Some ending else None)
one_ended n ending true = refl
one_ended n ending false = refl

ends_one : (n w : ℕ) (e : Event) (ending : Ending) (t : Turn) → finished_in e ≡ Some (w, ending)
    → ended_by n w ending t ≡ after_event n e t
ends_one n w e ending t is =
    ap (λ end. record t { end = option_or t.end end })
    (one_ended n ending (t.worker == w)
    ∙ ap (λ o. option_map (λ ending. (n, ending)) (option_and_then (λ f. if t.worker == f.0 then Some f.1 else None) o)) (sym is))

pub ends : (n w : ℕ) (e : Event) (ending : Ending) → finished_in e ≡ Some (w, ending) → (ts : List Turn)
    → map (ended_by n w ending) ts ≡ map (after_event n e) ts
ends n w e ending is [] = refl
ends n w e ending is (t ∷ ts) =
    let first = ends_one n w e ending t is in let others = ends n w e ending is ts in cc

stays_one : (n : ℕ) (e : Event) (t : Turn) → finished_in e ≡ None → t ≡ after_event n e t
stays_one n e t is =
    ap (λ end. record t { end = end })
    (sym (or_none t.end)
    ∙ ap (λ o. option_or t.end (option_map (λ ending. (n, ending))
    (option_and_then (λ f. if t.worker == f.0 then Some f.1 else None) o))) (sym is))

pub ends_none : (n : ℕ) (e : Event) → finished_in e ≡ None → (ts : List Turn) → ts ≡ map (after_event n e) ts
ends_none n e is [] = refl
ends_none n e is (t ∷ ts) = let first = stays_one n e t is in let others = ends_none n e is ts in cc

as_long : (f : Turn → Turn) (xs : List Turn) (i : ℕ) → length (map f (take i xs) ++ drop i xs) ≡ length xs
as_long f xs i =
    length-append (map f (take i xs)) (drop i xs) ∙ ap (λ n. n + length (drop i xs)) (length-map (take i xs) f)
    ∙ sym (length-append (take i xs) (drop i xs)) ∙ ap length (take-append-drop i xs)

-- One turn more, where those before have been gone over.
pub ended_one_more : (n w : ℕ) (ending : Ending) (xs ys : List Turn) (i : ℕ) (new d : Turn) → i < length xs
    → ys ≡ map (ended_by n w ending) (take i xs) ++ drop i xs → new ≡ ended_by n w ending (get_or ys i d)
    → set ys i new ≡ map (ended_by n w ending) (take (i + 1) xs) ++ drop (i + 1) xs
ended_one_more n w ending xs ys i new d lt goes is =
    let long = ap length goes ∙ as_long (ended_by n w ending) xs i in
    let within = subst (λ (k : ℕ). i < k) (sym long) lt in
    ap (set ys i) is
    ∙ map_over_more (ended_by n w ending) xs ys i (get_or ys i d) lt goes (get_or_default ys i d (get_or ys i d) within)

-- ---- line by line

-- A line more counts once at most for a figure.
pub fits_more : (f : Figure) (n : ℕ) (text : List ℕ) (old new : Tally) → total_of old.totals f ≤ n → Counts (n + 1) text old new
    → total_of new.totals f ≤ n + 1
fits_more f n text old new few counts =
    let is = counts.totals f in let once = once_at_most f text in omega (arith, is, once)

-- What is counted so far, and what the lines count that are left, are all.
pub total_goes_on : (f : Figure) (n total : ℕ) (text : List ℕ) (after left : List (List ℕ)) (old new : Tally)
    → left ≡ text ∷ after → total_of old.totals f + count_of f left ≡ total → Counts (n + 1) text old new
    → total_of new.totals f + count_of f after ≡ total
total_goes_on f n total text after left old new is goes counts =
    let whole : total_of old.totals f + count_of f (text ∷ after) ≡ total =
    subst (λ (lines : List (List ℕ)). total_of old.totals f + count_of f lines ≡ total) is goes in
    let parts = count_more f text after in
    let more = counts.totals f in omega (arith, whole, parts, more)

pub totals_end : (f : Figure) (t total : ℕ) (left : List (List ℕ)) → left ≡ [] → t + count_of f left ≡ total → t ≡ total
totals_end f t total left none goes =
    none_counted t ∙ subst (λ (lines : List (List ℕ)). t + count_of f lines ≡ total) none goes

-- The turns so far, as they end in the lines that are left, and those that begin there, are all.
pub turns_go_on : (n : ℕ) (text : List ℕ) (after left : List (List ℕ)) (old new : Tally) (all : List Turn)
    → left ≡ text ∷ after → Counts n text old new → map (settled n left) old.turns.items ++ turns_from n left ≡ all
    → map (settled (n + 1) after) new.turns.items ++ turns_from (n + 1) after ≡ all
unfolding turns_from
turns_go_on n text after left old new all is counts goes =
    ap (λ ts. ts ++ turns_from (n + 1) after) (counts.turns after)
    ∙ append_assoc (map (settled n (text ∷ after)) old.turns.items) (begun_in n text after) (turns_from (n + 1) after)
    ∙ subst (λ (lines : List (List ℕ)). map (settled n lines) old.turns.items ++ turns_from n lines ≡ all) is goes

settled_by_none : (n : ℕ) (ts : List Turn) → map (settled n []) ts ≡ ts
unfolding end_in
settled_by_none n [] = refl
settled_by_none n (t ∷ ts) =
    let first : settled n [] t ≡ t = ap (λ end. record t { end = end }) (or_none t.end) in
    let others = settled_by_none n ts in cc

-- Where no line is left, they are all.
pub turns_end : (n : ℕ) (left : List (List ℕ)) (ts all : List Turn) → left ≡ []
    → map (settled n left) ts ++ turns_from n left ≡ all → ts ≡ all
unfolding turns_from
turns_end n left ts all none goes =
    sym (append-nil ts) ∙ ap (λ us. us ++ []) (sym (settled_by_none n ts))
    ∙ subst (λ (lines : List (List ℕ)). map (settled n lines) ts ++ turns_from n lines ≡ all) none goes
