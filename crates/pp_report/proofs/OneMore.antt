-- What one event more tells of a worker's turn.
use Rattle.std.proofs.Common.{◌≡◌, refl, sym, ap, ◌∙◌, ℕ, suc, ◌+◌, ◌<◌, ◌≤◌, Bool, true, false, not, cond}
use Rattle.std.proofs.Common.{Option, None, Some, List, [], ◌∷◌, length, take, drop, map, flat_map, ◌++◌, count_by, slice_index_or, arith}
use Rattle.std.specs.Prelude.{option_and_then}
use Rattle.std.specs.Int.{from_bool}
use Rattle.std.specs.List.{prefix_len, range_with_len}
use Rattle.std.specs.Option.{option_or}
use Rattle.std.proofs.lemmas.List.{drop_more, ext_get_or}
use Rattle.std.proofs.Math.Seq.{take-append_seam}
use Rattle.std.proofs.lemmas.List.Folds.{flat_map-map}
use Rattle.std.proofs.lemmas.List.Sums.{sum_by-cons}
use Rattle.std.proofs.lemmas.List.FromFn.{get_or-map-range_with_len, length-map-range_with_len}
use Rattle.pp_model.specs.declared.event.Event.{Event}
use Rattle.pp_model.specs.WorkerParts.{names_worker, part_of}
use Rattle.pp_report.specs.declared.row.Row.{Row}
use Rattle.pp_report.specs.Reports.{is_turn_end, turn_of, ending_of, ending_in, row_after, row_of, taker, row_line, plan_lines}

-- An event of others is passed over.
pub passed_over : (w : ℕ) (e : Event) (es : List Event) → names_worker w e ≡ false
    → (turn_of w (e ∷ es) ≡ turn_of w es) × (ending_of w (e ∷ es) ≡ ending_of w es)
passed_over w e es n = rw n (refl, refl)

-- At its take or finish the turn is over.
pub over : (w : ℕ) (e : Event) (es : List Event) → names_worker w e ≡ true → is_turn_end e ≡ true
    → (turn_of w (e ∷ es) ≡ []) × (ending_of w (e ∷ es) ≡ ending_in e)
over w e es n t = rw (n, t) (refl, refl)

one_more : (e : Event) (es : List Event) (n : ℕ) → take (1 + n) (e ∷ es) ≡ e ∷ take n es
one_more e es n = let one : 1 + n ≡ suc n = omega arith in ap (λ k. take k (e ∷ es)) one

-- Any other event of it belongs to the turn.
pub goes_on : (w : ℕ) (e : Event) (es : List Event) → names_worker w e ≡ true → is_turn_end e ≡ false
    → (turn_of w (e ∷ es) ≡ e ∷ turn_of w es) × (ending_of w (e ∷ es) ≡ ending_of w es)
goes_on w e es n t = rw (n, t) (one_more e (part_of w es) (prefix_len (λ x. not (is_turn_end x)) (part_of w es)), refl)

-- What is counted of the turn up to here and of the event makes what is counted up to behind it.
pub counted : (P : Event → Bool) (w : ℕ) (es : List Event) (i : ℕ) (d : Event) (total n m : ℕ) (b : Bool) → i < length es
    → names_worker w (slice_index_or es i d) ≡ true → is_turn_end (slice_index_or es i d) ≡ false
    → b ≡ P (slice_index_or es i d) → m ≡ from_bool b
    → total ≡ n + count_by P (turn_of w (drop i es)) → total ≡ n + m + count_by P (turn_of w (drop (i + 1) es))
counted P w es i d total n m b here names goes told one so_far =
    let e = slice_index_or es i d in
    let rest = turn_of w (drop (i + 1) es) in
    let all : count_by P (turn_of w (drop i es)) ≡ cond b 1 0 + count_by P rest =
    ap (λ xs. count_by P (turn_of w xs)) (drop_more es i d here)
    ∙ ap (λ xs. count_by P xs) (goes_on w e (drop (i + 1) es) names goes).0
    ∙ sum_by-cons (λ x. cond (P x) 1 0) e rest ∙ ap (λ t. cond t 1 0 + count_by P rest) (sym told) in
    add b m n total (count_by P (turn_of w (drop i es))) (count_by P rest) one so_far all
  where
    add : (b : Bool) (m n total now rest : ℕ) → m ≡ from_bool b → total ≡ n + now → now ≡ cond b 1 0 + rest
        → total ≡ n + m + rest
    add true m n total now rest one so_far all = omega (arith, one, so_far, all)
    add false m n total now rest one so_far all = omega (arith, one, so_far, all)

-- So few are counted.
pub few_more : (b : Bool) (m n i : ℕ) → m ≡ from_bool b → n ≤ i → n + m ≤ i + 1
few_more true m n i one few = omega (arith, one, few)
few_more false m n i one few = omega (arith, one, few)

-- The turn ends as before.
pub ends_so : (w : ℕ) (es : List Event) (i : ℕ) (d : Event) → i < length es
    → names_worker w (slice_index_or es i d) ≡ true → is_turn_end (slice_index_or es i d) ≡ false
    → ending_of w (drop i es) ≡ ending_of w (drop (i + 1) es)
ends_so w es i d here names goes =
    ap (ending_of w) (drop_more es i d here) ∙ (goes_on w (slice_index_or es i d) (drop (i + 1) es) names goes).1

-- ---- a plan's row

or_none : (o : Option Row) → option_or o None ≡ o
or_none None = refl
or_none (Some r) = refl

-- What is had first of three is the same whichever two are asked first.
or_first : (a b c : Option Row) → option_or a (option_or b c) ≡ option_or (option_or a b) c
or_first (Some r) b c = refl
or_first None b c = refl

-- With the event at this place noted, each plan has its row by what was noted and the events after it.
one_noted : (k : ℕ) (es : List Event) (i : ℕ) (d event : Event) (was now : Option Row) → i < length es
    → slice_index_or es i d ≡ event → row_of k es ≡ option_or was (row_of k (drop i es))
    → now ≡ option_or was (option_and_then (λ worker. row_after k worker (drop (i + 1) es)) (taker k event))
    → row_of k es ≡ option_or now (row_of k (drop (i + 1) es))
one_noted k es i d event was now here is so_far noted =
    let rest = drop (i + 1) es in
    let first = λ (e : Event). option_and_then (λ worker. row_after k worker rest) (taker k e) in
    so_far
    ∙ ap (λ xs. option_or was (row_of k xs)) (drop_more es i d here)
    ∙ ap (λ e. option_or was (option_or (first e) (row_of k rest))) is
    ∙ or_first was (first event) (row_of k rest)
    ∙ ap (λ o. option_or o (row_of k rest)) (sym noted)

-- What stands in a list of this length once as many rows are put in the place of its own.
pub replaced : (rows new : List (Option Row)) (len : ℕ) → length new ≡ len → take len (new ++ drop (length new) rows) ≡ new
replaced rows new len whole =
    ap (λ (n : ℕ). take n (new ++ drop (length new) rows)) (sym whole) ∙ take-append_seam new (drop (length new) rows)

-- So it is of all rows at once.
pub each_noted : (plans : ℕ) (es : List Event) (i : ℕ) (event : Event) (rows old new now : List (Option Row)) → i < length es
    → event ≡ slice_index_or es i event → old ≡ rows → now ≡ new → length rows ≡ plans
    → ((k : ℕ) → k < length old
    → slice_index_or new k None
    ≡ option_or (slice_index_or old k None)
    (option_and_then (λ worker. row_after k worker (drop (i + 1) es)) (taker k event)))
    → ((k : ℕ) → k < plans → row_of k es ≡ option_or (slice_index_or rows k None) (row_of k (drop i es)))
    → (k : ℕ) → k < plans → row_of k es ≡ option_or (slice_index_or now k None) (row_of k (drop (i + 1) es))
each_noted plans es i event rows old new now here is same stands each noted so_far k below =
    one_noted k es i event event (slice_index_or old k None) (slice_index_or new k None) here (sym is)
    (so_far k below
    ∙ ap (λ (xs : List (Option Row)). option_or (slice_index_or xs k None) (row_of k (drop i es))) (sym same))
    (noted k (omega (arith, below, each, ap length same)))
    ∙ ap (λ (xs : List (Option Row)). option_or (slice_index_or xs k None) (row_of k (drop (i + 1) es))) (sym stands)

-- Once all events were noted, each plan has its row.
pub all_noted : (es left : List Event) (plans : ℕ) (rows : List (Option Row)) → length left ≡ 0 → length rows ≡ plans
    → ((k : ℕ) → k < plans → row_of k es ≡ option_or (slice_index_or rows k None) (row_of k left))
    → rows ≡ map (λ k. row_of k es) (range_with_len 0 plans)
all_noted es [] plans rows none each noted =
    ext_get_or None rows _ (each ∙ sym (length-map-range_with_len (λ k. row_of k es) 0 plans))
    (λ i h. let below : i < plans = omega (arith, each, h) in
    sym (or_none (slice_index_or rows i None)) ∙ sym (noted i below)
    ∙ sym (get_or-map-range_with_len (λ k. row_of k es) 0 plans i i None below (omega arith)))
all_noted es (e ∷ left) plans rows none each noted = absurd (omega (arith, none))

-- The columns' names, the rows and the figures, one behind the other.
pub together : (named rowed whole names : List ℕ) (rows : List (Option Row)) (plans : ℕ) (es : List Event) (figured : List ℕ)
    → named ≡ names → rows ≡ map (λ k. row_of k es) (range_with_len 0 plans) → rowed ≡ named ++ flat_map row_line rows
    → whole ≡ rowed ++ figured → whole ≡ names ++ plan_lines plans es ++ figured
together named rowed whole names rows plans es figured first each then_rows then_figures =
    then_figures
    ∙ ap (λ xs. xs ++ figured)
    (then_rows ∙ (λ i. first i ++ flat_map row_line (each i))
    ∙ ap (λ xs. names ++ xs) (flat_map-map row_line (λ k. row_of k es) (range_with_len 0 plans)))
