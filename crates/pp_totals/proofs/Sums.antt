-- What is counted of two lists of events is what is counted of both.
use Rattle.std.proofs.Common.{◌≡◌, ◌∙◌, ℕ, ◌+◌, ◌^◌, ◌<◌, ◌≤◌, cond, Bool, true, false, List, [], ◌∷◌, ◌++◌}
use Rattle.std.proofs.Common.{length, take, count_by, slice_index_or, refl, sym, ap, subst, arith}
use Rattle.std.specs.Int.{from_bool}
use Rattle.std.proofs.Math.Nat.{min-eq_left}
use Rattle.std.proofs.lemmas.List.{take_more, length-take}
use Rattle.std.proofs.lemmas.List.Sums.{sum_by-cons, sum_by-append, count_by-le-length}
use Rattle.pp_model.specs.declared.event.Event.{Event}
use Rattle.pp_model.specs.declared.event.Event.TheVariants.{Submit, Step}
use Rattle.pp_model.specs.Segments.{Segment, all_events}
use Rattle.pp_report.specs.declared.figure.Figure.TheVariants as figure
use Rattle.pp_report.specs.Reports.{counts}
use Rattle.pp_totals.specs.declared.totals.Totals.{Totals}
use Rattle.pp_totals.specs.Counting.{is_submit, is_take, is_done, is_gone, totals_of, plus, capped, capped_sum}
use Rattle.pp_totals.specs.Complete.{segment_totals}

-- ---- one event

pub count_one : (P : Event → Bool) (e : Event) → count_by P (e ∷ []) ≡ cond (P e) 1 0
count_one P e = omega (arith, sum_by-cons (λ x. cond (P x) 1 0) e [])

as_number : (b : Bool) → ◌≡◌ {A = ℕ} (from_bool b) (cond b 1 0)
as_number true = refl
as_number false = refl

-- What was tested of an event, as a number, is what is counted of it.
pub one : (P : Event → Bool) (e : Event) (b : Bool) (n : ℕ) → b ≡ P e → n ≡ from_bool b → n ≡ count_by P (e ∷ [])
one P e b n test is = is ∙ as_number b ∙ ap {B = ℕ} (λ t. cond t 1 0) test ∙ sym (count_one P e)

-- ---- two lists

both : (P : Event → Bool) (es fs : List Event) → count_by P (es ++ fs) ≡ count_by P es + count_by P fs
both P es fs = sum_by-append (λ e. cond (P e) 1 0) es fs

pub add_up : (es fs : List Event) → totals_of (es ++ fs) ≡ plus (totals_of es) (totals_of fs)
add_up es fs =
    λ i. record {
      submitted = both is_submit es fs i;
      taken = both is_take es fs i;
      done = both is_done es fs i;
      gone = both is_gone es fs i;
      moves = both (counts figure.Moves) es fs i;
      hits = both (counts figure.Hits) es fs i;
      loads = both (counts figure.Loads) es fs i;
      read_faults = both (counts figure.ReadFaults) es fs i;
      misreads = both (counts figure.Misreads) es fs i;
      write_backs = both (counts figure.WriteBacks) es fs i;
      write_faults = both (counts figure.WriteFaults) es fs i;
      flushes = both (counts figure.Flushes) es fs i;
    }

pub segments_add_up : (xs : List Segment) → totals_of (all_events xs) ≡ segment_totals xs
segments_add_up [] = refl
segments_add_up (x ∷ xs) = add_up x.events (all_events xs) ∙ ap (plus (totals_of x.events)) (segments_add_up xs)

-- ---- in 64 bits

small : (n : ℕ) → n < 2 ^ 64 → capped n ≡ n
small n below = min-eq_left (omega (arith, below))

-- No sum of what is counted of fewer than 2^64 events is capped.
both_small : (P : Event → Bool) (es fs : List Event) → length (es ++ fs) < 2 ^ 64
    → capped (count_by P es + count_by P fs) ≡ count_by P (es ++ fs)
both_small P es fs short =
    let whole = both P es fs in
    small (count_by P es + count_by P fs) (omega (arith, whole, count_by-le-length P (es ++ fs), short)) ∙ sym whole

pub exact : (es fs : List Event) → length (es ++ fs) < 2 ^ 64
    → capped_sum (totals_of es) (totals_of fs) ≡ totals_of (es ++ fs)
exact es fs short =
    λ i. record {
      submitted = both_small is_submit es fs short i;
      taken = both_small is_take es fs short i;
      done = both_small is_done es fs short i;
      gone = both_small is_gone es fs short i;
      moves = both_small (counts figure.Moves) es fs short i;
      hits = both_small (counts figure.Hits) es fs short i;
      loads = both_small (counts figure.Loads) es fs short i;
      read_faults = both_small (counts figure.ReadFaults) es fs short i;
      misreads = both_small (counts figure.Misreads) es fs short i;
      write_backs = both_small (counts figure.WriteBacks) es fs short i;
      write_faults = both_small (counts figure.WriteFaults) es fs short i;
      flushes = both_small (counts figure.Flushes) es fs short i;
    }

-- With the event at this place the totals are those of one event more.
pub one_more : (es : List Event) (i : ℕ) (e : Event) (now single next : Totals) → i < length es → length es < 2 ^ 64
    → e ≡ slice_index_or es i e → now ≡ totals_of (take i es) → single ≡ totals_of (e ∷ [])
    → next ≡ capped_sum now single → next ≡ totals_of (take (i + 1) es)
one_more es i e now single next here short is so_far alone added =
    let grown : take (i + 1) es ≡ take i es ++ e ∷ [] =
    take_more es i e here ∙ ap (λ x. take i es ++ x ∷ []) (sym is) in
    let few : length (take i es ++ e ∷ []) < 2 ^ 64 =
    subst (λ xs. length xs < 2 ^ 64) grown (omega (arith, fewer (i + 1) es, short)) in
    added ∙ (λ j. capped_sum (so_far j) (alone j)) ∙ exact (take i es) (e ∷ []) few ∙ ap totals_of (sym grown)
  where
    fewer : (k : ℕ) (xs : List Event) → length (take k xs) ≤ length xs
    fewer k xs = omega (arith, length-take k xs)

-- ---- each event

split : (e : Event) → ◌≡◌ {A = ℕ} (cond (counts figure.Moves e) 1 0 + cond (is_submit e) 1 0) 1
split (Submit plan) = refl
split (Step did reply) = refl

pub each_counted : (es : List Event) → count_by (counts figure.Moves) es + count_by is_submit es ≡ length es
each_counted [] = refl
each_counted (e ∷ es) =
    omega (
      arith,
      sum_by-cons (λ x. cond (counts figure.Moves x) 1 0) e es,
      sum_by-cons (λ x. cond (is_submit x) 1 0) e es,
      split e,
      each_counted es,
    )
