-- A pool that is ready for a run.
use Rattle.std.proofs.Common.{◌<◌, ◌&&◌, false, ◌≡◌, ◌≢◌, ◌∙◌, ◌≤◌, ◌+◌, ◌*◌, ℕ, zero, suc, true, List, [], length, take, drop, refl, ap, subst, arith}
use Rattle.std.specs.Prelude.{Bool, None, Some, IsOk, if◌then◌else◌, replicate, sum_by}
use Rattle.std.specs.List.{list_all}
use Rattle.std.proofs.lemmas.List.{get_or-replicate, length-replicate}
use Rattle.std.proofs.lemmas.List.Sums.{sum_by-cons}
use Rattle.pp_settings.specs.Layout.{page_count}
use Rattle.pp_settings.specs.declared.span.Span.TheVariants.{Bounded}
use Rattle.pp_cert.specs.Accepted.{Acceptance}
use Rattle.pp_frames.specs.Least.{least_below, or_next}
use Rattle.pp_frames.specs.Marks.{has_reached}
use Rattle.pp_model.specs.Pool.{State, Settings, Note, untouched, opening, known_mark}
use Rattle.pp_model.specs.Budget.{bound, left_to}
use Rattle.pp_settings.specs.Limits.{mark_limit}
use Rattle.pp_model.specs.Renewing.{renew_error, renew_error_where, first_high_page}
use Rattle.pp_model.specs.Turns.{is_idle}
use Rattle.pp_model.specs.Submitting.{after_submits}
use Rattle.pp_outset.specs.Outsets.{Outset, opens_with}
use Rattle.pp_pool.specs.Books.{IsBook}
use Rattle.pp_pool.specs.Parts.{Parts, settings_of, plans_of, opening_of, state_of}
use Rattle.pp_pool.specs.Renewals.{IsRenewCause, HasLifeRoom}
use Rattle.pp_pool.specs.declared.error.BookRenewError.{BookRenewError}
use Rattle.pp_pool.specs.declared.error.BookRenewError.TheVariants.{OutOfMemory, Refused}
use Rattle.pp_run.specs.declared.error.RunError.{RunError}
use Rattle.pp_run.specs.declared.stalled.Stalled.{Stalled}
use Rattle.pp_run.specs.declared.error.RunError.TheVariants as run_errors
use Rattle.pp_report.specs.Reports.{is_move}
use Rattle.pp_run.specs.Planned.{HasPlanned, HasRoomFor}
use Rattle.pp_run.specs.Joins.{IsAnswer}
use Rattle.pp_run.specs.Runs.{submits, IsRunError, IsRunErrorFrom}
use Rattle.pp_run.specs.RunErrors.{unrenewed_by}
use Rattle.pp_run.specs.Unrun.{IsNotBegun, IsStopped, IsUnready, MayNotBegin}
use Rattle.pp_run.proofs.Ran.{opened_as}
use Rattle.pp_run.proofs.Rests.{at_begin}

-- ---- the bound of an opening state

idle_left : (n : ℕ) → sum_by left_to (replicate n None) ≡ 0
idle_left zero = refl
idle_left (suc n) = omega (arith, sum_by-cons left_to None (replicate n None), idle_left n)

pub opening_bound : (k : Settings) (o : Outset) → bound (opens_with k o) ≡ 2 * k.flushes
opening_bound k o = omega (arith, idle_left k.workers)

-- A book in whose life nothing was done has room for its flushes, and one whose journal is long enough has room for more.
pub fresh_room : (b : Parts) → IsBook b → b.journal ≡ [] → HasLifeRoom b b.capacity
fresh_room b book none =
    let here = ap bound (at_begin b none) ∙ opening_bound (settings_of b) b.began in
    let room = book.room in omega (arith, here, room)

pub has_room : (b : Parts) (more room : ℕ) → b.journal ≡ [] → room ≡ 2 * b.flushes + more → room ≤ b.capacity
    → HasRoomFor b more
has_room b more room none is enough =
    let here = ap bound (at_begin b none) ∙ opening_bound (settings_of b) b.began in
    let short = ap length none in omega (arith, here, short, is, enough)

-- ---- a pool that can't be renewed

pub unready : (b : Parts) (capacity flusher : ℕ) (e : BookRenewError) → flusher ≡ b.workers → IsRenewCause b capacity e
    → HasLifeRoom b capacity → IsUnready b (unrenewed_by flusher e)
unready b capacity flusher OutOfMemory is lacks has = absurd (omega (arith, lacks, has))
unready b capacity flusher (Refused error) is cause has = (is, λ none. (let h = cause in cc))

-- ---- what is looked at

-- To an opening state no plan was submitted, and its journal needs room for the flushes.
pub none_planned : (k : Settings) (o : Outset) → k.span ≡ Bounded
    → HasPlanned k.layout 0 (2 * k.flushes) (opens_with k o)
none_planned k o bounded = record { layout = refl; span = bounded; plans = refl; events = omega arith }

-- An error of a book that isn't ready is one for which no life begins.
pub may_not_begin : (o : State) (b : Parts) (error : RunError) → state_of b ≡ o → b.workers ≡ o.settings.workers
    → IsUnready b error → MayNotBegin o error
may_not_begin o b (run_errors.Broken w) same workers h = (h.0 ∙ workers, subst (λ s. renew_error s ≢ None) same h.1)
may_not_begin o b (run_errors.Refused error) same workers h = absurd h
may_not_begin o b run_errors.OutOfMemory same workers h = absurd h
may_not_begin o b (run_errors.Mismatch w) same workers h = absurd h
may_not_begin o b (run_errors.NoThread w) same workers h = absurd h

-- Where all plans are taken in, no run of them is begun then.
pub not_begun : (o : State) (plans : List Acceptance) (error : RunError) → IsOk (after_submits o plans) → MayNotBegin o error
    → IsNotBegun o plans error
not_begun o plans (run_errors.Broken w) taken h = (h.0, h.1, taken)
not_begun o plans (run_errors.Refused error) taken h = absurd h
not_begun o plans run_errors.OutOfMemory taken h = taken
not_begun o plans (run_errors.Mismatch w) taken h = absurd h
not_begun o plans (run_errors.NoThread w) taken h = absurd h

-- ---- a run that stopped

-- What is taken in from the state of a book in whose life nothing was done is so from its life's opening state.
pub taken_at_begin : (b : Parts) (plans : List Acceptance) → b.journal ≡ [] → IsOk (after_submits (state_of b) plans)
    → IsOk (after_submits (opening_of b) plans)
taken_at_begin b plans none taken = subst (λ s. IsOk (after_submits s plans)) (at_begin b none) taken

pub stopped : (b : Parts) (bytes from : ℕ) (s : Stalled) (plans : List Acceptance) → settings_of s.book ≡ settings_of b
    → s.book.began ≡ b.began → plans_of s.book ≡ plans → take (length plans) s.book.journal ≡ submits 0 (length plans)
    → list_all is_move (drop (length plans) s.book.journal) ≡ true → s.layout ≡ (settings_of b).layout → s.page_bytes ≡ bytes
    → s.from ≡ from → IsStopped (opening_of b) bytes from plans s
stopped b bytes from s plans settings began planned first moves layout page_bytes sought = record {
  opened = opened_as (settings_of b) b.began s.book settings began;
  planned = planned;
  submits_first = first;
  then_moves = moves;
  layout = layout;
  page_bytes = page_bytes;
  from = sought;
}

-- ---- a new pool

least_none : (test : ℕ → Bool) (n : ℕ) → ((i : ℕ) → i < n → test i ≡ false) → least_below test n ≡ None
least_none test zero fails = refl
least_none test (suc n) fails =
    ap (or_next test n) (least_none test n (λ i low. fails i (omega arith)))
    ∙ ap (λ (b : Bool). if b then Some n else None) (fails n (omega arith))

all_idle : (n : ℕ) → list_all is_idle (replicate n None) ≡ true
all_idle zero = refl
all_idle (suc n) = all_idle n

-- No mark is known of a new pool, so its first life can begin.
new_is_low : (k : Settings) → first_high_page (opening k) ≡ None
new_is_low k =
    let n = page_count k.layout in
    least_none (λ page. has_reached mark_limit (known_mark (opening k) page)) (length (replicate n untouched))
    (λ i low. ap (λ (note : Note). has_reached mark_limit note.mark)
    (get_or-replicate n i untouched untouched (let long = length-replicate n untouched in omega (arith, low, long))))

pub new_renews : (k : Settings) → renew_error (opening k) ≡ None
new_renews k =
    ap (λ (b : Bool). renew_error_where ((true && b) && true) (first_high_page (opening k))) (all_idle k.workers)
    ∙ ap (renew_error_where true) (new_is_low k)

-- So an error for which its run isn't begun is one of the run, and no verdict is wanted.
pub unbegun_new : (k : Settings) (plans : List Acceptance) (error : RunError) → IsNotBegun (opening k) plans error
    → IsRunError k plans error
unbegun_new k plans (run_errors.Broken w) h = absurd (h.1 (new_renews k))
unbegun_new k plans (run_errors.Refused error) h = h
unbegun_new k plans run_errors.OutOfMemory h = tt
unbegun_new k plans (run_errors.Mismatch w) h = absurd h
unbegun_new k plans (run_errors.NoThread w) h = absurd h

pub unbegun_answer : {D : Type 0} (calls failures : D → ℕ) (k : Settings) (plans : List Acceptance) (devices : List D)
    (error : RunError) → IsNotBegun (opening k) plans error → IsAnswer calls failures k plans devices error
unbegun_answer calls failures k plans devices (run_errors.Broken w) h = absurd (h.1 (new_renews k))
unbegun_answer calls failures k plans devices (run_errors.Refused error) h = tt
unbegun_answer calls failures k plans devices run_errors.OutOfMemory h = tt
unbegun_answer calls failures k plans devices (run_errors.Mismatch w) h = absurd h
unbegun_answer calls failures k plans devices (run_errors.NoThread w) h = absurd h

-- ---- a kept pool

-- An error for which no run is begun is one of the run.
pub unbegun_kept : (o : State) (plans : List Acceptance) (error : RunError) → IsNotBegun o plans error
    → IsRunErrorFrom o plans error
unbegun_kept o plans (run_errors.Broken w) h =
    let same = h.0 in record { taken = h.2; within = omega (arith, same) }
unbegun_kept o plans (run_errors.Refused error) h = h
unbegun_kept o plans run_errors.OutOfMemory h = tt
unbegun_kept o plans (run_errors.Mismatch w) h = absurd h
unbegun_kept o plans (run_errors.NoThread w) h = absurd h
