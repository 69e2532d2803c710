-- A run answers the verdict on what its threads gave back.
use Rattle.std.proofs.Common.{◌≡◌, ◌≢◌, ◌∙◌, ℕ, ◌+◌, ◌≤◌, true, List, [], ◌∷◌, ◌++◌, length, take, drop, get_or, sym, ap, subst, inl, inr, arith}
use Rattle.std.specs.Prelude.{◌⊎◌, is_none, IsOk}
use Rattle.std.specs.List.{list_all}
use Rattle.std.proofs.lemmas.List.{take_all, take-append-le}
use Rattle.std.proofs.Math.Seq.{get_or-append_seam}
use Rattle.pp_cert.specs.Accepted.{Acceptance}
use Rattle.pp_model.specs.declared.event.Event.{Event}
use Rattle.pp_model.specs.Pool.{State, dirty_pages}
use Rattle.pp_model.specs.Journals.{replay}
use Rattle.pp_model.specs.Submitting.{after_submits}
use Rattle.pp_model.specs.Turns.{next_turn}
use Rattle.pp_pool.specs.Parts.{Parts, settings_of, plans_of, opening_of, state_of}
use Rattle.pp_pool.specs.Books.{IsBook}
use Rattle.pp_report.specs.Reports.{is_move}
use Rattle.pp_run.proofs.Ran.{same_end, all_submitted, true_from}
use Rattle.pp_run.specs.declared.error.RunError.{RunError}
use Rattle.pp_run.specs.declared.error.RunError.TheVariants.{Refused, OutOfMemory, Mismatch, Broken, NoThread}
use Rattle.pp_run.specs.declared.judging.Left.{Left}
use Rattle.pp_run.specs.declared.stop.Flushed.{Flushed}
use Rattle.pp_run.specs.declared.stop.Worked.{Worked}
use Rattle.pp_run.specs.Ends.{AllSound, AllWorkedFrom, FlushedFrom, IsUnstarted}
use Rattle.pp_run.specs.Joins.{IsJoinedFrom, IsAnswerFrom}
use Rattle.pp_run.specs.Runs.{submits, IsRunErrorFrom}
use Rattle.pp_run.specs.Calling.{begun_flushes_in}
use Rattle.pp_run.specs.Unrun.{MayStop}
use Rattle.pp_run.specs.Verdicts.{IsFirstBroken, IsFirstMismatch, IsMiscounted, IsSound, IsUnlike, IsUnsettled, IsVerdict}

-- What the threads gave back, beside a book that began its life in this state with these plans.
pub joined : {D : Type 0} (calls failures : D → ℕ) (o : State) (plans : List Acceptance) (b : Parts) (front : List D)
    (last : D) (devices : List D) (worked : List (Worked D)) (f : Flushed D) (left : Left) → IsBook b → opening_of b ≡ o
    → plans_of b ≡ plans → take (length plans) b.journal ≡ submits 0 (length plans)
    → list_all is_move (drop (length plans) b.journal) ≡ true
    → length front ≡ o.settings.workers → devices ≡ front ++ last ∷ []
    → AllWorkedFrom calls failures front worked → FlushedFrom calls failures last f
    → left.over ≡ is_none (next_turn (state_of b)) → left.dirty ≡ dirty_pages (state_of b)
    → left.flushes ≡ (settings_of b).flushes
    → IsJoinedFrom calls failures o plans devices worked f b.journal left
joined calls failures o plans b front last devices worked f left book opened planned first moves long given ends ending over dirty flushes =
    let workers = o.settings.workers in
    let at : (P : State → Type 0) → P (state_of b) → P (replay plans o b.journal)
    = λ P h. subst P (same_end o plans b opened planned) h in
    let fronts : take workers devices ≡ front
    = ap (take workers) given ∙ (take-append-le workers front (last ∷ []) (omega (arith, long))
    ∙ take_all workers front (omega (arith, long))) in
    record {
      is_true = true_from o plans b opened planned book;
      submits_first = first;
      then_moves = moves;
      submitted = all_submitted o plans b opened planned book;
      count = ends.0 ∙ long;
      workers = subst (λ ds. AllWorkedFrom calls failures ds worked) (sym fronts) ends;
      flusher = λ d.
          subst (λ e. FlushedFrom calls failures e f) (sym (ap (λ xs. get_or xs workers d) given
          ∙ (ap (λ n. get_or (front ++ last ∷ []) n d) (sym long) ∙ get_or-append_seam front last [] d))) ending;
      over = at (λ s. left.over ≡ is_none (next_turn s)) over;
      dirty = at (λ s. left.dirty ≡ dirty_pages s) dirty;
      flushes = flushes ∙ ap (λ s. s.settings.flushes) opened;
    }

pub judged : {D : Type 0} (calls failures : D → ℕ) (o : State) (plans : List Acceptance) (devices : List D)
    (worked : List (Worked D)) (f : Flushed D) (events : List Event) (left : Left) (error : RunError)
    → IsJoinedFrom calls failures o plans devices worked f events left
    → (error ≢ OutOfMemory → IsVerdict worked f events left error)
    → IsAnswerFrom calls failures o plans devices error
judged calls failures o plans devices worked f events left (Refused error) joined verdict = tt
judged calls failures o plans devices worked f events left OutOfMemory joined verdict = tt
judged calls failures o plans devices worked f events left (NoThread w) joined verdict = tt
judged calls failures o plans devices worked f events left (Mismatch w) joined verdict =
    record { worked = worked; flushed = f; events = events; left = left; joined = joined; verdict = verdict (λ e. cc) }
judged calls failures o plans devices worked f events left (Broken w) joined verdict =
    record { worked = worked; flushed = f; events = events; left = left; joined = joined; verdict = verdict (λ e. cc) }

-- Before the threads are joined.
pub unstarted : {D : Type 0} (calls failures : D → ℕ) (o : State) (plans : List Acceptance) (devices : List D) (threads : ℕ)
    (error : RunError) → IsUnstarted threads error → IsAnswerFrom calls failures o plans devices error
unstarted calls failures o plans devices threads (Refused error) h = absurd h
unstarted calls failures o plans devices threads OutOfMemory h = tt
unstarted calls failures o plans devices threads (NoThread w) h = tt
unstarted calls failures o plans devices threads (Mismatch w) h = absurd h
unstarted calls failures o plans devices threads (Broken w) h = absurd h

-- A thread that isn't started is one of the run.
pub unstarted_run : (o : State) (plans : List Acceptance) (threads : ℕ) (error : RunError)
    → IsOk (after_submits o plans) → threads ≤ o.settings.workers + 1 → IsUnstarted threads error
    → IsRunErrorFrom o plans error
unstarted_run o plans threads (Refused error) taken few h = absurd h
unstarted_run o plans threads OutOfMemory taken few h = tt
unstarted_run o plans threads (NoThread w) taken few h = record { taken = taken; within = omega (arith, few, h) }
unstarted_run o plans threads (Mismatch w) taken few h = absurd h
unstarted_run o plans threads (Broken w) taken few h = absurd h

-- What is wrong with the logs of a run that is sound is the verdict.
pub unlike_verdict : {D : Type 0} (worked : List (Worked D)) (f : Flushed D) (events : List Event) (left : Left)
    (error : RunError) → IsSound worked f events left → IsUnlike worked events error
    → IsVerdict worked f events left error
unlike_verdict worked f events left (Refused error) sound h = absurd h
unlike_verdict worked f events left OutOfMemory sound h = inr (sound, h)
unlike_verdict worked f events left (NoThread w) sound h = absurd h
unlike_verdict worked f events left (Mismatch w) sound h = (sound, inl h)
unlike_verdict worked f events left (Broken w) sound h = absurd h

-- A verdict names a worker, or the flusher.
broken_within : {D : Type 0} (worked : List (Worked D)) (w : ℕ) (A B : Type 0)
    → IsFirstBroken worked w ⊎ ((w ≡ length worked) × A × B) → w ≤ length worked
broken_within worked w A B (inl first) = let b = first.within in omega (arith, b)
broken_within worked w A B (inr last) = let e = last.0 in omega (arith, e)

mismatch_within : {D : Type 0} (worked : List (Worked D)) (events : List Event) (w : ℕ) (B : Type 0)
    → IsFirstMismatch worked events w ⊎ ((w ≡ length worked) × B) → w ≤ length worked
mismatch_within worked events w B (inl first) = let b = first.within in omega (arith, b)
mismatch_within worked events w B (inr last) = let e = last.0 in omega (arith, e)

pub names_thread : {D : Type 0} (o : State) (plans : List Acceptance) (worked : List (Worked D)) (f : Flushed D)
    (events : List Event) (left : Left) (error : RunError) → IsOk (after_submits o plans)
    → length worked ≡ o.settings.workers → (error ≢ OutOfMemory → IsVerdict worked f events left error)
    → IsRunErrorFrom o plans error
names_thread o plans worked f events left (Refused error) taken long h = absurd (h (λ e. cc))
names_thread o plans worked f events left OutOfMemory taken long h = tt
names_thread o plans worked f events left (NoThread w) taken long h = absurd (h (λ e. cc))
names_thread o plans worked f events left (Mismatch w) taken long h =
    let low = mismatch_within worked events w (IsMiscounted worked f events) (h (λ e. cc)).1 in record { taken = taken; within = omega (arith, low, long) }
names_thread o plans worked f events left (Broken w) taken long h =
    let low = broken_within worked w (AllSound worked) (IsUnsettled f left (begun_flushes_in events)) (h (λ e. cc)).1 in record { taken = taken; within = omega (arith, low, long) }

-- ---- what a run may stop for

pub stops_unstarted : (threads : ℕ) (error : RunError) → IsUnstarted threads error → MayStop error
stops_unstarted threads (Refused error) h = absurd h
stops_unstarted threads OutOfMemory h = tt
stops_unstarted threads (NoThread w) h = tt
stops_unstarted threads (Mismatch w) h = absurd h
stops_unstarted threads (Broken w) h = absurd h

pub stops_judged : {D : Type 0} (worked : List (Worked D)) (f : Flushed D) (events : List Event) (left : Left)
    (error : RunError) → (error ≢ OutOfMemory → IsVerdict worked f events left error) → MayStop error
stops_judged worked f events left (Refused error) h = absurd (h (λ e. cc))
stops_judged worked f events left OutOfMemory h = tt
stops_judged worked f events left (NoThread w) h = tt
stops_judged worked f events left (Mismatch w) h = tt
stops_judged worked f events left (Broken w) h = tt
