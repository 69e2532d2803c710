-- Lemmas on the calls: which answer a number is, what a handle holds before and after a call, and what a refusal tells.
use Rattle.std.proofs.Common.{◌≡◌, ◌≢◌, ◌<◌, ◌≤◌, ◌==◌, ℕ, zero, suc, Bool, true, false, List, [], ◌∷◌, refl, ap, sym, ◌∙◌}
use Rattle.std.proofs.Common.{if◌then◌else◌, length, arith}
use Rattle.std.specs.Prelude.{Option, None, Some, IfSome, Result, Ok, Err, IfOk, IfErr, OnErr, IsOk, IsErr, slice_get, slice_set}
use mathlib.Core.Logic.{inl, inr}
use Rattle.std.specs.Option.{option_map}
use Rattle.std.proofs.lemmas.Bool.{eqb-true, false≢true}
use Rattle.std.proofs.lemmas.Option.{same_Some}
use Rattle.pp_hall.specs.Closing.{IsDirtyPage, IsListed}
use Rattle.pp_settings.specs.Settings.{Configuration}
use Rattle.pp_cert.specs.Accepted.{Acceptance}
use Rattle.pp_text.specs.Steps.{Refuses, Gives}
use Rattle.pp_hall.specs.declared.told.Told as hall
use Rattle.pp_pool.specs.declared.turned.Turned.{Turned}
use Rattle.pp_pool.specs.declared.turned.Turned.TheVariants as turned
use Rattle.pp_pool.specs.declared.work.End.{End}
use Rattle.pp_vault.specs.Parts as vault
use Rattle.pp_vault.specs.Stages.{is_chair}
use Rattle.pp_vault.specs.declared.hands.Flushing.{Flushing}
use Rattle.pp_steps.specs.declared.error.AtOnceError.{AtOnceError}
use Rattle.pp_steps.specs.declared.error.EnterError.{EnterError}
use Rattle.pp_steps.specs.declared.error.GoError.{GoError}
use Rattle.pp_steps.specs.declared.error.GoError.TheVariants as go_error
use Rattle.pp_steps.specs.declared.flusher.AwayFlusher.{AwayFlusher}
use Rattle.pp_steps.specs.declared.flusher.FlushWish.{FlushWish}
use Rattle.pp_steps.specs.declared.flusher.FlushWish.TheVariants as wish
use Rattle.pp_steps.specs.declared.going.Went.{Went}
use Rattle.pp_steps.specs.declared.line.Waiter.{Waiter}
use Rattle.pp_steps.specs.declared.rings.Rings.{Rings}
use Rattle.pp_steps.specs.Calls.{GoIs, FlusherIs, FlusherGoes, flush_went, RunnerGoes, SeatedGoes, After, go_fault}
use Rattle.pp_steps.specs.Calls.{StartOf, StartIs, LeaveOf, RunnerLeaves, ChairLeaves, FlusherLeaves, FlusherLeavesWith, WishIs}
use Rattle.pp_steps.specs.Lines.{waiter_at}
use Rattle.pp_steps.specs.Ringing.{nobody}
use Rattle.pp_steps.specs.declared.step.Step.{Step}
use Rattle.pp_steps.specs.StepsOf.{takes, step_of_flush}
use Rattle.pp_steps.specs.declared.error.PassError.{PassError}
use Rattle.pp_steps.specs.declared.pass.Pass.{Pass}
use Rattle.pp_steps.specs.declared.seated.Seated.{Seated}
use Rattle.pp_steps.specs.declared.seats.Place.{Place}
use Rattle.pp_steps.specs.Bytes.{Brings, BringsIf, reads, errand_at, no_errand, lies_in}
use Rattle.pp_steps.specs.Reading.{GetIs, GetsIf, PutIs}
use Rattle.pp_steps.specs.Seats.{seated_at, seated_in, with_seat}
use Rattle.pp_steps.specs.Parts.{Parts, is_flushers}
use Rattle.pp_pool_c.specs.declared.answer.Answer.{Answer}
use Rattle.pp_pool_c.specs.declared.answer.Answer.TheVariants as answer
use Rattle.pp_pool_c.specs.declared.ask.Ask.{Ask}
use Rattle.pp_pool_c.specs.declared.fault.Fault.{Fault}
use Rattle.pp_pool_c.specs.declared.figures.Dirty.{Dirty}
use Rattle.pp_pool_c.specs.declared.handle.Kept.{Kept}
use Rattle.pp_pool_c.specs.declared.refusal.Refusal.{Refusal}
use Rattle.pp_pool_c.specs.declared.refusal.Refusal.TheVariants.{NotText, Settings, Plan, Certificate, Check, Annotate}
use Rattle.pp_pool_c.specs.declared.told.Told.{Told}
use Rattle.pp_pool_c.specs.Answers.{code, of_done, is_refusal}
use Rattle.pp_pool_c.specs.Calls as calls
use Rattle.pp_pool_c.specs.Calls.{Goes, BringsTo, CameTo, pass_of, Makes, StartsBy, GoesAway, Comes, EnterIs, GivesFlusher, Wishes, IsntKept, Prepares, GetsBy, PutsBy}
use Rattle.pp_pool_c.specs.Calls.{answer_of, at_once_answer, start_answer, leave_answer, enter_answer, wish_answer}
use Rattle.pp_pool_c.specs.Figures.{AreListed, dirty_of}
use Rattle.pp_pool_c.specs.Texts.{same, is_memory, fault_of, answer_to, answer_by, fault_after, fault_by, IsTold}

-- ---- numbers of answers

-- all answers, by their numbers
answers : List Answer
answers = answer.Done ∷ answer.NotNow ∷ answer.NoneToFlush ∷ answer.FlushesSpent ∷ answer.Refused ∷ answer.OutOfMemory ∷ answer.WrongArgument ∷ answer.NoPool ∷ answer.WrongStep ∷ answer.BadTicket ∷ answer.InUse ∷ answer.QueueFull ∷ answer.Stopped ∷ answer.StillDirty ∷ answer.OtherSettings ∷ answer.TooManyPlans ∷ answer.Broken ∷ answer.NotAtOnce ∷ []

at_code : (a : Answer) → slice_get answers (code a) ≡ Some a
unfolding answers
at_code answer.Done = refl
at_code answer.NotNow = refl
at_code answer.NoneToFlush = refl
at_code answer.FlushesSpent = refl
at_code answer.Refused = refl
at_code answer.OutOfMemory = refl
at_code answer.WrongArgument = refl
at_code answer.NoPool = refl
at_code answer.WrongStep = refl
at_code answer.BadTicket = refl
at_code answer.InUse = refl
at_code answer.QueueFull = refl
at_code answer.Stopped = refl
at_code answer.StillDirty = refl
at_code answer.OtherSettings = refl
at_code answer.TooManyPlans = refl
at_code answer.Broken = refl
at_code answer.NotAtOnce = refl

-- two answers with one number are one
pub same_code : (a b : Answer) → code a ≡ code b → a ≡ b
same_code a b e = let is : Some a ≡ Some b = sym (at_code a) ∙ ap (slice_get answers) e ∙ at_code b in cc

-- ---- what a handle holds

pub goes : (are : Parts → Parts → Type 0) (old new : Option Kept) (before after : Kept) → old ≡ Some before
    → new ≡ Some after → are before.steps after.steps → after.settings ≡ before.settings → Goes are old new
goes are old new before after e f h same = rw (e, f) (h, same)

-- ---- refusals

-- what a refusal tells, where the work is refused so
told_by : {A : Type 0} (memory : Bool) (fault : Option Fault) (why : Refusal) (work : Result A Refusal) (old : Fault)
    → is_memory why ≡ memory → fault_of why ≡ fault → Refuses memory why work
    → IsTold work (answer_by memory fault) old (fault_by memory fault old)
told_by true fault why work old m f h = refl
told_by false None NotText work old m f h = (h, refl)
told_by false None (Settings e) work old m f h = absurd cc
told_by false None (Plan e) work old m f h = absurd cc
told_by false None (Certificate e) work old m f h = absurd cc
told_by false None (Check e) work old m f h = absurd cc
told_by false None (Annotate e) work old m f h = absurd cc
told_by false (Some fault) why work old m f h = (why, h, m, f)

pub is_told : {A : Type 0} (why : Refusal) (work : Result A Refusal) (old : Fault) → Refuses (is_memory why) why work
    → IsTold work (answer_to why) old (fault_after why old)
is_told why work old h = told_by (is_memory why) (fault_of why) why work old refl refl h

-- ---- bytes that were read

-- the place of the one with this turn
place_same : {T : Type 0} (b : Bool) (p : Place T) (turn : ℕ) (s : T) → (p.turn == turn) ≡ b
    → (if b then p.seated else None) ≡ Some s → record { turn = turn; seated = Some s } ≡ p
place_same true p turn s e f =
    let here : p.turn ≡ turn = eqb-true p.turn turn e in
    rw (sym here, sym f) refl
place_same false p turn s e f = absurd cc

seat_same : {T : Type 0} (places : List (Place T)) (bell turn : ℕ) (s : T) → seated_in (slice_get places bell) turn ≡ Some s
    → slice_set places bell (record { turn = turn; seated = Some s }) ≡ places
seat_same [] bell turn s e = refl
seat_same (p ∷ ps) zero turn s e = ap (λ q. q ∷ ps) (place_same (p.turn == turn) p turn s refl e)
seat_same (p ∷ ps) (suc bell) turn s e = ap (λ qs. p ∷ qs) (seat_same ps bell turn s e)

-- the one that runs with this pass is put back as it was
pub unmoved : (x : Parts) (pass : Pass) (s : Seated) → seated_at x.seats pass ≡ Some s
    → record x { seats = with_seat x.seats pass s } ≡ x
unmoved x pass s e = ap (λ seats. record x { seats = seats }) (seat_same x.seats pass.bell pass.turn s e)

on_err : {P Q : Type 0} (done : Result (Unit {0}) PassError) → (P → Q) → OnErr done P → OnErr done Q
on_err (Ok u) f h = tt
on_err (Err e) f h = f h

brings_none : (reading fits : Bool) (s : Seated) (bytes : List ℕ) (done : Result (Unit {0}) PassError) (t : Seated)
    → BringsIf reading fits s bytes done t → OnErr done (t ≡ s)
brings_none false fits s bytes done t h = rw h.0 h.1
brings_none true false s bytes done t h = rw h.0 h.1
brings_none true true s bytes done t h = rw h.0 tt

-- what one is answered that has read, by whether one runs with its pass
brings_to : (o : Option Seated) (old : Parts) (pass : Pass) (bytes : List ℕ) (done : Result (Unit {0}) PassError) (new : Parts)
    → seated_at old.seats pass ≡ o
    → ((s : Seated) → o ≡ Some s
    → (t : Seated) × Brings s bytes done t × (new ≡ record old { seats = with_seat old.seats pass t }))
    → (o ≡ None → (done ≡ Err (no_errand old pass)) × (new ≡ old))
    → BringsTo o old pass bytes done new × OnErr done (new ≡ old)
brings_to None old pass bytes done new e some none = (none refl, let h = none refl in rw h.0 h.1)
brings_to (Some s) old pass bytes done new e some none =
    let h = some s refl in (
      h,
      on_err done (λ (same : h.0 ≡ s). h.2 ∙ ap (λ t. record old { seats = with_seat old.seats pass t }) same ∙ unmoved old pass s e)
          (brings_none (reads (errand_at s.worker.hand.stage)) (length bytes == length s.worker.device.image) s bytes done h.0 h.1),
    )

pub came_to : (ticket status : ℕ) (bytes : List ℕ) (done : Result (Unit {0}) PassError) (old new : Parts)
    → ((s : Seated) → seated_at old.seats (pass_of ticket) ≡ Some s
    → (t : Seated) × Brings s bytes done t × (new ≡ record old { seats = with_seat old.seats (pass_of ticket) t }))
    → (seated_at old.seats (pass_of ticket) ≡ None → (done ≡ Err (no_errand old (pass_of ticket))) × (new ≡ old))
    → status ≡ code (of_done done) → CameTo ticket status bytes old new
came_to ticket status bytes done old new some none is =
    let h = brings_to (seated_at old.seats (pass_of ticket)) old (pass_of ticket) bytes done new refl some none in
    record { done = done; brings = h.0; stays = h.1; status_is = is }

-- a call that isn't done has changed nothing
pub refused : {P : Type 0} (done : Result (Unit {0}) PassError) (status : ℕ) → status ≡ code (of_done done)
    → status ≢ code answer.Done → OnErr done P → P
refused (Ok u) status is not h = absurd (not is)
refused (Err e) status is not h = h

-- ---- pages that are newer than the device's

-- what stands in a place of C's
written : (o : Option (ℕ × ℕ)) (d : Dirty) → option_map dirty_of o ≡ Some d → (o ≡ Some (d.page, d.mark)) × (d.unused ≡ 0)
written None d e = absurd cc
written (Some p) d e =
    let same : dirty_of p ≡ d = same_Some (dirty_of p) d e in
    (ap (λ (q : Dirty). Some (q.page, q.mark)) same, sym (ap (λ (q : Dirty). q.unused) same))

pub listed : (v : vault.Parts) (found : List (ℕ × ℕ)) (count : ℕ) (old new : List Dirty) → length found ≡ length old
    → count ≤ length found
    → ((k page mark : ℕ) → k < count → slice_get found k ≡ Some (page, mark) → IsDirtyPage v page mark)
    → (count < length found → (page mark : ℕ) → IsDirtyPage v page mark → IsListed count found page mark)
    → ((k : ℕ) → k < count → slice_get new k ≡ option_map dirty_of (slice_get found k))
    → ((k : ℕ) → count ≤ k → slice_get new k ≡ slice_get old k)
    → AreListed v count old new
listed v found count old new long few each all first rest =
    record {
      few = omega arith;
      each = λ k d below is.
          let w = written (slice_get found k) d (sym (first k below) ∙ is) in
          (each k d.page d.mark below w.0, w.1);
      all = λ left page mark dirty.
          let l = all (omega arith) page mark dirty in
          record { at = l.at; first = l.first; there = first l.at l.first ∙ ap (option_map dirty_of) l.there };
      rest = rest;
    }

-- ---- refused calls change nothing

-- an answer that is another one is no refusal
isnt : {A : Type 0} (answered : A → Answer) (a b : A) → a ≡ b → is_refusal (answered b) ≡ false → is_refusal (answered a) ≡ true → ⊥
isnt answered a b same other e = false≢true (sym other ∙ sym (ap (λ x. is_refusal (answered x)) same) ∙ e)

flush_isnt : (turned : Turned) (next : Step) (could_flush : Bool) (went : Result Went GoError)
    → went ≡ flush_went turned next could_flush → is_refusal (answer_of went) ≡ true → ⊥
flush_isnt turned.Done next could_flush went h e = isnt answer_of went _ h refl e
flush_isnt turned.Ended next true went h e = isnt answer_of went _ h refl e
flush_isnt turned.Ended next false went h e = isnt answer_of went _ h refl e
flush_isnt turned.NotNow next could_flush went h e = isnt answer_of went _ h refl e
flush_isnt _ next could_flush went h e = isnt answer_of went _ h refl e

flusher_goes : (takes : Bool) (old : Parts) (f : AwayFlusher) (argument : ℕ) (went : Result Went GoError) (rings : Rings) (new : Parts)
    → FlusherGoes takes old f argument went rings new → is_refusal (answer_of went) ≡ true → new ≡ old
flusher_goes false old f argument went rings new h e = h.same
flusher_goes true old f argument went rings new h e =
    absurd (flush_isnt h.turned (step_of_flush h.left.flusher.flushing) h.could_flush went h.result_is e)

flusher_stays : (flusher : Option AwayFlusher) (old : Parts) (argument : ℕ) (went : Result Went GoError) (rings : Rings) (new : Parts)
    → FlusherIs flusher old argument went rings new → is_refusal (answer_of went) ≡ true → new ≡ old
flusher_stays None old argument went rings new h e = h.same
flusher_stays (Some f) old argument went rings new h e =
    flusher_goes (takes (step_of_flush f.flusher.flushing) argument) old f argument went rings new h e

after_isnt : (mid : Parts) (pass : Pass) (s : Seated) (turned : Turned) (end : Option End) (told : hall.Told)
    (went : Result Went GoError) (rings : Rings) (new : Parts) → After mid pass s turned end told went rings new
    → is_refusal (answer_of went) ≡ true → ⊥
after_isnt mid pass s turned.Done (Some end) told went rings new h e = isnt answer_of went _ h.0 refl e
after_isnt mid pass s turned.Done None told went rings new h e = isnt answer_of went _ h.0 refl e
after_isnt mid pass s turned.NotNow end told went rings new h e = isnt answer_of went _ h.0 refl e
after_isnt mid pass s turned.NoMemory end told went rings new h e = isnt answer_of went _ h.0 refl e
after_isnt mid pass s _ end told went rings new h e = isnt answer_of went _ h.0 refl e

seated_goes : (fault : Option GoError) (old : Parts) (pass : Pass) (s : Seated) (argument : ℕ) (went : Result Went GoError)
    (rings : Rings) (new : Parts) → SeatedGoes fault old pass s argument went rings new → is_refusal (answer_of went) ≡ true
    → new ≡ old
seated_goes (Some why) old pass s argument went rings new h e = h.same
seated_goes None old pass s argument went rings new h e =
    absurd (after_isnt (record old { hall = h.hall; seats = with_seat old.seats pass h.left }) pass h.left h.turned h.end h.told
    went rings new h.after e)

runner_stays : (seated : Option Seated) (old : Parts) (pass : Pass) (argument : ℕ) (went : Result Went GoError) (rings : Rings)
    (new : Parts) → RunnerGoes seated old pass argument went rings new → is_refusal (answer_of went) ≡ true → new ≡ old
runner_stays None old pass argument went rings new h e = h.same
runner_stays (Some s) old pass argument went rings new h e =
    seated_goes (go_fault s argument) old pass s argument went rings new h e

go_stays : (flushers : Bool) (old : Parts) (pass : Pass) (argument : ℕ) (went : Result Went GoError) (rings : Rings) (new : Parts)
    → GoIs flushers old pass argument went rings new → is_refusal (answer_of went) ≡ true → new ≡ old
go_stays true old pass argument went rings new h e = flusher_stays old.flusher old argument went rings new h e
go_stays false old pass argument went rings new h e =
    runner_stays (seated_at old.seats pass) old pass argument went rings new h e

pub step_stays : (pass : Pass) (argument : ℕ) (answered : Answer) (ask : Ask) (told : Told) (old new : Parts)
    → Makes pass argument answered ask told old new → is_refusal answered ≡ true → new ≡ old
step_stays pass argument answered ask told old new h e =
    go_stays (is_flushers old pass) old pass argument h.went h.rings new h.goes (sym (ap is_refusal h.answer_is) ∙ e)

-- a reading that was begun or ended
done_at_once : (got : Result Step AtOnceError) (step : Step) → got ≡ Ok step → at_once_answer got ≡ answer.Done
done_at_once got step is = ap at_once_answer is

-- where it wasn't, the pool and the bytes stay
abbrev Stays : (before after : List ℕ) → (old new : Parts) → Type 0
Stays before after old new = (new ≡ old) × (after ≡ before)

gets_if : (lies : Bool) (old : Parts) (pass : Pass) (s : Seated) (page from : ℕ) (before : List ℕ) (got : Result Step AtOnceError)
    (rings : Rings) (after : List ℕ) (new : Parts) → GetsIf lies old pass s page from before got rings after new
    → (at_once_answer got ≡ answer.Done → ⊥) → Stays before after old new
gets_if false old pass s page from before got rings after new h n = (h.0.same, h.1)
gets_if true old pass s page from before got rings after new (inl h) n = absurd (n (done_at_once got h.begun.step h.result_is))
gets_if true old pass s page from before got rings after new (inr h) n = (h.1.same, h.2)

get_is : (seated : Option Seated) (old : Parts) (pass : Pass) (page from : ℕ) (before : List ℕ) (got : Result Step AtOnceError)
    (rings : Rings) (after : List ℕ) (new : Parts) → GetIs seated old pass page from before got rings after new
    → (at_once_answer got ≡ answer.Done → ⊥) → Stays before after old new
get_is None old pass page from before got rings after new h n = (h.0.same, h.1)
get_is (Some s) old pass page from before got rings after new h n =
    gets_if (lies_in old.hall.seating.vault.page_bytes from (length before)) old pass s page from before got rings after new h n

pub get_stays : (pass : Pass) (page from : ℕ) (before : List ℕ) (answered : Answer) (after : List ℕ) (ask : Ask) (told : Told)
    (old new : Parts) → GetsBy pass page from before answered after ask told old new → (answered ≡ answer.Done → ⊥)
    → Stays before after old new
get_stays pass page from before answered after ask told old new h n =
    get_is (seated_at old.seats pass) old pass page from before h.got h.rings after new h.gets (λ e. n (h.answer_is ∙ e))

put_is : (seated : Option Seated) (old : Parts) (pass : Pass) (ended : Result Step AtOnceError) (rings : Rings) (new : Parts)
    → PutIs seated old pass ended rings new → (at_once_answer ended ≡ answer.Done → ⊥) → new ≡ old
put_is None old pass ended rings new h n = h.same
put_is (Some s) old pass ended rings new (inl h) n = absurd (n (done_at_once ended h.ended.step h.result_is))
put_is (Some s) old pass ended rings new (inr h) n = h.1.same

pub put_stays : (pass : Pass) (answered : Answer) (ask : Ask) (told : Told) (old new : Parts) → PutsBy pass answered ask told old new
    → (answered ≡ answer.Done → ⊥) → new ≡ old
put_stays pass answered ask told old new h n =
    put_is (seated_at old.seats pass) old pass h.ended h.rings new h.puts (λ e. n (h.answer_is ∙ e))

start_is : (old : Parts) (waiter : Waiter) (pass : Pass) (started : Result Pass GoError) (rings : Rings) (new : Parts)
    → StartIs old waiter pass started rings new → is_refusal (start_answer started) ≡ true → ⊥
start_is old waiter pass (Ok next) rings new h e = false≢true e
start_is old waiter pass (Err go_error.NotNow) rings new h e = false≢true e
start_is old waiter pass (Err go_error.Stopped) rings new h e = false≢true e
start_is old waiter pass (Err go_error.Broken) rings new h e = false≢true e
start_is old waiter pass (Err _) rings new h e = h

start_of : (waiter : Option Waiter) (old : Parts) (pass : Pass) (started : Result Pass GoError) (rings : Rings) (new : Parts)
    → StartOf waiter old pass started rings new → is_refusal (start_answer started) ≡ true → new ≡ old
start_of None old pass started rings new h e = h.same
start_of (Some waiter) old pass started rings new h e = absurd (start_is old waiter pass started rings new h e)

pub start_stays : (before after : ℕ) (answered : Answer) (told : Told) (old new : Parts)
    → StartsBy before after answered told old new → is_refusal answered ≡ true → new ≡ old
start_stays before after answered told old new h e =
    start_of (waiter_at old.line (pass_of before)) old (pass_of before) h.started h.rings new h.starts
    (sym (ap is_refusal h.answer_is) ∙ e)

-- one that leaves
undone : {A : Type 0} (left : Result A PassError) (a : A) → left ≡ Ok a → IsErr left → ⊥
undone (Ok x) a same err = false≢true err
undone (Err e) a same err = absurd cc

chair_leaves : (idle : Bool) (old : Parts) (pass : Pass) (s : Seated) (left : Result Rings PassError) (new : Parts)
    → ChairLeaves idle old pass s left new → IsErr left → new ≡ old
chair_leaves true old pass s left new h e = absurd (undone left h.rings h.result_is e)
chair_leaves false old pass s left new h e = h.same

runner_leaves : (seated : Option Seated) (old : Parts) (pass : Pass) (left : Result Rings PassError) (new : Parts)
    → RunnerLeaves seated old pass left new → IsErr left → new ≡ old
runner_leaves None old pass left new h e = h.same
runner_leaves (Some s) old pass left new h e = chair_leaves (is_chair s.worker.hand.stage) old pass s left new h e

flusher_leaves_with : (flushing : Option Flushing) (old : Parts) (left : Result Rings PassError) (new : Parts)
    → FlusherLeavesWith flushing old left new → IsErr left → new ≡ old
flusher_leaves_with None old left new h e = absurd (undone left nobody h.0 e)
flusher_leaves_with (Some flushing) old left new h e = h.same

flusher_leaves : (flusher : Option AwayFlusher) (old : Parts) (left : Result Rings PassError) (new : Parts)
    → FlusherLeaves flusher old left new → IsErr left → new ≡ old
flusher_leaves None old left new h e = h.same
flusher_leaves (Some f) old left new h e = flusher_leaves_with f.flusher.flushing old left new h e

leave_of : (waiter : Option Waiter) (flushers : Bool) (old : Parts) (pass : Pass) (left : Result Rings PassError) (new : Parts)
    → LeaveOf waiter flushers old pass left new → IsErr left → new ≡ old
leave_of (Some waiter) flushers old pass left new h e = absurd (undone left h.rings h.result_is e)
leave_of None true old pass left new h e = flusher_leaves old.flusher old left new h e
leave_of None false old pass left new h e = runner_leaves (seated_at old.seats pass) old pass left new h e

leave_err : (left : Result Rings PassError) (answered : Answer) → answered ≡ leave_answer left → answered ≢ answer.Done → IsErr left
leave_err (Ok rings) answered is not = absurd (not is)
leave_err (Err why) answered is not = refl

pub leave_stays : (pass : Pass) (answered : Answer) (told : Told) (old new : Parts) → GoesAway pass answered told old new
    → answered ≢ answer.Done → new ≡ old
leave_stays pass answered told old new h not =
    leave_of (waiter_at old.line pass) (is_flushers old pass) old pass h.left new h.leaves (leave_err h.left answered h.answer_is not)

-- one that comes
enter_is : (entered : Result Pass EnterError) (plan ticket : ℕ) (answered : Answer) (old new : Parts)
    → EnterIs plan ticket entered old new → answered ≡ enter_answer entered → answered ≢ answer.Done → new ≡ old
enter_is (Ok pass) plan ticket answered old new h is not = absurd (not is)
enter_is (Err why) plan ticket answered old new h is not = h.1

pub enter_stays : (plan ticket : ℕ) (answered : Answer) (old new : Parts) → Comes plan ticket answered old new
    → answered ≢ answer.Done → new ≡ old
enter_stays plan ticket answered old new h not = enter_is h.entered plan ticket answered old new h.enters h.answer_is not

-- the flusher
gives_is : (pass : Option Pass) (ticket : ℕ) (ask : Ask) (answered : Answer) (old new : Parts)
    → calls.FlusherIs pass ticket ask answered old new → answered ≢ answer.Done → new ≡ old
gives_is (Some pass) ticket ask answered old new h not = absurd (not h.3)
gives_is None ticket ask answered old new h not = h.1

pub flusher_given : (ticket : ℕ) (ask : Ask) (answered : Answer) (old new : Parts) → GivesFlusher ticket ask answered old new
    → answered ≢ answer.Done → new ≡ old
flusher_given ticket ask answered old new h not = gives_is h.pass ticket ask answered old new h.gives not

wish_is : (wished : Result FlushWish PassError) (is_on : Bool) (old new : Parts) → IsOk wished
    → is_refusal (wish_answer wished) ≡ true → ⊥
wish_is (Ok wish.Flush) is_on old new ok e = false≢true e
wish_is (Ok wish.Sleep) is_on old new ok e = false≢true e
wish_is (Ok wish.Stop) is_on old new ok e = false≢true e
wish_is (Err why) is_on old new ok e = false≢true ok

wish_of : (flushers : Bool) (old : Parts) (pass : Pass) (is_on : Bool) (wished : Result FlushWish PassError) (new : Parts)
    → WishIs flushers old pass is_on wished new → is_refusal (wish_answer wished) ≡ true → new ≡ old
wish_of true old pass is_on wished new h e = absurd (wish_is wished is_on old new h.1 e)
wish_of false old pass is_on wished new h e = h.1

pub wish_stays : (pass : Pass) (is_on : Bool) (answered : Answer) (old new : Parts) → Wishes pass is_on answered old new
    → is_refusal answered ≡ true → new ≡ old
wish_stays pass is_on answered old new h e =
    wish_of (is_flushers old pass) old pass is_on h.wished new h.wishes (sym (ap is_refusal h.answer_is) ∙ e)

-- what is in the handle then
pub stays_in : (old new : Option Kept) (before after : Kept) → old ≡ Some before → new ≡ Some after
    → after.steps ≡ before.steps → after.settings ≡ before.settings → new ≡ old
stays_in old new before after e f same rest =
    f ∙ ap Some (ap (λ steps. record after { steps = steps }) same ∙ ap (λ settings. record before { settings = settings }) rest) ∙ sym e

-- ---- plans that aren't prepared

-- what a refused plan is answered
isnt_accepted : (work : Result Acceptance Refusal) (why : Refusal) (answered : Answer) (old new : Fault)
    → Refuses (is_memory why) why work → (answered ≡ answer_to why) × (new ≡ fault_after why old) → IsTold work answered old new
isnt_accepted work why answered old new refuses h = rw (h.0, h.1) (is_told why work old refuses)

-- why the plan isn't prepared, by what its texts come to
pub isnt_prepared : (held : Option Kept) (kept : Kept) (work : Configuration → Result Acceptance Refusal)
    (read : Result Acceptance Refusal) (status : ℕ) (answered : Answer) (old new : Fault) → held ≡ Some kept
    → status ≡ code answered → Gives is_memory same read (work kept.settings)
    → IfErr read (λ why. (answered ≡ answer_to why) × (new ≡ fault_after why old))
    → IfOk read (λ a. answered ≢ answer.Done → IsntKept a answered old new kept.steps)
    → IfSome held (λ k. Prepares (work k.settings) status old new k.steps)
isnt_prepared held kept work (Ok a) status answered old new e is gives err ok =
    rw e (record { answered = answered; status_is = is; isnt = λ not. inr (a, gives, ok not) })
isnt_prepared held kept work (Err why) status answered old new e is gives err ok =
    rw e (record {
      answered = answered;
      status_is = is;
      isnt = λ not. inl (isnt_accepted (work kept.settings) why answered old new gives err);
    })
