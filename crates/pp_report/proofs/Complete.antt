-- Each plan of a complete journal was taken, and the turn at it ended: so it has a row.
use Rattle.std.proofs.Common.{◌≡◌, ◌≢◌, ◌∙◌, ℕ, zero, suc, ◌+◌, ◌≤◌, ◌<◌, ◌==◌, Bool, true, false, Option, Some, None}
use Rattle.std.proofs.Common.{List, [], ◌∷◌, ◌++◌, length, map, flat_map, refl, sym, ap, subst, inl, inr, arith}
use Rattle.std.specs.Prelude.{slice_get, slice_set, not, IsTrue, IsSome, option_and_then, option_map, count_by}
use Rattle.std.specs.List.{range_with_len}
use Rattle.std.specs.Option.{option_or}
use Rattle.std.proofs.lemmas.Bool.{eqb-true, eqb-false}
use Rattle.pp_plan.specs.declared.action.Action.TheVariants as action
use Rattle.pp_cert.specs.Accepted.{Acceptance}
use Rattle.pp_cert.specs.declared.note.Held.{Held}
use Rattle.pp_cert.specs.declared.note.Held.TheVariants.{Free, S, X}
use Rattle.pp_model.specs.declared.event.Event.{Event}
use Rattle.pp_model.specs.declared.event.Event.TheVariants.{Submit, Step}
use Rattle.pp_model.specs.declared.moves.Came.TheVariants.{Fault, Image}
use Rattle.pp_model.specs.declared.moves.Move.{Move}
use Rattle.pp_model.specs.declared.moves.Move.TheVariants as move
use Rattle.pp_model.specs.declared.reply.Ending.{Ending}
use Rattle.pp_model.specs.declared.reply.Reply.{Reply}
use Rattle.pp_model.specs.declared.reply.Reply.TheVariants.{Taken, Hit, MustRead, MustWrite, Failed, Loaded, Did}
use Rattle.pp_model.specs.declared.reply.Reply.TheVariants.{Latched, Unlatched, Finished, Flushing, Flushed}
use Rattle.pp_model.specs.declared.reply.Reply.TheVariants.{NotNow, OffPlan}
use Rattle.pp_model.specs.Pool.{Running, State, leaving}
use Rattle.pp_model.specs.Holders.{page_in, held_in}
use Rattle.pp_model.specs.Outcome.{Outcome, at_stage, having_done, released}
use Rattle.pp_model.specs.Taking.{has_room, beginning, take_where, take_by}
use Rattle.pp_model.specs.Moves.{seat_of, outcome_of, reply_of, next_of, is_refusal, IsPossible}
use Rattle.pp_model.specs.Submitting.{submit_error, submitted_unless}
use Rattle.pp_model.specs.Journals.{after_plan, replay, IsTrueFrom}
use Rattle.pp_model.specs.Shapes.{fits_reply}
use Rattle.pp_model.specs.WorkerParts.{worker_of, is_worker, names_worker}
use Rattle.pp_model.proofs.Alone.{others_sit, all_sit, submit_leaves}
use Rattle.pp_model.proofs.Changes as change
use Rattle.pp_model.proofs.Changes.{Change, Tells, Result, result}
use Rattle.pp_model.proofs.Shapes.{reply_fits}
use Rattle.pp_report.specs.declared.record.RunRecord.{RunRecord}
use Rattle.pp_report.specs.declared.row.Row.{Row}
use Rattle.pp_report.specs.Reports.{is_turn_end, ending_in, ending_of, taker, row_after, row_of, row_line, heading}
use Rattle.pp_report.specs.Reports.{figures, figure_lines, report_text, is_step, is_hit, is_load, turn_of}
use Rattle.pp_report.specs.Complete.{EachHasRow, TellsEachPlan}
use Rattle.pp_report.proofs.OneMore.{passed_over, over, goes_on}

-- ---- seats

-- The place that is changed has the new value.
set_here : (xs : List (Option Running)) (i : ℕ) (x y : Option Running) → slice_get xs i ≡ Some y
    → slice_get (slice_set xs i x) i ≡ Some x
set_here [] i x y h = cc
set_here (z ∷ xs) zero x y h = refl
set_here (z ∷ xs) (suc i) x y h = set_here xs i x y h

-- A place with a worker in its plan has one still where one is put in some place.
set_some : (xs : List (Option Running)) (i : ℕ) (q : Running) (v : ℕ) (r : Running) → slice_get xs v ≡ Some (Some r)
    → (p : Running) × (slice_get (slice_set xs i (Some q)) v ≡ Some (Some p))
set_some [] i q v r h = (r, h)
set_some (x ∷ xs) zero q zero r h = (q, refl)
set_some (x ∷ xs) zero q (suc v) r h = (r, h)
set_some (x ∷ xs) (suc i) q zero r h = (r, h)
set_some (x ∷ xs) (suc i) q (suc v) r h = set_some xs i q v r h

-- ---- what a move leaves

-- Whether the move so answered is a take or a finish.
abbrev is_taking : Reply → Bool
is_taking (Taken plan) = true
is_taking _ = false

abbrev is_finishing : Reply → Bool
is_finishing (Finished ending) = true
is_finishing _ = false

-- Who is in a plan stays in one.
abbrev StaySeated : State → State → Type 0
StaySeated s t =
    (w : ℕ) (r : Running) → seat_of s w ≡ Some (Some r) → (q : Running) × (seat_of t w ≡ Some (Some q))

-- Only a take counts as one, and only who finishes leaves its seat.
record Leaves (s t : State) (x : Reply) : Type 0 where
  pub taken : is_taking x ≡ false → t.taken ≡ s.taken
  pub seated : is_taking x ≡ false → is_finishing x ≡ false → StaySeated s t

same_seats : (s t : State) → t.seats ≡ s.seats → StaySeated s t
same_seats s t e = λ w r h. (r, ap (λ ws. slice_get ws w) e ∙ h)

set_seats : (s t : State) (i : ℕ) (q : Running) → t.seats ≡ slice_set s.seats i (Some q) → StaySeated s t
set_seats s t i q e =
    λ w r h. subst (λ ws. (p : Running) × (slice_get ws w ≡ Some (Some p))) (sym e) (set_some s.seats i q w r h)

sits : (s t : State) (x : Reply) (i : ℕ) (q : Running) → t.taken ≡ s.taken
    → t.seats ≡ slice_set s.seats i (Some q) → Leaves s t x
sits s t x i q taken seats = record { taken = λ n. taken; seated = λ n m. set_seats s t i q seats }

rests : (s t : State) (x : Reply) → t.taken ≡ s.taken → t.seats ≡ s.seats → Leaves s t x
rests s t x taken seats = record { taken = λ n. taken; seated = λ n m. same_seats s t seats }

released_seats : (s : State) (h : Held) (page : ℕ) → (released s h page).seats ≡ s.seats
released_seats s Free page = refl
released_seats s S page = refl
released_seats s X page = refl

released_taken : (s : State) (h : Held) (page : ℕ) → (released s h page).taken ≡ s.taken
released_taken s Free page = refl
released_taken s S page = refl
released_taken s X page = refl

-- What two equal replies are tested for is the same.
never : (test : Reply → Bool) (x y : Reply) → x ≡ y → test x ≡ false → test y ≡ true → ⊥
never test x y e isnt is = absurd (cc)

leaves : (s t : State) (c : Change s t) (x : Reply) → Tells c x → Leaves s t x
leaves s t (change.stays e) x told = absurd told
leaves s t (change.takes w a idle next fits e) x told = record {
  taken = λ n. absurd (never is_taking x (Taken s.taken) told n refl);
  seated = λ n m. absurd (never is_taking x (Taken s.taken) told n refl);
}
leaves s t (change.hits w r slot page l asked is e) x told =
    sits s t x w _ (ap (λ z. z.taken) e) (ap (λ z. z.seats) e)
leaves s t (change.fills w r slot page l asked is e) x told =
    sits s t x w _ (ap (λ z. z.taken) e) (ap (λ z. z.seats) e)
leaves s t (change.evicts w r slot page v l asked is clean e) x told =
    sits s t x w _ (ap (λ z. z.taken) e) (ap (λ z. z.seats) e)
leaves s t (change.sends w r slot page v l asked is dirty e) x told =
    sits s t x w _ (ap (λ z. z.taken) e) (ap (λ z. z.seats) e)
leaves s t (change.writes w r slot page v at e) x told = sits s t x w _ (ap (λ z. z.taken) e) (ap (λ z. z.seats) e)
leaves s t (change.brings w r slot page v at e) x told = sits s t x w _ (ap (λ z. z.taken) e) (ap (λ z. z.seats) e)
leaves s t (change.forgets w r slot page at e) x told = sits s t x w _ (ap (λ z. z.taken) e) (ap (λ z. z.seats) e)
leaves s t (change.loads w r slot page stamp at known e) x told =
    sits s t x w _ (ap (λ z. z.taken) e) (ap (λ z. z.seats) e)
leaves s t (change.unfixes w r slot a back asked e) x told = sits s t x w _ (ap (λ z. z.taken) e) (ap (λ z. z.seats) e)
leaves s t (change.latches w r slot m asked goes e) x told =
    sits s t x w _ (ap (λ z. z.taken) e) (ap (λ z. z.seats) e)
leaves s t (change.unlatches w r slot asked e) x told =
    let q = having_done r (action.Unlatch slot) in
    sits s t x w q (ap (λ z. z.taken) e ∙ released_taken s (held_in r slot) (page_in r slot))
    (ap (λ z. z.seats) e ∙ ap (λ ws. slice_set ws w (Some q)) (released_seats s (held_in r slot) (page_in r slot)))
leaves s t (change.chooses w r i asked e) x told = sits s t x w _ (ap (λ z. z.taken) e) (ap (λ z. z.seats) e)
leaves s t (change.unwinds w r slot given h at found e) x told =
    let q = at_stage r (leaving (slot ∷ given)) in
    sits s t x w q (ap (λ z. z.taken) e ∙ released_taken s h.held h.page)
    (ap (λ z. z.seats) e ∙ ap (λ ws. slice_set ws w (Some q)) (released_seats s h.held h.page))
leaves s t (change.ends w r at asked e) x told = record {
  taken = λ n. ap (λ z. z.taken) e;
  seated = λ n m. absurd (never is_finishing x _ told m refl);
}
leaves s t (change.leaves w r given at none e) x told = record {
  taken = λ n. ap (λ z. z.taken) e;
  seated = λ n m. absurd (never is_finishing x _ told m refl);
}
leaves s t (change.flushes page can e) x told = rests s t x (ap (λ z. z.taken) e) (ap (λ z. z.seats) e)
leaves s t (change.cleans f is e) x told = rests s t x (ap (λ z. z.taken) e) (ap (λ z. z.seats) e)
leaves s t (change.drops f is e) x told = rests s t x (ap (λ z. z.taken) e) (ap (λ z. z.seats) e)

done_leaves : (s : State) (m : Move) → Leaves s (next_of s m) (reply_of s m)
done_leaves s m = go (result s m)
  where
    go : Result s (outcome_of s m) → Leaves s (next_of s m) (reply_of s m)
    go (change.refused r e) = rests s (next_of s m) (reply_of s m) (ap (λ z. z.taken) e) (ap (λ z. z.seats) e)
    go (change.done r c real told) = leaves s (next_of s m) c (reply_of s m) told

-- ---- which moves are answered so

-- Only a take is answered as one, and only a finish.
take_alone : (m : Move) (k : ℕ) → is_turn_end (Step m (Taken k)) ≡ false → IsTrue (fits_reply m (Taken k)) → ⊥
take_alone (move.Take w) k goes fits = absurd (cc)
take_alone (move.Fix w page) k goes fits = absurd (cc)
take_alone (move.WriteDone w true) k goes fits = absurd (cc)
take_alone (move.WriteDone w false) k goes fits = absurd (cc)
take_alone (move.ReadDone w Fault) k goes fits = absurd (cc)
take_alone (move.ReadDone w (Image page stamp)) k goes fits = absurd (cc)
take_alone (move.Unfix w) k goes fits = absurd (cc)
take_alone (move.Latch w) k goes fits = absurd (cc)
take_alone (move.Unlatch w) k goes fits = absurd (cc)
take_alone (move.Choose w i) k goes fits = absurd (cc)
take_alone (move.Unwind w slot) k goes fits = absurd (cc)
take_alone (move.Finish w) k goes fits = absurd (cc)
take_alone (move.FlushBegin page) k goes fits = absurd (cc)
take_alone (move.FlushDone ok) k goes fits = absurd (cc)

finish_alone : (m : Move) (x : Ending) → is_turn_end (Step m (Finished x)) ≡ false → IsTrue (fits_reply m (Finished x))
    → ⊥
finish_alone (move.Take w) x goes fits = absurd (cc)
finish_alone (move.Fix w page) x goes fits = absurd (cc)
finish_alone (move.WriteDone w true) x goes fits = absurd (cc)
finish_alone (move.WriteDone w false) x goes fits = absurd (cc)
finish_alone (move.ReadDone w Fault) x goes fits = absurd (cc)
finish_alone (move.ReadDone w (Image page stamp)) x goes fits = absurd (cc)
finish_alone (move.Unfix w) x goes fits = absurd (cc)
finish_alone (move.Latch w) x goes fits = absurd (cc)
finish_alone (move.Unlatch w) x goes fits = absurd (cc)
finish_alone (move.Choose w i) x goes fits = absurd (cc)
finish_alone (move.Unwind w slot) x goes fits = absurd (cc)
finish_alone (move.Finish w) x goes fits = absurd (cc)
finish_alone (move.FlushBegin page) x goes fits = absurd (cc)
finish_alone (move.FlushDone ok) x goes fits = absurd (cc)

no_taking : (m : Move) (x : Reply) → is_turn_end (Step m x) ≡ false → IsTrue (fits_reply m x) → is_taking x ≡ false
no_taking m (Taken k) goes fits = absurd (take_alone m k goes fits)
no_taking m _ goes fits = refl

no_finishing : (m : Move) (x : Reply) → is_turn_end (Step m x) ≡ false → IsTrue (fits_reply m x)
    → is_finishing x ≡ false
no_finishing m (Finished ending) goes fits = absurd (finish_alone m ending goes fits)
no_finishing m _ goes fits = refl

-- A finish that is done tells how the plan ends.
tells_ending : (w : ℕ) (x : Reply) → is_refusal x ≡ false → IsTrue (fits_reply (move.Finish w) x)
    → IsSome (ending_in (Step (move.Finish w) x))
tells_ending w (Finished ending) done fits = refl
tells_ending w (Taken k) done fits = absurd (cc)
tells_ending w (Hit frame mark) done fits = absurd (cc)
tells_ending w (MustRead frame) done fits = absurd (cc)
tells_ending w (MustWrite frame victim) done fits = absurd (cc)
tells_ending w (Failed failure) done fits = absurd (cc)
tells_ending w (Loaded mark) done fits = absurd (cc)
tells_ending w Did done fits = absurd (cc)
tells_ending w (Latched mark) done fits = absurd (cc)
tells_ending w (Unlatched mark) done fits = absurd (cc)
tells_ending w (Flushing mark) done fits = absurd (cc)
tells_ending w (Flushed clean) done fits = absurd (cc)
tells_ending w (NotNow delay) done fits = absurd (cc)
tells_ending w (OffPlan cause) done fits = absurd (cc)

possible_done : (s : State) (m : Move) → IsPossible s m → is_refusal (reply_of s m) ≡ false
possible_done s m p = not_true (is_refusal (reply_of s m)) p
  where
    not_true : (b : Bool) → not b ≡ true → b ≡ false
    not_true true e = cc
    not_true false e = refl

-- ---- a take

-- Who is in a plan can't take one.
busy_takes : (s : State) (w : ℕ) (r : Running) → seat_of s w ≡ Some (Some r) → IsPossible s (move.Take w) → ⊥
busy_takes s w r h p =
    let refused : is_refusal (take_by s w (seat_of s w) (slice_get s.plans s.taken)).reply ≡ true =
    ap (λ o. is_refusal (take_by s w o (slice_get s.plans s.taken)).reply) h in
    absurd (never is_refusal (reply_of s (move.Take w)) (reply_of s (move.Take w)) refl
    (possible_done s (move.Take w) p) refused)

-- A take that is done: the next plan is taken, and its worker is in it.
record Takes (s : State) (w : ℕ) (o : Outcome) : Type 0 where
  pub told : o.reply ≡ Taken s.taken
  pub taken : o.state.taken ≡ s.taken + 1
  pub running : Running
  pub seat : seat_of o.state w ≡ Some (Some running)

takes_tested : (s : State) (w : ℕ) (a : Acceptance) (b : Bool) → seat_of s w ≡ Some None
    → is_refusal (take_where s w a b).reply ≡ false → Takes s w (take_where s w a b)
takes_tested s w a true idle done =
    record {
      told = refl;
      taken = refl;
      running = beginning s a;
      seat = set_here s.seats w (Some (beginning s a)) None idle;
    }
takes_tested s w a false idle done = absurd (cc)

takes_by : (s : State) (w : ℕ) (o : Option (Option Running)) (next : Option Acceptance) → seat_of s w ≡ o
    → is_refusal (take_by s w o next).reply ≡ false → Takes s w (take_by s w o next)
takes_by s w None next e done = absurd (cc)
takes_by s w (Some (Some r)) next e done = absurd (cc)
takes_by s w (Some None) None e done = absurd (cc)
takes_by s w (Some None) (Some a) e done = takes_tested s w a (has_room s a) e done

takes : (s : State) (w : ℕ) → IsPossible s (move.Take w) → Takes s w (outcome_of s (move.Take w))
takes s w p = takes_by s w (seat_of s w) (slice_get s.plans s.taken) refl (possible_done s (move.Take w) p)

-- ---- an event

-- Another worker's event leaves the seat.
others_leave : (s : State) (m : Move) (w : ℕ) → is_worker w (worker_of m) ≡ false
    → seat_of (next_of s m) w ≡ seat_of s w
others_leave s m w other = go (worker_of m) refl other
  where
    go : (o : Option ℕ) → worker_of m ≡ o → is_worker w o ≡ false → seat_of (next_of s m) w ≡ seat_of s w
    go None e apart = ap (λ ws. slice_get ws w) (all_sit s m e)
    go (Some v) e apart = others_sit s m v w e (λ same. eqb-false v w apart (sym same))

plan_seats : (s : State) (o : Option Acceptance) → (after_plan s o).seats ≡ s.seats
plan_seats s None = refl
plan_seats s (Some a) = (submit_leaves s a).2

plan_taken : (s : State) (o : Option Acceptance) → (after_plan s o).taken ≡ s.taken
plan_taken s None = refl
plan_taken s (Some a) = go (submit_error s a)
  where
    go : (o : Option _) → (submitted_unless o s a).taken ≡ s.taken
    go None = refl
    go (Some error) = refl

-- A take or a finish of a worker in its plan is a finish, and tells how the plan ends.
finishes : (s : State) (m : Move) (w : ℕ) (r : Running) → seat_of s w ≡ Some (Some r) → IsPossible s m
    → is_worker w (worker_of m) ≡ true → is_turn_end (Step m (reply_of s m)) ≡ true
    → IsSome (ending_in (Step m (reply_of s m)))
finishes s (move.Take v) w r h p names ended =
    absurd (busy_takes s v r (subst (λ k. seat_of s k ≡ Some (Some r)) (sym (eqb-true v w names)) h) p)
finishes s (move.Finish v) w r h p names ended =
    tells_ending v (reply_of s (move.Finish v)) (possible_done s (move.Finish v) p) (reply_fits s (move.Finish v))
finishes s (move.Fix v page) w r h p names ended = absurd (cc)
finishes s (move.WriteDone v ok) w r h p names ended = absurd (cc)
finishes s (move.ReadDone v came) w r h p names ended = absurd (cc)
finishes s (move.Unfix v) w r h p names ended = absurd (cc)
finishes s (move.Latch v) w r h p names ended = absurd (cc)
finishes s (move.Unlatch v) w r h p names ended = absurd (cc)
finishes s (move.Choose v i) w r h p names ended = absurd (cc)
finishes s (move.Unwind v slot) w r h p names ended = absurd (cc)
finishes s (move.FlushBegin page) w r h p names ended = absurd (cc)
finishes s (move.FlushDone ok) w r h p names ended = absurd (cc)

-- ---- a turn

-- At the end no worker is in a plan.
abbrev AllRest : State → Type 0
AllRest s = (w : ℕ) (r : Running) → seat_of s w ≡ Some (Some r) → ⊥

-- The turn of a worker in its plan ends.
turn_ends : (plans : List Acceptance) (es : List Event) (s : State) (w : ℕ) (r : Running)
    → seat_of s w ≡ Some (Some r) → IsTrueFrom plans s es → AllRest (replay plans s es) → IsSome (ending_of w es)
turn_ends plans [] s w r h is_true rest = absurd (rest w r h)
turn_ends plans (Submit k ∷ es) s w r h is_true rest =
    let t = after_plan s (slice_get plans k) in
    let seat : seat_of t w ≡ Some (Some r) = ap (λ ws. slice_get ws w) (plan_seats s (slice_get plans k)) ∙ h in
    subst (λ (o : Option Ending). IsSome o) (sym (passed_over w (Submit k) es refl).1)
    (turn_ends plans es t w r seat is_true.1 rest)
turn_ends plans (Step m reply ∷ es) s w r h is_true rest =
    named (λ q seat. turn_ends plans es (next_of s m) w q seat is_true.1 rest) (names_worker w (Step m reply)) refl
  where
    ended : ((q : Running) → seat_of (next_of s m) w ≡ Some (Some q) → IsSome (ending_of w es)) → (b : Bool)
        → is_turn_end (Step m reply) ≡ b → names_worker w (Step m reply) ≡ true
        → IsSome (ending_of w (Step m reply ∷ es))
    ended later true ends names =
        let told : is_turn_end (Step m (reply_of s m)) ≡ true =
        subst (λ x. is_turn_end (Step m x) ≡ true) is_true.0.1 ends in
        subst (λ (o : Option Ending). IsSome o) (sym (over w (Step m reply) es names ends).1)
        (subst (λ x. IsSome (ending_in (Step m x))) (sym is_true.0.1) (finishes s m w r h is_true.0.0 names told))
    ended later false goes names =
        let told : is_turn_end (Step m (reply_of s m)) ≡ false =
        subst (λ x. is_turn_end (Step m x) ≡ false) is_true.0.1 goes in
        let fits = reply_fits s m in
        let stays = (done_leaves s m).seated (no_taking m (reply_of s m) told fits)
        (no_finishing m (reply_of s m) told fits) w r h in
        subst (λ (o : Option Ending). IsSome o) (sym (goes_on w (Step m reply) es names goes).1)
        (later stays.0 stays.1)

    named : ((q : Running) → seat_of (next_of s m) w ≡ Some (Some q) → IsSome (ending_of w es)) → (b : Bool)
        → names_worker w (Step m reply) ≡ b → IsSome (ending_of w (Step m reply ∷ es))
    named later true names = ended later (is_turn_end (Step m reply)) refl names
    named later false other =
        subst (λ (o : Option Ending). IsSome o) (sym (passed_over w (Step m reply) es other).1)
        (later r (others_leave s m w other ∙ h))

-- ---- plans

row_there : (n w : ℕ) (es : List Event) (o : Option Ending) → ending_of w es ≡ o → IsSome o → IsSome (row_after n w es)
row_there n w es (Some ending) e some = rw e refl
row_there n w es None e some = absurd (cc)

first_there : (o p : Option Row) → IsSome o → IsSome (option_or o p)
first_there (Some row) p some = refl
first_there None p some = absurd (cc)

either_there : (o p : Option Row) → IsSome p → IsSome (option_or o p)
either_there (Some row) p some = refl
either_there None p some = some

-- A move that isn't a take takes no plan.
abbrev is_take : Move → Bool
is_take (move.Take w) = true
is_take _ = false

none_taken : (s : State) (m : Move) → is_take m ≡ false → (next_of s m).taken ≡ s.taken
none_taken s m other = (done_leaves s m).taken (go m (reply_of s m) other (reply_fits s m))
  where
    go : (m : Move) (x : Reply) → is_take m ≡ false → IsTrue (fits_reply m x) → is_taking x ≡ false
    go (move.Take w) x other fits = absurd (cc)
    go (move.Finish w) (Taken k) other fits = absurd (cc)
    go (move.Finish w) _ other fits = refl
    go m x other fits = no_taking m x refl fits

-- The take of a plan whose turn ends gives it a row.
taken_row : (n w plan : ℕ) (es : List Event) → (plan == n) ≡ true → IsSome (ending_of w es)
    → IsSome (row_of n (Step (move.Take w) (Taken plan) ∷ es))
taken_row n w plan es same some = rw same (first_there _ (row_of n es) (row_there n w es (ending_of w es) refl some))

-- Each plan that is taken from here on has a row.
rows_there : (plans : List Acceptance) (es : List Event) (s : State) (n : ℕ) → s.taken ≤ n
    → n < (replay plans s es).taken → IsTrueFrom plans s es → AllRest (replay plans s es) → IsSome (row_of n es)
rows_there plans [] s n from below is_true rest = absurd (omega (arith, from, below))
rows_there plans (Submit k ∷ es) s n from below is_true rest =
    let t = after_plan s (slice_get plans k) in
    let same : t.taken ≡ s.taken = plan_taken s (slice_get plans k) in
    rows_there plans es t n (omega (arith, same, from)) below is_true.1 rest
rows_there plans (Step m reply ∷ es) s n from below is_true rest =
    by_move (λ so_far. rows_there plans es (next_of s m) n so_far below is_true.1 rest) m refl
  where
    t : State
    t = next_of s m

    later : IsSome (row_of n es) → IsSome (row_of n (Step m reply ∷ es))
    later there =
        either_there (option_and_then (λ worker. row_after n worker es) (taker n (Step m reply))) (row_of n es) there

    others : (t.taken ≤ n → IsSome (row_of n es)) → is_take m ≡ false → IsSome (row_of n (Step m reply ∷ es))
    others next other =
        let same : t.taken ≡ s.taken = none_taken s m other in
        later (next (omega (arith, same, from)))

    taken : (t.taken ≤ n → IsSome (row_of n es)) → (w : ℕ) → m ≡ move.Take w → (b : Bool) → (s.taken == n) ≡ b
        → IsSome (row_of n (Step m reply ∷ es))
    taken next w e true same =
        let p : IsPossible s (move.Take w) = subst (IsPossible s) e is_true.0.0 in
        let now = takes s w p in
        let told : reply ≡ Taken s.taken = is_true.0.1 ∙ ap (reply_of s) e ∙ now.told in
        let seat : seat_of t w ≡ Some (Some now.running) = ap (λ x. seat_of (next_of s x) w) e ∙ now.seat in
        subst (λ (d : Event). IsSome (row_of n (d ∷ es))) (sym (λ i. Step (e i) (told i)))
        (taken_row n w s.taken es same (turn_ends plans es t w now.running seat is_true.1 rest))
    taken next w e false apart =
        let p : IsPossible s (move.Take w) = subst (IsPossible s) e is_true.0.0 in
        let more : t.taken ≡ s.taken + 1 = ap (λ x. (next_of s x).taken) e ∙ (takes s w p).taken in
        let not_this : s.taken ≢ n = eqb-false s.taken n apart in
        later (next (omega (arith, more, from, not_this)))

    by_move : (t.taken ≤ n → IsSome (row_of n es)) → (x : Move) → m ≡ x → IsSome (row_of n (Step m reply ∷ es))
    by_move next (move.Take w) e = taken next w e (s.taken == n) refl
    by_move next (move.Fix w page) e = others next (ap is_take e)
    by_move next (move.WriteDone w ok) e = others next (ap is_take e)
    by_move next (move.ReadDone w came) e = others next (ap is_take e)
    by_move next (move.Unfix w) e = others next (ap is_take e)
    by_move next (move.Latch w) e = others next (ap is_take e)
    by_move next (move.Unlatch w) e = others next (ap is_take e)
    by_move next (move.Choose w i) e = others next (ap is_take e)
    by_move next (move.Unwind w slot) e = others next (ap is_take e)
    by_move next (move.Finish w) e = others next (ap is_take e)
    by_move next (move.FlushBegin page) e = others next (ap is_take e)
    by_move next (move.FlushDone ok) e = others next (ap is_take e)

-- Each plan of a complete journal has one.
pub each_has_row : (es : List Event) → EachHasRow es
each_has_row es o plans c n below =
    let s = replay plans o es in
    let all : length s.plans ≡ length plans = ap length c.submitted in
    let waits_none : s.taken < length s.plans → ⊥ = (λ less. c.over (inl less)) in
    let none : o.taken ≡ 0 = c.none_taken in
    rows_there plans es o n (omega (arith, none)) (omega (arith, all, waits_none, below)) c.is_true
    (λ w r h. c.over (inr (inl (w, r, h))))

-- ---- lines

-- The plan that a row is of.
abbrev plan_in : Option Row → ℕ
plan_in (Some r) = r.plan
plan_in None = 0

-- What is told of a turn that ends so.
abbrev row_with : (n w : ℕ) → List Event → Ending → Row
row_with n w es ending = record {
  plan = n;
  worker = w;
  steps = count_by is_step (turn_of w es);
  hits = count_by is_hit (turn_of w es);
  loads = count_by is_load (turn_of w es);
  ending = ending;
}

first_names : (n w : ℕ) (es : List Event) (o : Option Ending) (p : Option Row) (r : Row) → (p ≡ Some r → r.plan ≡ n)
    → option_or (option_map (row_with n w es) o) p ≡ Some r → r.plan ≡ n
first_names n w es (Some ending) p r rest f = sym (ap plan_in f)
first_names n w es None p r rest f = rest f

-- A plan's row is of that plan.
row_names : (n : ℕ) (es : List Event) (r : Row) → row_of n es ≡ Some r → r.plan ≡ n
row_names n [] r e = cc
row_names n (d ∷ es) r e = by_taker (λ f. row_names n es r f) (taker n d) e
  where
    by_taker : (row_of n es ≡ Some r → r.plan ≡ n) → (o : Option ℕ)
        → option_or (option_and_then (λ worker. row_after n worker es) o) (row_of n es) ≡ Some r → r.plan ≡ n
    by_taker rest None f = rest f
    by_taker rest (Some w) f = first_names n w es (ending_of w es) (row_of n es) r rest f

-- Rows of the plans from this number on, where each has one.
record RowsFrom (from count : ℕ) (es : List Event) : Type 0 where
  pub rows : List Row
  pub each : map (λ row. row.plan) rows ≡ range_with_len from count
  pub lines : flat_map (λ n. row_line (row_of n es)) (range_with_len from count)
      ≡ flat_map (λ row. row_line (Some row)) rows

rows_from : (from count : ℕ) (es : List Event)
    → ((n : ℕ) → from ≤ n → n < from + count → IsSome (row_of n es)) → RowsFrom from count es
rows_from from zero es some = record { rows = []; each = refl; lines = refl }
rows_from from (suc count) es some =
    by_row (rows_from (from + 1) count es (λ n low high. some n (omega (arith, low)) (omega (arith, high))))
    (row_of from es) refl (some from (omega arith) (omega arith))
  where
    by_row : RowsFrom (from + 1) count es → (o : Option Row) → row_of from es ≡ o → IsSome o
        → RowsFrom from (suc count) es
    by_row more None e there = absurd (cc)
    by_row more (Some r) e there = record {
      rows = r ∷ more.rows;
      each = λ i. row_names from es r e i ∷ more.each i;
      lines = λ i. row_line (e i) ++ more.lines i;
    }

pub tells_each_plan : (r : RunRecord) (text : List ℕ) → text ≡ report_text r → TellsEachPlan r text
tells_each_plan r text is o plans c count =
    let es = r.events.items in
    let some = each_has_row es o plans c in
    let all = rows_from 0 r.plans es (λ n low high. some n (omega (arith, high, count))) in
    record {
      rows = all.rows;
      each = all.each;
      text_is = is ∙ ap (λ lines. heading ++ lines ++ figure_lines r figures) all.lines;
    }
