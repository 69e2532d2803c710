-- What a move that is done does to what is counted of plans: it is what its event counts for.
use Rattle.std.proofs.Common.{◌≡◌, ◌∙◌, ℕ, ◌+◌, cond, Bool, true, false, Option, Some, None, List, [], ◌∷◌, ◌++◌}
use Rattle.std.proofs.Common.{count_by, refl, sym, ap, subst, inl, inr, arith}
use Rattle.std.specs.Prelude.{slice_get, slice_set, not}
use Rattle.std.proofs.lemmas.List.Sums.{sum_by-cons, sum_by-append}
use Rattle.pp_plan.specs.declared.action.Action.TheVariants as action
use Rattle.pp_cert.specs.Accepted.{Acceptance}
use Rattle.pp_cert.specs.declared.note.Held.{Held}
use Rattle.pp_cert.specs.declared.note.Held.TheVariants.{Free, S, X}
use Rattle.pp_model.specs.declared.event.Event.TheVariants.{Step}
use Rattle.pp_model.specs.declared.moves.Move.{Move}
use Rattle.pp_model.specs.declared.reply.Ending.{Ending}
use Rattle.pp_model.specs.declared.reply.Ending.TheVariants.{Done, Gone}
use Rattle.pp_model.specs.declared.reply.Failure.TheVariants.{WriteFault, ReadFault, Misread}
use Rattle.pp_model.specs.declared.reply.Reply.{Reply}
use Rattle.pp_model.specs.declared.reply.Reply.TheVariants.{Taken, Hit, MustRead, MustWrite, Failed, Loaded, Did}
use Rattle.pp_model.specs.declared.reply.Reply.TheVariants.{Latched, Unlatched, Finished, Flushing, Flushed}
use Rattle.pp_model.specs.Pool.{leaving, Running, Finished as Ended, State, frame_at, mark_at}
use Rattle.pp_model.specs.Holders.{page_in, held_in}
use Rattle.pp_model.specs.Outcome.{at_stage, having_done, released}
use Rattle.pp_model.specs.Fixing.{free_frame}
use Rattle.pp_model.specs.Using.{unlatched}
use Rattle.pp_model.specs.Leaving.{unwound}
use Rattle.pp_model.specs.Moves.{seat_of, outcome_of, reply_of, next_of, is_refusal, IsPossible}
use Rattle.pp_model.proofs.Changes as change
use Rattle.pp_model.proofs.Changes.{Change, Tells, Result, result}
use Rattle.pp_model.proofs.Sums.{sum_by-slice_set}
use Rattle.pp_totals.specs.Counting.{is_take, is_done, is_gone}
use Rattle.pp_totals.specs.Complete.{has_plan, busy, is_whole, done_plans, gone_plans}

-- ---- what this is about

-- What is kept of plans.
record Accounts : Type 0 where
  pub plans : List Acceptance
  pub taken : ℕ
  pub seats : List (Option Running)
  pub finished : List Ended

abbrev accounts_of : State → Accounts
accounts_of s = record { plans = s.plans; taken = s.taken; seats = s.seats; finished = s.finished }

abbrev seated : Accounts → ℕ → Option Running → Accounts
seated c w x = record c { seats = slice_set c.seats w x }

abbrev number : Bool → ℕ
number b = cond b 1 0

-- The state after a move that is answered so.
pub record Effect (s t : State) (m : Move) (x : Reply) : Type 0 where
  pub plans : t.plans ≡ s.plans
  pub taken : t.taken ≡ s.taken + number (is_take (Step m x))
  pub done : done_plans t ≡ done_plans s + number (is_done (Step m x))
  pub gone : gone_plans t ≡ gone_plans s + number (is_gone (Step m x))
  pub with_workers : busy s + number (is_take (Step m x))
      ≡ number (is_done (Step m x)) + number (is_gone (Step m x)) + busy t

-- A reply that counts for none of these.
record IsNone (m : Move) (x : Reply) : Type 0 where
  pub take : is_take (Step m x) ≡ false
  pub done : is_done (Step m x) ≡ false
  pub gone : is_gone (Step m x) ≡ false

none : (m : Move) (x : Reply) → is_take (Step m x) ≡ false → is_done (Step m x) ≡ false → is_gone (Step m x) ≡ false
    → IsNone m x
none m x take done gone = record { take = take; done = done; gone = gone }

-- ---- moves that count for none

zero_of : (b : Bool) → b ≡ false → number b ≡ 0
zero_of b e = ap {B = ℕ} number e

-- A worker's seat is written: so many are busy as before, but for it.
seats_set : (seats : List (Option Running)) (w : ℕ) (x y : Option Running) → slice_get seats w ≡ Some x
    → count_by has_plan (slice_set seats w y) + number (has_plan x) ≡ count_by has_plan seats + number (has_plan y)
seats_set seats w x y e = sum_by-slice_set (λ z. cond (has_plan z) 1 0) seats w x y e

quiet : (s t : State) (m : Move) (x : Reply) → IsNone m x → t.plans ≡ s.plans → t.taken ≡ s.taken
    → t.finished ≡ s.finished → busy t ≡ busy s → Effect s t m x
quiet s t m x n plans taken finished same =
    let take = zero_of (is_take (Step m x)) n.take in
    let done = zero_of (is_done (Step m x)) n.done in
    let gone = zero_of (is_gone (Step m x)) n.gone in
    record {
      plans = plans;
      taken = omega (arith, taken, take);
      done = omega (arith, ap (λ (fs : List Ended). count_by (λ f. is_whole f.ending) fs) finished, done);
      gone = omega (arith, ap (λ (fs : List Ended). count_by (λ f. not (is_whole f.ending)) fs) finished, gone);
      with_workers = omega (arith, same, take, done, gone);
    }

-- A worker in its plan goes on with it.
goes : (s t : State) (m : Move) (x y : Reply) (w : ℕ) (r q : Running) → x ≡ y → IsNone m y
    → seat_of s w ≡ Some (Some r) → accounts_of t ≡ seated (accounts_of s) w (Some q) → Effect s t m x
goes s t m x y w r q told n has e =
    let seats : count_by has_plan t.seats ≡ count_by has_plan (slice_set s.seats w (Some q)) =
    ap (λ (c : Accounts). count_by has_plan c.seats) e in
    let same : busy t ≡ busy s = omega (arith, seats, seats_set s.seats w (Some r) (Some q) has) in
    subst (Effect s t m) (sym told)
    (quiet s t m y n (ap (λ (c : Accounts). c.plans) e) (ap (λ (c : Accounts). c.taken) e)
    (ap (λ (c : Accounts). c.finished) e) same)

-- No worker's seat changes.
rests : (s t : State) (m : Move) (x y : Reply) → x ≡ y → IsNone m y → accounts_of t ≡ accounts_of s → Effect s t m x
rests s t m x y told n e =
    subst (Effect s t m) (sym told)
    (quiet s t m y n (ap (λ (c : Accounts). c.plans) e) (ap (λ (c : Accounts). c.taken) e)
    (ap (λ (c : Accounts). c.finished) e) (ap (λ (c : Accounts). count_by has_plan c.seats) e))

-- ---- a take and a finish

takes : (s t : State) (m : Move) (x : Reply) (k w : ℕ) (q : Running) → x ≡ Taken k → seat_of s w ≡ Some None
    → accounts_of t ≡ record (seated (accounts_of s) w (Some q)) { taken = s.taken + 1 } → Effect s t m x
takes s t m x k w q told idle e =
    let seats : count_by has_plan t.seats ≡ count_by has_plan (slice_set s.seats w (Some q)) =
    ap (λ (c : Accounts). count_by has_plan c.seats) e in
    let now : busy t ≡ busy s + 1 = omega (arith, seats, seats_set s.seats w None (Some q) idle) in
    let finished = ap (λ (c : Accounts). c.finished) e in
    subst (Effect s t m) (sym told) (record {
      plans = ap (λ (c : Accounts). c.plans) e;
      taken = ap (λ (c : Accounts). c.taken) e;
      done = omega (arith, ap (λ (fs : List Ended). count_by (λ f. is_whole f.ending) fs) finished);
      gone = omega (arith, ap (λ (fs : List Ended). count_by (λ f. not (is_whole f.ending)) fs) finished);
      with_workers = omega (arith, now);
    })

ended_more : (P : Ended → Bool) (fs : List Ended) (f : Ended)
    → count_by P (fs ++ f ∷ []) ≡ count_by P fs + number (P f)
ended_more P fs f =
    omega (arith, sum_by-append (λ x. cond (P x) 1 0) fs (f ∷ []), sum_by-cons (λ x. cond (P x) 1 0) f [])

finishes : (s t : State) (m : Move) (x : Reply) (w : ℕ) (r : Running) (ending : Ending) → x ≡ Finished ending
    → seat_of s w ≡ Some (Some r)
    → accounts_of t
    ≡ record (seated (accounts_of s) w None)
    { finished = s.finished ++ record { number = r.number; ending = ending } ∷ [] }
    → Effect s t m x
finishes s t m x w r ending told has e =
    let f : Ended = record { number = r.number; ending = ending } in
    let seats : count_by has_plan t.seats ≡ count_by has_plan (slice_set s.seats w None) =
    ap (λ (c : Accounts). count_by has_plan c.seats) e in
    let now : busy t + 1 ≡ busy s = omega (arith, seats, seats_set s.seats w (Some r) None has) in
    let done : done_plans t ≡ done_plans s + number (is_whole ending) =
    ap (λ (c : Accounts). count_by (λ f. is_whole f.ending) c.finished) e
    ∙ ended_more (λ f. is_whole f.ending) s.finished f in
    let gone : gone_plans t ≡ gone_plans s + number (not (is_whole ending)) =
    ap (λ (c : Accounts). count_by (λ f. not (is_whole f.ending)) c.finished) e
    ∙ ended_more (λ f. not (is_whole f.ending)) s.finished f in
    subst (Effect s t m) (sym told)
    (by_ending ending (ap (λ (c : Accounts). c.plans) e) (ap (λ (c : Accounts). c.taken) e) done gone now)
  where
    by_ending : (y : Ending) → t.plans ≡ s.plans → t.taken ≡ s.taken
        → done_plans t ≡ done_plans s + number (is_whole y) → gone_plans t ≡ gone_plans s + number (not (is_whole y))
        → busy t + 1 ≡ busy s → Effect s t m (Finished y)
    by_ending Done plans taken done gone now = record {
      plans = plans;
      taken = omega (arith, taken);
      done = done;
      gone = gone;
      with_workers = omega (arith, now);
    }
    by_ending Gone plans taken done gone now = record {
      plans = plans;
      taken = omega (arith, taken);
      done = done;
      gone = gone;
      with_workers = omega (arith, now);
    }

-- ---- all moves

released_accounts : (s : State) (k : Held) (page : ℕ) → accounts_of (released s k page) ≡ accounts_of s
released_accounts s Free page = refl
released_accounts s S page = refl
released_accounts s X page = refl

unwound_none : (m : Move) (k : Held) (mark : ℕ) → IsNone m (unwound k mark)
unwound_none m Free mark = none m Did refl refl refl
unwound_none m S mark = none m Did refl refl refl
unwound_none m X mark = none m (Unlatched mark) refl refl refl

effect : (s t : State) (m : Move) (c : Change s t) (x : Reply) → Tells c x → Effect s t m x
effect s t m (change.stays e) x told = absurd told
effect s t m (change.takes w a idle next fits e) x told = takes s t m x s.taken w _ told idle (ap accounts_of e)
effect s t m (change.hits w r slot page l asked is e) x told =
    goes s t m x (Hit (frame_at s page) (mark_at s page)) w r _ told (none m _ refl refl refl) asked.at.seat
    (ap accounts_of e)
effect s t m (change.fills w r slot page l asked is e) x told =
    goes s t m x (MustRead (free_frame s)) w r _ told (none m _ refl refl refl) asked.at.seat (ap accounts_of e)
effect s t m (change.evicts w r slot page v l asked is clean e) x told =
    goes s t m x (MustRead (frame_at s v)) w r _ told (none m _ refl refl refl) asked.at.seat (ap accounts_of e)
effect s t m (change.sends w r slot page v l asked is dirty e) x told =
    goes s t m x (MustWrite (frame_at s v) v) w r _ told (none m _ refl refl refl) asked.at.seat (ap accounts_of e)
effect s t m (change.writes w r slot page v at e) x told =
    goes s t m x (MustRead (frame_at s page)) w r _ told (none m _ refl refl refl) at.seat (ap accounts_of e)
effect s t m (change.brings w r slot page v at e) x told =
    goes s t m x (Failed WriteFault) w r _ told (none m _ refl refl refl) at.seat (ap accounts_of e)
effect s t m (change.forgets w r slot page at e) x (inl told) =
    goes s t m x (Failed ReadFault) w r _ told (none m _ refl refl refl) at.seat (ap accounts_of e)
effect s t m (change.forgets w r slot page at e) x (inr told) =
    goes s t m x (Failed Misread) w r _ told (none m _ refl refl refl) at.seat (ap accounts_of e)
effect s t m (change.loads w r slot page stamp at known e) x told =
    goes s t m x (Loaded stamp) w r _ told (none m _ refl refl refl) at.seat (ap accounts_of e)
effect s t m (change.unfixes w r slot a back asked e) x told =
    goes s t m x Did w r _ told (none m _ refl refl refl) asked.at.seat (ap accounts_of e)
effect s t m (change.latches w r slot k asked fits e) x told =
    goes s t m x (Latched (mark_at s (page_in r slot))) w r _ told (none m _ refl refl refl) asked.at.seat
    (ap accounts_of e)
effect s t m (change.unlatches w r slot asked e) x told =
    let q = having_done r (action.Unlatch slot) in
    goes s t m x (Unlatched (mark_at (unlatched s r slot) (page_in r slot))) w r q told (none m _ refl refl refl)
    asked.at.seat
    (ap accounts_of e ∙ ap (λ c. seated c w (Some q)) (released_accounts s (held_in r slot) (page_in r slot)))
effect s t m (change.chooses w r i asked e) x told =
    goes s t m x Did w r _ told (none m _ refl refl refl) asked.at.seat (ap accounts_of e)
effect s t m (change.unwinds w r slot given h at found e) x told =
    let q = at_stage r (leaving (slot ∷ given)) in
    let mark = mark_at (released s h.held h.page) h.page in
    goes s t m x (unwound h.held mark) w r q told (unwound_none m h.held mark) at.seat
    (ap accounts_of e ∙ ap (λ c. seated c w (Some q)) (released_accounts s h.held h.page))
effect s t m (change.ends w r at asked e) x told = finishes s t m x w r Done told at.seat (ap accounts_of e)
effect s t m (change.leaves w r given at gone e) x told = finishes s t m x w r Gone told at.seat (ap accounts_of e)
effect s t m (change.flushes page can e) x told =
    rests s t m x (Flushing (mark_at s page)) told (none m _ refl refl refl) (ap accounts_of e)
effect s t m (change.cleans f is e) x told =
    rests s t m x (Flushed true) told (none m _ refl refl refl) (ap accounts_of e)
effect s t m (change.drops f is e) x told =
    rests s t m x (Flushed false) told (none m _ refl refl refl) (ap accounts_of e)

not_refused : (b : Bool) → b ≡ true → not b ≡ true → ⊥
not_refused true e p = cc
not_refused false e p = cc

pub effect_of : (s : State) (m : Move) → IsPossible s m → Effect s (next_of s m) m (reply_of s m)
effect_of s m p = go (result s m)
  where
    go : Result s (outcome_of s m) → Effect s (next_of s m) m (reply_of s m)
    go (change.refused r e) = absurd (not_refused (is_refusal (reply_of s m)) r p)
    go (change.done r c real told) = effect s (next_of s m) m c (reply_of s m) told
