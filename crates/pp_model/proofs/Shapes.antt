-- What a move is answered and what it leaves alone, by the move: each way of its outcome, by the worker's seat and stage.
use Rattle.std.proofs.Common.{◌≡◌, ◌≢◌, ℕ, zero, suc, Bool, true, false, Option, Some, None, List, [], ◌∷◌, refl, ap}
use Rattle.std.proofs.Common.{◌∙◌, arith}
use Rattle.std.specs.Prelude.{slice_get, slice_set, ◌==◌, IsTrue, nat_lt}
use Rattle.std.proofs.lemmas.Bool.Decides.{nat_tests}
use Rattle.pp_plan.specs.declared.mode.Mode.{Mode}
use Rattle.pp_plan.specs.declared.action.Action.TheVariants as action
use Rattle.pp_plan.specs.declared.action.Ask.{Ask}
use Rattle.pp_plan.specs.declared.action.Ask.TheVariants as ask
use Rattle.pp_cert.specs.declared.note.Held.{Held}
use Rattle.pp_cert.specs.declared.note.Held.TheVariants.{Free, S, X}
use Rattle.pp_cert.specs.Accepted.{Acceptance}
use Rattle.pp_cert.specs.Held.{Holding, Holdings, holding_at}
use Rattle.pp_arc.specs.declared.answer.Answer.{Answer}
use Rattle.pp_arc.specs.declared.answer.Answer.TheVariants as answer
use Rattle.pp_arc.specs.FourLists.{FourLists}
use Rattle.pp_arc.specs.Figure.{request}
use Rattle.pp_model.specs.declared.moves.Came.{Came}
use Rattle.pp_model.specs.declared.moves.Came.TheVariants.{Fault, Image}
use Rattle.pp_model.specs.declared.moves.Move.{Move}
use Rattle.pp_model.specs.declared.moves.Move.TheVariants as move
use Rattle.pp_model.specs.declared.refusals.Cause.{Cause}
use Rattle.pp_model.specs.declared.refusals.Cause.TheVariants.{NoWorker, NotActing, NoErrand, NotAsked, NotLeaving}
use Rattle.pp_model.specs.declared.refusals.Cause.TheVariants.{NotHeld, NotEnded, NotIdle}
use Rattle.pp_model.specs.declared.refusals.Delay.{Delay}
use Rattle.pp_model.specs.declared.refusals.Delay.TheVariants.{InFlight, FlushHolds, LatchHeld, NoRoom}
use Rattle.pp_model.specs.declared.refusals.Delay.TheVariants.{NothingWaiting}
use Rattle.pp_model.specs.Pool.{Stage, acting, writing, reading, leaving, Running, Flush, State, is_dirty}
use Rattle.pp_model.specs.Holders.{holdings, is_in_flight, is_busy, page_in, held_in}
use Rattle.pp_model.specs.Outcome.{Outcome, not_now, off_plan, at_stage, having_done, with_lists, released}
use Rattle.pp_model.specs.Taking.{has_room, beginning, take_where, take_by}
use Rattle.pp_model.specs.Fixing.{fix_slot, evict_where, fix_by, fix_where, fix_asked, fixes}
use Rattle.pp_model.specs.Answers.{write_where, write_in, write_by, is_misread, read_where, read_came, read_in, read_by}
use Rattle.pp_model.specs.Using.{unfix_asked, goes_with, latch_where, latch_asked, unlatch_asked}
use Rattle.pp_model.specs.Using.{choose_where, choose_asked}
use Rattle.pp_model.specs.Leaving.{unwound, unwind_where, unwind_in, unwind_by, finish_asked, finish_holding, finish_in}
use Rattle.pp_model.specs.Leaving.{finish_by}
use Rattle.pp_model.specs.Flushing.{flush_where, flush_by, is_clean, flushed_where, flushed_by}
use Rattle.pp_model.specs.Moves.{asked_by, act_in, act_by, seat_of, outcome_of, reply_of}
use Rattle.pp_model.specs.WorkerParts.{worker_of}
use Rattle.pp_model.specs.Shapes.{fits_reply, RepliesFit}

-- ---- a worker's move

-- A move of worker w is answered so, and all seats but its own stay, and the flush and the settings.
pub record OneSeat (s : State) (m : Move) (w : ℕ) (o : Outcome) : Type 0 where
  pub fits : IsTrue (fits_reply m o.reply)
  pub flush : o.state.flush ≡ s.flush
  pub settings : o.state.settings ≡ s.settings
  pub others : (v : ℕ) → v ≢ w → seat_of o.state v ≡ seat_of s v

-- A list that is changed at one place is as it was at all others.
set_other : {A : Type 0} (xs : List A) (i : ℕ) (x : A) (k : ℕ) → k ≢ i
    → slice_get (slice_set xs i x) k ≡ slice_get xs k
set_other [] i x k apart = refl
set_other (y ∷ ys) zero x zero apart = absurd (apart refl)
set_other (y ∷ ys) zero x (suc k) apart = refl
set_other (y ∷ ys) (suc i) x zero apart = refl
set_other (y ∷ ys) (suc i) x (suc k) apart = set_other ys i x k (λ e. apart (ap suc e))

off : (s : State) (m : Move) (w : ℕ) (cause : Cause) → OneSeat s m w (off_plan s cause)
off s m w cause = record { fits = refl; flush = refl; settings = refl; others = λ v apart. refl }

later : (s : State) (m : Move) (w : ℕ) (delay : Delay) → OneSeat s m w (not_now s delay)
later s m w delay = record { fits = refl; flush = refl; settings = refl; others = λ v apart. refl }

-- The worker's seat changes.
sits : (s : State) (m : Move) (w : ℕ) (o : Outcome) (x : Option Running) → IsTrue (fits_reply m o.reply)
    → o.state.flush ≡ s.flush → o.state.settings ≡ s.settings → o.state.seats ≡ slice_set s.seats w x
    → OneSeat s m w o
sits s m w o x fits flush settings seats =
    record {
      fits = fits;
      flush = flush;
      settings = settings;
      others = λ v apart. ap (λ k. slice_get k v) seats ∙ set_other s.seats w x v apart;
    }

-- ---- Take and Fix

take_tested : (s : State) (w : ℕ) (a : Acceptance) (b : Bool) → OneSeat s (move.Take w) w (take_where s w a b)
take_tested s w a true = sits s _ w _ (Some (beginning s a)) refl refl refl refl
take_tested s w a false = later s _ w NoRoom

take_one : (s : State) (w : ℕ) (o : Option (Option Running)) (next : Option Acceptance)
    → OneSeat s (move.Take w) w (take_by s w o next)
take_one s w None next = off s _ w NoWorker
take_one s w (Some (Some r)) next = off s _ w NotIdle
take_one s w (Some None) None = later s _ w NothingWaiting
take_one s w (Some None) (Some a) = take_tested s w a (has_room s a)

evicted : (s : State) (l : FourLists) (w : ℕ) (r : Running) (slot page v : ℕ) (b : Bool)
    → OneSeat s (move.Fix w page) w (evict_where (with_lists s l) w r slot page v b)
evicted s l w r slot page v true = sits s _ w _ (Some (at_stage r (writing slot page v))) refl refl refl refl
evicted s l w r slot page v false = sits s _ w _ (Some (at_stage r (reading slot page))) refl refl refl refl

fix_answered : (s : State) (l : FourLists) (w : ℕ) (r : Running) (slot page : ℕ) (x : Answer)
    → OneSeat s (move.Fix w page) w (fix_by s l w r slot page x)
fix_answered s l w r slot page answer.Hit =
    sits s _ w _ (Some (having_done r (fixes (asked_by r) slot page))) refl refl refl refl
fix_answered s l w r slot page answer.Free = sits s _ w _ (Some (at_stage r (reading slot page))) refl refl refl refl
fix_answered s l w r slot page (answer.Evict v) = evicted s l w r slot page v (is_dirty s v)
fix_answered s l w r slot page answer.AllBusy = later s _ w FlushHolds

fix_flies : (s : State) (w : ℕ) (r : Running) (slot page : ℕ) (b : Bool)
    → OneSeat s (move.Fix w page) w (fix_where s w r slot page b)
fix_flies s w r slot page true = later s _ w InFlight
fix_flies s w r slot page false =
    let answered = request s.lists page (is_busy s) in fix_answered s answered.1 w r slot page answered.0

fixed : (s : State) (w : ℕ) (r : Running) (page : ℕ) (o : Option ℕ)
    → OneSeat s (move.Fix w page) w (fix_asked s w r page o)
fixed s w r page None = off s _ w NotAsked
fixed s w r page (Some slot) = fix_flies s w r slot page (is_in_flight s page)

-- ---- moves of acting workers without a device

-- The end of a latch leaves all but a page.
released_seats : (s : State) (h : Held) (page : ℕ) → (released s h page).seats ≡ s.seats
released_seats s Free page = refl
released_seats s S page = refl
released_seats s X page = refl

released_flush : (s : State) (h : Held) (page : ℕ) → (released s h page).flush ≡ s.flush
released_flush s Free page = refl
released_flush s S page = refl
released_flush s X page = refl

released_settings : (s : State) (h : Held) (page : ℕ) → (released s h page).settings ≡ s.settings
released_settings s Free page = refl
released_settings s S page = refl
released_settings s X page = refl

unfixed : (s : State) (w : ℕ) (r : Running) (x : Ask) → OneSeat s (move.Unfix w) w (unfix_asked s w r x)
unfixed s w r (ask.Unfix slot) = sits s _ w _ (Some (having_done r (action.Unfix slot))) refl refl refl refl
unfixed s w r (ask.Scatter slot) = sits s _ w _ (Some (having_done r (action.Scatter slot))) refl refl refl refl
unfixed s w r _ = off s _ w NotAsked

latch_tested : (s : State) (w : ℕ) (r : Running) (slot : ℕ) (m : Mode) (b : Bool)
    → OneSeat s (move.Latch w) w (latch_where s w r slot m b)
latch_tested s w r slot m true = sits s _ w _ (Some (having_done r (action.Latch slot m))) refl refl refl refl
latch_tested s w r slot m false = later s _ w LatchHeld

latched : (s : State) (w : ℕ) (r : Running) (x : Ask) → OneSeat s (move.Latch w) w (latch_asked s w r x)
latched s w r (ask.Latch slot m) = latch_tested s w r slot m (goes_with s m (page_in r slot))
latched s w r _ = off s _ w NotAsked

unlatches : (s : State) (w : ℕ) (r : Running) (x : Ask) → OneSeat s (move.Unlatch w) w (unlatch_asked s w r x)
unlatches s w r (ask.Unlatch slot) =
    let y = Some (having_done r (action.Unlatch slot)) in
    sits s _ w _ y refl (released_flush s (held_in r slot) (page_in r slot))
    (released_settings s (held_in r slot) (page_in r slot))
    (ap (λ k. slice_set k w y) (released_seats s (held_in r slot) (page_in r slot)))
unlatches s w r _ = off s _ w NotAsked

choose_tested : (s : State) (w : ℕ) (r : Running) (i : ℕ) (b : Bool)
    → OneSeat s (move.Choose w i) w (choose_where s w r i b)
choose_tested s w r i true = sits s _ w _ (Some (having_done r (action.Choose i))) refl refl refl refl
choose_tested s w r i false = off s _ w NotAsked

chose : (s : State) (w : ℕ) (r : Running) (i : ℕ) (x : Ask) → OneSeat s (move.Choose w i) w (choose_asked s w r i x)
chose s w r i (ask.Choose n) = choose_tested s w r i (nat_lt i n)
chose s w r i _ = off s _ w NotAsked

act_staged : (s : State) (m : Move) (w : ℕ) (act : Running → Outcome) (r : Running) (g : Stage)
    → OneSeat s m w (act r) → OneSeat s m w (act_in s act r g)
act_staged s m w act r acting k = k
act_staged s m w act r (writing slot page v) k = off s m w NotActing
act_staged s m w act r (reading slot page) k = off s m w NotActing
act_staged s m w act r (leaving given) k = off s m w NotActing

acts : (s : State) (m : Move) (w : ℕ) (act : Running → Outcome) (o : Option (Option Running))
    → ((r : Running) → OneSeat s m w (act r)) → OneSeat s m w (act_by s act o)
acts s m w act None all = off s m w NoWorker
acts s m w act (Some None) all = off s m w NotActing
acts s m w act (Some (Some r)) all = act_staged s m w act r r.stage (all r)

-- ---- answers of the device

written : (s : State) (w : ℕ) (r : Running) (slot page v : ℕ) (ok : Bool)
    → OneSeat s (move.WriteDone w ok) w (write_where s w r slot page v ok)
written s w r slot page v true = sits s _ w _ (Some (at_stage r (reading slot page))) refl refl refl refl
written s w r slot page v false = sits s _ w _ (Some (at_stage r (leaving []))) refl refl refl refl

write_staged : (s : State) (w : ℕ) (ok : Bool) (r : Running) (g : Stage)
    → OneSeat s (move.WriteDone w ok) w (write_in s w ok r g)
write_staged s w ok r acting = off s _ w NoErrand
write_staged s w ok r (writing slot page v) = written s w r slot page v ok
write_staged s w ok r (reading slot page) = off s _ w NoErrand
write_staged s w ok r (leaving given) = off s _ w NoErrand

write_one : (s : State) (w : ℕ) (ok : Bool) (o : Option (Option Running))
    → OneSeat s (move.WriteDone w ok) w (write_by s w ok o)
write_one s w ok None = off s _ w NoWorker
write_one s w ok (Some None) = off s _ w NoErrand
write_one s w ok (Some (Some r)) = write_staged s w ok r r.stage

same_number : (n : ℕ) → IsTrue (n == n)
same_number n = grind (arith, nat_tests)

stamp_tested : (s : State) (w : ℕ) (r : Running) (slot page named stamp : ℕ) (b : Bool)
    → OneSeat s (move.ReadDone w (Image named stamp)) w (read_where s w r slot page stamp b)
stamp_tested s w r slot page named stamp true = sits s _ w _ (Some (at_stage r (leaving []))) refl refl refl refl
stamp_tested s w r slot page named stamp false =
    sits s _ w _ (Some (having_done r (fixes (asked_by r) slot page))) (same_number stamp) refl refl refl

came_in : (s : State) (w : ℕ) (r : Running) (slot page : ℕ) (came : Came)
    → OneSeat s (move.ReadDone w came) w (read_came s w r slot page came)
came_in s w r slot page Fault = sits s _ w _ (Some (at_stage r (leaving []))) refl refl refl refl
came_in s w r slot page (Image named stamp) =
    stamp_tested s w r slot page named stamp (is_misread s page named stamp)

read_staged : (s : State) (w : ℕ) (came : Came) (r : Running) (g : Stage)
    → OneSeat s (move.ReadDone w came) w (read_in s w came r g)
read_staged s w came r acting = off s _ w NoErrand
read_staged s w came r (writing slot page v) = off s _ w NoErrand
read_staged s w came r (reading slot page) = came_in s w r slot page came
read_staged s w came r (leaving given) = off s _ w NoErrand

read_one : (s : State) (w : ℕ) (came : Came) (o : Option (Option Running))
    → OneSeat s (move.ReadDone w came) w (read_by s w came o)
read_one s w came None = off s _ w NoWorker
read_one s w came (Some None) = off s _ w NoErrand
read_one s w came (Some (Some r)) = read_staged s w came r r.stage

-- ---- workers that leave or end

unwound_fits : (w slot : ℕ) (h : Held) (mark : ℕ) → IsTrue (fits_reply (move.Unwind w slot) (unwound h mark))
unwound_fits w slot Free mark = refl
unwound_fits w slot S mark = refl
unwound_fits w slot X mark = refl

unwinds : (s : State) (w : ℕ) (r : Running) (slot : ℕ) (given : List ℕ) (o : Option Holding)
    → OneSeat s (move.Unwind w slot) w (unwind_where s w r slot given o)
unwinds s w r slot given None = off s _ w NotHeld
unwinds s w r slot given (Some h) =
    let y = Some (at_stage r (leaving (slot ∷ given))) in
    sits s _ w _ y (unwound_fits w slot h.held _) (released_flush s h.held h.page) (released_settings s h.held h.page)
    (ap (λ k. slice_set k w y) (released_seats s h.held h.page))

unwind_staged : (s : State) (w slot : ℕ) (r : Running) (g : Stage)
    → OneSeat s (move.Unwind w slot) w (unwind_in s w slot r g)
unwind_staged s w slot r acting = off s _ w NotLeaving
unwind_staged s w slot r (writing x page v) = off s _ w NotLeaving
unwind_staged s w slot r (reading x page) = off s _ w NotLeaving
unwind_staged s w slot r (leaving given) = unwinds s w r slot given (holding_at (holdings r) slot)

unwind_one : (s : State) (w slot : ℕ) (o : Option (Option Running))
    → OneSeat s (move.Unwind w slot) w (unwind_by s w slot o)
unwind_one s w slot None = off s _ w NoWorker
unwind_one s w slot (Some None) = off s _ w NotLeaving
unwind_one s w slot (Some (Some r)) = unwind_staged s w slot r r.stage

end_asked : (s : State) (w : ℕ) (r : Running) (x : Ask) → OneSeat s (move.Finish w) w (finish_asked s w r x)
end_asked s w r ask.End = sits s _ w _ None refl refl refl refl
end_asked s w r _ = off s _ w NotEnded

left_holding : (s : State) (w : ℕ) (r : Running) (hs : Holdings)
    → OneSeat s (move.Finish w) w (finish_holding s w r hs)
left_holding s w r [] = sits s _ w _ None refl refl refl refl
left_holding s w r (h ∷ hs) = off s _ w NotEnded

finish_staged : (s : State) (w : ℕ) (r : Running) (g : Stage) → OneSeat s (move.Finish w) w (finish_in s w r g)
finish_staged s w r acting = end_asked s w r (asked_by r)
finish_staged s w r (writing slot page v) = off s _ w NotActing
finish_staged s w r (reading slot page) = off s _ w NotActing
finish_staged s w r (leaving given) = left_holding s w r (holdings r)

finish_one : (s : State) (w : ℕ) (o : Option (Option Running)) → OneSeat s (move.Finish w) w (finish_by s w o)
finish_one s w None = off s _ w NoWorker
finish_one s w (Some None) = off s _ w NotActing
finish_one s w (Some (Some r)) = finish_staged s w r r.stage

-- ---- the flusher's moves

-- A move of the flusher is answered so, and all seats and the settings stay.
pub record NoSeat (s : State) (m : Move) (o : Outcome) : Type 0 where
  pub fits : IsTrue (fits_reply m o.reply)
  pub seats : o.state.seats ≡ s.seats
  pub settings : o.state.settings ≡ s.settings

flush_tested : (s : State) (page : ℕ) (a b c : Bool) → NoSeat s (move.FlushBegin page) (flush_where s page a b c)
flush_tested s page false b c = record { fits = refl; seats = refl; settings = refl }
flush_tested s page true false c = record { fits = refl; seats = refl; settings = refl }
flush_tested s page true true true = record { fits = refl; seats = refl; settings = refl }
flush_tested s page true true false = record { fits = refl; seats = refl; settings = refl }

pub begin_none : (s : State) (page : ℕ) (o : Option Flush) → NoSeat s (move.FlushBegin page) (flush_by s page o)
begin_none s page (Some f) = record { fits = refl; seats = refl; settings = refl }
begin_none s page None = flush_tested s page _ _ _

over_tested : (s : State) (ok : Bool) (page : ℕ) (b : Bool) → NoSeat s (move.FlushDone ok) (flushed_where s page b)
over_tested s ok page true = record { fits = refl; seats = refl; settings = refl }
over_tested s ok page false = record { fits = refl; seats = refl; settings = refl }

pub done_none : (s : State) (ok : Bool) (o : Option Flush) → NoSeat s (move.FlushDone ok) (flushed_by s ok o)
done_none s ok None = record { fits = refl; seats = refl; settings = refl }
done_none s ok (Some f) = over_tested s ok f.page (is_clean s ok f)

-- ---- all moves

-- A worker's move changes one seat, one of the flusher's none.
abbrev pub Alone : State → Move → Option ℕ → Type 0
Alone s m (Some w) = OneSeat s m w (outcome_of s m)
Alone s m None = NoSeat s m (outcome_of s m)

pub alone : (s : State) (m : Move) → Alone s m (worker_of m)
alone s (move.Take w) = take_one s w (seat_of s w) (slice_get s.plans s.taken)
alone s (move.Fix w page) = acts s _ w _ (seat_of s w) (λ r. fixed s w r page (fix_slot r page (asked_by r)))
alone s (move.WriteDone w ok) = write_one s w ok (seat_of s w)
alone s (move.ReadDone w came) = read_one s w came (seat_of s w)
alone s (move.Unfix w) = acts s _ w _ (seat_of s w) (λ r. unfixed s w r (asked_by r))
alone s (move.Latch w) = acts s _ w _ (seat_of s w) (λ r. latched s w r (asked_by r))
alone s (move.Unlatch w) = acts s _ w _ (seat_of s w) (λ r. unlatches s w r (asked_by r))
alone s (move.Choose w i) = acts s _ w _ (seat_of s w) (λ r. chose s w r i (asked_by r))
alone s (move.Unwind w slot) = unwind_one s w slot (seat_of s w)
alone s (move.Finish w) = finish_one s w (seat_of s w)
alone s (move.FlushBegin page) = begin_none s page s.flush
alone s (move.FlushDone ok) = done_none s ok s.flush

-- ---- what moves are answered

pub reply_fits : (s : State) → RepliesFit s
reply_fits s m = go (worker_of m) (alone s m)
  where
    go : (o : Option ℕ) → Alone s m o → IsTrue (fits_reply m (reply_of s m))
    go (Some w) k = k.fits
    go None k = k.fits
