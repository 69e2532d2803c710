-- The next turn: there is one exactly while something is under way, and it is open.
use Rattle.std.proofs.Common.{◌≡◌, ℕ, ◌<◌, Bool, true, false, Option, Some, None, ◌∷◌, []}
use Rattle.std.proofs.Common.{length, not, refl, sym, subst, inl, inr, arith}
use Rattle.std.specs.Prelude.{◌↔◌, nat_lt, IsSome, get_or, option_map}
use Rattle.std.specs.Option.{option_or}
use Rattle.std.proofs.lemmas.Bool.Decides.{nat_tests}
use Rattle.std.proofs.lemmas.Option.{slice_get-get_or}
use Rattle.pp_cert.specs.Held.{Holdings, holding_at}
use Rattle.pp_model.specs.declared.moves.Move.{Move}
use Rattle.pp_model.specs.declared.moves.Move.TheVariants as move
use Rattle.pp_model.specs.declared.moves.Came.TheVariants.{Fault}
use Rattle.pp_model.specs.declared.turn.Turn.{Turn}
use Rattle.pp_model.specs.declared.turn.Turn.TheVariants.{Device, FlushDevice, Act, Take}
use Rattle.pp_model.specs.Pool.{Stage, acting, writing, reading, leaving, Running, Flush, State}
use Rattle.pp_model.specs.Moves.{asked_by, seat_of, IsPossible}
use Rattle.pp_model.specs.Holders.{holdings}
use Rattle.pp_model.specs.Turns.{move_for, CanAnswer, CanLeave, CanAct, IsOpen, has_errand, is_stopped_at, goes_on}
use Rattle.pp_model.specs.Turns.{can_act, is_idle, first_worker, flush_turn, take_turn, next_turn, IsUnderWay}
use Rattle.pp_model.specs.Reached.{IsReached}
use Rattle.pp_model.specs.Laws.{NextWhileUnderWay, NextIsOpen}
use Rattle.pp_model.proofs.BoundSteps.{seats_are_all}
use Rattle.pp_model.proofs.TurnsErrands.{IsFirst, first_is, NoErrand, an_errand_can_be_answered, a_flush_can_end}
use Rattle.pp_model.proofs.TurnsLeaving.{a_leaving_worker_can_leave, AllIdle, a_waiting_plan_fits_when_all_are_idle}
use Rattle.pp_model.proofs.TurnsActing.{a_worker_that_is_not_stopped_can_act}
use Rattle.pp_model.proofs.TurnsLatches.{NoneActs, who_cannot_act_is_stopped, some_worker_is_not_stopped}

-- What holds of the next turn: it is open, and there is one exactly while something is under way.
record IsNext (s : State) (t : Option Turn) : Type 0 where
  is_open : (turn : Turn) → t ≡ Some turn → IsOpen s turn
  some : IsSome t ↔ IsUnderWay s

-- By the turn that comes next, if one does.
a_turn : (s : State) (turn : Turn) → IsOpen s turn → IsUnderWay s → IsNext s (Some turn)
a_turn s turn opens way = record {
  is_open = λ t e. let same : turn ≡ t = cc in subst (IsOpen s) same opens;
  some = (λ e. way, λ u. refl);
}

no_turn : (s : State) → (IsUnderWay s → ⊥) → IsNext s None
no_turn s rests = record { is_open = λ t e. absurd cc; some = (λ e. absurd cc, λ u. absurd (rests u)) }

-- ---- all workers are idle

-- Then nothing is under way where no flush is in flight and no plan waits.
nothing_left : (s : State) → AllIdle s → s.flush ≡ None → nat_lt s.taken (length s.plans) ≡ false → IsUnderWay s → ⊥
nothing_left s idle free none (inl lt) = grind (arith, nat_tests)
nothing_left s idle free none (inr (inl x)) = let is : is_idle (Some x.1) ≡ true = idle x.0 (Some x.1) x.2 in cc
nothing_left s idle free none (inr (inr some)) =
    let is : IsSome {T = Flush} None = subst (λ (o : Option Flush). IsSome o) free some in cc

module _ (s : State) (h : IsReached s) where
  -- There is a worker 0.
  first_seat : (x : Option Running) × (seat_of s 0 ≡ Some x)
  first_seat =
      let some = h.settings.workers.0 in
      let all = seats_are_all s h in
      (get_or s.seats 0 None, slice_get-get_or s.seats 0 None (omega arith))

  -- Where a plan waits, the least idle worker can take it.
  idle_next : AllIdle s → s.taken < length s.plans → (i : Option ℕ) → IsFirst is_idle s.seats i
      → IsNext s (option_map Take i)
  idle_next idle lt None none =
      let seat = first_seat in
      let is = idle 0 seat.0 seat.1 in
      let isnt = none 0 seat.0 seat.1 in
      absurd cc
  idle_next idle lt (Some w) (None, at, e) =
      a_turn s (Take w) (a_waiting_plan_fits_when_all_are_idle s h idle lt w at) (inl lt)
  idle_next idle lt (Some w) (Some r, at, e) = absurd cc

  take_next : AllIdle s → s.flush ≡ None → (b : Bool) → nat_lt s.taken (length s.plans) ≡ b
      → IsNext s (take_turn s b)
  take_next idle free true e =
      idle_next idle (grind (arith, nat_tests)) (first_worker s is_idle) (first_is is_idle s.seats None)
  take_next idle free false e = no_turn s (nothing_left s idle free e)

  -- ---- no errand and no flush is out

  -- A worker that runs its plan and isn't stopped, or leaves its plan, can act.
  isnt_stopped : (b : Bool) → not b ≡ true → b ≡ false
  isnt_stopped true e = cc
  isnt_stopped false e = refl

  goes_next : NoErrand s → s.flush ≡ None → (w : ℕ) (r : Running) (g : Stage) → seat_of s w ≡ Some (Some r)
      → r.stage ≡ g → goes_on s r g ≡ true → CanAct s w r g
  goes_next none free w r acting at f e =
      a_worker_that_is_not_stopped_can_act s h none free w r (record { seat = at; stage = f })
      (isnt_stopped (is_stopped_at s r (asked_by r)) e)
  goes_next none free w r (writing slot page v) at f e = cc
  goes_next none free w r (reading slot page) at f e = cc
  goes_next none free w r (leaving given) at f e = a_leaving_worker_can_leave s w r given at f

  -- Where no errand is out and no worker can act, all are idle.
  pub all_are_idle_where_none_can_act : NoErrand s → NoneActs s → AllIdle s
  all_are_idle_where_none_can_act none stop w None at = refl
  all_are_idle_where_none_can_act none stop w (Some r) at =
      absurd (some_worker_is_not_stopped s h (who_cannot_act_is_stopped s none stop) w r at)

  act_next : NoErrand s → s.flush ≡ None → (a : Option ℕ) → IsFirst (can_act s) s.seats a
      → IsNext s (option_or (option_map Act a) (take_turn s (nat_lt s.taken (length s.plans))))
  act_next none free None stop = take_next (all_are_idle_where_none_can_act none stop) free _ refl
  act_next none free (Some w) (None, at, e) = absurd cc
  act_next none free (Some w) (Some r, at, e) =
      a_turn s (Act w) (r, at, goes_next none free w r r.stage at refl e) (inr (inl (w, r, at)))

  -- ---- all turns

  flush_next : NoErrand s → (o : Option Flush) → s.flush ≡ o
      → IsNext s (option_or (flush_turn o)
      (option_or (option_map Act (first_worker s (can_act s))) (take_turn s (nat_lt s.taken (length s.plans)))))
  flush_next none None e = act_next none e (first_worker s (can_act s)) (first_is (can_act s) s.seats None)
  flush_next none (Some f) e =
      a_turn s FlushDevice (a_flush_can_end s f e) (inr (inr (subst (λ (o : Option Flush). IsSome o) (sym e) refl)))

  device_next : (d : Option ℕ) → IsFirst has_errand s.seats d
      → IsNext s (option_or (option_map Device d) (option_or (flush_turn s.flush)
      (option_or (option_map Act (first_worker s (can_act s))) (take_turn s (nat_lt s.taken (length s.plans))))))
  device_next None none = flush_next none s.flush refl
  device_next (Some w) (None, at, e) = absurd cc
  device_next (Some w) (Some r, at, e) =
      a_turn s (Device w) (r, at, an_errand_can_be_answered s w r r.stage at refl e) (inr (inl (w, r, at)))

  next_is : IsNext s (next_turn s)
  next_is = device_next (first_worker s has_errand) (first_is has_errand s.seats None)

-- There is a next turn exactly while something is under way.
pub next_while_under_way : (s : State) → IsReached s → NextWhileUnderWay s
next_while_under_way s h = (next_is s h).some

-- The next turn is open.
pub next_is_open : (s : State) → IsReached s → NextIsOpen s
next_is_open s h = (next_is s h).is_open

-- ---- some move is possible

-- The device's answer is one.
answer_move : (s : State) (w : ℕ) (g : Stage) → CanAnswer s w g → (m : Move) × IsPossible s m
answer_move s w acting can = absurd can
answer_move s w (writing slot page v) can = (move.WriteDone w true, can true)
answer_move s w (reading slot page) can = (move.ReadDone w Fault, can Fault)
answer_move s w (leaving given) can = absurd can

-- A leaving worker gives back the first slot that it holds, or finishes.
leave_move : (s : State) (w : ℕ) (r : Running) → CanLeave s w r → (hs : Holdings) → holdings r ≡ hs
    → (m : Move) × IsPossible s m
leave_move s w r can [] e = (move.Finish w, can.last e)
leave_move s w r can (x ∷ xs) e =
    let here : IsSome (holding_at (x ∷ xs) x.slot) = grind (arith, nat_tests) in
    (move.Unwind w x.slot, can.each x.slot (subst (λ hs. IsSome (holding_at hs x.slot)) (sym e) here))

-- A worker that acts does what its plan asks, or finishes.
act_move : (s : State) (w : ℕ) (r : Running) (g : Stage) → CanAct s w r g → (m : Move) × IsPossible s m
act_move s w r acting (inl can) = (move_for w can.some.0, can.each can.some.0 can.some.1)
act_move s w r acting (inr can) = (move.Finish w, can)
act_move s w r (writing slot page v) can = absurd can
act_move s w r (reading slot page) can = absurd can
act_move s w r (leaving given) can = leave_move s w r can (holdings r) refl

-- An open turn has a possible move.
pub an_open_turn_has_a_move : (s : State) (turn : Turn) → IsOpen s turn → (m : Move) × IsPossible s m
an_open_turn_has_a_move s (Device w) (r, at, can) = answer_move s w r.stage can
an_open_turn_has_a_move s FlushDevice can = (move.FlushDone true, can true)
an_open_turn_has_a_move s (Act w) (r, at, can) = act_move s w r r.stage can
an_open_turn_has_a_move s (Take w) can = (move.Take w, can)

-- While something is under way, some move is possible.
pub some_move_is_possible : (s : State) → IsReached s → IsUnderWay s → (m : Move) × IsPossible s m
some_move_is_possible s h way = go (next_turn s) refl ((next_while_under_way s h).1 way)
  where
    go : (o : Option Turn) → next_turn s ≡ o → IsSome o → (m : Move) × IsPossible s m
    go None e some = absurd cc
    go (Some turn) e some = an_open_turn_has_a_move s turn (next_is_open s h turn e)
