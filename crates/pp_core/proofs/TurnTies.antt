-- Whose turn is next, on the core's side and on the state's.
use Rattle.std.proofs.Common.{◌≡◌, ◌∙◌, ℕ, ◌+◌, ◌<◌, ◌≤◌, Bool, true, false, not, Option, Some, None, List, length}
use Rattle.std.proofs.Common.{refl, sym, ap, subst, arith}
use Rattle.std.specs.Prelude.{slice_get, get_or, nat_lt, position, IfSome, IsSome, ◌↔◌}
use Rattle.std.specs.List.{position_or_len}
use Rattle.std.specs.Option.{is_some}
use Rattle.std.proofs.lemmas.Bool.Decides.{nat_tests}
use Rattle.std.proofs.lemmas.List.Sums.{position_or_len_is}
use Rattle.std.proofs.lemmas.Option.{slice_get-get_or, slice_get_within, get_or_from_slice_get}
use Rattle.pp_plan.specs.declared.action.Ask.{Ask}
use Rattle.pp_plan.specs.declared.action.Ask.TheVariants as ask
use Rattle.pp_plan.specs.declared.mode.Mode.{Mode}
use Rattle.pp_frames.specs.Marks as map
use Rattle.pp_model.specs.declared.refusals.Cause.{Cause}
use Rattle.pp_model.specs.declared.turn.Turn.{Turn}
use Rattle.pp_model.specs.Pool.{Stage, acting, writing, reading, leaving, Running, State}
use Rattle.pp_model.specs.Holders.{page_in}
use Rattle.pp_model.specs.Moves.{seat_of}
use Rattle.pp_model.specs.Using.{goes_with}
use Rattle.pp_model.specs.Turns.{IsOpen, is_out, has_errand, is_stopped_at, goes_on, can_act, is_idle, first_worker}
use Rattle.pp_model.specs.Turns.{next_turn, IsUnderWay}
use Rattle.pp_model.proofs.BoundSteps.{seats_are_all}
use Rattle.pp_model.proofs.MarkSteps.{latch_mode_of}
use Rattle.pp_model.proofs.Turns.{next_while_under_way, next_is_open}
use Rattle.pp_core.specs.Parts.{Parts}
use Rattle.pp_core.specs.StandsFor.{StandsFor, IsKept, Asks, CannotAct}
use Rattle.pp_core.specs.Effects.{IsPageIn, phase_of}
use Rattle.pp_core.specs.Queries as query
use Rattle.pp_core.specs.LeaveEffects.{is_leaving}
use Rattle.pp_core.proofs.QueryTies.{idle_told, leaving_told, errand_told, none_told}
use Rattle.pp_core.proofs.UsingMoves.{latch_goes}

-- ---- the first place that passes a test

module _ {A : Type 0} (p : A → Bool) (xs : List A) where
  -- The place passes, and none before it does.
  first_place : (i : ℕ) (x : A) → slice_get xs i ≡ Some x → p x ≡ true
      → ((k : ℕ) (y : A) → k < i → slice_get xs k ≡ Some y → p y ≡ false) → Some i ≡ position p xs
  first_place i x at holds before =
      let within : i < length xs = slice_get_within xs i x at in
      let is : position_or_len p xs ≡ i =
      position_or_len_is p xs i x (omega arith)
      (λ k lt. before k (get_or xs k x) lt (slice_get-get_or xs k x (omega arith)))
      (λ _. subst (λ y. p y ≡ true) (sym (get_or_from_slice_get xs i x x at)) holds) in
      let lt : nat_lt i (length xs) ≡ true = grind (arith, nat_tests) in
      rw (is, lt)

  -- No place passes.
  no_place : (d : A) → ((k : ℕ) (y : A) → k < length xs → slice_get xs k ≡ Some y → p y ≡ false)
      → None ≡ position p xs
  no_place d none =
      let is : position_or_len p xs ≡ length xs =
      position_or_len_is p xs (length xs) d (omega arith)
      (λ k lt. none k (get_or xs k d) lt (slice_get-get_or xs k d lt)) (λ lt. absurd (omega arith)) in
      let past : nat_lt (length xs) (length xs) ≡ false = grind (arith, nat_tests) in
      rw (is, past)

-- ---- the least worker of a kind

-- There are few workers.
pub seats_few : (f : Parts) → IsKept f → length f.seats ≤ 1024
seats_few f k =
    omega (
      arith,
      k.stands.seats.size,
      seats_are_all k.state k.stands.reached,
      k.stands.reached.settings.workers.1,
    )

-- A test of a worker's seat.
abbrev pub Test : Type 0
Test = State → Option Running → Bool

-- The test says this of worker w.
abbrev pub Tells : Parts → Test → ℕ → Bool → Type 0
Tells f test w b = (s : State) (x : Option Running) → StandsFor f s → seat_of s w ≡ Some x → b ≡ test s x

-- No worker below this number passes the test.
abbrev pub NoneBelow : Parts → Test → ℕ → Type 0
NoneBelow f test n =
    (s : State) → StandsFor f s → (w : ℕ) (x : Option Running) → w < n → seat_of s w ≡ Some x → test s x ≡ false

-- This is the least worker that passes it.
abbrev pub IsLeast : Parts → Test → Option ℕ → Type 0
IsLeast f test o = (s : State) → StandsFor f s → o ≡ first_worker s (test s)

module _ (f : Parts) (test : Test) where
  pub none_below_0 : NoneBelow f test 0
  none_below_0 s st w x lt at = absurd (omega arith)

  -- Nor does the next one.
  pub none_below_next : (n : ℕ) → NoneBelow f test n → Tells f test n false → NoneBelow f test (n + 1)
  none_below_next n none tells s st w x lt at = go (nat_lt w n) refl
    where
      go : (b : Bool) → nat_lt w n ≡ b → test s x ≡ false
      go true e = none s st w x (grind (arith, nat_tests)) at
      go false e =
          let same : w ≡ n = grind (arith, nat_tests) in
          sym (tells s x st (subst (λ v. seat_of s v ≡ Some x) same at))

  -- It passes.
  pub least_found : (n : ℕ) → NoneBelow f test n → Tells f test n true → n < length f.seats → IsLeast f test (Some n)
  least_found n none tells lt s st =
      let x = get_or s.seats n None in
      let at = slice_get-get_or s.seats n None (omega (arith, st.seats.size)) in
      first_place (test s) s.seats n x at (sym (tells s x st at)) (none s st)

  pub none_found : (n : ℕ) → NoneBelow f test n → length f.seats ≤ n → IsLeast f test None
  none_found n none past s st =
      no_place (test s) s.seats None (λ k y lt at. none s st k y (omega (arith, st.seats.size)) at)

-- ---- tests of one worker

abbrev pub errands : Test
errands s = has_errand

abbrev pub idles : Test
idles s = is_idle

errand_out : (g : Stage) → is_some (query.errand_in g) ≡ is_out g
errand_out acting = refl
errand_out (writing slot page v) = refl
errand_out (reading slot page) = refl
errand_out (leaving given) = refl

seat_out : (x : Option Running) → is_some (query.errand_by (Some x)) ≡ has_errand x
seat_out None = refl
seat_out (Some r) = errand_out r.stage

seat_idle : (x : Option Running) → query.idle_by (Some x) ≡ is_idle x
seat_idle None = refl
seat_idle (Some r) = refl

module _ (f : Parts) (w : ℕ) where
  -- What the core tells of a worker's errand, and whether it is idle.
  pub errand_tells : (b : Bool) → b ≡ is_some (query.errand_seat (slice_get f.seats w)) → Tells f errands w b
  errand_tells b e s x st at =
      e ∙ ap is_some (errand_told f s st w) ∙ ap (λ o. is_some (query.errand_by o)) at ∙ seat_out x

  pub idle_tells : (b : Bool) → b ≡ query.idle_seat (slice_get f.seats w) → Tells f idles w b
  idle_tells b e s x st at = e ∙ idle_told f s st w ∙ ap query.idle_by at ∙ seat_idle x

-- ---- who can act

leaver_goes : (s : State) (r : Running) (g : Stage) → query.leaves g ≡ true → goes_on s r g ≡ true
leaver_goes s r acting e = cc
leaver_goes s r (writing slot page v) e = cc
leaver_goes s r (reading slot page) e = cc
leaver_goes s r (leaving given) e = refl

leaver_acts : (s : State) (x : Option Running) → query.leaving_by (Some x) ≡ true → can_act s x ≡ true
leaver_acts s None e = cc
leaver_acts s (Some r) e = leaver_goes s r r.stage e

-- A worker that doesn't leave, and of whom no action is asked, doesn't act.
other_stays : (s : State) (r : Running) (g : Stage) → query.leaves g ≡ false → None ≡ query.ask_in r g
    → goes_on s r g ≡ false
other_stays s r acting e f = cc
other_stays s r (writing slot page v) e f = refl
other_stays s r (reading slot page) e f = refl
other_stays s r (leaving given) e f = cc

none_acts : (s : State) (x : Option Running) → query.leaving_by (Some x) ≡ false → None ≡ query.ask_by (Some x)
    → can_act s x ≡ false
none_acts s None e f = refl
none_acts s (Some r) e f = other_stays s r r.stage e f

module _ (f : Parts) (w : ℕ) where
  -- It leaves its plan.
  pub leaver_tells : is_leaving (phase_of f w) ≡ true → Tells f can_act w true
  leaver_tells e s x st at =
      sym (leaver_acts s x (ap query.leaving_by (sym at) ∙ sym (leaving_told f s st w) ∙ e))

  -- It doesn't act.
  pub stayer_tells : (cause : Cause) → is_leaving (phase_of f w) ≡ false → CannotAct f w cause
      → Tells f can_act w false
  stayer_tells cause e cannot s x st at =
      sym (none_acts s x (ap query.leaving_by (sym at) ∙ sym (leaving_told f s st w) ∙ e)
      (none_told f s w cause st cannot ∙ ap query.ask_by at))

  -- It acts, where no latch stops it.
  pub actor_tells : (ask : Ask) (b : Bool) → Asks f w ask
      → ((s : State) (r : Running) → StandsFor f s → seat_of s w ≡ Some (Some r) → b ≡ is_stopped_at s r ask)
      → Tells f can_act w (not b)
  actor_tells ask b asks stopped s x st at =
      let a = asks s st in
      let r : Running = a.0 in
      let same : Some r ≡ x = cc in
      let here : not (is_stopped_at s r ask) ≡ can_act s (Some r) =
      ap (λ (k : Ask). not (is_stopped_at s r k)) (sym a.2) ∙ sym (ap (goes_on s r) a.1.stage) in
      ap not (stopped s r st a.1.seat) ∙ here ∙ ap (can_act s) same

-- Where a latch is asked, the marks of the slot's page tell whether it stops the worker.
pub latch_tells : (f : Parts) (w slot page : ℕ) (m : Mode) (b : Bool) → Asks f w (ask.Latch slot m)
    → IsPageIn f w slot page → b ≡ map.is_compatible (latch_mode_of m) (map.latches_of f.marks page)
    → (s : State) (r : Running) → StandsFor f s → seat_of s w ≡ Some (Some r)
    → not b ≡ is_stopped_at s r (ask.Latch slot m)
latch_tells f w slot page m b asks told e s r st at =
    let a = asks s st in
    let same : a.0 ≡ r = cc in
    sym (ap not (subst (λ (q : Running). goes_with s m (page_in q slot) ≡ b) same
    (latch_goes f w slot page m asks told s st b e)))

-- ---- what the next turn tells

-- This is the next turn.
abbrev pub IsNext : Parts → Option Turn → Type 0
IsNext f t = (s : State) → StandsFor f s → t ≡ next_turn s

module _ (f : Parts) (t : Option Turn) (next : IsNext f t) where
  pub some_told : (s : State) → StandsFor f s → IsSome t ↔ IsUnderWay s
  some_told s st =
      subst (λ (o : Option Turn). IsSome o ↔ IsUnderWay s) (sym (next s st)) (next_while_under_way s st.reached)

  pub open_told : IfSome t (λ turn. (s : State) → StandsFor f s → IsOpen s turn)
  open_told = go t refl
    where
      go : (o : Option Turn) → t ≡ o → IfSome o (λ turn. (s : State) → StandsFor f s → IsOpen s turn)
      go None e = tt
      go (Some turn) e = λ s st. next_is_open s st.reached turn (sym (next s st) ∙ e)
