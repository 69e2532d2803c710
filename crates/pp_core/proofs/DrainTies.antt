-- What is decided in an open turn is possible.
use Rattle.std.proofs.Common.{◌≡◌, ◌∙◌, ℕ, zero, suc, ◌<◌, ◌≤◌, ◌+◌, Bool, true, false, Option, Some, None, List, [], ◌∷◌}
use Rattle.std.proofs.Common.{length, refl, sym, ap, subst, inl, inr, arith}
use Rattle.std.specs.Prelude.{◌⊎◌, slice_get, option_map, nat_lt, IsSome}
use Rattle.std.specs.Option.{is_some}
use Rattle.std.proofs.lemmas.Bool.Decides.{nat_tests}
use Rattle.std.proofs.lemmas.List.Quantifiers.{position-Some}
use Rattle.std.proofs.lemmas.Option.{get_or_from_slice_get, slice_get_within}
use Rattle.pp_settings.specs.declared.extent.Extent.{Extent}
use Rattle.pp_settings.specs.Layout.{Geometry, HasPage, has_page, IsExtent, IsLayout}
use Rattle.pp_plan.specs.declared.action.Action.{Action}
use Rattle.pp_plan.specs.declared.action.Action.TheVariants as action
use Rattle.pp_plan.specs.declared.action.Ask.{Ask}
use Rattle.pp_plan.specs.declared.action.Ask.TheVariants as ask
use Rattle.pp_cursor.specs.Cursor.{NamesAction, IsAskOf}
use Rattle.pp_cursor.proofs.Asking.{asks_named, asked_within}
use Rattle.pp_cert.specs.Held.{Holding, Holdings, holding_at}
use Rattle.pp_model.specs.declared.moves.Move.{Move}
use Rattle.pp_model.specs.declared.moves.Move.TheVariants as move
use Rattle.pp_model.specs.declared.moves.Came.{Came}
use Rattle.pp_model.specs.declared.refusals.Cause.{Cause}
use Rattle.pp_model.specs.declared.reply.Reply.TheVariants.{Did}
use Rattle.pp_model.specs.declared.turn.Turn.TheVariants.{Device, FlushDevice, Act}
use Rattle.pp_model.specs.Pool.{Stage, acting, writing, reading, leaving, Running, State}
use Rattle.pp_model.specs.Pool.{Flush as FlushInFlight}
use Rattle.pp_model.specs.Holders.{holdings}
use Rattle.pp_model.specs.Outcome.{Outcome, off_plan}
use Rattle.pp_model.specs.Leaving.{finish_asked, finish_in, finish_by}
use Rattle.pp_model.specs.Flushing.{flushed_by}
use Rattle.pp_model.specs.Moves.{asked_by, act_by, act_in, seat_of, IsPossible}
use Rattle.pp_model.specs.Turns.{move_for, CanAnswer, CanAct, CanLeave, IsOpen}
use Rattle.pp_model.specs.Reached.{IsReached}
use Rattle.pp_model.specs.Laws.{IsActing}
use Rattle.pp_model.proofs.Seats.{IsSeat, good}
use Rattle.pp_model.proofs.TurnsErrands.{Passes, IsFirst, first_is}
use Rattle.pp_model.proofs.TurnsLeaving.{a_worker_at_its_end_can_finish}
use Rattle.pp_core.specs.declared.seat.Seat.{Seat}
use Rattle.pp_core.specs.declared.seat.Hold.{Hold}
use Rattle.pp_core.specs.declared.table.Flush.{Flush}
use Rattle.pp_core.specs.Slots.{hold_at, hold_of, first_filled}
use Rattle.pp_core.specs.Effects.{IsIn}
use Rattle.pp_core.specs.Parts.{Parts}
use Rattle.pp_core.specs.StandsFor.{FitsSeat, FitsRunning, StandsFor, IsKept, in_flight_as, Asks, CannotAct}
use Rattle.pp_core.specs.Queries.{leaves, errand_in, errand_by, errand_seat}
use Rattle.pp_core.specs.Draining.{Host, AnswersErrand, AnswersFlush, DoesAsked, Leaves, Acts}
use Rattle.pp_core.specs.Draining.{IsOpenIn, CanBeMade, DecidesIn, CanGo, LeavesIn}
use Rattle.pp_core.proofs.Crew.{seat_to}
use Rattle.pp_core.proofs.Asking.{both}
use Rattle.pp_core.proofs.QueryTies.{errand_told}

-- ---- the device

abbrev victim_of : Option (ℕ × ℕ × Option ℕ) → Option ℕ
victim_of None = None
victim_of (Some (slot, page, o)) = o

-- An errand with a victim is a writing, and one without is a reading.
can_write : (s : State) (w : ℕ) (g : Stage) (slot page v : ℕ) → errand_in g ≡ Some (slot, page, Some v)
    → CanAnswer s w g → (ok : Bool) → IsPossible s (move.WriteDone w ok)
can_write s w acting slot page v e can = absurd can
can_write s w (writing t x u) slot page v e can = can
can_write s w (reading t x) slot page v e can = let same = ap victim_of e in λ ok. cc
can_write s w (leaving given) slot page v e can = absurd can

can_read : (s : State) (w : ℕ) (g : Stage) (slot page : ℕ) → errand_in g ≡ Some (slot, page, None)
    → CanAnswer s w g → (came : Came) → IsPossible s (move.ReadDone w came)
can_read s w acting slot page e can = absurd can
can_read s w (writing t x u) slot page e can = let same = ap victim_of e in λ came. cc
can_read s w (reading t x) slot page e can = can
can_read s w (leaving given) slot page e can = absurd can

can_nothing : (s : State) (w : ℕ) (g : Stage) → errand_in g ≡ None → CanAnswer s w g → ⊥
can_nothing s w acting e can = can
can_nothing s w (writing t x u) e can = cc
can_nothing s w (reading t x) e can = cc
can_nothing s w (leaving given) e can = can

-- What is out for the worker of an open turn.
errand_there : (f : Parts) (s : State) (w : ℕ) (o : Option (ℕ × ℕ × Option ℕ)) (r : Running) → StandsFor f s
    → o ≡ errand_seat (slice_get f.seats w) → seat_of s w ≡ Some (Some r) → errand_in r.stage ≡ o
errand_there f s w o r st is at = sym (is ∙ errand_told f s st w ∙ ap errand_by at)

pub write_answer : (f : Parts) (w slot page v : ℕ) (o : Option ℕ) (ok : Bool) → IsOpenIn f (Device w)
    → Some (slot, page, o) ≡ errand_seat (slice_get f.seats w) → o ≡ Some v → CanBeMade f (move.WriteDone w ok)
write_answer f w slot page v o ok opens is e = λ s st.
    let p = opens s st in
    let r : Running = p.0 in
    let out : errand_in r.stage ≡ Some (slot, page, Some v) =
    errand_there f s w (Some (slot, page, o)) r st is p.1 ∙ ap (λ (z : Option ℕ). Some (slot, page, z)) e in
    can_write s w r.stage slot page v out p.2 ok

pub read_answer : (f : Parts) (w slot page : ℕ) (o : Option ℕ) (came : Came) → IsOpenIn f (Device w)
    → Some (slot, page, o) ≡ errand_seat (slice_get f.seats w) → o ≡ None → CanBeMade f (move.ReadDone w came)
read_answer f w slot page o came opens is e = λ s st.
    let p = opens s st in
    let r : Running = p.0 in
    let out : errand_in r.stage ≡ Some (slot, page, None) =
    errand_there f s w (Some (slot, page, o)) r st is p.1 ∙ ap (λ (z : Option ℕ). Some (slot, page, z)) e in
    can_read s w r.stage slot page out p.2 came

pub some_errand : (f : Parts) (w : ℕ) → IsKept f → IsOpenIn f (Device w) → None ≡ errand_seat (slice_get f.seats w)
    → ⊥
some_errand f w kept opens is =
    let o = opens kept.state kept.stands in
    let r : Running = o.0 in
    can_nothing kept.state w r.stage (errand_there f kept.state w None r kept.stands is o.1) o.2

-- The host's answer is to the errand that is out.
abbrev page_of : Option (ℕ × ℕ × Option ℕ) → ℕ
page_of None = 0
page_of (Some (slot, page, o)) = page

writes_errand : {H : Type 0} (host : Host H) (w : ℕ) (g : Stage) (slot page v : ℕ) (ok : Bool) (h i : H)
    → errand_in g ≡ Some (slot, page, Some v) → host.writes h v ok i
    → AnswersErrand host w g h (move.WriteDone w ok) i
writes_errand host w acting slot page v ok h i e told = cc
writes_errand host w (writing t x u) slot page v ok h i e told =
    let same : Some u ≡ Some v = ap victim_of e in
    (ok, subst (λ z. host.writes h z ok i) (sym cc) told, refl)
writes_errand host w (reading t x) slot page v ok h i e told = let same = ap victim_of e in cc
writes_errand host w (leaving given) slot page v ok h i e told = cc

reads_errand : {H : Type 0} (host : Host H) (w : ℕ) (g : Stage) (slot page : ℕ) (came : Came) (h i : H)
    → errand_in g ≡ Some (slot, page, None) → host.reads h page came i
    → AnswersErrand host w g h (move.ReadDone w came) i
reads_errand host w acting slot page came h i e given = cc
reads_errand host w (writing t x u) slot page came h i e given = let same = ap victim_of e in cc
reads_errand host w (reading t x) slot page came h i e given =
    let same : x ≡ page = ap page_of e in (came, subst (λ z. host.reads h z came i) (sym same) given, refl)
reads_errand host w (leaving other) slot page came h i e given = cc

pub write_decided : {H : Type 0} (host : Host H) (f : Parts) (w slot page v : ℕ) (o : Option ℕ) (ok : Bool) (h i : H)
    → IsOpenIn f (Device w) → Some (slot, page, o) ≡ errand_seat (slice_get f.seats w) → o ≡ Some v
    → host.writes h v ok i → DecidesIn host f (Device w) h (move.WriteDone w ok) i
write_decided host f w slot page v o ok h i opens is e told = λ s st.
    let p = opens s st in
    let r : Running = p.0 in
    let out : errand_in r.stage ≡ Some (slot, page, Some v) =
    errand_there f s w (Some (slot, page, o)) r st is p.1 ∙ ap (λ (z : Option ℕ). Some (slot, page, z)) e in
    (r, p.1, writes_errand host w r.stage slot page v ok h i out told)

pub read_decided : {H : Type 0} (host : Host H) (f : Parts) (w slot page : ℕ) (o : Option ℕ) (came : Came) (h i : H)
    → IsOpenIn f (Device w) → Some (slot, page, o) ≡ errand_seat (slice_get f.seats w) → o ≡ None
    → host.reads h page came i → DecidesIn host f (Device w) h (move.ReadDone w came) i
read_decided host f w slot page o came h i opens is e given = λ s st.
    let p = opens s st in
    let r : Running = p.0 in
    let out : errand_in r.stage ≡ Some (slot, page, None) =
    errand_there f s w (Some (slot, page, o)) r st is p.1 ∙ ap (λ (z : Option ℕ). Some (slot, page, z)) e in
    (r, p.1, reads_errand host w r.stage slot page came h i out given)

-- It is to the flush that is in flight.
pub flush_decided : {H : Type 0} (host : Host H) (f : Parts) (x : Flush) (ok : Bool) (h i : H) → f.flush ≡ Some x
    → host.flushes h x.page ok i → DecidesIn host f FlushDevice h (move.FlushDone ok) i
flush_decided host f x ok h i e told = λ s st.
    subst (λ o. AnswersFlush host o h (move.FlushDone ok) i) (sym (ap (option_map in_flight_as) e) ∙ st.flush)
    (ok, told, refl)

-- A flush is in flight, where its end can be told.
no_end : (s : State) (o : Option FlushInFlight) → o ≡ None → Passes (flushed_by s true o) → ⊥
no_end s None e p = cc
no_end s (Some x) e p = cc

pub some_flush : (f : Parts) → IsKept f → IsOpenIn f FlushDevice → f.flush ≡ None → ⊥
some_flush f kept opens none =
    let s = kept.state in
    let gone : s.flush ≡ None = sym kept.stands.flush ∙ ap (option_map in_flight_as) none in
    no_end s s.flush gone (opens s kept.stands true)

-- ---- a worker that runs its plan

-- A plan that asks an action isn't at its end.
not_ended : (s : State) (w : ℕ) (r : Running) (g : Geometry) (x : Ask) (a : Action) → NamesAction g x a
    → Passes (finish_asked s w r x) → ⊥
not_ended s w r g (ask.Fix t region) a n p = cc
not_ended s w r g (ask.Unfix t) a n p = cc
not_ended s w r g (ask.Latch t m) a n p = cc
not_ended s w r g (ask.Unlatch t) a n p = cc
not_ended s w r g (ask.Gather t region) a n p = cc
not_ended s w r g (ask.Scatter t) a n p = cc
not_ended s w r g (ask.Choose k) a n p = cc
not_ended s w r g ask.End a n p = n

-- An acting worker that can finish is at its plan's end.
finishes_asked : (s : State) (w : ℕ) (r : Running) → IsActing s w r → IsPossible s (move.Finish w)
    → Passes (finish_asked s w r (asked_by r))
finishes_asked s w r at p =
    subst (λ g. Passes (finish_in s w r g)) at.stage (subst (λ o. Passes (finish_by s w o)) at.seat p)

module _ (s : State) (h : IsReached s) (w : ℕ) (r : Running) (at : IsActing s w r) where
  seat : IsSeat s.settings.layout r
  seat = (good s h).seats w (Some r) at.seat

  goes_on : (g : Stage) → g ≡ acting → CanAct s w r g → (a : Action)
      → NamesAction r.accepted.plan.layout (asked_by r) a → IsPossible s (move_for w a)
  goes_on acting e (inl can) a n = can.each a ((asks_named r.accepted.plan r.done a seat.accepted.plan).1 n)
  goes_on acting e (inr can) a n =
      absurd (not_ended s w r r.accepted.plan.layout (asked_by r) a n (finishes_asked s w r at can))
  goes_on (writing t x u) e can a n = absurd can
  goes_on (reading t x) e can a n = absurd can
  goes_on (leaving given) e can a n = cc

  -- What is asked of an acting worker in an open turn is possible.
  open_acts : IsOpen s (Act w) → (a : Action) → NamesAction s.settings.layout (asked_by r) a
      → IsPossible s (move_for w a)
  open_acts (q, there, can) a n =
      let same : q ≡ r = cc in
      let mine : CanAct s w r r.stage = subst (λ (z : Running). CanAct s w z z.stage) same can in
      goes_on r.stage at.stage mine a (subst (λ (g : Geometry). NamesAction g (asked_by r) a) seat.layout n)

  within : IsAskOf (length r.accepted.plan.slots) (length s.settings.layout.extents) (asked_by r)
  within =
      subst (λ (g : Geometry). IsAskOf (length r.accepted.plan.slots) (length g.extents) (asked_by r)) (sym seat.layout)
      (asked_within r.accepted.plan r.done seat.accepted.plan)

-- The same of what the core keeps.
pub asked_action : (f : Parts) (w : ℕ) (x : Ask) (a : Action) → IsOpenIn f (Act w) → Asks f w x
    → NamesAction f.layout x a → CanBeMade f (move_for w a)
asked_action f w x a opens asks n = λ s st.
    let at = asks s st in
    let r : Running = at.0 in
    open_acts s st.reached w r at.1 (opens s st) a
    (subst (λ (y : Ask). NamesAction s.settings.layout y a) (sym at.2)
    (subst (λ (g : Geometry). NamesAction g x a) st.layout n))

-- And it is decided so, where the host was asked what the plan asks.
pub asked_decided : {H : Type 0} (host : Host H) (f : Parts) (w : ℕ) (x : Ask) (h : H) (m : Move) (i : H)
    → Asks f w x → DoesAsked host f.layout w x h m i → DecidesIn host f (Act w) h m i
asked_decided host f w x h m i asks does = λ s st.
    let at = asks s st in
    let r : Running = at.0 in
    let here : DoesAsked host s.settings.layout w (asked_by r) h m i =
    subst (λ (y : Ask). DoesAsked host s.settings.layout w y h m i) (sym at.2)
    (subst (λ (g : Geometry). DoesAsked host g w x h m i) st.layout does) in (
      r,
      at.1.seat,
      subst (λ (g : Stage). Acts host s.settings.layout w r g h m i) (sym at.1.stage) here,
    )

-- At its plan's end a worker can finish.
pub asked_end : (f : Parts) (w : ℕ) → Asks f w ask.End → CanBeMade f (move.Finish w)
asked_end f w asks = λ s st.
    let at = asks s st in a_worker_at_its_end_can_finish s w at.0 at.1.seat at.1.stage at.2

-- What a plan asks is within the pool's layout.

pub ask_within : (f : Parts) (w : ℕ) (x : Ask) → IsKept f → Asks f w x
    → (slots : ℕ) × IsAskOf slots (length f.layout.extents) x
ask_within f w x kept asks =
    let s = kept.state in
    let at = asks s kept.stands in
    let r : Running = at.0 in (
      length r.accepted.plan.slots,
      subst (λ (g : Geometry). IsAskOf (length r.accepted.plan.slots) (length g.extents) x) (sym kept.stands.layout)
          (subst (λ (y : Ask). IsAskOf (length r.accepted.plan.slots) (length s.settings.layout.extents) y) at.2
          (within s kept.stands.reached w r at.1)),
    )

-- A region that is asked is there, and has a page.
no_extent : (xs : List Extent) (r : ℕ) → r < length xs → slice_get xs r ≡ None → ⊥
no_extent [] r lt e = omega (arith, lt)
no_extent (x ∷ xs) zero lt e = cc
no_extent (x ∷ xs) (suc r) lt e = no_extent xs r (omega (arith, lt)) e

-- A page of the region is asked, by a fix or by a gather.
abbrev pub WantsPage : Ask → (region : ℕ) → Type 0
WantsPage x region = ((slot : ℕ) × (x ≡ ask.Fix slot region)) ⊎ ((slot : ℕ) × (x ≡ ask.Gather slot region))

pub some_region : (f : Parts) (w : ℕ) (x : Ask) (region : ℕ) → IsKept f → Asks f w x → WantsPage x region
    → slice_get f.layout.extents region ≡ None → ⊥
some_region f w x region kept asks (inl a) none =
    let i = ask_within f w (ask.Fix a.0 region) kept (subst (Asks f w) a.1 asks) in
    no_extent f.layout.extents region i.1.1 none
some_region f w x region kept asks (inr a) none =
    let i = ask_within f w (ask.Gather a.0 region) kept (subst (Asks f w) a.1 asks) in
    no_extent f.layout.extents region i.1.1 none

pub region_is : (f : Parts) (region : ℕ) (e : Extent) → IsKept f → slice_get f.layout.extents region ≡ Some e
    → IsExtent e
region_is f region e kept at =
    let s = kept.state in
    let l : IsLayout f.layout = subst IsLayout (sym kept.stands.layout) kept.stands.reached.settings.layout in
    subst IsExtent (get_or_from_slice_get f.layout.extents region e e at)
    (l.extents region e (slice_get_within f.layout.extents region e at))

-- A page that is decided is one of the region's, so the worker can fix it.
has_it : (g : Geometry) (region page : ℕ) (e : Extent) → slice_get g.extents region ≡ Some e → e.first ≤ page
    → page < e.first + e.count → HasPage g region page
has_it g region page e at from below = let has : has_page page e ≡ true = grind (arith, nat_tests) in (e, at, has)

pub page_action : (f : Parts) (w : ℕ) (x : Ask) (region page : ℕ) (e : Extent) → IsOpenIn f (Act w) → Asks f w x
    → WantsPage x region → slice_get f.layout.extents region ≡ Some e → e.first ≤ page → page < e.first + e.count
    → CanBeMade f (move.Fix w page)
page_action f w x region page e opens asks (inl a) at from below =
    asked_action f w x (action.Fix a.0 page) opens asks
    (subst (λ y. NamesAction f.layout y (action.Fix a.0 page)) (sym a.1)
    (refl, has_it f.layout region page e at from below))
page_action f w x region page e opens asks (inr a) at from below =
    asked_action f w x (action.Gather a.0 page) opens asks
    (subst (λ y. NamesAction f.layout y (action.Gather a.0 page)) (sym a.1)
    (refl, has_it f.layout region page e at from below))

pub page_decided : {H : Type 0} (host : Host H) (f : Parts) (w : ℕ) (x : Ask) (region page : ℕ) (e : Extent) (h i : H)
    → Asks f w x → WantsPage x region → slice_get f.layout.extents region ≡ Some e
    → host.picks h region e.first e.count page i → DecidesIn host f (Act w) h (move.Fix w page) i
page_decided host f w x region page e h i asks (inl a) at picked =
    asked_decided host f w x h (move.Fix w page) i asks
    (subst (λ y. DoesAsked host f.layout w y h (move.Fix w page) i) (sym a.1) (e, page, at, picked, refl))
page_decided host f w x region page e h i asks (inr a) at picked =
    asked_decided host f w x h (move.Fix w page) i asks
    (subst (λ y. DoesAsked host f.layout w y h (move.Fix w page) i) (sym a.1) (e, page, at, picked, refl))

-- There is some branch.
pub some_branch : (f : Parts) (w n : ℕ) → IsKept f → Asks f w (ask.Choose n) → 1 ≤ n
some_branch f w n kept asks = (ask_within f w (ask.Choose n) kept asks).1.0

-- ---- a worker that leaves its plan

-- An outcome that isn't a refusal.
abbrev some_outcome : State → Running → Outcome
some_outcome s r = record { reply = Did; state = s }

leaves_by : (s : State) (w : ℕ) (r : Running) (g : Stage) (cause : Cause)
    → act_in s (some_outcome s) r g ≡ off_plan s cause → CanAct s w r g → CanLeave s w r × (leaves g ≡ true)
leaves_by s w r acting cause e can = let same = ap (λ (o : Outcome). o.reply) e in cc
leaves_by s w r (writing t x u) cause e can = absurd can
leaves_by s w r (reading t x) cause e can = absurd can
leaves_by s w r (leaving given) cause e can = (can, refl)

-- A worker whose turn it is and that doesn't act leaves its plan.
pub goes : (f : Parts) (w : ℕ) (cause : Cause) → IsOpenIn f (Act w) → CannotAct f w cause → CanGo f w
goes f w cause opens cannot = λ s st.
    let o = opens s st in
    let r : Running = o.0 in
    let e : act_by s (some_outcome s) (Some (Some r)) ≡ off_plan s cause =
    ap (act_by s (some_outcome s)) (sym o.1) ∙ cannot s (some_outcome s) st in
    let gone = leaves_by s w r r.stage cause e o.2 in (r, o.1, gone.0, gone.1)

-- Its seat.
seat_by : (f : Parts) (s : State) (w : ℕ) (x : Option Seat) (r : Running) → slice_get f.seats w ≡ Some x
    → FitsSeat f.plans x (Some r) → (y : Seat) × IsIn f w y
seat_by f s w None r e fits = absurd fits
seat_by f s w (Some x) r e fits = (x, e)

pub leaver_seat : (f : Parts) (w : ℕ) → IsKept f → CanGo f w → (x : Seat) × IsIn f w x
leaver_seat f w kept can =
    let s = kept.state in
    let o = can s kept.stands in
    let r : Running = o.0 in
    let there = seat_to f.plans f.seats s.seats w (Some r) kept.stands.seats o.1 in
    seat_by f s w there.0 r there.1 there.2

-- The least slot that holds a page is one that the worker holds, and where there is none it holds nothing.
filled_held : (o : Option Hold) (h : Option Holding) → o ≡ option_map hold_of h → is_some o ≡ true → IsSome h
filled_held o None e is = let none : o ≡ None = e in cc
filled_held o (Some h) e is = refl

first_at : (slots : List (Option Hold)) (k : ℕ) → Some k ≡ first_filled slots → is_some (hold_at slots k) ≡ true
first_at slots k e =
    let is : IsFirst is_some slots (Some k) = subst (IsFirst is_some slots) (sym e) (first_is is_some slots None) in
    subst (λ o. is_some o ≡ true) (sym (get_or_from_slice_get slots k is.0 None is.1)) is.2

none_in : (slots : List (Option Hold)) (k : ℕ) → IsFirst is_some slots None → is_some (hold_at slots k) ≡ false
none_in [] k none = refl
none_in (x ∷ xs) zero none = none 0 x refl
none_in (x ∷ xs) (suc k) none = none_in xs k (λ i. none (suc i))

none_at : (slots : List (Option Hold)) → None ≡ first_filled slots → (k : ℕ) → is_some (hold_at slots k) ≡ false
none_at slots e k = none_in slots k (subst (IsFirst is_some slots) (sym e) (first_is is_some slots None))

nothing_held : (hs : Holdings) → ((slot : ℕ) → IsSome (holding_at hs slot) → ⊥) → hs ≡ []
nothing_held [] none = refl
nothing_held (h ∷ hs) none = absurd (none h.slot (grind (arith, nat_tests)))

pub unwinds : (f : Parts) (w slot : ℕ) → CanGo f w
    → ((x : Seat) → IsIn f w x → Some slot ≡ first_filled x.slots) → CanBeMade f (move.Unwind w slot)
unwinds f w slot can is = λ s st.
    let o = can s st in
    let r : Running = o.0 in
    let there = seat_to f.plans f.seats s.seats w (Some r) st.seats o.1 in
    let at = seat_by f s w there.0 r there.1 there.2 in
    let x : Seat = at.0 in
    let two = both f s w x st at.1 in
    let same : two.running ≡ r = (let a = two.there in let b = o.1 in cc) in
    let fits : FitsRunning f.plans x r = subst (λ (q : Running). FitsRunning f.plans x q) same two.fits in
    o.2.each slot (filled_held (hold_at x.slots slot) (holding_at (holdings r) slot) (fits.slots slot)
    (first_at x.slots slot (is x at.1)))

empty_holds : (o : Option Hold) (h : Option Holding) → o ≡ option_map hold_of h → is_some o ≡ false → IsSome h → ⊥
empty_holds o None e is some = cc
empty_holds o (Some h) e is some = let there : o ≡ Some (hold_of h) = e in cc

pub finishes : (f : Parts) (w : ℕ) → CanGo f w → ((x : Seat) → IsIn f w x → None ≡ first_filled x.slots)
    → CanBeMade f (move.Finish w)
finishes f w can is = λ s st.
    let o = can s st in
    let r : Running = o.0 in
    let there = seat_to f.plans f.seats s.seats w (Some r) st.seats o.1 in
    let at = seat_by f s w there.0 r there.1 there.2 in
    let x : Seat = at.0 in
    let two = both f s w x st at.1 in
    let same : two.running ≡ r = (let a = two.there in let b = o.1 in cc) in
    let fits : FitsRunning f.plans x r = subst (λ (q : Running). FitsRunning f.plans x q) same two.fits in
    o.2.last (nothing_held (holdings r) (λ k. empty_holds (hold_at x.slots k) (holding_at (holdings r) k) (fits.slots k)
    (none_at x.slots (is x at.1) k)))

-- ---- what a leaving worker does

-- No slot before the first one that holds a page holds one.
least_at : (slots : List (Option Hold)) (k other : ℕ) → Some k ≡ first_filled slots
    → is_some (hold_at slots other) ≡ true → k ≤ other
least_at slots k other e there = go (nat_lt other k) refl
  where
    go : (b : Bool) → nat_lt other k ≡ b → k ≤ other
    go true l =
        let lt : other < k = grind (arith, nat_tests) in
        let empty : is_some (hold_at slots other) ≡ false =
        (position-Some is_some slots k None (sym e)).2 other lt in
        cc
    go false l = grind (arith, nat_tests)

held_filled : (o : Option Hold) (h : Option Holding) → o ≡ option_map hold_of h → IsSome h → is_some o ≡ true
held_filled o None e some = cc
held_filled o (Some h) e some = ap is_some e

pub leaves_slot : (f : Parts) (w slot : ℕ) → CanGo f w
    → ((x : Seat) → IsIn f w x → Some slot ≡ first_filled x.slots) → LeavesIn f w (move.Unwind w slot)
leaves_slot f w slot can is = λ s st.
    let o = can s st in
    let r : Running = o.0 in
    let there = seat_to f.plans f.seats s.seats w (Some r) st.seats o.1 in
    let at = seat_by f s w there.0 r there.1 there.2 in
    let x : Seat = at.0 in
    let two = both f s w x st at.1 in
    let same : two.running ≡ r = (let a = two.there in let b = o.1 in cc) in
    let fits : FitsRunning f.plans x r = subst (λ (q : Running). FitsRunning f.plans x q) same two.fits in
    let first : Some slot ≡ first_filled x.slots = is x at.1 in (
      r,
      o.1,
      o.3,
      inl (
        slot,
        record {
          holds = filled_held (hold_at x.slots slot) (holding_at (holdings r) slot) (fits.slots slot)
              (first_at x.slots slot first);
          least = λ other some. least_at x.slots slot other first
              (held_filled (hold_at x.slots other) (holding_at (holdings r) other) (fits.slots other) some);
        },
        refl,
      ),
    )

pub leaves_last : (f : Parts) (w : ℕ) → CanGo f w → ((x : Seat) → IsIn f w x → None ≡ first_filled x.slots)
    → LeavesIn f w (move.Finish w)
leaves_last f w can is = λ s st.
    let o = can s st in
    let r : Running = o.0 in
    let there = seat_to f.plans f.seats s.seats w (Some r) st.seats o.1 in
    let at = seat_by f s w there.0 r there.1 there.2 in
    let x : Seat = at.0 in
    let two = both f s w x st at.1 in
    let same : two.running ≡ r = (let a = two.there in let b = o.1 in cc) in
    let fits : FitsRunning f.plans x r = subst (λ (q : Running). FitsRunning f.plans x q) same two.fits in (
      r,
      o.1,
      o.3,
      inr (
        nothing_held (holdings r) (λ k. empty_holds (hold_at x.slots k) (holding_at (holdings r) k) (fits.slots k)
            (none_at x.slots (is x at.1) k)),
        refl,
      ),
    )

acts_leaving : {H : Type 0} (host : Host H) (g : Geometry) (w : ℕ) (r : Running) (stage : Stage) (h : H) (m : Move)
    → leaves stage ≡ true → Leaves w (holdings r) m → Acts host g w r stage h m h
acts_leaving host g w r acting h m e goes = cc
acts_leaving host g w r (writing t x u) h m e goes = cc
acts_leaving host g w r (reading t x) h m e goes = cc
acts_leaving host g w r (leaving given) h m e goes = (goes, refl)

-- It asks the host nothing.
pub leaving_decided : {H : Type 0} (host : Host H) (f : Parts) (w : ℕ) (h : H) (m : Move) → LeavesIn f w m
    → DecidesIn host f (Act w) h m h
leaving_decided host f w h m goes = λ s st.
    let o = goes s st in
    let r : Running = o.0 in
    (r, o.1, acts_leaving host s.settings.layout w r r.stage h m o.2 o.3)
