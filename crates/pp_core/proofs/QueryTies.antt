-- What the core tells is what the state has.
use Rattle.std.proofs.Common.{◌≡◌, ◌∙◌, ℕ, zero, suc, ◌+◌, ◌^◌, Bool, true, false, Option, Some, None, List, [], ◌∷◌, length, map}
use Rattle.std.proofs.Common.{◌<◌, ◌≤◌, cond, refl, sym, ap, subst, arith}
use Rattle.std.specs.Prelude.{slice_get, slice_index_or, option_map, unwrap_or, count_by, nat_lt, ◌&&◌, if◌then◌else◌}
use Rattle.std.proofs.lemmas.Option.{slice_get-get_or}
use Rattle.std.specs.List.{range_with_len}
use Rattle.std.proofs.lemmas.Bool.Decides.{nat_tests}
use Rattle.std.proofs.lemmas.List.{get_or_past}
use Rattle.std.proofs.lemmas.List.FromFn.{length-map-range_with_len}
use Rattle.std.proofs.lemmas.List.Sums.{sum_by-cons}
use Rattle.pp_plan.specs.declared.action.Ask.{Ask}
use Rattle.pp_cert.specs.declared.note.Held.{Held}
use Rattle.pp_cert.specs.Held.{Holding, holding_at}
use Rattle.pp_cert.specs.Accepted.{Acceptance}
use Rattle.pp_frames.specs.Marks.{PageMarks, PageMap}
use Rattle.pp_frames.specs.Marks as map
use Rattle.pp_model.specs.declared.refusals.Cause.{Cause}
use Rattle.pp_model.specs.declared.reply.Reply.TheVariants.{Did}
use Rattle.pp_model.specs.Pool.{Stage, acting, writing, reading, leaving, Running, Note, untouched, State, note_of}
use Rattle.pp_model.specs.Pool.{frame_of, known_mark}
use Rattle.pp_model.specs.Pool.{Flush as FlushInFlight, dirty_pages}
use Rattle.pp_model.specs.Holders.{holdings}
use Rattle.pp_model.specs.Outcome.{Outcome, off_plan}
use Rattle.pp_model.specs.Moves.{asked_by, act_by, act_in, seat_of}
use Rattle.pp_model.specs.Marks.{marks_at, marks}
use Rattle.pp_model.proofs.MarkParts.{marks_is}
use Rattle.pp_core.specs.declared.seat.Phase.{Phase}
use Rattle.pp_core.specs.declared.seat.Phase.TheVariants.{Acting, Writing, Reading, Leaving}
use Rattle.pp_core.specs.declared.seat.Seat.{Seat}
use Rattle.pp_core.specs.declared.table.Flush.{Flush}
use Rattle.pp_core.specs.Slots.{hold_of}
use Rattle.pp_core.specs.Effects.{phase_of}
use Rattle.pp_core.specs.Parts.{Parts}
use Rattle.pp_core.specs.StandsFor.{FitsStage, FitsSeat, StandsFor, IsKept, in_flight_as, Asks, CannotAct}
use Rattle.pp_core.specs.Queries.{idle_by, is_idle, leaves, leaving_by, is_leaving, ask_in, ask_by, ask_of, held_by}
use Rattle.pp_core.specs.Queries.{own_of, own_hold, held_of, bundle_of, gathered_of, gathered_in, pending_by, pending_of}
use Rattle.pp_core.specs.Queries.{pending_seat, is_page_so, ask_holding, ask_at, ask_seat, ask_holding_seat}
use Rattle.pp_core.specs.Gathered.{bundle_place, bundle_in}
use Rattle.pp_core.proofs.SlotKinds.{none_past}
use Rattle.pp_bundles.specs.Bundles.{pages_at}
use Rattle.pp_model.proofs.BoundSteps.{seats_are_all}
use Rattle.pp_core.specs.Queries.{errand_in, errand_by, errand_of, flushed_page}
use Rattle.pp_core.specs.Queries.{idle_seat, leaves_at, leaving_seat, held_seat, errand_at, errand_seat}
use Rattle.pp_core.specs.LeaveEffects as leave
use Rattle.pp_core.proofs.Crew.{seat_from, seat_none}

-- ---- of a worker

-- Both have no such worker, or both have one and their seats fit.
abbrev FitsPlace : List Acceptance → Option (Option Seat) → Option (Option Running) → Type 0
FitsPlace plans None None = Unit {0}
FitsPlace plans None (Some y) = ⊥
FitsPlace plans (Some x) None = ⊥
FitsPlace plans (Some x) (Some y) = FitsSeat plans x y

place_by : (f : Parts) (s : State) (w : ℕ) (o : Option (Option Seat)) → StandsFor f s → slice_get f.seats w ≡ o
    → FitsPlace f.plans o (seat_of s w)
place_by f s w None st e =
    subst (λ (y : Option (Option Running)). FitsPlace f.plans None y)
    (sym (seat_none f.plans f.seats s.seats w st.seats e)) tt
place_by f s w (Some x) st e =
    let there = seat_from f.plans f.seats s.seats w x st.seats e in
    subst (λ (y : Option (Option Running)). FitsPlace f.plans (Some x) y) (sym there.1) there.2

place : (f : Parts) (s : State) (w : ℕ) → StandsFor f s → FitsPlace f.plans (slice_get f.seats w) (seat_of s w)
place f s w st = place_by f s w (slice_get f.seats w) st refl

module _ (plans : List Acceptance) where
  same_idle : (x : Option (Option Seat)) (y : Option (Option Running)) → FitsPlace plans x y → idle_seat x ≡ idle_by y
  same_idle None None h = refl
  same_idle None (Some y) h = absurd h
  same_idle (Some x) None h = absurd h
  same_idle (Some None) (Some None) h = refl
  same_idle (Some None) (Some (Some r)) h = absurd h
  same_idle (Some (Some x)) (Some None) h = absurd h
  same_idle (Some (Some x)) (Some (Some r)) h = refl

  same_leaves : (p : Phase) (g : Stage) → FitsStage p g → leaves_at p ≡ leaves g
  same_leaves Acting acting h = refl
  same_leaves Acting (writing t x v) h = absurd h
  same_leaves Acting (reading t x) h = absurd h
  same_leaves Acting (leaving given) h = absurd h
  same_leaves (Writing slot page victim) acting h = absurd h
  same_leaves (Writing slot page victim) (writing t x v) h = refl
  same_leaves (Writing slot page victim) (reading t x) h = absurd h
  same_leaves (Writing slot page victim) (leaving given) h = absurd h
  same_leaves (Reading slot page) acting h = absurd h
  same_leaves (Reading slot page) (writing t x v) h = absurd h
  same_leaves (Reading slot page) (reading t x) h = refl
  same_leaves (Reading slot page) (leaving given) h = absurd h
  same_leaves Leaving acting h = absurd h
  same_leaves Leaving (writing t x v) h = absurd h
  same_leaves Leaving (reading t x) h = absurd h
  same_leaves Leaving (leaving given) h = refl

  same_leaving : (x : Option (Option Seat)) (y : Option (Option Running)) → FitsPlace plans x y
      → leaving_seat x ≡ leaving_by y
  same_leaving None None h = refl
  same_leaving None (Some y) h = absurd h
  same_leaving (Some x) None h = absurd h
  same_leaving (Some None) (Some None) h = refl
  same_leaving (Some None) (Some (Some r)) h = absurd h
  same_leaving (Some (Some x)) (Some None) h = absurd h
  same_leaving (Some (Some x)) (Some (Some r)) h = same_leaves x.phase r.stage h.phase

  same_pending : (x : Option (Option Seat)) (y : Option (Option Running)) → FitsPlace plans x y
      → pending_seat x ≡ pending_by y
  same_pending None None h = refl
  same_pending None (Some y) h = absurd h
  same_pending (Some x) None h = absurd h
  same_pending (Some None) (Some None) h = refl
  same_pending (Some None) (Some (Some r)) h = absurd h
  same_pending (Some (Some x)) (Some None) h = absurd h
  same_pending (Some (Some x)) (Some (Some r)) h =
      let leaves_so = same_leaves x.phase r.stage h.phase in
      λ i. if leaves_so i then None else Some (h.ask i)

  same_ask : (x : Seat) (r : Running) (p : Phase) (g : Stage) → x.ask ≡ asked_by r → FitsStage p g
      → ask_at x p ≡ ask_in r g
  same_ask x r Acting acting e h = ap {B = Option Ask} Some e
  same_ask x r Acting (writing t y v) e h = absurd h
  same_ask x r Acting (reading t y) e h = absurd h
  same_ask x r Acting (leaving given) e h = absurd h
  same_ask x r (Writing slot page victim) acting e h = absurd h
  same_ask x r (Writing slot page victim) (writing t y v) e h = refl
  same_ask x r (Writing slot page victim) (reading t y) e h = absurd h
  same_ask x r (Writing slot page victim) (leaving given) e h = absurd h
  same_ask x r (Reading slot page) acting e h = absurd h
  same_ask x r (Reading slot page) (writing t y v) e h = absurd h
  same_ask x r (Reading slot page) (reading t y) e h = refl
  same_ask x r (Reading slot page) (leaving given) e h = absurd h
  same_ask x r Leaving acting e h = absurd h
  same_ask x r Leaving (writing t y v) e h = absurd h
  same_ask x r Leaving (reading t y) e h = absurd h
  same_ask x r Leaving (leaving given) e h = refl

  same_asking : (x : Option (Option Seat)) (y : Option (Option Running)) → FitsPlace plans x y → ask_seat x ≡ ask_by y
  same_asking None None h = refl
  same_asking None (Some y) h = absurd h
  same_asking (Some x) None h = absurd h
  same_asking (Some None) (Some None) h = refl
  same_asking (Some None) (Some (Some r)) h = absurd h
  same_asking (Some (Some x)) (Some None) h = absurd h
  same_asking (Some (Some x)) (Some (Some r)) h = same_ask x r x.phase r.stage h.ask h.phase

  same_hold : (o : Option Holding) → own_hold (option_map hold_of o) ≡ own_of o
  same_hold None = refl
  same_hold (Some h) = refl

  same_held : (x : Option (Option Seat)) (y : Option (Option Running)) (slot : ℕ) → FitsPlace plans x y
      → held_seat x slot ≡ held_by y slot
  same_held None None slot h = refl
  same_held None (Some y) slot h = absurd h
  same_held (Some x) None slot h = absurd h
  same_held (Some None) (Some None) slot h = refl
  same_held (Some None) (Some (Some r)) slot h = absurd h
  same_held (Some (Some x)) (Some None) slot h = absurd h
  same_held (Some (Some x)) (Some (Some r)) slot h =
      ap own_hold (h.slots slot) ∙ same_hold (holding_at (holdings r) slot)

  same_errand_at : (p : Phase) (g : Stage) → FitsStage p g → errand_at p ≡ errand_in g
  same_errand_at Acting acting h = refl
  same_errand_at Acting (writing t x v) h = absurd h
  same_errand_at Acting (reading t x) h = absurd h
  same_errand_at Acting (leaving given) h = absurd h
  same_errand_at (Writing slot page victim) acting h = absurd h
  same_errand_at (Writing slot page victim) (writing t x v) h = λ i. Some (h.0 i, h.1 i, Some (h.2 i))
  same_errand_at (Writing slot page victim) (reading t x) h = absurd h
  same_errand_at (Writing slot page victim) (leaving given) h = absurd h
  same_errand_at (Reading slot page) acting h = absurd h
  same_errand_at (Reading slot page) (writing t x v) h = absurd h
  same_errand_at (Reading slot page) (reading t x) h = λ i. Some (h.0 i, h.1 i, None)
  same_errand_at (Reading slot page) (leaving given) h = absurd h
  same_errand_at Leaving acting h = absurd h
  same_errand_at Leaving (writing t x v) h = absurd h
  same_errand_at Leaving (reading t x) h = absurd h
  same_errand_at Leaving (leaving given) h = refl

  same_errand : (x : Option (Option Seat)) (y : Option (Option Running)) → FitsPlace plans x y
      → errand_seat x ≡ errand_by y
  same_errand None None h = refl
  same_errand None (Some y) h = absurd h
  same_errand (Some x) None h = absurd h
  same_errand (Some None) (Some None) h = refl
  same_errand (Some None) (Some (Some r)) h = absurd h
  same_errand (Some (Some x)) (Some None) h = absurd h
  same_errand (Some (Some x)) (Some (Some r)) h = same_errand_at x.phase r.stage h.phase

-- A seat leaves its plan where its phase says so.
phase_leaves : (p : Phase) → leave.is_leaving (Some (Some p)) ≡ leaves_at p
phase_leaves Acting = refl
phase_leaves (Writing slot page victim) = refl
phase_leaves (Reading slot page) = refl
phase_leaves Leaving = refl

seat_leaves : (o : Option (Option Seat))
    → leave.is_leaving (option_map (option_map (λ (x : Seat). x.phase)) o) ≡ leaving_seat o
seat_leaves None = refl
seat_leaves (Some None) = refl
seat_leaves (Some (Some x)) = phase_leaves x.phase

counted : (b : Bool) (ps : List ℕ) → (if b then length ps else 0) ≡ length (if b then ps else [])
counted true ps = refl
counted false ps = refl

no_seat : (xs : List (Option Running)) (w : ℕ) → length xs ≤ w → slice_get xs w ≡ None
no_seat [] w le = refl
no_seat (x ∷ xs) zero le = absurd (omega (arith, le))
no_seat (x ∷ xs) (suc w) le = no_seat xs w (omega (arith, le))

-- There are at most 1,024 workers, so the number of a place fits 32 bits.
pub few_seats : (f : Parts) → IsKept f → length f.seats ≤ 1024
few_seats f k =
    omega (
      arith,
      k.stands.seats.size,
      seats_are_all k.state k.stands.reached,
      k.stands.reached.settings.workers.1,
    )

pub place_within : (n w slot : ℕ) → n ≤ 1024 → slot < 32 → w < n → bundle_place w slot < 2 ^ 32
place_within n w slot few low there = omega (arith, few, low, there)

module _ (f : Parts) (s : State) (st : StandsFor f s) where
  pub idle_told : (w : ℕ) → idle_seat (slice_get f.seats w) ≡ is_idle s w
  idle_told w = same_idle f.plans (slice_get f.seats w) (seat_of s w) (place f s w st)

  pub leaving_told : (w : ℕ) → leave.is_leaving (phase_of f w) ≡ is_leaving s w
  leaving_told w =
      seat_leaves (slice_get f.seats w) ∙ same_leaving f.plans (slice_get f.seats w) (seat_of s w) (place f s w st)

  pub held_told : (w slot : ℕ) → held_seat (slice_get f.seats w) slot ≡ held_of s w slot
  held_told w slot = same_held f.plans (slice_get f.seats w) (seat_of s w) slot (place f s w st)

  pub asking_told : (w : ℕ) → ask_seat (slice_get f.seats w) ≡ ask_of s w
  asking_told w = same_asking f.plans (slice_get f.seats w) (seat_of s w) (place f s w st)

  pub holding_told : (w slot page : ℕ) (held : Held)
      → ask_holding_seat (slice_get f.seats w) slot page held ≡ ask_holding s w slot page held
  holding_told w slot page held =
      λ i. if is_page_so page held (held_told w slot i) then asking_told w i else None

  -- The pages of a bundle are those of its stack; past the last slot and the last worker there are none.
  abbrev pub stacked : (w slot : ℕ) → List ℕ
  stacked w slot =
      if nat_lt slot 32 && nat_lt w (length f.seats) then pages_at f.bundles (bundle_place w slot) else []

  pub bundle_told : (w slot : ℕ) → stacked w slot ≡ bundle_of s w slot
  bundle_told w slot = go (nat_lt slot 32) (nat_lt w (length f.seats)) refl refl
    where
      no_slot : 32 ≤ slot → (o : Option (Option Running)) → seat_of s w ≡ o → [] ≡ bundle_in (unwrap_or o None) slot
      no_slot le None e = refl
      no_slot le (Some None) e = refl
      no_slot le (Some (Some r)) e = sym (none_past s st.reached w r slot e le)

      go : (a b : Bool) → nat_lt slot 32 ≡ a → nat_lt w (length f.seats) ≡ b
          → (if a && b then pages_at f.bundles (bundle_place w slot) else []) ≡ bundle_of s w slot
      go false b e g = let le : 32 ≤ slot = grind (arith, nat_tests) in no_slot le (seat_of s w) refl
      go true false e g =
          let le : length f.seats ≤ w = grind (arith, nat_tests) in
          sym (ap (λ o. bundle_in (unwrap_or o None) slot) (no_seat s.seats w (omega (arith, le, st.seats.size))))
      go true true e g =
          let low : slot < 32 = grind (arith, nat_tests) in
          let there : w < length f.seats = grind (arith, nat_tests) in
          let at = slice_get-get_or s.seats w None (omega (arith, there, st.seats.size)) in
          st.bundles.each w slot (slice_index_or s.seats w None) low at
          ∙ sym (ap (λ o. bundle_in (unwrap_or o None) slot) at)

  pub gathered_told : (w slot : ℕ) → gathered_in f.bundles (length f.seats) w slot ≡ gathered_of s w slot
  gathered_told w slot =
      counted (nat_lt slot 32 && nat_lt w (length f.seats)) (pages_at f.bundles (bundle_place w slot))
      ∙ ap (λ (ps : List ℕ). length ps) (bundle_told w slot)

  pub pending_told : (w : ℕ) → pending_seat (slice_get f.seats w) ≡ pending_of s w
  pending_told w = same_pending f.plans (slice_get f.seats w) (seat_of s w) (place f s w st)

  pub errand_told : (w : ℕ) → errand_seat (slice_get f.seats w) ≡ errand_of s w
  errand_told w = same_errand f.plans (slice_get f.seats w) (seat_of s w) (place f s w st)

-- ---- what a plan asks

pub ask_told : (f : Parts) (s : State) (w : ℕ) (ask : Ask) → StandsFor f s → Asks f w ask → Some ask ≡ ask_of s w
ask_told f s w ask st asks =
    let a = asks s st in
    let r : Running = a.0 in
    sym (ap ask_by a.1.seat ∙ ap (ask_in r) a.1.stage ∙ ap {B = Option Ask} Some a.2)

-- An outcome that isn't a refusal.
abbrev some_outcome : State → Running → Outcome
some_outcome s r = record { reply = Did; state = s }

none_in : (s : State) (r : Running) (g : Stage) (cause : Cause) → act_in s (some_outcome s) r g ≡ off_plan s cause
    → None ≡ ask_in r g
none_in s r acting cause e = let same = ap (λ (o : Outcome). o.reply) e in cc
none_in s r (writing slot page victim) cause e = refl
none_in s r (reading slot page) cause e = refl
none_in s r (leaving given) cause e = refl

none_by : (s : State) (y : Option (Option Running)) (cause : Cause) → act_by s (some_outcome s) y ≡ off_plan s cause
    → None ≡ ask_by y
none_by s None cause e = refl
none_by s (Some None) cause e = refl
none_by s (Some (Some r)) cause e = none_in s r r.stage cause e

pub none_told : (f : Parts) (s : State) (w : ℕ) (cause : Cause) → StandsFor f s → CannotAct f w cause
    → None ≡ ask_of s w
none_told f s w cause st cannot = none_by s (seat_of s w) cause (cannot s (some_outcome s) st)

-- ---- pages

-- What is noted of a page is told by its marks, also of a page past the last one, of which nothing is.
noted_by : {A : Type 0} (s : State) (q : ℕ) (g : PageMarks → A) (h : Note → A) (b : Bool)
    → nat_lt q (length s.notes) ≡ b → g map.untouched_marks ≡ h untouched → g (marks_at s q) ≡ h (note_of s q)
    → g (map.marks_of (marks s) q) ≡ h (note_of s q)
noted_by s q g h true e none at =
    let low : q < length s.notes = grind (arith, nat_tests) in
    ap g (marks_is s q low) ∙ at
noted_by s q g h false e none at =
    let past : length s.notes ≤ q = grind (arith, nat_tests) in
    let long = length-map-range_with_len (marks_at s) 0 (length s.notes) in
    let far : length (marks s).pages ≤ q = omega (arith, past, long) in
    ap g (get_or_past (marks s).pages q map.untouched_marks far) ∙ none
    ∙ sym (ap h (get_or_past s.notes q untouched past))

same_count : (f : ℕ → PageMarks) (ns : List Note) (from : ℕ)
    → ((i : ℕ) → (f (from + i)).dirty ≡ (slice_index_or ns i untouched).dirty)
    → count_by (λ (m : PageMarks). m.dirty) (map f (range_with_len from (length ns)))
    ≡ count_by (λ (n : Note). n.dirty) ns
same_count f [] from h = refl
same_count f (n ∷ ns) from h =
    let here : from ≡ from + 0 = omega arith in
    let head : (f from).dirty ≡ n.dirty = ap (λ k. (f k).dirty) here ∙ h 0 in
    let next : (i : ℕ) → (from + 1) + i ≡ from + suc i = λ i. omega arith in
    let tail = same_count f ns (from + 1) (λ i. ap (λ k. (f k).dirty) (next i) ∙ h (suc i)) in
    let one : ◌≡◌ {A = ℕ} (cond (f from).dirty 1 0) (cond n.dirty 1 0) = ap {B = ℕ} (λ b. cond b 1 0) head in
    omega (
      arith,
      one,
      tail,
      sum_by-cons {X = PageMarks} (λ m. cond m.dirty 1 0) (f from) (map f (range_with_len (from + 1) (length ns))),
      sum_by-cons {X = Note} (λ x. cond x.dirty 1 0) n ns,
    )

module _ (f : Parts) (s : State) (st : StandsFor f s) where
  pub frame_told : (q : ℕ) → map.frame_of f.marks q ≡ frame_of s q
  frame_told q =
      ap (λ (m : PageMap). map.frame_of m q) st.marks
      ∙ noted_by s q (λ m. m.frame) (λ n. n.frame) (nat_lt q (length s.notes)) refl refl refl

  pub mark_told : (q : ℕ) → map.stamp_of f.marks q ≡ known_mark s q
  mark_told q =
      ap (λ (m : PageMap). map.stamp_of m q) st.marks
      ∙ noted_by s q (λ m. m.stamp) (λ n. n.mark) (nat_lt q (length s.notes)) refl refl refl

  pub dirty_told : count_by (λ (m : PageMarks). m.dirty) f.marks.pages ≡ dirty_pages s
  dirty_told =
      let at : (i : ℕ) → 0 + i ≡ i = λ i. omega arith in
      ap (λ (m : PageMap). count_by (λ (x : PageMarks). x.dirty) m.pages) st.marks
      ∙ same_count (marks_at s) s.notes 0 (λ i. ap (λ k. (note_of s k).dirty) (at i))

  pub dirty_from_told : (n : ℕ) → map.dirty_from f.marks n ≡ map.dirty_from (marks s) n
  dirty_from_told n = ap (λ (m : PageMap). map.dirty_from m n) st.marks

  page_of : (o : Option Flush) → option_map (λ (x : Flush). x.page) o
      ≡ option_map (λ (x : FlushInFlight). x.page) (option_map in_flight_as o)
  page_of None = refl
  page_of (Some x) = refl

  pub flush_told : option_map (λ (x : Flush). x.page) f.flush ≡ flushed_page s
  flush_told = page_of f.flush ∙ ap (option_map (λ (x : FlushInFlight). x.page)) st.flush
