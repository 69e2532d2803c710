-- What a device answers to a worker's errand: what the core's calls need, and that its parts stand for the next state.
use Rattle.std.proofs.Common.{◌≡◌, ◌∙◌, ℕ, ◌+◌, ◌-◌, ◌*◌, ◌<◌, ◌≤◌, Bool, true, false, Option, Some, None, List, [], ◌∷◌}
use Rattle.std.proofs.Common.{length}
use Rattle.std.proofs.Common.{refl, sym, ap, subst, arith}
use Rattle.std.specs.Prelude.{slice_get, slice_set, option_map, option_and_then, unwrap_or, Result, Ok, Err, not, ◌||◌, ◌==◌}
use Rattle.pp_plan.specs.declared.action.Ask.TheVariants as ask
use Rattle.pp_settings.specs.Limits.{most_slots}
use Rattle.pp_cert.specs.Accepted.{Acceptance}
use Rattle.pp_arc.specs.FourLists.{FourLists, is_cached}
use Rattle.pp_arc.specs.Figure.{forget, bring_back as bring_back_in}
use Rattle.pp_frames.specs.Marks as map
use Rattle.pp_frames.specs.Marks.{PageMap, PageMarks}
use Rattle.pp_model.specs.Fixing.{fixes}
use Rattle.pp_model.specs.declared.moves.Move.TheVariants as move
use Rattle.pp_model.specs.declared.moves.Came.{Came}
use Rattle.pp_model.specs.declared.moves.Came.TheVariants.{Fault, Image}
use Rattle.pp_model.specs.declared.refusals.Cause.{Cause}
use Rattle.pp_model.specs.declared.reply.Reply.{Reply}
use Rattle.pp_model.specs.declared.reply.Reply.TheVariants.{MustRead, Failed, Loaded as LoadedAs, OffPlan}
use Rattle.pp_model.specs.declared.reply.Failure.{Failure}
use Rattle.pp_model.specs.declared.reply.Failure.TheVariants.{WriteFault, ReadFault, Misread}
use Rattle.pp_model.specs.Pool.{Stage, acting, writing, reading, leaving, Running, State, note_of, frame_of, frame_at}
use Rattle.pp_model.specs.Holders.{loading as loading_of, is_in_flight, given_back, latches_at, holdings}
use Rattle.pp_model.specs.Budget.{bound, left_to}
use Rattle.pp_model.specs.Marks.{marks}
use Rattle.pp_model.specs.Outcome.{off_plan, did, with_lists, with_stage, with_frame, with_dirty, with_mark}
use Rattle.pp_model.specs.Answers.{brought_back, unread, write_where, write_in, write_by, is_other}
use Rattle.pp_model.specs.Answers.{is_misread as is_misread_by}
use Rattle.pp_model.specs.Answers.{read_where, read_came, read_in, read_by}
use Rattle.pp_model.specs.Moves.{seat_of, outcome_of, asked_by}
use Rattle.pp_model.proofs.Changes.{IsAt}
use Rattle.pp_model.proofs.Sums.{sum_by-term}
use Rattle.pp_model.proofs.Falls.{left_at}
use Rattle.pp_model.proofs.HeldSlots.{few_held}
use Rattle.pp_model.proofs.Stuck.{fix_fits}
use Rattle.pp_model.proofs.HoldingSteps as steps
use Rattle.pp_model.proofs.BoundSteps as numbers
use Rattle.pp_model.proofs.FlightSteps as flights
use Rattle.pp_model.proofs.MarkSteps as marked
use Rattle.pp_model.proofs.MarkChanges.{notes_stay, count_told, pins_told, frame_told, latches_told}
use Rattle.pp_model.proofs.MarkParts.{marks_is}
use Rattle.pp_model.proofs.MarkBounds.{need_is_small, bound_within}
use Rattle.pp_model.proofs.Spans.{events_small}
use Rattle.pp_model.proofs.Framed.{notes_length}
use Rattle.pp_core.specs.declared.answering.Write.{Write}
use Rattle.pp_core.specs.declared.answering.Read.{Read}
use Rattle.pp_core.specs.declared.seat.Phase.{Phase}
use Rattle.pp_core.specs.declared.seat.Phase.TheVariants.{Acting, Writing, Reading, Leaving}
use Rattle.pp_core.specs.declared.seat.Seat.{Seat}
use Rattle.pp_core.specs.Parts.{Parts}
use Rattle.pp_core.specs.StandsFor.{FitsStage, FitsRunning, FitsSeat, StandsFor, IsKept, Moves}
use Rattle.pp_core.specs.Effects.{phase_of, ask_in, IsIn, Runs, CanAct, at_phase, displaced, frame_at as frame_in, Acted, stacks_after}
use Rattle.pp_core.specs.Gathered.{BundlesFit}
use Rattle.pp_core.specs.Answering.{writing_of, reading_of, is_misread, left_of, CanLose, CanWrite, written, CanBring}
use Rattle.pp_core.specs.Answering.{brought}
use Rattle.pp_core.specs.Answering.{CanForget, forgotten, CanLoad, Loaded}
use Rattle.pp_core.proofs.Crew.{set_length, seat_from, seat_none}
use Rattle.pp_core.proofs.Asking.{in_phase, both, runs}
use Rattle.pp_core.proofs.Ties.{Leads, moves_by, refuses, SameFrame, stands_with, flies_set, flies_both}
use Rattle.pp_core.proofs.ActTies.{can_act_then, acted_crew, reading_on, load_due, load_follow}
use Rattle.pp_core.proofs.SentTies.{staged_crew}
use Rattle.pp_core.proofs.Gathered.{asked_bundles, staged_bundles, bundles_few, has_record}

-- ---- errands

-- The core and the state have the worker at this stage.
pub record Errand (f : Parts) (s : State) (w : ℕ) (g : Stage) : Type 0 where
  pub seat : Seat
  pub is_in : IsIn f w seat
  pub running : Running
  pub at : IsAt s w running g
  pub fits : FitsRunning f.plans seat running

fits_writing : (p : Phase) (g : Stage) (slot page v : ℕ) → p ≡ Writing slot page v → FitsStage p g
    → g ≡ writing slot page v
fits_writing Acting g slot page v e h = cc
fits_writing (Writing a b c) acting slot page v e h = absurd h
fits_writing (Writing a b c) (writing t x u) slot page v e h =
    let same : (a ≡ slot) × (b ≡ page) × (c ≡ v) = (cc, cc, cc) in
    λ i. writing ((sym h.0 ∙ same.0) i) ((sym h.1 ∙ same.1) i) ((sym h.2 ∙ same.2) i)
fits_writing (Writing a b c) (reading t x) slot page v e h = absurd h
fits_writing (Writing a b c) (leaving given) slot page v e h = absurd h
fits_writing (Reading a b) g slot page v e h = cc
fits_writing Leaving g slot page v e h = cc

fits_reading : (p : Phase) (g : Stage) (slot page : ℕ) → p ≡ Reading slot page → FitsStage p g → g ≡ reading slot page
fits_reading Acting g slot page e h = cc
fits_reading (Writing a b c) g slot page e h = cc
fits_reading (Reading a b) acting slot page e h = absurd h
fits_reading (Reading a b) (writing t x u) slot page e h = absurd h
fits_reading (Reading a b) (reading t x) slot page e h =
    let same : (a ≡ slot) × (b ≡ page) = (cc, cc) in
    λ i. reading ((sym h.0 ∙ same.0) i) ((sym h.1 ∙ same.1) i)
fits_reading (Reading a b) (leaving given) slot page e h = absurd h
fits_reading Leaving g slot page e h = cc

writes_so : (o : Option (Option Phase)) (e : Write) → ◌≡◌ {A = Result Write Cause} (writing_of o) (Ok e)
    → Some (Some (Writing e.slot e.page e.victim)) ≡ o
writes_so None e h = cc
writes_so (Some None) e h = cc
writes_so (Some (Some Acting)) e h = cc
writes_so (Some (Some (Writing a b c))) e h =
    let same : record { slot = a; page = b; victim = c } ≡ e = cc in
    ap {B = Option (Option Phase)} (λ (x : Write). Some (Some (Writing x.slot x.page x.victim))) (sym same)
writes_so (Some (Some (Reading a b))) e h = cc
writes_so (Some (Some Leaving)) e h = cc

reads_so : (o : Option (Option Phase)) (e : Read) → ◌≡◌ {A = Result Read Cause} (reading_of o) (Ok e)
    → Some (Some (Reading e.slot e.page)) ≡ o
reads_so None e h = cc
reads_so (Some None) e h = cc
reads_so (Some (Some Acting)) e h = cc
reads_so (Some (Some (Writing a b c))) e h = cc
reads_so (Some (Some (Reading a b))) e h =
    let same : record { slot = a; page = b } ≡ e = cc in
    ap {B = Option (Option Phase)} (λ (x : Read). Some (Some (Reading x.slot x.page))) (sym same)
reads_so (Some (Some Leaving)) e h = cc

pub writer : (f : Parts) (s : State) (w : ℕ) (e : Write) → StandsFor f s
    → ◌≡◌ {A = Result Write Cause} (writing_of (phase_of f w)) (Ok e) → Errand f s w (writing e.slot e.page e.victim)
writer f s w e st h =
    let at = in_phase f w (Writing e.slot e.page e.victim) (writes_so (phase_of f w) e h) in
    let two = both f s w at.seat st at.is_in in
    record {
      seat = at.seat;
      is_in = at.is_in;
      running = two.running;
      at = record {
        seat = two.there;
        stage = fits_writing at.seat.phase two.running.stage e.slot e.page e.victim at.phase two.fits.phase;
      };
      fits = two.fits;
    }

pub reader : (f : Parts) (s : State) (w : ℕ) (e : Read) → StandsFor f s
    → ◌≡◌ {A = Result Read Cause} (reading_of (phase_of f w)) (Ok e) → Errand f s w (reading e.slot e.page)
reader f s w e st h =
    let at = in_phase f w (Reading e.slot e.page) (reads_so (phase_of f w) e h) in
    let two = both f s w at.seat st at.is_in in
    record {
      seat = at.seat;
      is_in = at.is_in;
      running = two.running;
      at = record {
        seat = two.there;
        stage = fits_reading at.seat.phase two.running.stage e.slot e.page at.phase two.fits.phase;
      };
      fits = two.fits;
    }

-- ---- no errand

no_writing : (s : State) (w : ℕ) (ok : Bool) (r : Running) (p : Phase) (g : Stage) (cause : Cause) → FitsStage p g
    → ◌≡◌ {A = Result Write Cause} (writing_of (Some (Some p))) (Err cause) → write_in s w ok r g ≡ off_plan s cause
no_writing s w ok r Acting acting cause h e = ap (off_plan s) cc
no_writing s w ok r Acting (writing t x u) cause h e = absurd h
no_writing s w ok r Acting (reading t x) cause h e = absurd h
no_writing s w ok r Acting (leaving given) cause h e = absurd h
no_writing s w ok r (Writing a b c) g cause h e = cc
no_writing s w ok r (Reading a b) acting cause h e = absurd h
no_writing s w ok r (Reading a b) (writing t x u) cause h e = absurd h
no_writing s w ok r (Reading a b) (reading t x) cause h e = ap (off_plan s) cc
no_writing s w ok r (Reading a b) (leaving given) cause h e = absurd h
no_writing s w ok r Leaving acting cause h e = absurd h
no_writing s w ok r Leaving (writing t x u) cause h e = absurd h
no_writing s w ok r Leaving (reading t x) cause h e = absurd h
no_writing s w ok r Leaving (leaving given) cause h e = ap (off_plan s) cc

no_writing_seat : (ps : List Acceptance) (s : State) (w : ℕ) (ok : Bool) (x : Option Seat) (y : Option Running) (cause : Cause)
    → FitsSeat ps x y
    → ◌≡◌ {A = Result Write Cause} (writing_of (Some (option_map (λ (z : Seat). z.phase) x))) (Err cause)
    → write_by s w ok (Some y) ≡ off_plan s cause
no_writing_seat ps s w ok None None cause h e = ap (off_plan s) cc
no_writing_seat ps s w ok None (Some r) cause h e = absurd h
no_writing_seat ps s w ok (Some x) None cause h e = absurd h
no_writing_seat ps s w ok (Some x) (Some r) cause h e = no_writing s w ok r x.phase r.stage cause h.phase e

no_writing_by : (f : Parts) (s : State) (w : ℕ) (ok : Bool) (cause : Cause) (o : Option (Option Seat)) → StandsFor f s
    → slice_get f.seats w ≡ o
    → ◌≡◌ {A = Result Write Cause} (writing_of (option_map (option_map (λ (x : Seat). x.phase)) o)) (Err cause)
    → write_by s w ok (seat_of s w) ≡ off_plan s cause
no_writing_by f s w ok cause None st e h =
    ap (write_by s w ok) (seat_none f.plans f.seats s.seats w st.seats e) ∙ ap (off_plan s) cc
no_writing_by f s w ok cause (Some x) st e h =
    let there = seat_from f.plans f.seats s.seats w x st.seats e in
    ap (write_by s w ok) there.1 ∙ no_writing_seat f.plans s w ok x there.0 cause there.2 h

pub write_refused : (f : Parts) (w : ℕ) (ok : Bool) (cause : Cause)
    → ◌≡◌ {A = Result Write Cause} (writing_of (phase_of f w)) (Err cause) → Moves f (move.WriteDone w ok)
    (OffPlan cause) f
write_refused f w ok cause e =
    refuses f (move.WriteDone w ok) (OffPlan cause)
    (λ s st. no_writing_by f s w ok cause (slice_get f.seats w) st refl e)

no_reading : (s : State) (w : ℕ) (came : Came) (r : Running) (p : Phase) (g : Stage) (cause : Cause) → FitsStage p g
    → ◌≡◌ {A = Result Read Cause} (reading_of (Some (Some p))) (Err cause) → read_in s w came r g ≡ off_plan s cause
no_reading s w came r Acting acting cause h e = ap (off_plan s) cc
no_reading s w came r Acting (writing t x u) cause h e = absurd h
no_reading s w came r Acting (reading t x) cause h e = absurd h
no_reading s w came r Acting (leaving given) cause h e = absurd h
no_reading s w came r (Writing a b c) acting cause h e = absurd h
no_reading s w came r (Writing a b c) (writing t x u) cause h e = ap (off_plan s) cc
no_reading s w came r (Writing a b c) (reading t x) cause h e = absurd h
no_reading s w came r (Writing a b c) (leaving given) cause h e = absurd h
no_reading s w came r (Reading a b) g cause h e = cc
no_reading s w came r Leaving acting cause h e = absurd h
no_reading s w came r Leaving (writing t x u) cause h e = absurd h
no_reading s w came r Leaving (reading t x) cause h e = absurd h
no_reading s w came r Leaving (leaving given) cause h e = ap (off_plan s) cc

no_reading_seat : (ps : List Acceptance) (s : State) (w : ℕ) (came : Came) (x : Option Seat) (y : Option Running) (cause : Cause)
    → FitsSeat ps x y
    → ◌≡◌ {A = Result Read Cause} (reading_of (Some (option_map (λ (z : Seat). z.phase) x))) (Err cause)
    → read_by s w came (Some y) ≡ off_plan s cause
no_reading_seat ps s w came None None cause h e = ap (off_plan s) cc
no_reading_seat ps s w came None (Some r) cause h e = absurd h
no_reading_seat ps s w came (Some x) None cause h e = absurd h
no_reading_seat ps s w came (Some x) (Some r) cause h e = no_reading s w came r x.phase r.stage cause h.phase e

no_reading_by : (f : Parts) (s : State) (w : ℕ) (came : Came) (cause : Cause) (o : Option (Option Seat)) → StandsFor f s
    → slice_get f.seats w ≡ o
    → ◌≡◌ {A = Result Read Cause} (reading_of (option_map (option_map (λ (x : Seat). x.phase)) o)) (Err cause)
    → read_by s w came (seat_of s w) ≡ off_plan s cause
no_reading_by f s w came cause None st e h =
    ap (read_by s w came) (seat_none f.plans f.seats s.seats w st.seats e) ∙ ap (off_plan s) cc
no_reading_by f s w came cause (Some x) st e h =
    let there = seat_from f.plans f.seats s.seats w x st.seats e in
    ap (read_by s w came) there.1 ∙ no_reading_seat f.plans s w came x there.0 cause there.2 h

pub read_refused : (f : Parts) (w : ℕ) (came : Came) (cause : Cause)
    → ◌≡◌ {A = Result Read Cause} (reading_of (phase_of f w)) (Err cause) → Moves f (move.ReadDone w came)
    (OffPlan cause) f
read_refused f w came cause e =
    refuses f (move.ReadDone w came) (OffPlan cause)
    (λ s st. no_reading_by f s w came cause (slice_get f.seats w) st refl e)

-- ---- a worker that leaves

can_lose : (f : Parts) (s : State) (w : ℕ) (g : Stage) (spare : ℕ) → StandsFor f s → (x : Errand f s w g) → spare ≤ 100
    → 3 * (x.running.accepted.steps - length x.running.done) + spare ≤ left_to (Some x.running) → CanLose f w spare
can_lose f s w g spare st x small left =
    let r = x.running in
    let seat = steps.seat_is s st.reached w r x.at.seat in
    record {
      seat = x.seat;
      accepted = r.accepted;
      runs = runs f s w x.seat r st x.is_in x.fits;
      actions = omega (arith, x.fits.actions, numbers.done_few s st.reached w r x.at.seat);
      short = seat.accepted.limit;
      holds = omega (arith, x.fits.holds, few_held most_slots (holdings r));
      budget = omega (arith, x.fits.actions, st.budget, left, sum_by-term left_to s.seats w (Some r) x.at.seat);
      small =
          omega (arith, st.budget, bound_within s st.reached, need_is_small s st.reached, events_small s.settings.span);
      spare_is_small = small;
    }

-- The page of an errand has one pin and no latch.
loading_alone : (f : Parts) (s : State) (w : ℕ) (g : Stage) (page : ℕ) → StandsFor f s → (x : Errand f s w g)
    → loading_of g ≡ page ∷ []
    → (map.pins_of f.marks page ≡ 1) × (map.latch_count (map.latches_of f.marks page) ≡ 0)
loading_alone f s w g page st x one =
    let r = x.running in
    let low = marked.loading_low s st.reached w r g x.at page one in
    let pins = marked.loading_pins s st.reached w r g x.at page one in
    let latches : map.latches_of (marks s) page ≡ latches_at 0 0 =
    latches_told s page low ∙ (λ i. latches_at (pins.1 i) (pins.2 i)) in (
      ap (λ (m : PageMap). map.pins_of m page) st.marks ∙ pins_told s page low ∙ pins.0,
      ap (λ (m : PageMap). map.latch_count (map.latches_of m page)) st.marks ∙ ap map.latch_count latches,
    )

-- ---- writing

brought_long : (s : State) (page v : ℕ) → length (brought_back s page v).notes ≡ length s.notes
brought_long s page v =
    let u = with_lists s (bring_back_in s.lists page v) in
    notes_stay (with_frame u page None) v (record (note_of (with_frame u page None) v) { frame = frame_of s page })
    ∙ notes_stay u page (record (note_of s page) { frame = None })

module _ (f : Parts) (w : ℕ) (e : Write) (writes : ◌≡◌ {A = Result Write Cause} (writing_of (phase_of f w))
    (Ok e)) where
  there : (s : State) → StandsFor f s → Errand f s w (writing e.slot e.page e.victim)
  there s st = writer f s w e st writes

  page_low : (s : State) → StandsFor f s → e.page < length s.notes
  page_low s st =
      let x = there s st in
      omega (
        arith,
        (steps.writing_finds s st.reached w x.running e.slot e.page e.victim x.at).low,
        notes_length s st.reached,
      )

  victim_low : (s : State) → StandsFor f s → e.victim < length s.notes
  victim_low s st =
      let x = there s st in
      omega (arith, marked.write_low s st.reached w x.running e.slot e.page e.victim x.at, count_told s)

  frame_is : (s : State) → StandsFor f s → frame_in f.marks e.page ≡ frame_at s e.page
  frame_is s st =
      ap (λ (m : PageMap). frame_in m e.page) st.marks
      ∙ ap (λ (o : Option ℕ). unwrap_or o 0) (frame_told s e.page (page_low s st))

  outcome_is : (s : State) (st : StandsFor f s) (ok : Bool)
      → outcome_of s (move.WriteDone w ok) ≡ write_where s w (there s st).running e.slot e.page e.victim ok
  outcome_is s st ok =
      let x = there s st in
      ap (write_by s w ok) x.at.seat ∙ ap (write_in s w ok x.running) x.at.stage

  bound_left : (s : State) (st : StandsFor f s)
      → 3 * ((there s st).running.accepted.steps - length (there s st).running.done) + 32 ≤ left_to (Some
      (there s st).running)
  bound_left s st =
      let x = there s st in omega (arith, left_at x.running (writing e.slot e.page e.victim) x.at.stage)

  some_bound : (s : State) → StandsFor f s → 1 ≤ f.budget
  some_bound s st =
      let x = there s st in
      omega (arith, st.budget, bound_left s st, sum_by-term left_to s.seats w (Some x.running) x.at.seat)

  pub can_write : IsKept f → CanWrite f w e.page e.victim
  can_write k =
      let s = k.state in
      let st = k.stands in
      let x = there s st in
      record {
        seat = (x.seat, x.is_in);
        flight = omega (arith, victim_low s st, st.pages);
        low = omega (
          arith,
          marked.write_low s st.reached w x.running e.slot e.page e.victim x.at,
          ap (λ (m : PageMap). map.page_count m) st.marks,
        );
        budget = some_bound s st;
      }

  pub written_moves : (g : Parts) (reply : Reply)
      → ((x : Seat) → IsIn f w x → g ≡ written f w x e.slot e.page e.victim)
      → reply ≡ MustRead (frame_in f.marks e.page) → Moves f (move.WriteDone w true) reply g
  written_moves g reply parts tells = moves_by f g (move.WriteDone w true) reply leads
    where
      leads : (s : State) → StandsFor f s → Leads f s (move.WriteDone w true) reply g
      leads s st =
          let x = there s st in
          let r = x.running in
          let y = x.seat in
          let v = e.victim in
          let t = with_stage (with_dirty s v false) w r (reading e.slot e.page) in
          let bundles = staged_bundles f.bundles s t w r (reading e.slot e.page) st.bundles x.at.seat
          (sym (ap given_back x.at.stage)) refl refl in
          let crew = staged_crew f s w y r (Reading e.slot e.page) (reading e.slot e.page) st x.is_in x.at.seat
          (sym (ap given_back x.at.stage)) (refl, refl) in
          let same : SameFrame s t = record {
            settings = refl;
            plans = refl;
            taken = refl;
            flush = refl;
            flushes_left = refl;
          } in
          let now : map.with_dirty f.marks v false ≡ marks t =
          ap (λ (m : PageMap). map.with_dirty m v false) st.marks
          ∙ sym (marked.write_marks s st.reached w r e.slot e.page v x.at) in
          let flies = flies_set f.in_flight v false (is_in_flight s) (is_in_flight t) st.in_flight
          (flights.write_flight s st.reached w r e.slot e.page v x.at) in
          let long : length (slice_set f.in_flight v false) ≡ length t.notes =
          omega (
            arith,
            set_length f.in_flight v false,
            st.pages,
            notes_stay s v (record (note_of s v) { dirty = false }),
          ) in
          let budget : f.budget - 1 ≡ bound t =
          omega (arith, st.budget, numbers.write_bound s st.reached w r e.slot e.page v x.at) in
          record {
            after = record { reply = MustRead (frame_at s e.page); state = t };
            is = outcome_is s st true;
            replies = tells ∙ ap MustRead (frame_is s st);
            plans = ap (λ (z : Parts). z.plans) (parts y x.is_in);
            stands = λ reached. subst (λ (z : Parts). StandsFor z t) (sym (parts y x.is_in))
                (stands_with f s t (slice_set f.seats w (Some (record y { phase = Reading e.slot e.page }))) f.lists
                (map.with_dirty f.marks v false) f.bundles (slice_set f.in_flight v false) (f.budget - 1) st reached
                same crew st.lists now bundles long flies (numbers.write_peaks s st.reached w r e.slot e.page v x.at) budget);
          }

  pub can_bring : IsKept f → CanBring f w e.page e.victim
  can_bring k =
      let s = k.state in
      let st = k.stands in
      let x = there s st in
      let r = x.running in
      let alone = loading_alone f s w (writing e.slot e.page e.victim) e.page st x refl in
      let found = marked.bring_frame s st.reached w r e.slot e.page e.victim x.at in
      let frame : frame_in (marks s) e.page ≡ frame_at s e.page = ap (λ (o : Option ℕ). unwrap_or o 0) found in
      record {
        lose = can_lose f s w (writing e.slot e.page e.victim) 32 st x (omega arith) (bound_left s st);
        pin = alone.0;
        unlatched = alone.1;
        placed = subst (λ (m : PageMap). Some (frame_in m e.page) ≡ map.frame_of m e.page) (sym st.marks)
            (ap {B = Option ℕ} Some frame ∙ sym found);
        frame = subst (λ (m : PageMap). frame_in m e.page < m.frames) (sym st.marks)
            (omega (arith, frame, marked.bring_frame_low s st.reached w r e.slot e.page e.victim x.at));
        victim_low = subst (λ (m : PageMap). e.victim < length (displaced m e.page).pages) (sym st.marks)
            (marked.bring_victim_low s st.reached w r e.slot e.page e.victim x.at);
        victim_unpinned = subst (λ (m : PageMap). map.pins_of (displaced m e.page) e.victim ≡ 0) (sym st.marks)
            (marked.bring_victim_pins s st.reached w r e.slot e.page e.victim x.at);
        flight = omega (arith, page_low s st, st.pages);
        victim_flight = omega (arith, victim_low s st, st.pages);
        cached = ap (λ (l : FourLists). is_cached l e.page) st.lists
            ∙ marked.bring_cached s st.reached w r e.slot e.page e.victim x.at;
        gone = ap (λ (l : FourLists). is_cached l e.victim) st.lists
            ∙ marked.bring_away s st.reached w r e.slot e.page e.victim x.at;
        below = omega (
          arith,
          marked.bring_low s st.reached w r e.slot e.page e.victim x.at,
          ap (λ (l : FourLists). l.pages) st.lists,
        );
      }

  pub brought_moves : (g : Parts)
      → ((x : Seat) (a : Acceptance) → Runs f w x a → g ≡ brought f w x a e.page e.victim)
      → Moves f (move.WriteDone w false) (Failed WriteFault) g
  brought_moves g parts = moves_by f g (move.WriteDone w false) (Failed WriteFault) leads
    where
      leads : (s : State) → StandsFor f s → Leads f s (move.WriteDone w false) (Failed WriteFault) g
      leads s st =
          let x = there s st in
          let r = x.running in
          let y = x.seat in
          let v = e.victim in
          let t = with_stage (brought_back s e.page v) w r (leaving []) in
          let bundles = staged_bundles f.bundles s t w r (leaving []) st.bundles x.at.seat
          (sym (ap given_back x.at.stage)) refl refl in
          let crew = staged_crew f s w y r Leaving (leaving []) st x.is_in x.at.seat (sym
          (ap given_back x.at.stage)) tt in
          let same : SameFrame s t = record {
            settings = refl;
            plans = refl;
            taken = refl;
            flush = refl;
            flushes_left = refl;
          } in
          let found = marked.bring_frame s st.reached w r e.slot e.page v x.at in
          let frame : frame_in (marks s) e.page ≡ frame_at s e.page = ap (λ (o : Option ℕ). unwrap_or o 0) found in
          let now : map.with_frame (displaced f.marks e.page) v (Some (frame_in f.marks e.page)) ≡ marks t =
          ap (λ (m : PageMap). map.with_frame (displaced m e.page) v (Some (frame_in m e.page))) st.marks
          ∙ ap (λ (n : ℕ). map.with_frame (displaced (marks s) e.page) v (Some n)) frame
          ∙ sym (marked.bring_marks s st.reached w r e.slot e.page v x.at) in
          let flies = flies_both f.in_flight e.page v false (is_in_flight s) (is_in_flight t) st.in_flight
          (flights.bring_flight s st.reached w r e.slot e.page v x.at) in
          let long : length (slice_set (slice_set f.in_flight e.page false) v false) ≡ length t.notes =
          omega (
            arith,
            set_length (slice_set f.in_flight e.page false) v false,
            set_length f.in_flight e.page false,
            st.pages,
            brought_long s e.page v,
          ) in
          let left = left_of r.accepted y 32 in
          let budget : f.budget - left + (y.holds + 1) ≡ bound t =
          omega (
            arith,
            st.budget,
            x.fits.actions,
            x.fits.holds,
            bound_left s st,
            sum_by-term left_to s.seats w (Some r) x.at.seat,
            numbers.bring_bound s st.reached w r e.slot e.page v x.at,
          ) in
          record {
            after = record { reply = Failed WriteFault; state = t };
            is = outcome_is s st false;
            replies = refl;
            plans = ap (λ (z : Parts). z.plans) (parts y r.accepted (runs f s w y r st x.is_in x.fits));
            stands = λ reached. subst (λ (z : Parts). StandsFor z t)
                (sym (parts y r.accepted (runs f s w y r st x.is_in x.fits)))
                (stands_with f s t (slice_set f.seats w (Some (record y { phase = Leaving })))
                (bring_back_in f.lists e.page v)
                (map.with_frame (displaced f.marks e.page) v (Some (frame_in f.marks e.page))) f.bundles
                (slice_set (slice_set f.in_flight e.page false) v false) (f.budget - left + (y.holds + 1))
                st reached same
                crew (ap (λ (l : FourLists). bring_back_in l e.page v) st.lists) now bundles long flies
                (numbers.bring_peaks s st.reached w r e.slot e.page v x.at) budget);
          }

-- ---- reading

module _ (f : Parts) (w : ℕ) (e : Read) (reads : ◌≡◌ {A = Result Read Cause} (reading_of (phase_of f w)) (Ok e)) where
  pub here : (s : State) → StandsFor f s → Errand f s w (reading e.slot e.page)
  here s st = reader f s w e st reads

  read_low : (s : State) → StandsFor f s → e.page < length s.notes
  read_low s st =
      let x = here s st in
      omega (
        arith,
        (steps.reading_finds s st.reached w x.running e.slot e.page x.at).low,
        notes_length s st.reached,
      )

  read_outcome : (s : State) (st : StandsFor f s) (came : Came)
      → outcome_of s (move.ReadDone w came) ≡ read_came s w (here s st).running e.slot e.page came
  read_outcome s st came =
      let x = here s st in
      ap (read_by s w came) x.at.seat ∙ ap (read_in s w came x.running) x.at.stage

  read_left : (s : State) (st : StandsFor f s)
      → 3 * ((here s st).running.accepted.steps - length (here s st).running.done) + 31 ≤ left_to (Some (here s
      st).running)
  read_left s st = let x = here s st in omega (arith, left_at x.running (reading e.slot e.page) x.at.stage)

  pub can_forget : IsKept f → CanForget f w e.page
  can_forget k =
      let s = k.state in
      let st = k.stands in
      let x = here s st in
      let alone = loading_alone f s w (reading e.slot e.page) e.page st x refl in
      record {
        lose = can_lose f s w (reading e.slot e.page) 31 st x (omega arith) (read_left s st);
        pin = alone.0;
        unlatched = alone.1;
        flight = omega (arith, read_low s st, st.pages);
      }

  -- Whatever came, where it leads to a page that isn't read.
  pub forgotten_moves : (g : Parts) (came : Came) (failure : Failure)
      → ((s : State) (st : StandsFor f s)
      → read_came s w (here s st).running e.slot e.page came ≡ unread s w (here s st).running e.page failure)
      → ((x : Seat) (a : Acceptance) → Runs f w x a → g ≡ forgotten f w x a e.page)
      → Moves f (move.ReadDone w came) (Failed failure) g
  forgotten_moves g came failure fails parts = moves_by f g (move.ReadDone w came) (Failed failure) leads
    where
      leads : (s : State) → StandsFor f s → Leads f s (move.ReadDone w came) (Failed failure) g
      leads s st =
          let x = here s st in
          let r = x.running in
          let y = x.seat in
          let t = with_stage (with_frame (with_lists s (forget s.lists e.page)) e.page None) w r (leaving []) in
          let bundles = staged_bundles f.bundles s t w r (leaving []) st.bundles x.at.seat
          (sym (ap given_back x.at.stage)) refl refl in
          let crew = staged_crew f s w y r Leaving (leaving []) st x.is_in x.at.seat (sym
          (ap given_back x.at.stage)) tt in
          let same : SameFrame s t = record {
            settings = refl;
            plans = refl;
            taken = refl;
            flush = refl;
            flushes_left = refl;
          } in
          let now : displaced f.marks e.page ≡ marks t =
          ap (λ (m : PageMap). displaced m e.page) st.marks
          ∙ sym (marked.forget_marks s st.reached w r e.slot e.page x.at) in
          let flies = flies_set f.in_flight e.page false (is_in_flight s) (is_in_flight t) st.in_flight
          (flights.forget_flight s st.reached w r e.slot e.page x.at) in
          let long : length (slice_set f.in_flight e.page false) ≡ length t.notes =
          omega (
            arith,
            set_length f.in_flight e.page false,
            st.pages,
            notes_stay (with_lists s (forget s.lists e.page)) e.page (record (note_of s e.page) { frame = None }),
          ) in
          let left = left_of r.accepted y 31 in
          let budget : f.budget - left + (y.holds + 1) ≡ bound t =
          omega (
            arith,
            st.budget,
            x.fits.actions,
            x.fits.holds,
            read_left s st,
            sum_by-term left_to s.seats w (Some r) x.at.seat,
            numbers.forget_bound s st.reached w r e.slot e.page x.at,
          ) in
          record {
            after = record { reply = Failed failure; state = t };
            is = read_outcome s st came ∙ fails s st;
            replies = refl;
            plans = ap (λ (z : Parts). z.plans) (parts y r.accepted (runs f s w y r st x.is_in x.fits));
            stands = λ reached. subst (λ (z : Parts). StandsFor z t)
                (sym (parts y r.accepted (runs f s w y r st x.is_in x.fits)))
                (stands_with f s t (slice_set f.seats w (Some (record y { phase = Leaving }))) (forget f.lists e.page)
                (displaced f.marks e.page) f.bundles (slice_set f.in_flight e.page false) (f.budget - left + (y.holds + 1))
                st reached
                same crew (ap (λ (l : FourLists). forget l e.page) st.lists) now bundles long flies
                (numbers.forget_peaks s st.reached w r e.slot e.page x.at) budget);
          }

  -- An image is misread by the marks just where it is by the state.
  misread_told : (s : State) (st : StandsFor f s) (named stamp : ℕ)
      → is_misread f.marks e.page named stamp ≡ is_misread_by s e.page named stamp
  misread_told s st named stamp =
      ap (λ (o : Option ℕ). not (named == e.page) || is_other o stamp)
      (ap (λ (m : PageMap). map.stamp_of m e.page) st.marks
      ∙ ap (λ (y : PageMarks). y.stamp) (marks_is s e.page (read_low s st)))

  image_is : (s : State) (st : StandsFor f s) (named stamp : ℕ) (b : Bool) → is_misread f.marks e.page named stamp ≡ b
      → read_came s w (here s st).running e.slot e.page (Image named stamp)
      ≡ read_where s w (here s st).running e.slot e.page stamp b
  image_is s st named stamp b is =
      ap (read_where s w (here s st).running e.slot e.page stamp) (sym (misread_told s st named stamp) ∙ is)

  pub fault_moves : (g : Parts) → ((x : Seat) (a : Acceptance) → Runs f w x a → g ≡ forgotten f w x a e.page)
      → Moves f (move.ReadDone w Fault) (Failed ReadFault) g
  fault_moves g parts = forgotten_moves g Fault ReadFault (λ s st. refl) parts

  pub misread_moves : (g : Parts) (named stamp : ℕ) → is_misread f.marks e.page named stamp ≡ true
      → ((x : Seat) (a : Acceptance) → Runs f w x a → g ≡ forgotten f w x a e.page)
      → Moves f (move.ReadDone w (Image named stamp)) (Failed Misread) g
  misread_moves g named stamp is parts =
      forgotten_moves g (Image named stamp) Misread (λ s st. image_is s st named stamp true is) parts

  -- The seat has what the plan asks.
  ask_told : (s : State) (st : StandsFor f s) → ask_in f w ≡ asked_by (here s st).running
  ask_told s st =
      let x = here s st in
      ap (λ o. unwrap_or (option_map (λ (y : Seat). y.ask) (option_and_then (λ z. z) o)) ask.End) x.is_in ∙ x.fits.ask

  pub can_load : IsKept f → CanLoad f w e.slot e.page
  can_load k =
      let s = k.state in
      let st = k.stands in
      let x = here s st in
      let r = x.running in
      record {
        seat = x.seat;
        is_in = x.is_in;
        can = subst (λ k. CanAct (at_phase f w x.seat Acting) w (fixes k e.slot e.page)) (sym (ask_told s st))
            (can_act_then f s w r x.seat (fixes (asked_by r) e.slot e.page) st x.is_in x.at.seat
            (load_due f s w r st e.slot e.page x.at));
        record_free = has_record f.bundles s st.reached w r (ask_in f w) e.slot e.page st.bundles x.at.seat
            (steps.reading_finds s st.reached w r e.slot e.page x.at).few
            (bundles_few s st.reached w r x.at.seat
            (fix_fits s.settings.layout r e.slot e.page (steps.seat_is s st.reached w r x.at.seat)
            (ap given_back x.at.stage) (steps.reading_asks s st.reached w r e.slot e.page x.at)));
        flight = omega (arith, read_low s st, st.pages);
        low = omega (arith, read_low s st, count_told s, ap (λ (m : PageMap). map.page_count m) st.marks);
        budget = omega (arith, st.budget, read_left s st, sum_by-term left_to s.seats w (Some r) x.at.seat);
      }

  pub loaded_moves : (g : Parts) (named stamp : ℕ) → is_misread f.marks e.page named stamp ≡ false
      → Loaded f g w e.slot e.page stamp → Moves f (move.ReadDone w (Image named stamp)) (LoadedAs stamp) g
  loaded_moves g named stamp is load = moves_by f g (move.ReadDone w (Image named stamp)) (LoadedAs stamp) leads
    where
      leads : (s : State) → StandsFor f s → Leads f s (move.ReadDone w (Image named stamp)) (LoadedAs stamp) g
      leads s st =
          let x = here s st in
          let r = x.running in
          let d = fixes (asked_by r) e.slot e.page in
          let t = did (with_mark s e.page stamp) w r d in
          let told = ask_told s st in
          let acts = subst (λ k. Acted f g w (fixes k e.slot e.page)) told load.acted in
          let bundles = subst (λ k. BundlesFit (stacks_after w (fixes k e.slot e.page) f.bundles) t) (sym told)
          (asked_bundles f.bundles s t st.reached w r d st.bundles x.at.seat (ap given_back x.at.stage)
          (steps.reading_asks s st.reached w r e.slot e.page x.at) refl refl) in
          let crew = acted_crew f g s w r d st acts x.at.seat (reading_on f s w r st e.slot e.page x.at)
          (load_follow f s w r st e.slot e.page x.at) in
          let same : SameFrame s t = record {
            settings = refl;
            plans = refl;
            taken = refl;
            flush = refl;
            flushes_left = refl;
          } in
          let now : map.with_stamp f.marks e.page (Some stamp) ≡ marks t =
          ap (λ (m : PageMap). map.with_stamp m e.page (Some stamp)) st.marks
          ∙ sym (marked.load_marks s st.reached w r e.slot e.page stamp x.at) in
          let flies = flies_set f.in_flight e.page false (is_in_flight s) (is_in_flight t) st.in_flight
          (flights.load_flight s st.reached w r e.slot e.page stamp x.at) in
          let long : length (slice_set f.in_flight e.page false) ≡ length t.notes =
          omega (
            arith,
            set_length f.in_flight e.page false,
            st.pages,
            notes_stay s e.page (record (note_of s e.page) { mark = Some stamp }),
          ) in
          let budget : f.budget - 1 ≡ bound t =
          omega (arith, st.budget, numbers.load_bound s st.reached w r e.slot e.page stamp x.at) in
          record {
            after = record { reply = LoadedAs stamp; state = t };
            is = read_outcome s st (Image named stamp) ∙ image_is s st named stamp false is;
            replies = refl;
            plans = ap (λ (z : Parts). z.plans) load.rest;
            stands = λ reached. subst (λ (z : Parts). StandsFor z t) (sym load.rest)
                (stands_with f s t g.seats f.lists (map.with_stamp f.marks e.page (Some stamp))
                (stacks_after w (fixes (ask_in f w) e.slot e.page) f.bundles) (slice_set f.in_flight e.page false)
                (f.budget - 1) st reached same crew st.lists now bundles long flies
                (numbers.load_peaks s st.reached w r e.slot e.page stamp x.at) budget);
          }
