-- A fix: what the core's calls need, and that its parts stand for the next state.
use Rattle.std.proofs.Common.{◌≡◌, ◌∙◌, ℕ, ◌+◌, ◌-◌, ◌<◌, ◌≤◌, Bool, true, false, cond, Option, Some, None, length}
use Rattle.std.proofs.Common.{refl, sym, ap, subst, arith}
use Rattle.std.specs.Prelude.{slice_set, slice_index_or, option_map, unwrap_or, IsSome, nat_lt, ◌||◌}
use Rattle.std.proofs.lemmas.Option.{slice_get-get_or}
use Rattle.pp_plan.specs.declared.action.Ask.TheVariants as ask
use Rattle.pp_plan.specs.declared.action.Ask.{Ask}
use Rattle.pp_cursor.specs.Asked.{region_has}
use Rattle.pp_arc.specs.declared.answer.Answer.{Answer}
use Rattle.pp_arc.specs.declared.answer.Answer.TheVariants as answer
use Rattle.pp_arc.specs.FourLists.{FourLists}
use Rattle.pp_arc.specs.Figure.{request}
use Rattle.pp_arc.proofs.RequestLemmas.{request-agrees, unchanged-request}
use Rattle.pp_frames.specs.Marks as map
use Rattle.pp_frames.specs.Marks.{PageMap, PageMarks}
use Rattle.pp_model.specs.declared.moves.Move.TheVariants as move
use Rattle.pp_model.specs.declared.reply.Reply.{Reply}
use Rattle.pp_model.specs.declared.reply.Reply.TheVariants.{Hit, MustRead, MustWrite, NotNow, OffPlan}
use Rattle.pp_model.specs.declared.refusals.Delay.TheVariants.{InFlight, FlushHolds}
use Rattle.pp_model.specs.declared.refusals.Cause.TheVariants.{NotAsked}
use Rattle.pp_model.specs.Pool.{writing, reading, State, note_of, is_dirty, frame_at, mark_at, Running}
use Rattle.pp_model.specs.Holders.{is_in_flight, is_flushed, is_busy, given_back}
use Rattle.pp_model.specs.Budget.{bound}
use Rattle.pp_model.specs.Marks.{marks}
use Rattle.pp_model.specs.Outcome.{did, with_lists, with_stage, with_frame}
use Rattle.pp_model.specs.Fixing.{fix_slot, with_frame_moved, evict_where, free_frame as free_frame_of, fix_by, fixes}
use Rattle.pp_model.specs.Fixing.{fix_where, fix_asked}
use Rattle.pp_model.specs.Moves.{asked_by, outcome_of}
use Rattle.pp_model.proofs.Changes.{IsAnswered, slot_asked, IsAsked}
use Rattle.pp_model.proofs.HoldingSteps as steps
use Rattle.pp_model.proofs.BoundSteps as numbers
use Rattle.pp_model.proofs.FlightSteps as flights
use Rattle.pp_model.proofs.MarkSteps as marked
use Rattle.pp_model.proofs.MarkChanges.{notes_stay, count_told, pins_told, frame_told, all_pins_frame}
use Rattle.pp_model.proofs.MarkParts.{marks_is}
use Rattle.pp_model.proofs.Framed.{notes_length, pages_are, cached_low}
use Rattle.pp_model.proofs.PinRoom.{pins_room}
use Rattle.pp_model.proofs.Stuck.{fix_fits}
use Rattle.pp_core.specs.declared.seat.Phase.TheVariants.{Reading, Writing}
use Rattle.pp_core.specs.declared.seat.Seat.{Seat}
use Rattle.pp_core.specs.declared.table.Flush.{Flush}
use Rattle.pp_core.specs.Busy.{is_that}
use Rattle.pp_core.specs.Parts.{Parts}
use Rattle.pp_core.specs.StandsFor.{StandsFor, IsKept, Moves, Asks, in_flight_as}
use Rattle.pp_core.specs.Effects.{IsIn, Spent, pinned, is_flying, placed, is_busy as is_busy_in, Acted, CanAct, stacks_after}
use Rattle.pp_core.specs.Gathered.{BundlesFit}
use Rattle.pp_core.specs.Effects.{frame_at as frame_in, mark_at as mark_in}
use Rattle.pp_core.specs.Fixing.{wanted, CanHit, CanFill, CanTakeOver, CanEvict, CanSend, free_frame, filled, taken_over}
use Rattle.pp_core.specs.Fixing.{evicted, sent}
use Rattle.pp_core.proofs.Crew.{set_length}
use Rattle.pp_core.proofs.Ties.{Leads, moves_by, refuses, acted_outcome, SameFrame, stands_with, Flies}
use Rattle.pp_core.proofs.Ties.{flies_set, flies_both}
use Rattle.pp_core.proofs.ActTies.{kept, can_act, acted_crew, acting_on, fix_due, fix_follow}
use Rattle.pp_core.proofs.SentTies.{staged_crew, can_act_listed, acted_listed}
use Rattle.pp_core.proofs.Gathered.{asked_bundles, staged_bundles, bundles_few, has_record}
use Rattle.pp_core.proofs.UsingMoves.{asked_bound, mark_told}

-- ---- pages in flight and pages that are busy

pub flying_told : (f : Parts) (s : State) (page : ℕ) → StandsFor f s → page < length s.notes
    → is_flying f page ≡ is_in_flight s page
flying_told f s page st low =
    let lt : page < length f.in_flight = omega (arith, st.pages) in
    let here = slice_get-get_or f.in_flight page false lt in
    ap (λ (o : Option Bool). unwrap_or o false) here
    ∙ st.in_flight page (slice_index_or f.in_flight page false) here

same_flush : (o : Option Flush) (page : ℕ)
    → is_that (option_map (λ (x : Flush). x.page) o) page ≡ is_flushed (option_map in_flight_as o) page
same_flush None page = refl
same_flush (Some x) page = refl

busy_told : (f : Parts) (s : State) (page : ℕ) → StandsFor f s → page < length s.notes
    → is_busy_in f page ≡ is_busy s page
busy_told f s page st low =
    let pins : map.pins_of f.marks page ≡ map.pins_of (marks s) page =
    ap (λ (m : PageMap). map.pins_of m page) st.marks in
    let taken = ap (nat_lt 0) (pins ∙ pins_told s page low) in
    let flushed = same_flush f.flush page ∙ ap (λ o. is_flushed o page) st.flush in
    λ i. taken i || flushed i

pub request_told : (f : Parts) (s : State) (page : ℕ) → StandsFor f s
    → request f.lists page (is_busy_in f) ≡ request s.lists page (is_busy s)
request_told f s page st =
    ap (λ (l : FourLists). request l page (is_busy_in f)) st.lists
    ∙ request-agrees s.lists page (is_busy_in f) (is_busy s)
    (λ y cached. busy_told f s y st (cached_low s st.reached y cached))

-- The page stands in the least free frame, and is pinned.
abbrev placed_in : PageMap → ℕ → PageMap
placed_in m page = placed m page (free_frame m)

-- ---- what is asked

-- A worker's plan asks that the page go into the slot.
pub record AskedFix (s : State) (w slot page : ℕ) : Type 0 where
  pub running : Running
  pub asked : IsAsked s w running (fixes (asked_by running) slot page)

-- The plan asks a page of the region into the slot: a fix, or a gather.
abbrev pub AsksIn : Ask → (slot region : ℕ) → Type 0
AsksIn k slot region = wanted k ≡ Some (slot, region)

-- No page goes into a slot where the plan asks neither.
no_slot : (r : Running) (page : ℕ) (x : Ask) → wanted x ≡ None → fix_slot r page x ≡ None
no_slot r page (ask.Fix slot region) e = cc
no_slot r page (ask.Unfix slot) e = refl
no_slot r page (ask.Latch slot m) e = refl
no_slot r page (ask.Unlatch slot) e = refl
no_slot r page (ask.Gather slot region) e = cc
no_slot r page (ask.Scatter slot) e = refl
no_slot r page (ask.Choose n) e = refl
no_slot r page ask.End e = refl

abbrev slot_with : (r : Running) (page : ℕ) (p : ℕ × ℕ) → Option ℕ
slot_with r page p = cond (region_has r.accepted.plan.layout p.1 page) (Some p.0) None

same_pair : (p q : ℕ × ℕ) → Some p ≡ Some q → p ≡ q
same_pair p q e = cc

slot_in : (r : Running) (page : ℕ) (x : Ask) (slot region : ℕ) → AsksIn x slot region
    → fix_slot r page x ≡ cond (region_has r.accepted.plan.layout region page) (Some slot) None
slot_in r page (ask.Fix a b) slot region e = ap (slot_with r page) (same_pair (a, b) (slot, region) e)
slot_in r page (ask.Unfix a) slot region e = cc
slot_in r page (ask.Latch a m) slot region e = cc
slot_in r page (ask.Unlatch a) slot region e = cc
slot_in r page (ask.Gather a b) slot region e = ap (slot_with r page) (same_pair (a, b) (slot, region) e)
slot_in r page (ask.Scatter a) slot region e = cc
slot_in r page (ask.Choose n) slot region e = cc
slot_in r page ask.End slot region e = cc

pub fix_unasked : (f : Parts) (w page : ℕ) (x : Ask) → Asks f w x → wanted x ≡ None
    → Moves f (move.Fix w page) (OffPlan NotAsked) f
fix_unasked f w page x asks none = refuses f (move.Fix w page) (OffPlan NotAsked) (λ s st.
    let at = asks s st in
    acted_outcome s w at.0 (λ q. fix_asked s w q page (fix_slot q page (asked_by q))) at.1
    ∙ ap (λ y. fix_asked s w at.0 page (fix_slot at.0 page y)) at.2
    ∙ ap (fix_asked s w at.0 page) (no_slot at.0 page x none))

module _ (f : Parts) (w page slot region : ℕ) (wants : Ask) (into : AsksIn wants slot region) (asks : Asks f w wants) where
  in_layout : (s : State) (st : StandsFor f s) (b : Bool) → region_has f.layout region page ≡ b
      → region_has (asks s st).0.accepted.plan.layout region page ≡ b
  in_layout s st b e =
      let r = (asks s st).0 in
      let layout = (steps.seat_is s st.reached w r (asks s st).1.seat).layout in
      ap (λ g. region_has g region page) (sym (st.layout ∙ layout)) ∙ e

  pub slot_is : (s : State) (st : StandsFor f s) (b : Bool) → region_has f.layout region page ≡ b
      → fix_slot (asks s st).0 page (asked_by (asks s st).0) ≡ cond b (Some slot) None
  slot_is s st b e =
      ap (fix_slot (asks s st).0 page) (asks s st).2
      ∙ slot_in (asks s st).0 page wants slot region into
      ∙ ap (λ (k : Bool). cond k (Some slot) None) (in_layout s st b e)

  outcome_is : (s : State) (st : StandsFor f s) (b : Bool) → region_has f.layout region page ≡ b
      → outcome_of s (move.Fix w page) ≡ fix_asked s w (asks s st).0 page (cond b (Some slot) None)
  outcome_is s st b e =
      acted_outcome s w (asks s st).0 (λ q. fix_asked s w q page (fix_slot q page (asked_by q))) (asks s st).1
      ∙ ap (fix_asked s w (asks s st).0 page) (slot_is s st b e)

  pub fix_elsewhere : region_has f.layout region page ≡ false → Moves f (move.Fix w page) (OffPlan NotAsked) f
  fix_elsewhere e = refuses f (move.Fix w page) (OffPlan NotAsked) (λ s st. outcome_is s st false e)

  module _ (has : region_has f.layout region page ≡ true) where
    abbrev pub fix_of : (s : State) → StandsFor f s → AskedFix s w slot page
    fix_of s st =
        let a = asks s st in
        let r = a.0 in
        record {
          running = r;
          asked = record {
            at = record { seat = a.1.seat; stage = a.1.stage };
            names = slot_asked r page slot (asked_by r) (slot_is s st true has);
          };
        }

    pub low_in : (s : State) → StandsFor f s → page < length s.notes
    low_in s st =
        let h = fix_of s st in
        omega (
          arith,
          (steps.fix_finds s st.reached w h.running slot page h.asked).low,
          notes_length s st.reached,
        )

    pub request_low : IsKept f → page < f.lists.pages
    request_low k =
        let s = k.state in
        let st = k.stands in
        omega (arith, low_in s st, pages_are s st.reached, ap (λ (l : FourLists). l.pages) st.lists)

    grounded_is : (s : State) (st : StandsFor f s) (b : Bool) → is_flying f page ≡ b → is_in_flight s page ≡ b
    grounded_is s st b e = sym (flying_told f s page st (low_in s st)) ∙ e

    pub fix_flying : is_flying f page ≡ true → Moves f (move.Fix w page) (NotNow InFlight) f
    fix_flying e = refuses f (move.Fix w page) (NotNow InFlight) (λ s st.
        outcome_is s st true has
        ∙ ap (fix_where s w (asks s st).0 slot page) (grounded_is s st true e))

    -- ARC was asked.
    module _ (free : is_flying f page ≡ false) (a : Answer) (is : a ≡ (request f.lists page (is_busy_in f)).0) where
      abbrev pub after : FourLists
      after = (request f.lists page (is_busy_in f)).1

      told : (s : State) (st : StandsFor f s) → request f.lists page (is_busy_in f) ≡ request s.lists page (is_busy s)
      told s st = request_told f s page st

      abbrev answered : (s : State) → StandsFor f s → IsAnswered s page after a
      answered s st = record {
        grounded = grounded_is s st false free;
        after = ap (λ p. p.1) (told s st);
        is = sym (ap (λ p. p.0) (told s st)) ∙ sym is;
      }

      -- The outcome, by what ARC answers.
      pub by_answer : (s : State) (st : StandsFor f s)
          → outcome_of s (move.Fix w page) ≡ fix_by s after w (asks s st).0 slot page a
      by_answer s st =
          outcome_is s st true has
          ∙ ap (fix_where s w (asks s st).0 slot page) (grounded_is s st false free)
          ∙ ap (λ p. fix_by s p.1 w (asks s st).0 slot page p.0) (sym (told s st))
          ∙ ap (fix_by s after w (asks s st).0 slot page) (sym is)

      frames_are : (s : State) → StandsFor f s → f.marks.frames ≡ s.settings.layout.frames
      frames_are s st = ap (λ (m : PageMap). m.frames) st.marks

      pins_fit : (s : State) (st : StandsFor f s) → map.all_pins f.marks < f.marks.frames
      pins_fit s st =
          let h = fix_of s st in
          omega (
            arith,
            pins_room s st.reached w h.running slot page h.asked,
            ap (λ (m : PageMap). map.all_pins m) st.marks,
            frames_are s st,
          )

      has_seat : (s : State) → StandsFor f s → (x : Seat) × IsIn f w x
      has_seat s st =
          let there = kept f s w (asks s st).0 st (asks s st).1.seat in
          (there.seat, there.is_in)

      enough : (s : State) → StandsFor f s → 3 ≤ f.budget
      enough s st =
          let h = fix_of s st in
          omega (arith, st.budget, asked_bound s w h.running (fixes (asked_by h.running) slot page) st.reached h.asked)

      page_flies : (s : State) → StandsFor f s → page < length f.in_flight
      page_flies s st = omega (arith, low_in s st, st.pages)

      -- ---- hit

      pub can_hit : IsKept f → a ≡ answer.Hit → CanHit (record f { lists = after }) w wants slot page
      can_hit k hit =
          let s = k.state in
          let st = k.stands in
          let h = fix_of s st in
          let is_hit = subst (IsAnswered s page after) hit (answered s st) in
          let r = h.running in
          let d = fixes (asked_by r) slot page in
          let seat = steps.seat_is s st.reached w r h.asked.at.seat in
          let more = fix_fits s.settings.layout r slot page seat (ap given_back h.asked.at.stage)
          (steps.asks_it s st.reached w r d h.asked) in
          record {
            can = subst (λ z. CanAct (record f { lists = after }) w (fixes z slot page)) (asks s st).2
                (can_act_listed f after w d
                (can_act f s w r d st h.asked.at.seat h.asked.at.stage (fix_due f s w r st slot page h.asked)));
            record_free = has_record f.bundles s st.reached w r wants slot page st.bundles h.asked.at.seat
                (steps.fix_finds s st.reached w r slot page h.asked).few
                (bundles_few s st.reached w r h.asked.at.seat more);
            placed = subst (λ (m : PageMap). IsSome (map.frame_of m page)) (sym st.marks)
                (marked.hit_placed s st.reached w h.running slot page after h.asked is_hit);
            room = pins_fit s st;
            budget = enough s st;
          }

      pub hit_moves : (g : Parts) (reply : Reply) → a ≡ answer.Hit
          → Spent (record f { lists = after }) g w (fixes wants slot page) (pinned f.marks page)
          → reply ≡ Hit (frame_in f.marks page) (mark_in f.marks page) → Moves f (move.Fix w page) reply g
      hit_moves g reply hit spent tells = moves_by f g (move.Fix w page) reply leads
        where
          leads : (s : State) → StandsFor f s → Leads f s (move.Fix w page) reply g
          leads s st =
              let h = fix_of s st in
              let r = h.running in
              let d = fixes (asked_by r) slot page in
              let t = did (with_lists s after) w r d in
              let low = low_in s st in
              let acts = subst (λ z. Acted (record f { lists = after }) g w (fixes z slot page)) (sym (asks s st).2)
              spent.acted in
              let crew = acted_crew f g s w r d st (acted_listed f g after w d acts) h.asked.at.seat
              (acting_on f s w r st d h.asked) (fix_follow f s w r st slot page h.asked) in
              let gathers_it = subst (λ z. BundlesFit (stacks_after w (fixes z slot page) f.bundles) t) (asks s st).2
              (asked_bundles f.bundles s t st.reached w r d st.bundles h.asked.at.seat (ap given_back h.asked.at.stage)
              (steps.asks_it s st.reached w r d h.asked) refl refl) in
              let same : SameFrame s t = record {
                settings = refl;
                plans = refl;
                taken = refl;
                flush = refl;
                flushes_left = refl;
              } in
              let now : pinned f.marks page ≡ marks t =
              ap (λ (m : PageMap). pinned m page) st.marks
              ∙ sym (marked.hit_marks s st.reached w r slot page after h.asked) in
              let flies : Flies f.in_flight (is_in_flight t) =
              λ q b e. st.in_flight q b e ∙ sym (flights.hit_flight s st.reached w r slot page after h.asked q) in
              let budget : f.budget - 3 ≡ bound t =
              omega (arith, st.budget, numbers.hit_bound s st.reached w r slot page after h.asked) in
              let frame = ap (λ (m : PageMap). frame_in m page) st.marks
              ∙ ap (λ (o : Option ℕ). unwrap_or o 0) (frame_told s page low) in
              let mark = ap (λ (m : PageMap). mark_in m page) st.marks ∙ mark_told s page low in
              record {
                after = record { reply = Hit (frame_at s page) (mark_at s page); state = t };
                is = by_answer s st ∙ ap (fix_by s after w r slot page) hit;
                replies = tells ∙ (λ i. Hit (frame i) (mark i));
                plans = ap (λ (z : Parts). z.plans) spent.rest;
                stands = λ reached. subst (λ (z : Parts). StandsFor z t) (sym spent.rest)
                    (stands_with f s t g.seats after (pinned f.marks page)
                    (stacks_after w (fixes wants slot page) f.bundles) f.in_flight (f.budget - 3) st reached same
                    crew refl now gathers_it st.pages flies (numbers.hit_peaks s st.reached w r slot page after h.asked) budget);
              }

      -- ---- fill

      free_told : (s : State) → StandsFor f s → free_frame f.marks ≡ free_frame_of s
      free_told s st = ap (λ (m : PageMap). free_frame m) st.marks

      pub can_fill : IsKept f → a ≡ answer.Free → CanFill (record f { lists = after }) w page
      can_fill k free_answer =
          let s = k.state in
          let st = k.stands in
          let h = fix_of s st in
          let fills = subst (IsAnswered s page after) free_answer (answered s st) in
          let there = marked.fill_free s st.reached w h.running slot page after h.asked fills in
          record {
            seat = has_seat s st;
            low = omega (
              arith,
              marked.fill_low s st.reached w h.running slot page after h.asked,
              ap (λ (m : PageMap). map.page_count m) st.marks,
            );
            flight = page_flies s st;
            unpinned = ap (λ (m : PageMap). map.pins_of m page) st.marks
                ∙ marked.fill_pins s st.reached w h.running slot page after h.asked fills;
            room = pins_fit s st;
            free = subst (λ (m : PageMap). IsSome (map.least_free m)) (sym st.marks)
                (subst (λ (o : Option ℕ). IsSome o) (sym there.is) refl);
            budget = omega (arith, enough s st);
          }

      pub fill_moves : (g : Parts) (reply : Reply) → a ≡ answer.Free
          → ((x : Seat) → IsIn f w x → g ≡ filled (record f { lists = after }) w x slot page)
          → reply ≡ MustRead (free_frame f.marks) → Moves f (move.Fix w page) reply g
      fill_moves g reply free_answer fills tells = moves_by f g (move.Fix w page) reply leads
        where
          leads : (s : State) → StandsFor f s → Leads f s (move.Fix w page) reply g
          leads s st =
              let h = fix_of s st in
              let r = h.running in
              let x = has_seat s st in
              let t = with_stage (with_frame (with_lists s after) page (Some (free_frame_of s))) w r
              (reading slot page) in
              let bundles = staged_bundles f.bundles s t w r (reading slot page) st.bundles h.asked.at.seat
              (sym (ap given_back h.asked.at.stage)) refl refl in
              let crew = staged_crew f s w x.0 r (Reading slot page) (reading slot page) st x.1 h.asked.at.seat
              (sym (ap given_back h.asked.at.stage)) (refl, refl) in
              let same : SameFrame s t = record {
                settings = refl;
                plans = refl;
                taken = refl;
                flush = refl;
                flushes_left = refl;
              } in
              let m : PageMap = (filled (record f { lists = after }) w x.0 slot page).marks in
              let now : m ≡ marks t =
              ap (λ (z : PageMap). (placed_in z page)) st.marks
              ∙ sym (marked.fill_marks s st.reached w r slot page after h.asked) in
              let flies = flies_set f.in_flight page true (is_in_flight s) (is_in_flight t) st.in_flight
              (flights.fill_flight s st.reached w r slot page after h.asked) in
              let long : length (slice_set f.in_flight page true) ≡ length t.notes =
              omega (
                arith,
                set_length f.in_flight page true,
                st.pages,
                notes_stay (with_lists s after) page (record (note_of s page) { frame = Some (free_frame_of s) }),
              ) in
              let budget : f.budget - 2 ≡ bound t =
              omega (arith, st.budget, numbers.fill_bound s st.reached w r slot page after h.asked) in
              record {
                after = record { reply = MustRead (free_frame_of s); state = t };
                is = by_answer s st ∙ ap (fix_by s after w r slot page) free_answer;
                replies = tells ∙ ap MustRead (free_told s st);
                plans = ap (λ (z : Parts). z.plans) (fills x.0 x.1);
                stands = λ reached. subst (λ (z : Parts). StandsFor z t) (sym (fills x.0 x.1))
                    (stands_with f s t (slice_set f.seats w (Some
                    (record x.0 { phase = Reading slot page }))) after m f.bundles (slice_set f.in_flight page true)
                    (f.budget - 2) st reached same crew refl
                    now bundles long flies (numbers.fill_peaks s st.reached w r slot page after h.asked) budget);
              }

      -- ---- evict

      module _ (v : ℕ) (evict : a ≡ answer.Evict v) where
        abbrev victim : (s : State) → StandsFor f s → IsAnswered s page after (answer.Evict v)
        victim s st = subst (IsAnswered s page after) evict (answered s st)

        dirty_told : (s : State) (st : StandsFor f s) → map.is_dirty f.marks v ≡ is_dirty s v
        dirty_told s st =
            let h = fix_of s st in
            let low : v < length s.notes =
            omega (
              arith,
              marked.victim_counted s st.reached w h.running slot page v after h.asked (victim s st),
              count_told s,
            ) in
            ap (λ (m : PageMap). map.is_dirty m v) st.marks ∙ ap (λ (y : PageMarks). y.dirty) (marks_is s v low)

        frame_of_victim : (s : State) (st : StandsFor f s) → frame_in f.marks v ≡ frame_at s v
        frame_of_victim s st =
            let h = fix_of s st in
            ap (λ (m : PageMap). frame_in m v) st.marks
            ∙ ap (λ (o : Option ℕ). unwrap_or o 0)
            (marked.evict_frame s st.reached w h.running slot page v after h.asked (victim s st))

        victim_flies : (s : State) (st : StandsFor f s) → v < length f.in_flight
        victim_flies s st =
            let h = fix_of s st in
            omega (
              arith,
              marked.victim_counted s st.reached w h.running slot page v after h.asked (victim s st),
              count_told s,
              st.pages,
            )

        takes_over : (s : State) (st : StandsFor f s) → CanTakeOver (marks s) page v
        takes_over s st =
            let h = fix_of s st in
            let r = h.running in
            let is_victim = victim s st in
            let found = marked.evict_frame s st.reached w r slot page v after h.asked is_victim in
            let same : frame_in (marks s) v ≡ frame_at s v = ap (λ (o : Option ℕ). unwrap_or o 0) found in
            record {
              victim_placed = found ∙ ap {B = Option ℕ} Some (sym same);
              victim_unpinned = marked.evict_victim_pins s st.reached w r slot page v after h.asked is_victim;
              frame = omega (
                arith,
                same,
                marked.evict_frame_low s st.reached w r slot page v after h.asked is_victim,
              );
              low = marked.cleared_low s st.reached w r slot page v after h.asked is_victim;
              unpinned = marked.cleared_pins s st.reached w r slot page v after h.asked is_victim;
              room = omega (
                arith,
                pins_room s st.reached w r slot page h.asked,
                all_pins_frame (marks s) v None,
              );
            }

        can_take_over : IsKept f → CanTakeOver f.marks page v
        can_take_over k =
            subst (λ (m : PageMap). CanTakeOver m page v) (sym k.stands.marks) (takes_over k.state k.stands)

        pub can_evict : IsKept f → CanEvict (record f { lists = after }) w page v
        can_evict k = record {
          seat = has_seat k.state k.stands;
          flight = page_flies k.state k.stands;
          takes = can_take_over k;
          budget = omega (arith, enough k.state k.stands);
        }

        pub can_send : IsKept f → CanSend (record f { lists = after }) w page v
        can_send k = record {
          seat = has_seat k.state k.stands;
          flight = page_flies k.state k.stands;
          victim_flight = victim_flies k.state k.stands;
          takes = can_take_over k;
          budget = omega (arith, enough k.state k.stands);
        }

        -- The marks once the page stands in the victim's frame.
        moved_marks : (s : State) (st : StandsFor f s)
            → taken_over f.marks page v
            ≡ (let u = map.with_frame (map.with_frame (marks s) v None) page (Some (frame_at s v)) in
            map.with_pins u page (map.pins_of u page + 1))
        moved_marks s st =
            let h = fix_of s st in
            let found = marked.evict_frame s st.reached w h.running slot page v after h.asked (victim s st) in
            ap (λ (m : PageMap). taken_over m page v) st.marks
            ∙ ap (λ (n : ℕ). placed (map.with_frame (marks s) v None) page n) (ap (λ
            (o : Option ℕ). unwrap_or o 0) found)

        long_notes : (s : State) → length (with_frame_moved (with_lists s after) page v).notes ≡ length s.notes
        long_notes s =
            notes_stay (with_frame (with_lists s after) v None) page _ ∙ notes_stay (with_lists s after) v _

        pub evict_moves : (g : Parts) (reply : Reply) → map.is_dirty f.marks v ≡ false
            → ((x : Seat) → IsIn f w x → g ≡ evicted (record f { lists = after }) w x slot page v)
            → reply ≡ MustRead (frame_in f.marks v) → Moves f (move.Fix w page) reply g
        evict_moves g reply clean evicts tells = moves_by f g (move.Fix w page) reply leads
          where
            leads : (s : State) → StandsFor f s → Leads f s (move.Fix w page) reply g
            leads s st =
                let h = fix_of s st in
                let r = h.running in
                let x = has_seat s st in
                let t = with_stage (with_frame_moved (with_lists s after) page v) w r (reading slot page) in
                let bundles = staged_bundles f.bundles s t w r (reading slot page) st.bundles h.asked.at.seat
                (sym (ap given_back h.asked.at.stage)) refl refl in
                let crew = staged_crew f s w x.0 r (Reading slot page) (reading slot page) st x.1 h.asked.at.seat
                (sym (ap given_back h.asked.at.stage)) (refl, refl) in
                let same : SameFrame s t = record {
                  settings = refl;
                  plans = refl;
                  taken = refl;
                  flush = refl;
                  flushes_left = refl;
                } in
                let now = moved_marks s st
                ∙ sym (marked.evict_read_marks s st.reached w r slot page v after h.asked (victim s st)) in
                let flies = flies_set f.in_flight page true (is_in_flight s) (is_in_flight t) st.in_flight
                (flights.evict_flight s st.reached w r slot page v after h.asked) in
                let long : length (slice_set f.in_flight page true) ≡ length t.notes =
                omega (arith, set_length f.in_flight page true, st.pages, long_notes s) in
                let budget : f.budget - 2 ≡ bound t =
                omega (arith, st.budget, numbers.evict_bound s st.reached w r slot page v after h.asked) in
                record {
                  after = record { reply = MustRead (frame_at s v); state = t };
                  is = by_answer s st ∙ ap (fix_by s after w r slot page) evict
                      ∙ ap (evict_where (with_lists s after) w r slot page v) (sym (dirty_told s st) ∙ clean);
                  replies = tells ∙ ap MustRead (frame_of_victim s st);
                  plans = ap (λ (z : Parts). z.plans) (evicts x.0 x.1);
                  stands = λ reached. subst (λ (z : Parts). StandsFor z t) (sym (evicts x.0 x.1))
                      (stands_with f s t (slice_set f.seats w (Some (record x.0 { phase = Reading slot page }))) after
                      (taken_over f.marks page v) f.bundles (slice_set f.in_flight page true) (f.budget - 2)
                      st reached same crew refl
                      now bundles long flies (numbers.evict_peaks s st.reached w r slot page v after h.asked) budget);
                }

        pub send_moves : (g : Parts) (reply : Reply) → map.is_dirty f.marks v ≡ true
            → ((x : Seat) → IsIn f w x → g ≡ sent (record f { lists = after }) w x slot page v)
            → reply ≡ MustWrite (frame_in f.marks v) v → Moves f (move.Fix w page) reply g
        send_moves g reply changed sends tells = moves_by f g (move.Fix w page) reply leads
          where
            leads : (s : State) → StandsFor f s → Leads f s (move.Fix w page) reply g
            leads s st =
                let h = fix_of s st in
                let r = h.running in
                let x = has_seat s st in
                let t = with_stage (with_frame_moved (with_lists s after) page v) w r (writing slot page v) in
                let bundles = staged_bundles f.bundles s t w r (writing slot page v) st.bundles h.asked.at.seat
                (sym (ap given_back h.asked.at.stage)) refl refl in
                let crew = staged_crew f s w x.0 r (Writing slot page v) (writing slot page v) st x.1 h.asked.at.seat
                (sym (ap given_back h.asked.at.stage)) (refl, refl, refl) in
                let same : SameFrame s t = record {
                  settings = refl;
                  plans = refl;
                  taken = refl;
                  flush = refl;
                  flushes_left = refl;
                } in
                let now = moved_marks s st
                ∙ sym (marked.evict_write_marks s st.reached w r slot page v after h.asked (victim s st)) in
                let flies = flies_both f.in_flight page v true (is_in_flight s) (is_in_flight t) st.in_flight
                (flights.send_flight s st.reached w r slot page v after h.asked) in
                let long : length (slice_set (slice_set f.in_flight page true) v true) ≡ length t.notes =
                omega (
                  arith,
                  set_length (slice_set f.in_flight page true) v true,
                  set_length f.in_flight page true,
                  st.pages,
                  long_notes s,
                ) in
                let budget : f.budget - 1 ≡ bound t =
                omega (arith, st.budget, numbers.send_bound s st.reached w r slot page v after h.asked) in
                let frame = frame_of_victim s st in
                record {
                  after = record { reply = MustWrite (frame_at s v) v; state = t };
                  is = by_answer s st ∙ ap (fix_by s after w r slot page) evict
                      ∙ ap (evict_where (with_lists s after) w r slot page v) (sym (dirty_told s st) ∙ changed);
                  replies = tells ∙ ap (λ (n : ℕ). MustWrite n v) frame;
                  plans = ap (λ (z : Parts). z.plans) (sends x.0 x.1);
                  stands = λ reached. subst (λ (z : Parts). StandsFor z t) (sym (sends x.0 x.1))
                      (stands_with f s t (slice_set f.seats w (Some (record x.0 { phase = Writing slot page v }))) after
                      (taken_over f.marks page v) f.bundles (slice_set (slice_set f.in_flight page true) v true)
                      (f.budget - 1) st reached same crew refl now bundles long flies
                      (numbers.send_peaks s st.reached w r slot page v after h.asked) budget);
                }

      -- ---- no page may leave

      pub held_up : a ≡ answer.AllBusy → Moves f (move.Fix w page) (NotNow FlushHolds) f
      held_up busy = refuses f (move.Fix w page) (NotNow FlushHolds) (λ s st.
          by_answer s st ∙ ap (fix_by s after w (asks s st).0 slot page) busy)

      -- Then ARC's lists are as they were.
      pub lists_stay : a ≡ answer.AllBusy → record f { lists = after } ≡ f
      lists_stay busy =
          ap (λ (l : FourLists). record f { lists = l })
          (unchanged-request f.lists page (is_busy_in f) (sym is ∙ busy))
