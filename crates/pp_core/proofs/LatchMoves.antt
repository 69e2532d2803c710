-- Unlatch and choose, where they are done: what the core's calls need, and that its parts stand for the next state.
use Rattle.std.proofs.Common.{◌≡◌, ◌∙◌, ℕ, ◌+◌, ◌<◌, ◌^◌, true, Some, refl, sym, ap}
use Rattle.std.proofs.Common.{subst, arith}
use Rattle.std.specs.Prelude.{slice_set, nat_lt, length}
use Rattle.std.proofs.lemmas.Bool.Decides.{nat_tests}
use Rattle.pp_plan.specs.declared.action.Action.TheVariants as action
use Rattle.pp_plan.specs.declared.action.Ask.TheVariants as ask
use Rattle.pp_cert.specs.declared.note.Held.{Held}
use Rattle.pp_cert.specs.declared.note.Held.TheVariants.{Free, S, X}
use Rattle.pp_frames.specs.Marks as map
use Rattle.pp_frames.specs.Marks.{PageMap}
use Rattle.pp_model.specs.declared.moves.Move.TheVariants as move
use Rattle.pp_model.specs.declared.reply.Reply.TheVariants.{Did, Unlatched}
use Rattle.pp_model.specs.Pool.{State, mark_at}
use Rattle.pp_model.specs.Holders.{page_in, held_in}
use Rattle.pp_model.specs.Marks.{marks}
use Rattle.pp_model.specs.Outcome.{having_done, did, released as released_by}
use Rattle.pp_model.specs.Moves.{asked_by}
use Rattle.pp_model.specs.Using.{unlatched as unlatched_by, unlatch_asked, choose_asked, choose_where}
use Rattle.pp_model.proofs.MarkSteps as marked
use Rattle.pp_model.proofs.MarkChanges.{count_told}
use Rattle.pp_model.proofs.BoundSteps as numbers
use Rattle.pp_model.proofs.FlightSteps as flights
use Rattle.pp_core.specs.Parts.{Parts}
use Rattle.pp_core.specs.StandsFor.{StandsFor, IsKept, Moves, Asks}
use Rattle.pp_core.specs.Effects.{IsPageIn, IsHeldIn, CanSpend, Spent, IsLatched, released, mark_at as mark_in}
use Rattle.pp_core.proofs.Crew.{set_length}
use Rattle.pp_core.proofs.Ties.{Leads, moves_by, acted_outcome, is_asked, SameRest}
use Rattle.pp_core.proofs.ActTies.{unlatch_due, choose_due, unlatch_follow, choose_follow}
use Rattle.pp_core.proofs.UsingMoves.{Asked, page_is, held_is, spend_needs, spent_stands, can_spend_marked}
use Rattle.pp_core.proofs.UsingMoves.{spent_marked}
use Rattle.pp_core.proofs.UsingMoves.{mark_told, mark_room}

-- ---- the end of a latch

-- The state differs from the one before in notes alone.
pub released_same : (s : State) (k : Held) (page : ℕ) → SameRest s (released_by s k page)
released_same s Free page = record {
  settings = refl;
  plans = refl;
  taken = refl;
  lists = refl;
  notes = refl;
  flush = refl;
  flushes_left = refl;
  in_flight = λ q. refl;
}
released_same s S page = record {
  settings = refl;
  plans = refl;
  taken = refl;
  lists = refl;
  notes = refl;
  flush = refl;
  flushes_left = refl;
  in_flight = λ q. refl;
}
released_same s X page = record {
  settings = refl;
  plans = refl;
  taken = refl;
  lists = refl;
  notes = set_length s.notes page _;
  flush = refl;
  flushes_left = refl;
  in_flight = λ q. refl;
}

pub released_seats : (s : State) (k : Held) (page : ℕ) → (released_by s k page).seats ≡ s.seats
released_seats s Free page = refl
released_seats s S page = refl
released_seats s X page = refl

module _ (f : Parts) (w slot page : ℕ) (asks : Asks f w (ask.Unlatch slot)) (told : IsPageIn f w slot page) where
  abbrev unlatch_of : (s : State) → StandsFor f s → Asked f w (action.Unlatch slot)
  unlatch_of s st =
      let a = asks s st in
      record {
        state = s;
        stands = st;
        running = a.0;
        asked = is_asked s w a.0 (ask.Unlatch slot) (action.Unlatch slot) a.1 a.2 refl;
      }

  unlatch_low : (s : State) (st : StandsFor f s) → page_in (asks s st).0 slot < length s.notes
  unlatch_low s st =
      let h = unlatch_of s st in
      omega (arith, count_told s, marked.unlatch_low s st.reached w h.running slot h.asked)

  latched_there : (s : State) (st : StandsFor f s) (k : Held) → held_in (asks s st).0 slot ≡ k
      → IsLatched k (marks s) (page_in (asks s st).0 slot)
  latched_there s st Free e = tt
  latched_there s st S e =
      marked.unlatch_shared s st.reached w (asks s st).0 slot (unlatch_of s st).asked e
  latched_there s st X e =
      let h = unlatch_of s st in
      let r = h.running in
      let p = page_in r slot in
      let room : mark_in (marks s) p + 1 < 2 ^ 64 =
      omega (arith, mark_told s p (unlatch_low s st), mark_room s st.reached p) in (
        marked.unlatch_exclusive s st.reached w r slot h.asked e,
        marked.unlatch_low s st.reached w r slot h.asked,
        room,
      )

  pub can_release : (held : Held) → IsKept f → IsHeldIn f w slot held → IsLatched held f.marks page
  can_release held k holds =
      let s = k.state in
      let st = k.stands in
      let h = unlatch_of s st in
      let at = page_is f s w slot page h.running st h.asked.at.seat told in
      let by = held_is f s w slot held h.running st h.asked.at.seat holds in
      subst (λ (z : PageMap). IsLatched held z page) (sym st.marks)
      (subst (λ (p : ℕ). IsLatched held (marks s) p) (sym at)
      (latched_there s st held (sym by)))

  pub can_unlatch : IsKept f → (n : PageMap) → CanSpend (record f { marks = n }) w (action.Unlatch slot)
  can_unlatch k n =
      let h = unlatch_of k.state k.stands in
      can_spend_marked f n w (action.Unlatch slot)
      (spend_needs f w (action.Unlatch slot) h (unlatch_due f h.state w h.running h.stands slot h.asked) refl)

  marks_after : (s : State) (st : StandsFor f s) (k : Held) → held_in (asks s st).0 slot ≡ k
      → released k (marks s) (page_in (asks s st).0 slot)
      ≡ marks (did (unlatched_by s (asks s st).0 slot) w (asks s st).0 (action.Unlatch slot))
  marks_after s st Free e =
      absurd (marked.unlatch_not_free s st.reached w (asks s st).0 slot (unlatch_of s st).asked e)
  marks_after s st S e =
      sym (marked.unlatch_shared_marks s st.reached w (asks s st).0 slot (unlatch_of s st).asked e)
  marks_after s st X e =
      let r = (asks s st).0 in
      let p = page_in r slot in
      let u = map.with_dirty (map.with_latches (marks s) p (map.without_latch (map.latches_of (marks s) p))) p true in
      ap (λ (n : ℕ). map.with_stamp u p (Some (n + 1))) (mark_told s p (unlatch_low s st))
      ∙ sym (marked.unlatch_exclusive_marks s st.reached w r slot (unlatch_of s st).asked e)

  pub unlatch_moves : (g : Parts) (n : PageMap) (held : Held) (mark : ℕ) → IsHeldIn f w slot held
      → n ≡ released held f.marks page → Spent (record f { marks = n }) g w (action.Unlatch slot) n
      → mark ≡ mark_in g.marks page → Moves f (move.Unlatch w) (Unlatched mark) g
  unlatch_moves g n held mark holds is spent tells = moves_by f g (move.Unlatch w) (Unlatched mark) leads
    where
      leads : (s : State) → StandsFor f s → Leads f s (move.Unlatch w) (Unlatched mark) g
      leads s st =
          let h = unlatch_of s st in
          let r = h.running in
          let d = action.Unlatch slot in
          let u = unlatched_by s r slot in
          let t = did u w r d in
          let at = page_is f s w slot page r st h.asked.at.seat told in
          let by = held_is f s w slot held r st h.asked.at.seat holds in
          let rest = released_same s (held_in r slot) (page_in r slot) in
          let same : SameRest s t = record {
            settings = rest.settings;
            plans = rest.plans;
            taken = rest.taken;
            lists = rest.lists;
            notes = rest.notes;
            flush = rest.flush;
            flushes_left = rest.flushes_left;
            in_flight = flights.unlatch_flight s st.reached w r slot h.asked;
          } in
          let now : n ≡ marks t =
          is ∙ ap (λ (z : PageMap). released held z page) st.marks
          ∙ ap (λ (p : ℕ). released held (marks s) p) at
          ∙ marks_after s st held (sym by) in
          let low : page_in r slot < length t.notes = omega (arith, unlatch_low s st, rest.notes) in
          let spent_here = spent_marked f g n n w d spent in
          let here : g.marks ≡ marks t = ap (λ (z : Parts). z.marks) spent.rest ∙ now in
          record {
            after = record { reply = Unlatched (mark_at u (page_in r slot)); state = t };
            is = acted_outcome s w r (λ q. unlatch_asked s w q (asked_by q)) (asks s st).1
                ∙ ap (unlatch_asked s w r) (asks s st).2;
            replies = ap Unlatched (tells ∙ ap (λ (z : PageMap). mark_in z page) here ∙ ap (mark_in (marks t)) at
                ∙ mark_told t (page_in r slot) low);
            plans = ap (λ (z : Parts). z.plans) spent.rest;
            stands = λ reached. spent_stands f g s t w r d n st reached h.asked spent_here
                (unlatch_follow f s w r st slot h.asked) same
                (ap (λ ys. slice_set ys w (Some (having_done r d))) (released_seats s (held_in r slot)
                (page_in r slot))) now
                (numbers.unlatch_peaks s st.reached w r slot h.asked)
                (numbers.unlatch_bound s st.reached w r slot h.asked);
          }

-- ---- choose

module _ (f : Parts) (w branches i : ℕ) (asks : Asks f w (ask.Choose branches)) (lt : i < branches) where
  abbrev choose_of : (s : State) → StandsFor f s → Asked f w (action.Choose i)
  choose_of s st =
      let a = asks s st in
      record {
        state = s;
        stands = st;
        running = a.0;
        asked = is_asked s w a.0 (ask.Choose branches) (action.Choose i) a.1 a.2 lt;
      }

  pub can_choose : IsKept f → CanSpend f w (action.Choose i)
  can_choose k =
      let h = choose_of k.state k.stands in
      spend_needs f w (action.Choose i) h (choose_due f h.state w h.running h.stands i h.asked) refl

  is_branch : nat_lt i branches ≡ true
  is_branch = grind (arith, nat_tests)

  pub choose_moves : (g : Parts) → Spent f g w (action.Choose i) f.marks → Moves f (move.Choose w i) Did g
  choose_moves g spent = moves_by f g (move.Choose w i) Did leads
    where
      leads : (s : State) → StandsFor f s → Leads f s (move.Choose w i) Did g
      leads s st =
          let h = choose_of s st in
          let r = h.running in
          let d = action.Choose i in
          let t = did s w r d in
          let same : SameRest s t = record {
            settings = refl;
            plans = refl;
            taken = refl;
            lists = refl;
            notes = refl;
            flush = refl;
            flushes_left = refl;
            in_flight = flights.choose_flight s st.reached w r i h.asked;
          } in
          record {
            after = record { reply = Did; state = t };
            is = acted_outcome s w r (λ q. choose_asked s w q i (asked_by q)) (asks s st).1
                ∙ ap (choose_asked s w r i) (asks s st).2 ∙ ap (choose_where s w r i) is_branch;
            replies = refl;
            plans = ap (λ (z : Parts). z.plans) spent.rest;
            stands = λ reached. spent_stands f g s t w r d f.marks st reached h.asked spent
                (choose_follow f s w r st i h.asked) same refl
                (st.marks ∙ sym (marked.choose_marks s st.reached w r 0 i h.asked))
                (numbers.choose_peaks s st.reached w r i h.asked)
                (numbers.choose_bound s st.reached w r i h.asked);
          }
