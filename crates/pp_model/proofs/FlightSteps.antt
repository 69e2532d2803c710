-- What each way in which a move is done does to the pages that are in flight.
use Rattle.std.proofs.Common.{◌≡◌, ◌∙◌, ℕ, ◌+◌, ◌≤◌, ◌<◌, Bool, true, false, eqb, cond, Some, None}
use Rattle.std.proofs.Common.{List, [], ◌∷◌, refl, sym, ap, subst, arith}
use Rattle.std.specs.Prelude.{slice_set, nat_lt, ◌==◌, if◌then◌else◌}
use Rattle.std.proofs.lemmas.Bool.Decides.{nat_tests}
use Rattle.pp_settings.specs.Layout.{page_count}
use Rattle.pp_plan.specs.declared.mode.Mode.{Mode}
use Rattle.pp_plan.specs.declared.action.Action.TheVariants as action
use Rattle.pp_cert.specs.Accepted.{Acceptance}
use Rattle.pp_cert.specs.Held.{Holding, Holdings, holding_at}
use Rattle.pp_arc.specs.FourLists.{FourLists}
use Rattle.pp_arc.specs.Figure.{forget}
use Rattle.pp_arc.proofs.StepLemmas.{times_in-cached}
use Rattle.pp_model.specs.declared.reply.Ending.TheVariants.{Done, Gone}
use Rattle.pp_model.specs.Pool.{acting, writing, reading, leaving, Running, State}
use Rattle.pp_model.specs.Holders.{times, holdings, held_in, page_in, errands_of, is_in_flight}
use Rattle.pp_model.specs.Outcome.{with_stage, at_stage, having_done, did, with_lists, with_frame, with_dirty}
use Rattle.pp_model.specs.Outcome.{with_mark, released}
use Rattle.pp_model.specs.Taking.{began}
use Rattle.pp_model.specs.Fixing.{with_frame_moved, free_frame, fixes}
use Rattle.pp_model.specs.Answers.{brought_back}
use Rattle.pp_model.specs.Using.{unlatched}
use Rattle.pp_model.specs.Leaving.{ended}
use Rattle.pp_model.specs.Flushing.{flush_begun, flush_over}
use Rattle.pp_model.specs.Moves.{seat_of, asked_by}
use Rattle.pp_model.specs.Submitting.{submitted}
use Rattle.pp_model.specs.Reached.{IsReached}
use Rattle.pp_model.proofs.Sums.{times-cons}
use Rattle.pp_model.proofs.Changes.{IsAt, IsAsked}
use Rattle.pp_model.proofs.Seats.{good}
use Rattle.pp_model.proofs.Totals.{loads_of, victims_of, errands_are, Totals}
use Rattle.pp_model.proofs.ChangeTotals as totals
use Rattle.pp_model.proofs.ChangeTotals.{released_seats}
use Rattle.pp_model.proofs.Soundness.{sound}

-- ---- counts

-- A page is in flight where there is an errand for it.
flies_where : (n : ℕ) (s : State) (q : ℕ) → loads_of s q + victims_of s q ≡ n → is_in_flight s q ≡ nat_lt 0 n
flies_where n s q e = ap (nat_lt 0) (errands_are s q ∙ e)

once : (q p : ℕ) → times q (p ∷ []) ≡ cond (eqb p q) 1 0
once q p = omega (arith, times-cons q p [])

-- As many errands of each page as before.
stays : (s t : State) (out into : Holdings) → Totals s t out into [] [] [] [] → (q : ℕ)
    → is_in_flight t q ≡ is_in_flight s q
stays s t out into d q =
    flies_where (loads_of s q + victims_of s q) t q (omega (arith, d.loads q, d.victims q))
    ∙ sym (flies_where (loads_of s q + victims_of s q) s q refl)

-- Tests of counts: one or two pages more, and one or two fewer where each counts once at most.
one_more : (p q n : ℕ) → nat_lt 0 (n + cond (eqb p q) 1 0) ≡ cond (eqb q p) true (nat_lt 0 n)
one_more p q n = grind (arith, nat_tests)

two_more : (p v q n : ℕ)
    → nat_lt 0 (n + cond (eqb p q) 1 0 + cond (eqb v q) 1 0) ≡ cond (eqb q p) true (cond (eqb q v) true (nat_lt 0 n))
two_more p v q n = grind (arith, nat_tests)

one_less : (p q m n : ℕ) → m + cond (eqb p q) 1 0 ≡ n → n ≤ 1 → nat_lt 0 m ≡ cond (eqb q p) false (nat_lt 0 n)
one_less p q m n e le = grind (arith, nat_tests)

two_less : (p v q m n : ℕ) → m + cond (eqb p q) 1 0 + cond (eqb v q) 1 0 ≡ n → n ≤ 1
    → nat_lt 0 m ≡ cond (eqb q p) false (cond (eqb q v) false (nat_lt 0 n))
two_less p v q m n e le = grind (arith, nat_tests)

-- Each page has one errand at most.
pub one_errand : (s : State) → IsReached s → (q : ℕ) → errands_of s q ≤ 1
one_errand s h q = omega (arith, errands_are s q, (sound s h).alone q)

-- A page that is in flight is one of the layout.
pub flying_is_low : (s : State) → IsReached s → (q : ℕ) → is_in_flight s q ≡ true → q < page_count s.settings.layout
flying_is_low s h q e = go (nat_lt 0 (loads_of s q)) refl
  where
    some : 0 < loads_of s q + victims_of s q
    some = let are = errands_are s q in let lt : 0 < errands_of s q = grind (arith, nat_tests) in omega arith

    low : q < s.lists.pages → q < page_count s.settings.layout
    low lt = subst (λ n. q < n) (sound s h).pages lt

    go : (b : Bool) → nat_lt 0 (loads_of s q) ≡ b → q < page_count s.settings.layout
    go true f =
        let loaded : 0 < loads_of s q = grind (arith, nat_tests) in
        let cached = (sound s h).cached q (omega (arith, loaded)) in
        low ((sound s h).bounds.below q (omega (arith, times_in-cached s.lists q cached)))
    go false f =
        let none : loads_of s q ≡ 0 = grind (arith, nat_tests) in
        low ((sound s h).away q (omega (arith, none, some))).1

-- ---- ways that send no errand and end none: the same pages are in flight

pub take_flight : (s : State) (w : ℕ) (a : Acceptance) → seat_of s w ≡ Some None → (q : ℕ)
    → is_in_flight (began s w a) q ≡ is_in_flight s q
take_flight s w a idle q = stays s (began s w a) [] [] (totals.taken_totals s (began s w a) w a idle refl) q

module _ (s : State) (h : IsReached s) (w : ℕ) (r : Running) where
  pub hit_flight : (slot page : ℕ) (l : FourLists) → IsAsked s w r (fixes (asked_by r) slot page) → (q : ℕ)
      → is_in_flight (did (with_lists s l) w r (fixes (asked_by r) slot page)) q ≡ is_in_flight s q
  hit_flight slot page l asked q =
      let t = did (with_lists s l) w r (fixes (asked_by r) slot page) in
      stays s t _ _ (totals.hit_totals s t w r (good s h) slot page asked refl) q

  pub unfix_flight : (slot : ℕ) → IsAsked s w r (action.Unfix slot) → (q : ℕ)
      → is_in_flight (did s w r (action.Unfix slot)) q ≡ is_in_flight s q
  unfix_flight slot asked q =
      let t = did s w r (action.Unfix slot) in
      stays s t _ _ (totals.own_totals s t w r (good s h) slot asked refl) q

  pub scatter_flight : (slot : ℕ) → IsAsked s w r (action.Scatter slot) → (q : ℕ)
      → is_in_flight (did s w r (action.Scatter slot)) q ≡ is_in_flight s q
  scatter_flight slot asked q =
      let t = did s w r (action.Scatter slot) in
      stays s t _ _ (totals.scatter_totals s t w r (good s h) slot asked refl).1 q

  pub latch_flight : (slot : ℕ) (m : Mode) → IsAsked s w r (action.Latch slot m) → (q : ℕ)
      → is_in_flight (did s w r (action.Latch slot m)) q ≡ is_in_flight s q
  latch_flight slot m asked q =
      let t = did s w r (action.Latch slot m) in
      stays s t _ _ (totals.latch_totals s t w r (good s h) slot m asked refl) q

  pub unlatch_flight : (slot : ℕ) → IsAsked s w r (action.Unlatch slot) → (q : ℕ)
      → is_in_flight (did (unlatched s r slot) w r (action.Unlatch slot)) q ≡ is_in_flight s q
  unlatch_flight slot asked q =
      let a = action.Unlatch slot in
      let t = did (unlatched s r slot) w r a in
      let seats = ap (λ x. slice_set x w (Some (having_done r a))) (released_seats s (held_in r slot) (page_in r slot))
      in
      stays s t _ _ (totals.unlatch_totals s t w r (good s h) slot asked seats) q

  pub choose_flight : (i : ℕ) → IsAsked s w r (action.Choose i) → (q : ℕ)
      → is_in_flight (did s w r (action.Choose i)) q ≡ is_in_flight s q
  choose_flight i asked q =
      let t = did s w r (action.Choose i) in
      stays s t [] [] (totals.choose_totals s t w r (good s h) i asked refl) q

  pub unwind_flight : (slot : ℕ) (given : List ℕ) (x : Holding) → IsAt s w r (leaving given)
      → holding_at (holdings r) slot ≡ Some x → (q : ℕ)
      → is_in_flight (with_stage (released s x.held x.page) w r (leaving (slot ∷ given))) q ≡ is_in_flight s q
  unwind_flight slot given x at found q =
      let g = leaving (slot ∷ given) in
      let t = with_stage (released s x.held x.page) w r g in
      let seats = ap (λ z. slice_set z w (Some (at_stage r g))) (released_seats s x.held x.page) in
      stays s t _ [] (totals.unwound_totals s t w r (good s h) slot given at seats) q

  pub end_flight : IsAt s w r acting → (q : ℕ) → is_in_flight (ended s w r Done).state q ≡ is_in_flight s q
  end_flight at q =
      let t = (ended s w r Done).state in
      stays s t (holdings r) [] (totals.idle_totals s t w r (good s h) acting refl refl at refl) q

  pub leave_flight : (given : List ℕ) → IsAt s w r (leaving given) → (q : ℕ)
      → is_in_flight (ended s w r Gone).state q ≡ is_in_flight s q
  leave_flight given at q =
      let t = (ended s w r Gone).state in
      stays s t (holdings r) [] (totals.idle_totals s t w r (good s h) (leaving given) refl refl at refl) q

  -- ---- an errand goes out

  -- The page is read.
  read_flight : (t : State) (slot page : ℕ) → IsAt s w r acting
      → t.seats ≡ slice_set s.seats w (Some (at_stage r (reading slot page))) → (q : ℕ)
      → is_in_flight t q ≡ (if q == page then true else is_in_flight s q)
  read_flight t slot page at e q =
      let d = totals.sent_totals s t w r (good s h) (reading slot page) refl at e in
      let n = loads_of s q + victims_of s q in
      flies_where (n + cond (eqb page q) 1 0) t q (omega (arith, d.loads q, d.victims q, once q page))
      ∙ one_more page q n
      ∙ ap (cond (eqb q page) true) (sym (flies_where n s q refl))

  pub fill_flight : (slot page : ℕ) (l : FourLists) → IsAsked s w r (fixes (asked_by r) slot page) → (q : ℕ)
      → is_in_flight (with_stage (with_frame (with_lists s l) page (Some (free_frame s))) w r (reading slot page)) q
      ≡ (if q == page then true else is_in_flight s q)
  fill_flight slot page l asked q =
      let t = with_stage (with_frame (with_lists s l) page (Some (free_frame s))) w r (reading slot page) in
      read_flight t slot page asked.at refl q

  pub evict_flight : (slot page v : ℕ) (l : FourLists) → IsAsked s w r (fixes (asked_by r) slot page) → (q : ℕ)
      → is_in_flight (with_stage (with_frame_moved (with_lists s l) page v) w r (reading slot page)) q
      ≡ (if q == page then true else is_in_flight s q)
  evict_flight slot page v l asked q =
      let t = with_stage (with_frame_moved (with_lists s l) page v) w r (reading slot page) in
      read_flight t slot page asked.at refl q

  -- The victim is written, and the page waits for its frame.
  pub send_flight : (slot page v : ℕ) (l : FourLists) → IsAsked s w r (fixes (asked_by r) slot page) → (q : ℕ)
      → is_in_flight (with_stage (with_frame_moved (with_lists s l) page v) w r (writing slot page v)) q
      ≡ (if q == page then true else if q == v then true else is_in_flight s q)
  send_flight slot page v l asked q =
      let t = with_stage (with_frame_moved (with_lists s l) page v) w r (writing slot page v) in
      let d = totals.sent_totals s t w r (good s h) (writing slot page v) refl asked.at refl in
      let n = loads_of s q + victims_of s q in
      flies_where (n + cond (eqb page q) 1 0 + cond (eqb v q) 1 0) t q
      (omega (arith, d.loads q, d.victims q, once q page, once q v))
      ∙ two_more page v q n
      ∙ ap (λ b. cond (eqb q page) true (cond (eqb q v) true b)) (sym (flies_where n s q refl))

  -- ---- an errand ends

  -- The victim is on the device.
  pub write_flight : (slot page v : ℕ) → IsAt s w r (writing slot page v) → (q : ℕ)
      → is_in_flight (with_stage (with_dirty s v false) w r (reading slot page)) q
      ≡ (if q == v then false else is_in_flight s q)
  write_flight slot page v at q =
      let t = with_stage (with_dirty s v false) w r (reading slot page) in
      let d = totals.written_totals s t w r (good s h) slot page v at refl in
      let m = loads_of t q + victims_of t q in
      let n = loads_of s q + victims_of s q in
      flies_where m t q refl
      ∙ one_less v q m n (omega (arith, d.loads q, d.victims q, once q v)) ((sound s h).alone q)
      ∙ ap (cond (eqb q v) false) (sym (flies_where n s q refl))

  -- The page was read.
  pub load_flight : (slot page stamp : ℕ) → IsAt s w r (reading slot page) → (q : ℕ)
      → is_in_flight (did (with_mark s page stamp) w r (fixes (asked_by r) slot page)) q
      ≡ (if q == page then false else is_in_flight s q)
  load_flight slot page stamp at q =
      let t = did (with_mark s page stamp) w r (fixes (asked_by r) slot page) in
      let d = totals.loaded_totals s t w r (good s h) slot page at refl in
      let m = loads_of t q + victims_of t q in
      let n = loads_of s q + victims_of s q in
      flies_where m t q refl
      ∙ one_less page q m n (omega (arith, d.loads q, d.victims q, once q page)) ((sound s h).alone q)
      ∙ ap (cond (eqb q page) false) (sym (flies_where n s q refl))

  -- The page wasn't read.
  pub forget_flight : (slot page : ℕ) → IsAt s w r (reading slot page) → (q : ℕ)
      → is_in_flight (with_stage (with_frame (with_lists s (forget s.lists page)) page None) w r (leaving [])) q
      ≡ (if q == page then false else is_in_flight s q)
  forget_flight slot page at q =
      let t = with_stage (with_frame (with_lists s (forget s.lists page)) page None) w r (leaving []) in
      let d = totals.lost_totals s t w r (good s h) (reading slot page) refl at refl in
      let m = loads_of t q + victims_of t q in
      let n = loads_of s q + victims_of s q in
      flies_where m t q refl
      ∙ one_less page q m n (omega (arith, d.loads q, d.victims q, once q page)) ((sound s h).alone q)
      ∙ ap (cond (eqb q page) false) (sym (flies_where n s q refl))

  -- The victim wasn't written.
  pub bring_flight : (slot page v : ℕ) → IsAt s w r (writing slot page v) → (q : ℕ)
      → is_in_flight (with_stage (brought_back s page v) w r (leaving [])) q
      ≡ (if q == page then false else if q == v then false else is_in_flight s q)
  bring_flight slot page v at q =
      let t = with_stage (brought_back s page v) w r (leaving []) in
      let d = totals.lost_totals s t w r (good s h) (writing slot page v) refl at refl in
      let m = loads_of t q + victims_of t q in
      let n = loads_of s q + victims_of s q in
      flies_where m t q refl
      ∙ two_less page v q m n (omega (arith, d.loads q, d.victims q, once q page, once q v)) ((sound s h).alone q)
      ∙ ap (λ b. cond (eqb q page) false (cond (eqb q v) false b)) (sym (flies_where n s q refl))

-- ---- the flusher, and plans that are taken in: the same pages are in flight

pub flush_flight : (s : State) (page q : ℕ) → is_in_flight (flush_begun s page) q ≡ is_in_flight s q
flush_flight s page q = refl

pub clean_flight : (s : State) (page q : ℕ) → is_in_flight (with_dirty (flush_over s) page false) q ≡ is_in_flight s q
clean_flight s page q = refl

pub drop_flight : (s : State) (q : ℕ) → is_in_flight (flush_over s) q ≡ is_in_flight s q
drop_flight s q = refl

pub submit_flight : (s : State) (a : Acceptance) (q : ℕ) → is_in_flight (submitted s a) q ≡ is_in_flight s q
submit_flight s a q = refl
