-- While a page's image is away it keeps its frame and its mark; so does a victim that is written back keep its mark.
use Rattle.std.proofs.Common.{◌≡◌, ◌≢◌, ◌∙◌, ℕ, ◌+◌, ◌<◌, true, Option, Some, None, List, ◌∷◌, length}
use Rattle.std.proofs.Common.{refl, sym, ap, subst, arith}
use Rattle.std.proofs.lemmas.Bool.{false≢true}
use Rattle.pp_plan.specs.declared.mode.Mode.{Mode}
use Rattle.pp_plan.specs.declared.mode.Mode.TheVariants as mode
use Rattle.pp_plan.specs.declared.action.Action.TheVariants as action
use Rattle.pp_cert.specs.declared.note.Held.{Held}
use Rattle.pp_cert.specs.declared.note.Held.TheVariants.{Free, S, X}
use Rattle.pp_cert.specs.Held.{Holding, holding_at}
use Rattle.pp_arc.specs.Figure.{forget, bring_back}
use Rattle.pp_model.specs.Pool.{writing, reading, leaving, Running, Note, State, note_of, frame_of, known_mark}
use Rattle.pp_model.specs.Pool.{frame_at, mark_at}
use Rattle.pp_model.specs.Holders.{holdings, page_in, held_in, is_exclusive, is_busy}
use Rattle.pp_model.specs.Outcome.{did, with_stage, with_lists, with_frame, released}
use Rattle.pp_model.specs.Fixing.{free_frame}
use Rattle.pp_model.specs.Using.{goes_with, unlatched}
use Rattle.pp_model.specs.Moves.{seat_of, next_of}
use Rattle.pp_model.specs.Reached.{IsReached}
use Rattle.pp_model.specs.Ready.{AwayKeep, VictimsKeep}
use Rattle.pp_model.proofs.Changes as change
use Rattle.pp_model.proofs.Changes.{Change, IsAt, IsAsked}
use Rattle.pp_model.proofs.Seats.{good}
use Rattle.pp_model.proofs.ChangeTotals as totals
use Rattle.pp_model.proofs.HoldingSteps.{holds_at, ends_empty}
use Rattle.pp_model.proofs.Requests.{Which, same, other, which, is_victim}
use Rattle.pp_model.proofs.Totals.{weight, on_page, loads_of, victims_of}
use Rattle.pp_model.proofs.Sound.{uncached_free}
use Rattle.pp_model.proofs.Soundness.{sound}
use Rattle.pp_model.proofs.MarkChanges.{note_here, note_there, notes_stay}
use Rattle.pp_model.proofs.Framed.{cached_low, loads_one, sent_one, held_one}
use Rattle.pp_model.proofs.MarkSteps.{fixed_low, loading_low, sent_low, unlatch_not_free}
use Rattle.pp_model.proofs.ReadyPages.{AllStay}
use Rattle.pp_model.proofs.ReadySteps as steps
use Rattle.pp_model.proofs.ReadySteps.{Steps, stays, goes, comes, AllStep}

-- ---- each way, page by page

all_same : (s : State) → AllStay s s
all_same s q = record { away = refl; frame = refl; mark = refl }

to_next : (s t u : State) → t ≡ u → AllStep s u → AllStep s t
to_next s t u e k = subst (AllStep s) (sym e) k

stay_next : (s t u : State) → t ≡ u → AllStay s u → AllStep s t
stay_next s t u e k = to_next s t u e (λ q. stays (k q))

-- A latch comes, or goes.
latch_steps : (s : State) → IsReached s → (w : ℕ) (r : Running) (slot : ℕ) (m : Mode)
    → IsAsked s w r (action.Latch slot m) → goes_with s m (page_in r slot) ≡ true
    → AllStep s (did s w r (action.Latch slot m))
latch_steps s h w r slot mode.S asked fits q = stays (steps.shared_stays s h w r slot asked q)
latch_steps s h w r slot mode.X asked fits q = steps.exclusive_steps s h w r slot asked fits q

unlatch_steps : (s : State) (h : IsReached s) (w : ℕ) (r : Running) (slot : ℕ)
    → IsAsked s w r (action.Unlatch slot) → (k : Held) → held_in r slot ≡ k
    → AllStep s (did (unlatched s r slot) w r (action.Unlatch slot))
unlatch_steps s h w r slot asked Free e q = absurd (unlatch_not_free s h w r slot asked e)
unlatch_steps s h w r slot asked S e q = stays (steps.unshared_stays s h w r slot asked e q)
unlatch_steps s h w r slot asked X e q = steps.unlatch_steps s h w r slot asked e q

unwind_steps : (s : State) (h : IsReached s) (w : ℕ) (r : Running) (slot : ℕ) (given : List ℕ) (x : Holding)
    → IsAt s w r (leaving given) → holding_at (holdings r) slot ≡ Some x → (k : Held) → x.held ≡ k
    → AllStep s (with_stage (released s x.held x.page) w r (leaving (slot ∷ given)))
unwind_steps s h w r slot given x at found Free e q =
    stays (steps.unwind_stays s h w r slot given x at found (ap is_exclusive e) q)
unwind_steps s h w r slot given x at found S e q =
    stays (steps.unwind_stays s h w r slot given x at found (ap is_exclusive e) q)
unwind_steps s h w r slot given x at found X e q = steps.unwind_steps s h w r slot given x at found e q

pub all_step : (s t : State) → IsReached s → Change s t → AllStep s t
all_step s t h (change.stays e) = stay_next s t _ e (all_same s)
all_step s t h (change.takes w a idle next fits e) = stay_next s t _ e (steps.take_stays s h w a idle)
all_step s t h (change.hits w r slot page l asked is e) = stay_next s t _ e (steps.hit_stays s h w r slot page l asked)
all_step s t h (change.fills w r slot page l asked is e) =
    to_next s t _ e (steps.fill_steps s h w r slot page l asked is)
all_step s t h (change.evicts w r slot page v l asked is clean e) =
    to_next s t _ e (steps.evict_read_steps s h w r slot page l asked v is)
all_step s t h (change.sends w r slot page v l asked is dirty e) =
    to_next s t _ e (steps.evict_write_steps s h w r slot page l asked v is)
all_step s t h (change.writes w r slot page v at e) = stay_next s t _ e (steps.write_stays s h w r slot page v at)
all_step s t h (change.brings w r slot page v at e) = to_next s t _ e (steps.bring_steps s h w r slot page v at)
all_step s t h (change.forgets w r slot page at e) = to_next s t _ e (steps.forget_steps s h w r slot page at)
all_step s t h (change.loads w r slot page stamp at known e) =
    to_next s t _ e (steps.load_steps s h w r slot page at stamp)
all_step s t h (change.unfixes w r slot a back asked e) = stay_next s t _ e (steps.unfix_stays s h w r slot a back asked)
all_step s t h (change.latches w r slot m asked fits e) =
    to_next s t _ e (latch_steps s h w r slot m asked fits)
all_step s t h (change.unlatches w r slot asked e) =
    to_next s t _ e (unlatch_steps s h w r slot asked (held_in r slot) refl)
all_step s t h (change.chooses w r i asked e) = stay_next s t _ e (steps.choose_stays s h w r i asked)
all_step s t h (change.unwinds w r slot given k at found e) =
    to_next s t _ e (unwind_steps s h w r slot given k at found k.held refl)
all_step s t h (change.ends w r at asked e) =
    stay_next s t _ e (steps.end_stays s h w r at (ends_empty s h w r at asked))
all_step s t h (change.leaves w r given at none e) = stay_next s t _ e (steps.leave_stays s h w r given at none)
all_step s t h (change.flushes page can e) = stay_next s t _ e (steps.begin_stays s h page)
all_step s t h (change.cleans f is e) = stay_next s t _ e (steps.clean_stays s h f is)
all_step s t h (change.drops f is e) = stay_next s t _ e (steps.over_stays s h)

-- ---- images that are away

pub away_keep : (s : State) → IsReached s → AwayKeep s
away_keep s h m q away still = go (all_step s (next_of s m) h (change.change s m) q)
  where
    go : Steps s (next_of s m) q
        → (frame_of (next_of s m) q ≡ frame_of s q) × (known_mark (next_of s m) q ≡ known_mark s q)
    go (stays k) = (k.frame, k.mark)
    go (goes here) = absurd (false≢true (sym here ∙ away))
    go (comes here) = absurd (false≢true (sym here ∙ still))

-- ---- victims that are written back

-- The frame of a page has nothing to do with marks, nor has the end of a latch on another page.
frame_mark : (s : State) (p : ℕ) (f : Option ℕ) (q : ℕ) → p < length s.notes
    → known_mark (with_frame s p f) q ≡ known_mark s q
frame_mark s p f q low = go (which q p)
  where
    go : Which q p → known_mark (with_frame s p f) q ≡ known_mark s q
    go (same d e) =
        ap (known_mark (with_frame s p f)) d
        ∙ ap (λ (x : Note). x.mark) (note_here s p (record (note_of s p) { frame = f }) low) ∙ ap (known_mark s) (sym d)
    go (other d e) = ap (λ (x : Note). x.mark) (note_there s p q (record (note_of s p) { frame = f }) d)

moved_mark : (s : State) (a b : ℕ) (f g : Option ℕ) (q : ℕ) → a < length s.notes → b < length s.notes
    → known_mark (with_frame (with_frame s a f) b g) q ≡ known_mark s q
moved_mark s a b f g q la lb =
    frame_mark (with_frame s a f) b g q (omega (arith, lb, notes_stay s a (record (note_of s a) { frame = f })))
    ∙ frame_mark s a f q la

released_mark : (s : State) (k : Held) (p q : ℕ) → q ≢ p → known_mark (released s k p) q ≡ known_mark s q
released_mark s Free p q ne = refl
released_mark s S p q ne = refl
released_mark s X p q ne =
    ap (λ (x : Note). x.mark) (note_there s p q (record (note_of s p) { mark = Some (mark_at s p + 1); dirty = true }) ne)

-- The page is a victim that is written back: nobody holds it or loads it.
module _ (s : State) (h : IsReached s) (q : ℕ) (sent : 0 < victims_of s q) where
  free : weight s (on_page q) + loads_of s q ≡ 0
  free = uncached_free s q (sound s h) ((sound s h).away q sent).0

  unheld : (w : ℕ) (r : Running) (slot : ℕ) (x : Holding) → seat_of s w ≡ Some (Some r)
      → holding_at (holdings r) slot ≡ Some x → q ≢ x.page
  unheld w r slot x seat found e =
      absurd (omega (arith, held_one s w r slot x seat found, free, ap (λ p. weight s (on_page p)) e))

  unread : (w : ℕ) (r : Running) (slot page : ℕ) → IsAt s w r (reading slot page) → q ≢ page
  unread w r slot page at e =
      absurd (omega (arith, loads_one s w r (reading slot page) page at refl, free, ap (loads_of s) e))

  by_stay : (t u : State) → t ≡ u → AllStay s u → known_mark t q ≡ known_mark s q
  by_stay t u e k = ap (λ x. known_mark x q) e ∙ (k q).mark

  by_note : (t u : State) → t ≡ u → known_mark u q ≡ known_mark s q → known_mark t q ≡ known_mark s q
  by_note t u e k = ap (λ x. known_mark x q) e ∙ k

  victim_mark : (t : State) → Change s t → known_mark t q ≡ known_mark s q
  victim_mark t (change.stays e) = by_stay t _ e (all_same s)
  victim_mark t (change.takes w a idle next fits e) = by_stay t _ e (steps.take_stays s h w a idle)
  victim_mark t (change.hits w r slot page l asked is e) = by_stay t _ e (steps.hit_stays s h w r slot page l asked)
  victim_mark t (change.fills w r slot page l asked is e) =
      by_note t _ e (frame_mark (with_lists s l) page (Some (free_frame s)) q (fixed_low s h w r slot page asked))
  victim_mark t (change.evicts w r slot page v l asked is clean e) =
      let low = cached_low s h v (is_victim s.lists page (is_busy s) v (sound s h).bounds is.is).was_cached in
      by_note t _ e
      (moved_mark (with_lists s l) v page None (Some (frame_at s v)) q low (fixed_low s h w r slot page asked))
  victim_mark t (change.sends w r slot page v l asked is dirty e) =
      let low = cached_low s h v (is_victim s.lists page (is_busy s) v (sound s h).bounds is.is).was_cached in
      by_note t _ e
      (moved_mark (with_lists s l) v page None (Some (frame_at s v)) q low (fixed_low s h w r slot page asked))
  victim_mark t (change.writes w r slot page v at e) = by_stay t _ e (steps.write_stays s h w r slot page v at)
  victim_mark t (change.brings w r slot page v at e) =
      by_note t _ e
      (moved_mark (with_lists s (bring_back s.lists page v)) page v None (frame_of s page) q
      (loading_low s h w r (writing slot page v) at page refl) (sent_low s h w r (writing slot page v) at v refl))
  victim_mark t (change.forgets w r slot page at e) =
      by_note t _ e
      (frame_mark (with_lists s (forget s.lists page)) page None q
      (loading_low s h w r (reading slot page) at page refl))
  victim_mark t (change.loads w r slot page stamp at known e) =
      by_note t _ e
      (ap (λ (x : Note). x.mark)
      (note_there s page q (record (note_of s page) { mark = Some stamp }) (unread w r slot page at)))
  victim_mark t (change.unfixes w r slot a back asked e) = by_stay t _ e (steps.unfix_stays s h w r slot a back asked)
  victim_mark t (change.latches w r slot m asked fits e) = by_note t _ e refl
  victim_mark t (change.unlatches w r slot asked e) =
      let does = totals.asked_does s s w r (good s h) (action.Unlatch slot) asked in
      let page = (holds_at r slot does.0 does.1).page_is in
      by_note t _ e
      (released_mark s (held_in r slot) (page_in r slot) q
      (λ f. unheld w r slot does.0 asked.at.seat does.1 (f ∙ page)))
  victim_mark t (change.chooses w r i asked e) = by_stay t _ e (steps.choose_stays s h w r i asked)
  victim_mark t (change.unwinds w r slot given k at found e) =
      by_note t _ e (released_mark s k.held k.page q (unheld w r slot k at.seat found))
  victim_mark t (change.ends w r at asked e) =
      by_stay t _ e (steps.end_stays s h w r at (ends_empty s h w r at asked))
  victim_mark t (change.leaves w r given at none e) = by_stay t _ e (steps.leave_stays s h w r given at none)
  victim_mark t (change.flushes page can e) = by_stay t _ e (steps.begin_stays s h page)
  victim_mark t (change.cleans f is e) = by_stay t _ e (steps.clean_stays s h f is)
  victim_mark t (change.drops f is e) = by_stay t _ e (steps.over_stays s h)

pub victims_keep : (s : State) → IsReached s → VictimsKeep s
victims_keep s h m v back =
    let at : IsAt s back.0 back.1 (writing back.2 back.3 v) = record { seat = back.4; stage = back.5 } in
    let sent = sent_one s back.0 back.1 (writing back.2 back.3 v) v at refl in
    victim_mark s h v sent (next_of s m) (change.change s m)
