-- What a move makes of one page: where it is ready, which mark it has, and whether it is newer than the device's.
use Rattle.std.proofs.Common.{◌≡◌, ◌≢◌, ◌∙◌, ◌⊎◌, ℕ, ◌+◌, ◌<◌, ◌≤◌, true, Option, Some, None, List, ◌∷◌, length, refl}
use Rattle.std.proofs.Common.{sym, ap, subst, inl, inr}
use Rattle.std.specs.Prelude.{unwrap_or}
use Rattle.std.proofs.lemmas.Bool.{cases_lt}
use Rattle.std.proofs.lemmas.List.{set_past}
use Rattle.pp_plan.specs.declared.mode.Mode.{Mode}
use Rattle.pp_plan.specs.declared.mode.Mode.TheVariants as mode
use Rattle.pp_plan.specs.declared.action.Action.TheVariants as action
use Rattle.pp_cert.specs.declared.note.Held.{Held}
use Rattle.pp_cert.specs.declared.note.Held.TheVariants.{Free, S, X}
use Rattle.pp_cert.specs.Held.{Holding, holding_at}
use Rattle.pp_arc.specs.Figure.{forget, bring_back}
use Rattle.pp_model.specs.Pool.{Stage, writing, reading, leaving, Running, Note, State, note_of, frame_of, known_mark}
use Rattle.pp_model.specs.Pool.{is_dirty, frame_at, mark_at}
use Rattle.pp_model.specs.Holders.{holdings, page_in, held_in, is_exclusive}
use Rattle.pp_model.specs.Outcome.{did, with_note, with_stage, with_lists, with_frame, released, raised}
use Rattle.pp_model.specs.Fixing.{free_frame}
use Rattle.pp_model.specs.Using.{goes_with, unlatched}
use Rattle.pp_model.specs.Reached.{IsReached}
use Rattle.pp_model.specs.Ready.{Standing, standing_of, ready_at, Leaves, Enters}
use Rattle.pp_model.proofs.Changes as change
use Rattle.pp_model.proofs.Changes.{Change, IsAt, IsAsked}
use Rattle.pp_model.proofs.Seats.{good}
use Rattle.pp_model.proofs.ChangeTotals as totals
use Rattle.pp_model.proofs.HoldingSteps.{holds_at, ends_empty}
use Rattle.pp_model.proofs.Requests.{Which, same, other, which}
use Rattle.pp_model.proofs.MarkChanges.{note_here, note_there}
use Rattle.pp_model.proofs.MarkSteps.{held_low, unlatch_not_free}
use Rattle.pp_model.proofs.ReadyPages.{AllStay, ready_stays, stands_ready}
use Rattle.pp_model.proofs.ReadySteps as steps
use Rattle.pp_core.specs.Queries.{errand_in, errand_by, errand_of}

-- ---- what becomes of a page

pub data PageTurn (s t : State) (q : ℕ) : Type 0 where
  -- it is ready where it was, or it isn't ready, and it has the mark that it had
  stays : (ready_at t q ≡ ready_at s q) ⊎ (ready_at t q ≡ None) → known_mark t q ≡ known_mark s q → PageTurn s t q
  -- it was a victim that is back in a frame
  returns : (w slot page : ℕ) → errand_of s w ≡ Some (slot, page, Some q) → known_mark t q ≡ known_mark s q
      → is_dirty t q ≡ is_dirty s q → PageTurn s t q
  -- it was being read
  comes : (w slot : ℕ) → errand_of s w ≡ Some (slot, q, None) → PageTurn s t q
  -- a latch X on it ended
  rises : mark_at t q ≡ mark_at s q + 1 → is_dirty t q ≡ true → PageTurn s t q

abbrev AllTurn : (s t : State) → Type 0
AllTurn s t = (q : ℕ) → PageTurn s t q

-- ---- notes

-- What a note that is written leaves of its page's, it leaves of each page's.
noted_same : {T : Type 0} (part : Note → T) (s : State) (p : ℕ) (n : Note) (q : ℕ) → part n ≡ part (note_of s p)
    → part (note_of (with_note s p n) q) ≡ part (note_of s q)
noted_same part s p n q e = go (which q p) (cases_lt p (length s.notes))
  where
    go : Which q p → (p < length s.notes) ⊎ (length s.notes ≤ p)
        → part (note_of (with_note s p n) q) ≡ part (note_of s q)
    go (other d f) low = ap part (note_there s p q n d)
    go (same d f) (inl low) =
        ap (λ x. part (note_of (with_note s p n) x)) d ∙ ap part (note_here s p n low) ∙ e
        ∙ ap (λ x. part (note_of s x)) (sym d)
    go (same d f) (inr past) =
        ap (λ x. part (note_of (record s { notes = x }) q)) (set_past s.notes p n past)

frame_mark : (s : State) (p : ℕ) (f : Option ℕ) (q : ℕ) → known_mark (with_frame s p f) q ≡ known_mark s q
frame_mark s p f q = noted_same (λ (x : Note). x.mark) s p (record (note_of s p) { frame = f }) q refl

frame_dirty : (s : State) (p : ℕ) (f : Option ℕ) (q : ℕ) → is_dirty (with_frame s p f) q ≡ is_dirty s q
frame_dirty s p f q = noted_same (λ (x : Note). x.dirty) s p (record (note_of s p) { frame = f }) q refl

frames_mark : (s : State) (a b : ℕ) (f g : Option ℕ) (q : ℕ)
    → known_mark (with_frame (with_frame s a f) b g) q ≡ known_mark s q
frames_mark s a b f g q = frame_mark (with_frame s a f) b g q ∙ frame_mark s a f q

frames_dirty : (s : State) (a b : ℕ) (f g : Option ℕ) (q : ℕ)
    → is_dirty (with_frame (with_frame s a f) b g) q ≡ is_dirty s q
frames_dirty s a b f g q = frame_dirty (with_frame s a f) b g q ∙ frame_dirty s a f q

-- The end of a latch on a page has nothing to do with another one.
released_mark : (s : State) (k : Held) (p q : ℕ) → q ≢ p → known_mark (released s k p) q ≡ known_mark s q
released_mark s Free p q ne = refl
released_mark s S p q ne = refl
released_mark s X p q ne =
    ap (λ (x : Note). x.mark)
    (note_there s p q (record (note_of s p) { mark = Some (mark_at s p + 1); dirty = true }) ne)

raised_dirty : (s : State) (p : ℕ) → p < length s.notes → is_dirty (raised s p) p ≡ true
raised_dirty s p low =
    ap (λ (x : Note). x.dirty)
    (note_here s p (record (note_of s p) { mark = Some (mark_at s p + 1); dirty = true }) low)

-- ---- each kind of way

pub errand_at : (s : State) (w : ℕ) (r : Running) (g : Stage) → IsAt s w r g → errand_of s w ≡ errand_in g
errand_at s w r g at = ap errand_by at.seat ∙ ap errand_in at.stage

stay_turn : (s t u : State) → t ≡ u → AllStay s u → AllTurn s t
stay_turn s t u e k q = subst (λ x. PageTurn s x q) (sym e) (stays (inl (ready_stays s u q (k q))) (k q).mark)

next_turn : (s t u : State) → t ≡ u → AllTurn s u → AllTurn s t
next_turn s t u e k = subst (AllTurn s) (sym e) k

-- A page leaves its frame.
leave_turn : (s u : State) (p : ℕ) (x : Standing) → Leaves s u p x → ((q : ℕ) → known_mark u q ≡ known_mark s q)
    → AllTurn s u
leave_turn s u p x k mark q = go (which q p)
  where
    go : Which q p → PageTurn s u q
    go (same d e) = stays (inr (ap (ready_at u) d ∙ k.gone)) (mark q)
    go (other d e) = stays (inl (k.others q d)) (mark q)

-- A page comes into a frame.
enter_turn : (s u : State) (p : ℕ) (x : Standing) → Enters s u p x
    → ((q : ℕ) → q ≢ p → known_mark u q ≡ known_mark s q) → PageTurn s u p → AllTurn s u
enter_turn s u p x k mark there q = go (which q p)
  where
    go : Which q p → PageTurn s u q
    go (same d e) = subst (PageTurn s u) (sym d) there
    go (other d e) = stays (inl (k.others q d)) (mark q d)

-- So it does where a latch X on it ends.
rise_turn : (s u : State) (p f : ℕ) → Enters s u p (record { frame = f; mark = mark_at s p + 1 })
    → is_dirty u p ≡ true → PageTurn s u p
rise_turn s u p f k dirty =
    let stands = stands_ready u p (record { frame = f; mark = mark_at s p + 1 }) k.is in
    rises (ap (λ (o : Option ℕ). unwrap_or o 0) stands.mark_is) dirty

latch_turn : (s : State) → IsReached s → (w : ℕ) (r : Running) (slot : ℕ) (m : Mode)
    → IsAsked s w r (action.Latch slot m) → goes_with s m (page_in r slot) ≡ true
    → AllTurn s (did s w r (action.Latch slot m))
latch_turn s h w r slot mode.S asked fits =
    let u = did s w r (action.Latch slot mode.S) in stay_turn s u u refl (steps.shared_stays s h w r slot asked)
latch_turn s h w r slot mode.X asked fits =
    leave_turn s (did s w r (action.Latch slot mode.X)) (page_in r slot) (standing_of s (page_in r slot))
    (steps.exclusive_leaves s h w r slot asked fits) (λ q. refl)

unlatch_turn : (s : State) → IsReached s → (w : ℕ) (r : Running) (slot : ℕ)
    → IsAsked s w r (action.Unlatch slot) → (k : Held) → held_in r slot ≡ k
    → AllTurn s (did (unlatched s r slot) w r (action.Unlatch slot))
unlatch_turn s h w r slot asked Free e = absurd (unlatch_not_free s h w r slot asked e)
unlatch_turn s h w r slot asked S e =
    let u = did (unlatched s r slot) w r (action.Unlatch slot) in
    stay_turn s u u refl (steps.unshared_stays s h w r slot asked e)
unlatch_turn s h w r slot asked X e =
    let p = page_in r slot in
    let u = did (unlatched s r slot) w r (action.Unlatch slot) in
    let does = totals.asked_does s s w r (good s h) (action.Unlatch slot) asked in
    let low : p < length s.notes =
    subst (λ n. n < length s.notes) (sym (holds_at r slot does.0 does.1).page_is)
    (held_low s h w r slot does.0 asked.at.seat does.1) in
    let enters = steps.unlatch_enters s h w r slot asked e in
    enter_turn s u p (record { frame = frame_at s p; mark = mark_at s p + 1 }) enters
    (λ q ne. released_mark s (held_in r slot) p q ne)
    (rise_turn s u p (frame_at s p) enters (ap (λ k. is_dirty (released s k p) p) e ∙ raised_dirty s p low))

unwind_turn : (s : State) → IsReached s → (w : ℕ) (r : Running) (slot : ℕ) (given : List ℕ) (x : Holding)
    → IsAt s w r (leaving given) → holding_at (holdings r) slot ≡ Some x → (k : Held) → x.held ≡ k
    → AllTurn s (with_stage (released s x.held x.page) w r (leaving (slot ∷ given)))
unwind_turn s h w r slot given x at found Free e =
    let u = with_stage (released s x.held x.page) w r (leaving (slot ∷ given)) in
    stay_turn s u u refl (steps.unwind_stays s h w r slot given x at found (ap is_exclusive e))
unwind_turn s h w r slot given x at found S e =
    let u = with_stage (released s x.held x.page) w r (leaving (slot ∷ given)) in
    stay_turn s u u refl (steps.unwind_stays s h w r slot given x at found (ap is_exclusive e))
unwind_turn s h w r slot given x at found X e =
    let p = x.page in
    let u = with_stage (released s x.held p) w r (leaving (slot ∷ given)) in
    let enters = steps.unwind_enters s h w r slot given x at found e in
    enter_turn s u p (record { frame = frame_at s p; mark = mark_at s p + 1 }) enters
    (λ q ne. released_mark s x.held p q ne)
    (rise_turn s u p (frame_at s p) enters
    (ap (λ k. is_dirty (released s k p) p) e ∙ raised_dirty s p (held_low s h w r slot x at.seat found)))

-- ---- all ways

pub page_turn : (s t : State) → IsReached s → Change s t → (q : ℕ) → PageTurn s t q
page_turn s t h (change.stays e) = stay_turn s t s e (λ q. record { away = refl; frame = refl; mark = refl })
page_turn s t h (change.takes w a idle next fits e) = stay_turn s t _ e (steps.take_stays s h w a idle)
page_turn s t h (change.hits w r slot page l asked is e) =
    stay_turn s t _ e (steps.hit_stays s h w r slot page l asked)
page_turn s t h (change.fills w r slot page l asked is e) =
    next_turn s t _ e
    (λ q. stays (inl (steps.fill_ready s h w r slot page l asked is q))
    (frame_mark (with_lists s l) page (Some (free_frame s)) q))
page_turn s t h (change.evicts w r slot page v l asked is clean e) =
    next_turn s t _ e
    (leave_turn s _ v (standing_of s v) (steps.evict_read_leaves s h w r slot page l asked v is)
    (frames_mark (with_lists s l) v page None (Some (frame_at s v))))
page_turn s t h (change.sends w r slot page v l asked is dirty e) =
    next_turn s t _ e
    (leave_turn s _ v (standing_of s v) (steps.evict_write_leaves s h w r slot page l asked v is)
    (frames_mark (with_lists s l) v page None (Some (frame_at s v))))
page_turn s t h (change.writes w r slot page v at e) = stay_turn s t _ e (steps.write_stays s h w r slot page v at)
page_turn s t h (change.brings w r slot page v at e) =
    let u = with_lists s (bring_back s.lists page v) in
    next_turn s t _ e
    (enter_turn s _ v _ (steps.bring_enters s h w r slot page v at)
    (λ q ne. frames_mark u page v None (frame_of s page) q)
    (returns w slot page (errand_at s w r (writing slot page v) at) (frames_mark u page v None (frame_of s page) v)
    (frames_dirty u page v None (frame_of s page) v)))
page_turn s t h (change.forgets w r slot page at e) =
    next_turn s t _ e
    (λ q. stays (inl (steps.forget_ready s h w r slot page at q))
    (frame_mark (with_lists s (forget s.lists page)) page None q))
page_turn s t h (change.loads w r slot page stamp at known e) =
    next_turn s t _ e
    (enter_turn s _ page _ (steps.load_enters s h w r slot page at stamp)
    (λ q ne. ap (λ (x : Note). x.mark) (note_there s page q (record (note_of s page) { mark = Some stamp }) ne))
    (comes w slot (errand_at s w r (reading slot page) at)))
page_turn s t h (change.unfixes w r slot a back asked e) =
    stay_turn s t _ e (steps.unfix_stays s h w r slot a back asked)
page_turn s t h (change.latches w r slot m asked fits e) = next_turn s t _ e (latch_turn s h w r slot m asked fits)
page_turn s t h (change.unlatches w r slot asked e) =
    next_turn s t _ e (unlatch_turn s h w r slot asked (held_in r slot) refl)
page_turn s t h (change.chooses w r i asked e) = stay_turn s t _ e (steps.choose_stays s h w r i asked)
page_turn s t h (change.unwinds w r slot given k at found e) =
    next_turn s t _ e (unwind_turn s h w r slot given k at found k.held refl)
page_turn s t h (change.ends w r at asked e) =
    stay_turn s t _ e (steps.end_stays s h w r at (ends_empty s h w r at asked))
page_turn s t h (change.leaves w r given at none e) = stay_turn s t _ e (steps.leave_stays s h w r given at none)
page_turn s t h (change.flushes page can e) = stay_turn s t _ e (steps.begin_stays s h page)
page_turn s t h (change.cleans f is e) = stay_turn s t _ e (steps.clean_stays s h f is)
page_turn s t h (change.drops f is e) = stay_turn s t _ e (steps.over_stays s h)
