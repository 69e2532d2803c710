-- What is noted of the pages of every reached state.
use Rattle.std.proofs.Common.{◌≡◌, ◌≢◌, ◌∙◌, ◌⊎◌, ℕ, ◌+◌, ◌<◌, ◌≤◌, Bool, true, false, Option, Some, None, List, []}
use Rattle.std.proofs.Common.{◌∷◌, length, get_or, refl, sym, ap, subst, inl, inr, arith}
use Rattle.std.specs.Prelude.{slice_set, nat_lt, ◌&&◌, IsSome, unwrap_or, option_map}
use Rattle.std.proofs.lemmas.Bool.{false≢true, cases_lt}
use Rattle.std.proofs.lemmas.Bool.Decides.{nat_tests}
use Rattle.std.proofs.lemmas.List.{length-set, length-replicate, get_or-replicate, get_or_past}
use Rattle.pp_settings.specs.Layout.{page_count}
use Rattle.pp_plan.specs.declared.action.Action.TheVariants as action
use Rattle.pp_cert.specs.declared.note.Held.{Held}
use Rattle.pp_cert.specs.declared.note.Held.TheVariants.{Free, S, X}
use Rattle.pp_cert.specs.Held.{Holding, Holdings, holding_at}
use Rattle.pp_arc.specs.declared.answer.Answer.{Answer}
use Rattle.pp_arc.specs.declared.answer.Answer.TheVariants as answer
use Rattle.pp_arc.specs.FourLists.{FourLists, is_cached, cached_count}
use Rattle.pp_arc.specs.Figure.{request, forget, bring_back}
use Rattle.pp_arc.specs.Laws.{CachesInstead}
use Rattle.pp_arc.proofs.StepLemmas.{times_in-cached}
use Rattle.pp_arc.proofs.LawLemmas.{RequestAnswers-request}
use Rattle.pp_arc.proofs.CacheLemmas.{CachesInstead-request, CachesWithout-forget, CachesAgain-bring_back}
use Rattle.pp_frames.specs.Marks as map
use Rattle.pp_model.specs.Pool.{Stage, acting, writing, reading, leaving, Running, Note, Flush, State, Settings}
use Rattle.pp_model.specs.Pool.{note_of, opening, untouched, frame_of, frame_at, is_dirty, mark_at}
use Rattle.pp_model.specs.Holders.{times, holdings, loading, page_in, held_in, is_busy}
use Rattle.pp_model.specs.Outcome.{with_note, with_frame, with_lists, with_dirty, released, at_stage, having_done}
use Rattle.pp_model.specs.Fixing.{with_frame_moved, free_frame, fixes}
use Rattle.pp_model.specs.Answers.{brought_back}
use Rattle.pp_model.specs.Moves.{seat_of, asked_by}
use Rattle.pp_model.specs.Reached.{IsReached}
use Rattle.pp_model.specs.Marks.{marks}
use Rattle.pp_model.proofs.Sums.{sum_by-term}
use Rattle.pp_model.proofs.Changes as change
use Rattle.pp_model.proofs.Changes.{Change, IsAt, IsAsked, IsAnswered, CanFlush}
use Rattle.pp_model.proofs.Reaching.{IsKept, IsKeptUnder, both, holds}
use Rattle.pp_model.proofs.Requests.{Which, same, other, which, hit_cached, miss_uncached, is_victim}
use Rattle.pp_model.proofs.Totals.{weight, loads_of, victims_of, on_page, seat_loads, seat_victims, sent_in, Totals}
use Rattle.pp_model.proofs.Totals.{no_totals}
use Rattle.pp_model.proofs.Sound.{IsSound, not_in_flight}
use Rattle.pp_model.proofs.Soundness.{Sound, sound_kept, sound, asked_low}
use Rattle.pp_model.proofs.ChangeTotals as totals
use Rattle.pp_model.proofs.MarkChanges.{notes_stay, note_here, note_there, listed_once, listed_other, held_counts}
use Rattle.pp_model.proofs.MarkChanges.{on_page_once}
use Rattle.pp_model.proofs.Places.{IsPlaced, as_placed, out_placed, in_placed, left_free}
use Rattle.pp_model.proofs.FreeFrames.{HasFree, has_free}

-- ---- the notes and the settings stay as long as they are

pub record SameShape (s t : State) : Type 0 where
  pub settings : t.settings ≡ s.settings
  pub notes : length t.notes ≡ length s.notes

pub released_shape : (s : State) (h : Held) (page : ℕ) → SameShape s (released s h page)
released_shape s Free page = record { settings = refl; notes = refl }
released_shape s S page = record { settings = refl; notes = refl }
released_shape s X page = record { settings = refl; notes = notes_stay s page _ }

shaped : (s t u : State) → t ≡ u → u.settings ≡ s.settings → length u.notes ≡ length s.notes → SameShape s t
shaped s t u e k n = record { settings = ap (λ x. x.settings) e ∙ k; notes = ap (λ x. length x.notes) e ∙ n }

pub same_shape : (s t : State) → Change s t → SameShape s t
same_shape s t (change.stays e) = shaped s t _ e refl refl
same_shape s t (change.takes w a idle next fits e) = shaped s t _ e refl refl
same_shape s t (change.hits w r slot page l asked is e) = shaped s t _ e refl refl
same_shape s t (change.fills w r slot page l asked is e) = shaped s t _ e refl (notes_stay s page _)
same_shape s t (change.evicts w r slot page v l asked is clean e) =
    shaped s t _ e refl (length-set (slice_set s.notes v _) page _ ∙ notes_stay s v _)
same_shape s t (change.sends w r slot page v l asked is dirty e) =
    shaped s t _ e refl (length-set (slice_set s.notes v _) page _ ∙ notes_stay s v _)
same_shape s t (change.writes w r slot page v at e) = shaped s t _ e refl (notes_stay s v _)
same_shape s t (change.brings w r slot page v at e) =
    shaped s t _ e refl (length-set (slice_set s.notes page _) v _ ∙ notes_stay s page _)
same_shape s t (change.forgets w r slot page at e) = shaped s t _ e refl (notes_stay s page _)
same_shape s t (change.loads w r slot page stamp at known e) = shaped s t _ e refl (notes_stay s page _)
same_shape s t (change.unfixes w r slot a back asked e) = shaped s t _ e refl refl
same_shape s t (change.latches w r slot m asked goes e) = shaped s t _ e refl refl
same_shape s t (change.unlatches w r slot asked e) =
    let d = released_shape s (held_in r slot) (page_in r slot) in shaped s t _ e d.settings d.notes
same_shape s t (change.chooses w r i asked e) = shaped s t _ e refl refl
same_shape s t (change.unwinds w r slot given k at found e) =
    let d = released_shape s k.held k.page in shaped s t _ e d.settings d.notes
same_shape s t (change.ends w r at asked e) = shaped s t _ e refl refl
same_shape s t (change.leaves w r given at none e) = shaped s t _ e refl refl
same_shape s t (change.flushes page can e) = shaped s t _ e refl refl
same_shape s t (change.cleans f is e) = shaped s t _ e refl (notes_stay s f.page _)
same_shape s t (change.drops f is e) = shaped s t _ e refl refl

-- There are as many notes as pages.
abbrev NotesFit : State → Type 0
NotesFit s = length s.notes ≡ page_count s.settings.layout

notes_kept : IsKept NotesFit
notes_kept = record {
  opens = λ k ok. length-replicate (page_count k.layout) _;
  moves = λ s t c h.
      let d = same_shape s t c in d.notes ∙ h ∙ ap (λ x. page_count x.layout) (sym d.settings);
  submits = λ s a ok e h. h;
  renews = λ s ok e h. h;
}

pub notes_length : (s : State) → IsReached s → length s.notes ≡ page_count s.settings.layout
notes_length s h = holds NotesFit s notes_kept h

-- ---- pages that are cached, held, loaded or written back have a note

pub pages_are : (s : State) → IsReached s → s.lists.pages ≡ length s.notes
pages_are s h = (sound s h).pages ∙ sym (notes_length s h)

pub cached_low : (s : State) → IsReached s → (q : ℕ) → is_cached s.lists q ≡ true → q < length s.notes
cached_low s h q here =
    let below = (sound s h).bounds.below q (omega (arith, times_in-cached s.lists q here)) in
    omega (arith, below, pages_are s h)

pub taken_low : (s : State) → IsReached s → (q : ℕ) → 0 < weight s (on_page q) + loads_of s q → q < length s.notes
taken_low s h q some = cached_low s h q ((sound s h).cached q some)

pub victim_low : (s : State) → IsReached s → (q : ℕ) → 0 < victims_of s q → q < length s.notes
victim_low s h q some = omega (arith, ((sound s h).away q some).1, pages_are s h)

-- ---- a page that is being flushed has a note

pub data FlushTurn (s t : State) : Type 0 where
  lasts : t.flush ≡ s.flush → FlushTurn s t
  begins : (page : ℕ) → is_cached s.lists page ≡ true → is_dirty s page ≡ true → t.lists ≡ s.lists → t.seats ≡ s.seats
      → t.flush ≡ Some (record { page = page; began = mark_at s page }) → FlushTurn s t
  over : t.flush ≡ None → FlushTurn s t

released_flush : (s : State) (h : Held) (page : ℕ) → (released s h page).flush ≡ s.flush
released_flush s Free page = refl
released_flush s S page = refl
released_flush s X page = refl

and_both : (a b : Bool) → (a && b) ≡ true → (a ≡ true) × (b ≡ true)
and_both true b e = (refl, e)
and_both false b e = cc

pub flush_turn : (s t : State) → Change s t → FlushTurn s t
flush_turn s t (change.stays e) = lasts (ap (λ x. x.flush) e)
flush_turn s t (change.takes w a idle next fits e) = lasts (ap (λ x. x.flush) e)
flush_turn s t (change.hits w r slot page l asked is e) = lasts (ap (λ x. x.flush) e)
flush_turn s t (change.fills w r slot page l asked is e) = lasts (ap (λ x. x.flush) e)
flush_turn s t (change.evicts w r slot page v l asked is clean e) = lasts (ap (λ x. x.flush) e)
flush_turn s t (change.sends w r slot page v l asked is dirty e) = lasts (ap (λ x. x.flush) e)
flush_turn s t (change.writes w r slot page v at e) = lasts (ap (λ x. x.flush) e)
flush_turn s t (change.brings w r slot page v at e) = lasts (ap (λ x. x.flush) e)
flush_turn s t (change.forgets w r slot page at e) = lasts (ap (λ x. x.flush) e)
flush_turn s t (change.loads w r slot page stamp at known e) = lasts (ap (λ x. x.flush) e)
flush_turn s t (change.unfixes w r slot a back asked e) = lasts (ap (λ x. x.flush) e)
flush_turn s t (change.latches w r slot m asked goes e) = lasts (ap (λ x. x.flush) e)
flush_turn s t (change.unlatches w r slot asked e) =
    lasts (ap (λ x. x.flush) e ∙ released_flush s (held_in r slot) (page_in r slot))
flush_turn s t (change.chooses w r i asked e) = lasts (ap (λ x. x.flush) e)
flush_turn s t (change.unwinds w r slot given k at found e) =
    lasts (ap (λ x. x.flush) e ∙ released_flush s k.held k.page)
flush_turn s t (change.ends w r at asked e) = lasts (ap (λ x. x.flush) e)
flush_turn s t (change.leaves w r given at none e) = lasts (ap (λ x. x.flush) e)
flush_turn s t (change.flushes page can e) =
    let both = and_both (is_cached s.lists page) (is_dirty s page) can.changed in
    begins page both.0 both.1 (ap (λ x. x.lists) e) (ap (λ x. x.seats) e) (ap (λ x. x.flush) e)
flush_turn s t (change.cleans f is e) = over (ap (λ x. x.flush) e)
flush_turn s t (change.drops f is e) = over (ap (λ x. x.flush) e)

-- There are as many notes as pages, and the page that is being flushed has one.
pub record IsNoted (s : State) : Type 0 where
  pub notes : length s.notes ≡ page_count s.settings.layout
  pub flushed : (f : Flush) → s.flush ≡ Some f → f.page < length s.notes

flush_low : (s t : State) → FlushTurn s t → IsSound s → IsNoted s → (f : Flush) → t.flush ≡ Some f
    → f.page < length s.notes
flush_low s t (lasts e) sound h f is = h.flushed f (sym e ∙ is)
flush_low s t (begins page here dirty lists seats e) sound h f is =
    let below = sound.bounds.below page (omega (arith, times_in-cached s.lists page here)) in
    let same : page ≡ f.page = some_page (sym e ∙ is) in
    omega (arith, below, sound.pages, h.notes, same)
  where
    some_page : {k f : Flush} → Some k ≡ Some f → k.page ≡ f.page
    some_page {k} {f} e = let same : k ≡ f = cc in ap (λ x. x.page) same
flush_low s t (over e) sound h f is = let none : None ≡ Some f = sym e ∙ is in cc

noted_under : IsKeptUnder Sound IsNoted
noted_under = record {
  opens = λ k ok. record { notes = length-replicate (page_count k.layout) _; flushed = λ f e. cc };
  moves = λ s t c sound h.
      let d = same_shape s t c in
      record {
        notes = d.notes ∙ h.notes ∙ ap (λ x. page_count x.layout) (sym d.settings);
        flushed = λ f e. omega (arith, d.notes, flush_low s t (flush_turn s t c) sound.1 h f e);
      };
  submits = λ s a ok e sound h. record { notes = h.notes; flushed = h.flushed };
  renews = λ s ok e sound h. record { notes = h.notes; flushed = h.flushed };
}

is_noted : (s : State) → IsReached s → IsNoted s
is_noted s h = (holds (λ x. Sound x × IsNoted x) s (both Sound IsNoted sound_kept noted_under) h).1

pub flushed_low : (s : State) → IsReached s → (f : Flush) → s.flush ≡ Some f → f.page < length s.notes
flushed_low s h f e = (is_noted s h).flushed f e

-- ---- frames

-- Just the cached pages have a frame, each one of its own.
abbrev pub Placed : State → Type 0
Placed s = IsPlaced s.settings.layout.frames (λ q. is_cached s.lists q ≡ true) (frame_of s)

-- What is kept before the frames are looked at.
abbrev pub Ready : State → Type 0
Ready s = Sound s × IsNoted s

pub ready_kept : IsKept Ready
ready_kept = both Sound IsNoted sound_kept noted_under

pub ready_low : (s : State) → Ready s → (q : ℕ) → is_cached s.lists q ≡ true → q < length s.notes
ready_low s h q here =
    let below = h.0.1.bounds.below q (omega (arith, times_in-cached s.lists q here)) in
    omega (arith, below, h.0.1.pages, h.1.notes)

frame_here : (s : State) (p : ℕ) (f : Option ℕ) → p < length s.notes → frame_of (with_frame s p f) p ≡ f
frame_here s p f low = ap (λ (x : Note). x.frame) (note_here s p (record (note_of s p) { frame = f }) low)

frame_there : (s : State) (p q : ℕ) (f : Option ℕ) → q ≢ p → frame_of (with_frame s p f) q ≡ frame_of s q
frame_there s p q f ne = ap (λ (x : Note). x.frame) (note_there s p q (record (note_of s p) { frame = f }) ne)

-- A note that is written with the same frame.
frames_stay : (s : State) (p : ℕ) (n : Note) → p < length s.notes → n.frame ≡ frame_of s p → (q : ℕ)
    → frame_of (with_note s p n) q ≡ frame_of s q
frames_stay s p n low e q = go (which q p)
  where
    go : Which q p → frame_of (with_note s p n) q ≡ frame_of s q
    go (same d f) =
        ap (frame_of (with_note s p n)) d ∙ ap (λ (x : Note). x.frame) (note_here s p n low) ∙ e
        ∙ ap (frame_of s) (sym d)
    go (other d f) = ap (λ (x : Note). x.frame) (note_there s p q n d)

released_frames : (s : State) (k : Held) (p : ℕ) → p < length s.notes → (q : ℕ)
    → frame_of (released s k p) q ≡ frame_of s q
released_frames s Free p low q = refl
released_frames s S p low q = refl
released_frames s X p low q = frames_stay s p (record (note_of s p) { mark = Some (mark_at s p + 1); dirty = true }) low
    refl q

pub released_lists : (s : State) (k : Held) (p : ℕ) → (released s k p).lists ≡ s.lists
released_lists s Free p = refl
released_lists s S p = refl
released_lists s X p = refl

pub some_of : (o : Option ℕ) → IsSome o → o ≡ Some (unwrap_or o 0)
some_of None h = absurd (cc)
some_of (Some x) h = refl

noted_placed : (s t : State) → Placed s → t.settings ≡ s.settings → t.lists ≡ s.lists
    → ((q : ℕ) → frame_of t q ≡ frame_of s q) → Placed t
noted_placed s t h k l e =
    subst (λ n. IsPlaced n (λ q. is_cached t.lists q ≡ true) (frame_of t)) (sym (ap (λ x. x.layout.frames) k))
    (as_placed s.settings.layout.frames (λ q. is_cached s.lists q ≡ true) (λ q. is_cached t.lists q ≡ true) (frame_of s)
    (frame_of t) h (λ q d. subst (λ x. is_cached x q ≡ true) l d)
    (λ q d. subst (λ x. is_cached x q ≡ true) (sym l) d) e)

-- What ARC's answer makes of the cached pages.
pub answered : (s : State) (page : ℕ) (l : FourLists) (a : Answer) → IsSound s → IsAnswered s page l a
    → a ≢ answer.AllBusy
    → CachesInstead s.lists l page a
answered s page l a h is ok =
    let all = CachesInstead-request s.lists page (is_busy s) h.bounds (λ f. ok (sym is.is ∙ f)) in
    subst (λ x. CachesInstead s.lists x page a) (sym is.after)
    (subst (λ b. CachesInstead s.lists (request s.lists page (is_busy s)).1 page b) is.is all)

-- A page with an errand, or in a slot.
pub loads_one : (s : State) (w : ℕ) (r : Running) (g : Stage) (p : ℕ) → IsAt s w r g → loading g ≡ p ∷ []
    → 0 < loads_of s p
loads_one s w r g p at e =
    omega (
      arith,
      sum_by-term (λ x. times p (seat_loads x)) s.seats w (Some r) at.seat,
      ap (λ k. times p (loading k)) at.stage,
      ap (times p) e,
      listed_once p,
    )

pub sent_one : (s : State) (w : ℕ) (r : Running) (g : Stage) (p : ℕ) → IsAt s w r g → sent_in g ≡ p ∷ []
    → 0 < victims_of s p
sent_one s w r g p at e =
    omega (
      arith,
      sum_by-term (λ x. times p (seat_victims x)) s.seats w (Some r) at.seat,
      ap (λ k. times p (sent_in k)) at.stage,
      ap (times p) e,
      listed_once p,
    )

pub held_one : (s : State) (w : ℕ) (r : Running) (slot : ℕ) (x : Holding) → seat_of s w ≡ Some (Some r)
    → holding_at (holdings r) slot ≡ Some x → 0 < weight s (on_page x.page)
held_one s w r slot x seat found =
    omega (arith, held_counts s w r slot x (on_page x.page) seat found, on_page_once x.page x refl)

-- ---- a page goes into a frame or out of it

pub evict_same : (v q : ℕ) → answer.Evict v ≡ answer.Evict q → q ≡ v
evict_same v q e = let is : v ≡ q = cc in sym is

module _ (s : State) (ready : Ready s) (h : Placed s) where
  fills_placed : (w : ℕ) (r : Running) (slot page : ℕ) (l : FourLists) → IsAsked s w r (fixes (asked_by r) slot page)
      → IsAnswered s page l answer.Free → Placed (with_frame (with_lists s l) page (Some (free_frame s)))
  fills_placed w r slot page l asked is =
      let u = with_lists s l in
      let low : page < length s.notes =
      omega (arith, asked_low s w r slot page l ready.0.0 ready.0.1 asked, ready.0.1.pages, ready.1.notes) in
      let room = ((RequestAnswers-request s.lists page (is_busy s) ready.0.1.bounds).free.0 is.is).1 in
      let free = has_free s h (omega (arith, room, ready.0.1.c)) in
      let all = answered s page l answer.Free ready.0.1 is (λ f. absurd (cc)) in
      in_placed s.settings.layout.frames (λ q. is_cached s.lists q ≡ true) (λ q. is_cached l q ≡ true) (frame_of s)
      (frame_of (with_frame u page (Some (free_frame s)))) page (free_frame s) h free.low free.nobody
      (λ q d. elim ((all q).0 d) [ inl e ↦ inl e | inr e ↦ inr e.0 ])
      ((all page).1 (inl refl)) (λ q c. (all q).1 (inr (c, λ f. absurd (cc))))
      (frame_here u page (Some (free_frame s)) low) (λ q ne. frame_there u page q (Some (free_frame s)) ne)

  -- The victim's frame becomes the page's.
  moved_placed : (w : ℕ) (r : Running) (slot page v : ℕ) (l : FourLists) → IsAsked s w r (fixes (asked_by r) slot page)
      → IsAnswered s page l (answer.Evict v) → Placed (with_frame_moved (with_lists s l) page v)
  moved_placed w r slot page v l asked is =
      let u = with_lists s l in
      let u1 = with_frame u v None in
      let k = frame_at s v in
      let victim = is_victim s.lists page (is_busy s) v ready.0.1.bounds is.is in
      let vlow = ready_low s ready v victim.was_cached in
      let low : page < length s.notes =
      omega (arith, asked_low s w r slot page l ready.0.0 ready.0.1 asked, ready.0.1.pages, ready.1.notes) in
      let low1 : page < length u1.notes = omega (arith, low, notes_stay u v (record (note_of u v) { frame = None })) in
      let was : frame_of s v ≡ Some k = some_of (frame_of s v) (h.placed v victim.was_cached) in
      let all = answered s page l (answer.Evict v) ready.0.1 is (λ f. absurd (cc)) in
      let n = s.settings.layout.frames in
      let out : IsPlaced n (λ q. (is_cached s.lists q ≡ true) × (q ≢ v)) (frame_of u1) =
      out_placed n (λ q. is_cached s.lists q ≡ true) (λ q. (is_cached s.lists q ≡ true) × (q ≢ v)) (frame_of s)
      (frame_of u1) v h (λ q d. d) (λ q c ne. (c, ne)) (frame_here u v None vlow) (λ q ne. frame_there u v q None ne) in
      let nobody : (q : ℕ) → frame_of u1 q ≡ Some k → ⊥ =
      left_free n (λ q. is_cached s.lists q ≡ true) (frame_of s) (frame_of u1) v k h was (frame_here u v None vlow)
      (λ q ne. frame_there u v q None ne) in
      in_placed n (λ q. (is_cached s.lists q ≡ true) × (q ≢ v)) (λ q. is_cached l q ≡ true) (frame_of u1)
      (frame_of (with_frame u1 page (Some k))) page k out (h.in_range v k was) nobody
      (λ q d. elim ((all q).0 d) [ inl e ↦ inl e | inr e ↦ inr (e.0, λ f. e.1 (ap answer.Evict (sym f))) ])
      ((all page).1 (inl refl)) (λ q c. (all q).1 (inr (c.0, λ f. c.1 (evict_same v q f))))
      (frame_here u1 page (Some k) low1) (λ q ne. frame_there u1 page q (Some k) ne)

  -- A page that was not read goes out of its frame.
  forgotten_placed : (w : ℕ) (r : Running) (slot page : ℕ) → IsAt s w r (reading slot page)
      → Placed (with_frame (with_lists s (forget s.lists page)) page None)
  forgotten_placed w r slot page at =
      let u = with_lists s (forget s.lists page) in
      let some = loads_one s w r (reading slot page) page at refl in
      let here = ready.0.1.cached page (omega (arith, some)) in
      let low = ready_low s ready page here in
      out_placed s.settings.layout.frames (λ q. is_cached s.lists q ≡ true)
      (λ q. is_cached (forget s.lists page) q ≡ true) (frame_of s)
      (frame_of (with_frame u page None)) page h (λ q d. (CachesWithout-forget s.lists page q).0 d)
      (λ q c ne. (CachesWithout-forget s.lists page q).1 (c, ne))
      (frame_here u page None low) (λ q ne. frame_there u page q None ne)

  -- The victim is in its old frame again.
  brought_placed : (w : ℕ) (r : Running) (slot page v : ℕ) → IsAt s w r (writing slot page v)
      → Placed (brought_back s page v)
  brought_placed w r slot page v at =
      let u = with_lists s (bring_back s.lists page v) in
      let u1 = with_frame u page None in
      let k = frame_at s page in
      let n = s.settings.layout.frames in
      let some = loads_one s w r (writing slot page v) page at refl in
      let here = ready.0.1.cached page (omega (arith, some)) in
      let low = ready_low s ready page here in
      let away = ready.0.1.away v (sent_one s w r (writing slot page v) v at refl) in
      let vlow : v < length u1.notes =
      omega (
        arith,
        away.1,
        ready.0.1.pages,
        ready.1.notes,
        notes_stay u page (record (note_of u page) { frame = None }),
      ) in
      let was : frame_of s page ≡ Some k = some_of (frame_of s page) (h.placed page here) in
      let out : IsPlaced n (λ q. (is_cached s.lists q ≡ true) × (q ≢ page)) (frame_of u1) =
      out_placed n (λ q. is_cached s.lists q ≡ true) (λ q. (is_cached s.lists q ≡ true) × (q ≢ page)) (frame_of s)
      (frame_of u1) page h (λ q d. d) (λ q c ne. (c, ne)) (frame_here u page None low)
      (λ q ne. frame_there u page q None ne) in
      let nobody : (q : ℕ) → frame_of u1 q ≡ Some k → ⊥ =
      left_free n (λ q. is_cached s.lists q ≡ true) (frame_of s) (frame_of u1) page k h was (frame_here u page None low)
      (λ q ne. frame_there u page q None ne) in
      in_placed n (λ q. (is_cached s.lists q ≡ true) × (q ≢ page))
      (λ q. is_cached (bring_back s.lists page v) q ≡ true) (frame_of u1) (frame_of (brought_back s page v)) v k out
      (h.in_range page k was) nobody (λ q d. (CachesAgain-bring_back s.lists page v q).0 d)
      ((CachesAgain-bring_back s.lists page v v).1 (inl refl))
      (λ q c. (CachesAgain-bring_back s.lists page v q).1 (inr c))
      (frame_here u1 v (frame_of s page) vlow ∙ was) (λ q ne. frame_there u1 v q (frame_of s page) ne)

  -- The slot's page of an action is one of the pool's.
  slot_low : (w : ℕ) (r : Running) (slot : ℕ) (x : Holding) → seat_of s w ≡ Some (Some r)
      → holding_at (holdings r) slot ≡ Some x → x.page < length s.notes
  slot_low w r slot x seat found =
      ready_low s ready x.page (ready.0.1.cached x.page (omega (arith, held_one s w r slot x seat found)))

  hits_placed : (slot page : ℕ) (l : FourLists) → IsAnswered s page l answer.Hit → Placed (with_lists s l)
  hits_placed slot page l is =
      let all = answered s page l answer.Hit ready.0.1 is (λ f. absurd (cc)) in
      let here = hit_cached s.lists page (is_busy s) ready.0.1.bounds is.is in
      as_placed s.settings.layout.frames (λ q. is_cached s.lists q ≡ true) (λ q. is_cached l q ≡ true) (frame_of s)
      (frame_of s) h (λ q d.
      elim ((all q).0 d) [ inl e ↦ subst (λ p. is_cached s.lists p ≡ true) (sym e) here | inr e ↦ e.0 ])
      (λ q c. (all q).1 (inr (c, λ f. absurd (cc)))) (λ q. refl)

placed_moves : (s t : State) → Change s t → Ready s → Placed s → Placed t
placed_moves s t (change.stays e) ready h = subst Placed (sym e) h
placed_moves s t (change.takes w a idle next fits e) ready h = subst Placed (sym e) h
placed_moves s t (change.hits w r slot page l asked is e) ready h =
    subst Placed (sym e) (hits_placed s ready h slot page l is)
placed_moves s t (change.fills w r slot page l asked is e) ready h =
    subst Placed (sym e) (fills_placed s ready h w r slot page l asked is)
placed_moves s t (change.evicts w r slot page v l asked is clean e) ready h =
    subst Placed (sym e) (moved_placed s ready h w r slot page v l asked is)
placed_moves s t (change.sends w r slot page v l asked is dirty e) ready h =
    subst Placed (sym e) (moved_placed s ready h w r slot page v l asked is)
placed_moves s t (change.writes w r slot page v at e) ready h =
    let away = ready.0.1.away v (sent_one s w r (writing slot page v) v at refl) in
    let low : v < length s.notes = omega (arith, away.1, ready.0.1.pages, ready.1.notes) in
    subst Placed (sym e)
    (noted_placed s (with_dirty s v false) h refl refl
    (frames_stay s v (record (note_of s v) { dirty = false }) low refl))
placed_moves s t (change.brings w r slot page v at e) ready h =
    subst Placed (sym e) (brought_placed s ready h w r slot page v at)
placed_moves s t (change.forgets w r slot page at e) ready h =
    subst Placed (sym e) (forgotten_placed s ready h w r slot page at)
placed_moves s t (change.loads w r slot page stamp at known e) ready h =
    let some = loads_one s w r (reading slot page) page at refl in
    let low = ready_low s ready page (ready.0.1.cached page (omega (arith, some))) in
    subst Placed (sym e) (noted_placed s (with_note s page (record (note_of s page) { mark = Some stamp })) h refl refl
    (frames_stay s page (record (note_of s page) { mark = Some stamp }) low refl))
placed_moves s t (change.unfixes w r slot a back asked e) ready h = subst Placed (sym e) h
placed_moves s t (change.latches w r slot m asked goes e) ready h = subst Placed (sym e) h
placed_moves s t (change.unlatches w r slot asked e) ready h =
    let does = totals.asked_does s t w r ready.0.0 (action.Unlatch slot) asked in
    let p = page_in r slot in
    let k = held_in r slot in
    let at : page_in r slot ≡ does.0.page = ap (λ o. unwrap_or (option_map (λ k. k.page) o) 0) does.1 in
    let low : p < length s.notes = omega (arith, at, slot_low s ready h w r slot does.0 asked.at.seat does.1) in
    let d = released_shape s k p in
    noted_placed s t h (ap (λ x. x.settings) e ∙ d.settings) (ap (λ x. x.lists) e ∙ released_lists s k p)
    (λ q. ap (λ x. frame_of x q) e ∙ released_frames s k p low q)
placed_moves s t (change.chooses w r i asked e) ready h = subst Placed (sym e) h
placed_moves s t (change.unwinds w r slot given k at found e) ready h =
    let d = released_shape s k.held k.page in
    let low = slot_low s ready h w r slot k at.seat found in
    noted_placed s t h (ap (λ x. x.settings) e ∙ d.settings) (ap (λ x. x.lists) e ∙ released_lists s k.held k.page)
    (λ q. ap (λ x. frame_of x q) e ∙ released_frames s k.held k.page low q)
placed_moves s t (change.ends w r at asked e) ready h = subst Placed (sym e) h
placed_moves s t (change.leaves w r given at none e) ready h = subst Placed (sym e) h
placed_moves s t (change.flushes page can e) ready h = subst Placed (sym e) h
placed_moves s t (change.cleans f is e) ready h =
    subst Placed (sym e)
    (noted_placed s (with_dirty s f.page false) h refl refl
    (frames_stay s f.page (record (note_of s f.page) { dirty = false }) (ready.1.flushed f is) refl))
placed_moves s t (change.drops f is e) ready h = subst Placed (sym e) h

-- ---- pages that are newer than the device's

-- Such a page is cached and not being loaded, or it is a victim that is written back.
abbrev pub Dirties : State → Type 0
Dirties s =
    (q : ℕ) → is_dirty s q ≡ true
    → ((is_cached s.lists q ≡ true) × (loads_of s q ≡ 0)) ⊎ (0 < victims_of s q)

-- A note that is written with the same dirty mark.
dirty_stays : (s : State) (p : ℕ) (n : Note) → p < length s.notes → n.dirty ≡ is_dirty s p → (q : ℕ)
    → is_dirty (with_note s p n) q ≡ is_dirty s q
dirty_stays s p n low e q = go (which q p)
  where
    go : Which q p → is_dirty (with_note s p n) q ≡ is_dirty s q
    go (same d f) =
        ap (is_dirty (with_note s p n)) d ∙ ap (λ (x : Note). x.dirty) (note_here s p n low) ∙ e
        ∙ ap (is_dirty s) (sym d)
    go (other d f) = ap (λ (x : Note). x.dirty) (note_there s p q n d)

-- A note that is written clean.
dirty_falls : (s : State) (p : ℕ) (n : Note) → p < length s.notes → n.dirty ≡ false → (q : ℕ)
    → is_dirty (with_note s p n) q ≡ true → (is_dirty s q ≡ true) × (q ≢ p)
dirty_falls s p n low e q dirty = go (which q p)
  where
    go : Which q p → (is_dirty s q ≡ true) × (q ≢ p)
    go (same d f) =
        let clean : is_dirty (with_note s p n) q ≡ false =
        ap (is_dirty (with_note s p n)) d ∙ ap (λ (x : Note). x.dirty) (note_here s p n low) ∙ e in
        absurd (false≢true (sym clean ∙ dirty))
    go (other d f) = (sym (ap (λ (x : Note). x.dirty) (note_there s p q n d)) ∙ dirty, d)

-- Where a latch goes off, only the page of an X latch becomes dirty.
released_dirty : (s : State) (k : Held) (p q : ℕ) → p < length s.notes → is_dirty (released s k p) q ≡ true
    → (is_dirty s q ≡ true) ⊎ (q ≡ p)
released_dirty s Free p q low e = inl e
released_dirty s S p q low e = inl e
released_dirty s X p q low e = go (which q p)
  where
    go : Which q p → (is_dirty s q ≡ true) ⊎ (q ≡ p)
    go (same d f) = inr d
    go (other d f) =
        inl (sym (ap (λ (x : Note). x.dirty)
        (note_there s p q (record (note_of s p) { mark = Some (mark_at s p + 1); dirty = true }) d)) ∙ e)

-- Pages stay cached, and no page becomes dirty that is loaded.
calm : (s t : State) → Dirties s
    → ((q : ℕ) → is_dirty t q ≡ true → (is_dirty s q ≡ true) ⊎ ((is_cached s.lists q ≡ true) × (loads_of s q ≡ 0)))
    → ((q : ℕ) → is_cached s.lists q ≡ true → is_cached t.lists q ≡ true)
    → ((q : ℕ) → loads_of t q ≤ loads_of s q) → ((q : ℕ) → victims_of s q ≤ victims_of t q) → Dirties t
calm s t h dirty cached loads victims q e = go (dirty q e)
  where
    kept : ((is_cached s.lists q ≡ true) × (loads_of s q ≡ 0)) ⊎ (0 < victims_of s q)
        → ((is_cached t.lists q ≡ true) × (loads_of t q ≡ 0)) ⊎ (0 < victims_of t q)
    kept (inl a) = inl (cached q a.0, omega (arith, loads q, a.1))
    kept (inr b) = inr (omega (arith, victims q, b))

    go : (is_dirty s q ≡ true) ⊎ ((is_cached s.lists q ≡ true) × (loads_of s q ≡ 0))
        → ((is_cached t.lists q ≡ true) × (loads_of t q ≡ 0)) ⊎ (0 < victims_of t q)
    go (inl was) = kept (h q was)
    go (inr a) = kept (inl a)

-- The lists and the notes stay.
still : (s t : State) (out into : Holdings) (li : List ℕ) → Dirties s → t.notes ≡ s.notes → t.lists ≡ s.lists
    → Totals s t out into li [] [] [] → Dirties t
still s t out into li h n l d =
    calm s t h (λ q e. inl (sym (ap (λ (x : List Note). (get_or x q untouched).dirty) n) ∙ e))
    (λ q c. subst (λ x. is_cached x q ≡ true) (sym l) c)
    (λ q. omega (arith, d.loads q)) (λ q. omega (arith, d.victims q))

-- A page that is loaded is clean.
loading_clean : (s : State) (q : ℕ) → IsSound s → Dirties s → 0 < loads_of s q → is_dirty s q ≡ true → ⊥
loading_clean s q sound h some e = go (h q e)
  where
    go : ((is_cached s.lists q ≡ true) × (loads_of s q ≡ 0)) ⊎ (0 < victims_of s q) → ⊥
    go (inl a) = absurd (omega (arith, some, a.1))
    go (inr b) = absurd (omega (arith, some, b, sound.alone q))

-- ---- the dirty pages after a move

-- Another page is loaded. The pages that ARC keeps stay, and a victim that is dirty is written back.
fixed_dirties : (s t : State) (page : ℕ) (l : FourLists) (a : Answer) (vi : List ℕ) → IsSound s → Dirties s
    → IsAnswered s page l a → a ≢ answer.Hit → a ≢ answer.AllBusy → t.lists ≡ l
    → ((q : ℕ) → is_dirty t q ≡ is_dirty s q)
    → ((q : ℕ) → a ≡ answer.Evict q → is_dirty s q ≡ true → 0 < times q vi)
    → Totals s t [] [] [] (page ∷ []) [] vi → Dirties t
fixed_dirties s t page l a vi sound h is not_hit ok lists same_dirt sends d q e =
    go (which page q) (h q (sym (same_dirt q) ∙ e)) (evicts a)
  where
    grounded : loads_of s page + victims_of s page ≡ 0
    grounded = not_in_flight s page is.grounded

    gone : is_cached s.lists page ≡ false
    gone = miss_uncached s.lists page (is_busy s) (λ f. not_hit (sym is.is ∙ f))

    evicts : (b : Answer) → (b ≡ answer.Evict q) ⊎ (b ≢ answer.Evict q)
    evicts answer.Hit = inr (λ f. absurd (cc))
    evicts answer.Free = inr (λ f. absurd (cc))
    evicts answer.AllBusy = inr (λ f. absurd (cc))
    evicts (answer.Evict v) = named (which v q)
      where
        named : Which v q → (answer.Evict v ≡ answer.Evict q) ⊎ (answer.Evict v ≢ answer.Evict q)
        named (same f g) = inl (ap answer.Evict f)
        named (other f g) = inr (λ k. f (sym (evict_same v q k)))

    go : Which page q → ((is_cached s.lists q ≡ true) × (loads_of s q ≡ 0)) ⊎ (0 < victims_of s q)
        → (a ≡ answer.Evict q) ⊎ (a ≢ answer.Evict q)
        → ((is_cached t.lists q ≡ true) × (loads_of t q ≡ 0)) ⊎ (0 < victims_of t q)
    go (same f g) (inl b) x =
        absurd (false≢true (sym gone ∙ ap (is_cached s.lists) f ∙ b.0))
    go (same f g) (inr b) x = absurd (omega (arith, grounded, ap (victims_of s) f, b))
    go (other f g) (inl b) (inl x) =
        inr (omega (arith, d.victims q, sends q x (sym (same_dirt q) ∙ e)))
    go (other f g) (inl b) (inr x) =
        inl (
          subst (λ y. is_cached y q ≡ true) (sym lists) ((answered s page l a sound is ok q).1 (inr (b.0, x))),
          omega (arith, d.loads q, listed_other page q f, b.1),
        )
    go (other f g) (inr b) x = inr (omega (arith, d.victims q, b))

-- The victim was not written, and is cached again.
brought_dirties : (s t : State) (page v : ℕ) → IsSound s → Dirties s → 0 < loads_of s page → 0 < victims_of s v
    → t.lists ≡ bring_back s.lists page v → ((q : ℕ) → is_dirty t q ≡ is_dirty s q)
    → Totals s t [] [] (page ∷ []) [] (v ∷ []) [] → Dirties t
brought_dirties s t page v sound h loaded sent lists same_dirt d q e = go (which v q) (h q (sym (same_dirt q) ∙ e))
  where
    cached : (q ≡ v) ⊎ ((is_cached s.lists q ≡ true) × (q ≢ page)) → is_cached t.lists q ≡ true
    cached x = subst (λ y. is_cached y q ≡ true) (sym lists) ((CachesAgain-bring_back s.lists page v q).1 x)

    go : Which v q → ((is_cached s.lists q ≡ true) × (loads_of s q ≡ 0)) ⊎ (0 < victims_of s q)
        → ((is_cached t.lists q ≡ true) × (loads_of t q ≡ 0)) ⊎ (0 < victims_of t q)
    go (same f g) b =
        inl (cached (inl (sym f)), omega (arith, d.loads q, sound.alone q, sent, ap (victims_of s) f))
    go (other f g) (inl b) =
        inl (
          cached (inr (b.0, λ k. absurd (omega (arith, loaded, b.1, ap (loads_of s) k)))),
          omega (arith, d.loads q, b.1),
        )
    go (other f g) (inr b) = inr (omega (arith, d.victims q, listed_other v q f, b))

-- The page was not read, and is not cached.
forgotten_dirties : (s t : State) (page : ℕ) → IsSound s → Dirties s → 0 < loads_of s page
    → t.lists ≡ forget s.lists page → ((q : ℕ) → is_dirty t q ≡ is_dirty s q)
    → Totals s t [] [] (page ∷ []) [] [] [] → Dirties t
forgotten_dirties s t page sound h loaded lists same_dirt d q e = go (h q (sym (same_dirt q) ∙ e))
  where
    go : ((is_cached s.lists q ≡ true) × (loads_of s q ≡ 0)) ⊎ (0 < victims_of s q)
        → ((is_cached t.lists q ≡ true) × (loads_of t q ≡ 0)) ⊎ (0 < victims_of t q)
    go (inl b) =
        inl (
          subst (λ y. is_cached y q ≡ true) (sym lists)
              ((CachesWithout-forget s.lists page q).1
              (b.0, λ k. absurd (omega (arith, loaded, b.1, ap (loads_of s) k)))),
          omega (arith, d.loads q, b.1),
        )
    go (inr b) = inr (omega (arith, d.victims q, b))

-- The victim is on the device, and clean.
written_dirties : (s t : State) (v : ℕ) → Dirties s → t.lists ≡ s.lists
    → ((q : ℕ) → is_dirty t q ≡ true → (is_dirty s q ≡ true) × (q ≢ v))
    → Totals s t [] [] [] [] (v ∷ []) [] → Dirties t
written_dirties s t v h lists dirt d q e = go (h q (dirt q e).0)
  where
    go : ((is_cached s.lists q ≡ true) × (loads_of s q ≡ 0)) ⊎ (0 < victims_of s q)
        → ((is_cached t.lists q ≡ true) × (loads_of t q ≡ 0)) ⊎ (0 < victims_of t q)
    go (inl b) = inl (subst (λ y. is_cached y q ≡ true) (sym lists) b.0, omega (arith, d.loads q, b.1))
    go (inr b) = inr (omega (arith, d.victims q, listed_other v q (λ f. (dirt q e).1 (sym f)), b))

-- Two notes are written, neither with another dirty mark.
moved_dirt : (s : State) (a b : ℕ) (f g : Option ℕ) → a < length s.notes → b < length s.notes → (q : ℕ)
    → is_dirty (with_frame (with_frame s a f) b g) q ≡ is_dirty s q
moved_dirt s a b f g la lb q =
    let n = record (note_of s a) { frame = f } in
    let u = with_note s a n in
    dirty_stays u b (record (note_of u b) { frame = g }) (omega (arith, lb, notes_stay s a n)) refl q
    ∙ dirty_stays s a n la refl q

-- A page that a slot holds isn't being loaded.
pub unloaded : (s : State) (p : ℕ) → IsSound s → 0 < weight s (on_page p) → loads_of s p ≡ 0
unloaded s p h some = go (nat_lt 0 (loads_of s p)) refl
  where
    go : (b : Bool) → nat_lt 0 (loads_of s p) ≡ b → loads_of s p ≡ 0
    go true e = let none = h.fresh p (grind (arith, nat_tests)) in absurd (omega (arith, none, some))
    go false e = grind (arith, nat_tests)

-- A latch goes off a page that a slot holds.
loosed : (s t : State) (p : ℕ) (k : Held) → IsSound s → Dirties s → 0 < weight s (on_page p) → p < length s.notes
    → ((q : ℕ) → is_dirty t q ≡ is_dirty (released s k p) q) → t.lists ≡ s.lists
    → (out into : Holdings) → Totals s t out into [] [] [] [] → Dirties t
loosed s t p k sound h some low dirt lists out into d =
    calm s t h
    (λ q e. elim (released_dirty s k p q low (sym (dirt q) ∙ e)) [
      | inl was ↦ inl was
      | inr is ↦ inr (
        subst (λ x. is_cached s.lists x ≡ true) (sym is) (sound.cached p (omega (arith, some))),
        omega (arith, unloaded s p sound some, ap (loads_of s) is),
      )
    ])
    (λ q c. subst (λ x. is_cached x q ≡ true) (sym lists) c)
    (λ q. omega (arith, d.loads q)) (λ q. omega (arith, d.victims q))

dirty_moves : (s t : State) → Change s t → Ready s → Dirties s → Dirties t
dirty_moves s t (change.stays e) ready h = subst Dirties (sym e) h
dirty_moves s t (change.takes w a idle next fits e) ready h =
    still s t [] [] [] h (ap (λ x. x.notes) e) (ap (λ x. x.lists) e)
    (totals.taken_totals s t w a idle (ap (λ x. x.seats) e))
dirty_moves s t (change.hits w r slot page l asked is e) ready h =
    let d = totals.hit_totals s t w r ready.0.0 slot page asked (ap (λ x. x.seats) e) in
    let all = answered s page l answer.Hit ready.0.1 is (λ f. absurd (cc)) in
    calm s t h (λ q k. inl (sym (ap (λ x. is_dirty x q) e) ∙ k))
    (λ q c. subst (λ x. is_cached x q ≡ true) (sym (ap (λ x. x.lists) e)) ((all q).1 (inr (c, λ f. absurd (cc)))))
    (λ q. omega (arith, d.loads q)) (λ q. omega (arith, d.victims q))
dirty_moves s t (change.fills w r slot page l asked is e) ready h =
    let d = totals.sent_totals s t w r ready.0.0 (reading slot page) refl asked.at (ap (λ x. x.seats) e) in
    let u = with_lists s l in
    let n = record (note_of s page) { frame = Some (free_frame s) } in
    let low : page < length s.notes =
    omega (arith, asked_low s w r slot page l ready.0.0 ready.0.1 asked, ready.0.1.pages, ready.1.notes) in
    fixed_dirties s t page l answer.Free [] ready.0.1 h is (λ f. absurd (cc)) (λ f. absurd (cc)) (ap (λ x. x.lists) e)
    (λ q. ap (λ x. is_dirty x q) e ∙ dirty_stays u page n low refl q) (λ q f. absurd (cc)) d
dirty_moves s t (change.evicts w r slot page v l asked is clean e) ready h =
    let d = totals.sent_totals s t w r ready.0.0 (reading slot page) refl asked.at (ap (λ x. x.seats) e) in
    let u = with_lists s l in
    let low : page < length s.notes =
    omega (arith, asked_low s w r slot page l ready.0.0 ready.0.1 asked, ready.0.1.pages, ready.1.notes) in
    let vlow = ready_low s ready v (is_victim s.lists page (is_busy s) v ready.0.1.bounds is.is).was_cached in
    fixed_dirties s t page l (answer.Evict v) [] ready.0.1 h is (λ f. absurd (cc)) (λ f. absurd (cc))
    (ap (λ x. x.lists) e) (λ q. ap (λ x. is_dirty x q) e ∙ moved_dirt u v page None (Some (frame_at s v)) vlow low q)
    (λ q f dirty. absurd (false≢true (sym clean ∙ ap (is_dirty s) (sym (evict_same v q f)) ∙ dirty))) d
dirty_moves s t (change.sends w r slot page v l asked is dirty e) ready h =
    let d = totals.sent_totals s t w r ready.0.0 (writing slot page v) refl asked.at (ap (λ x. x.seats) e) in
    let u = with_lists s l in
    let low : page < length s.notes =
    omega (arith, asked_low s w r slot page l ready.0.0 ready.0.1 asked, ready.0.1.pages, ready.1.notes) in
    let vlow = ready_low s ready v (is_victim s.lists page (is_busy s) v ready.0.1.bounds is.is).was_cached in
    fixed_dirties s t page l (answer.Evict v) (v ∷ []) ready.0.1 h is (λ f. absurd (cc)) (λ f. absurd (cc))
    (ap (λ x. x.lists) e) (λ q. ap (λ x. is_dirty x q) e ∙ moved_dirt u v page None (Some (frame_at s v)) vlow low q)
    (λ q f dirty. subst (λ x. 0 < times x (v ∷ [])) (sym (evict_same v q f)) (omega (arith, listed_once v))) d
dirty_moves s t (change.writes w r slot page v at e) ready h =
    let d = totals.written_totals s t w r ready.0.0 slot page v at (ap (λ x. x.seats) e) in
    let away = ready.0.1.away v (sent_one s w r (writing slot page v) v at refl) in
    let low : v < length s.notes = omega (arith, away.1, ready.0.1.pages, ready.1.notes) in
    written_dirties s t v h (ap (λ x. x.lists) e)
    (λ q k. dirty_falls s v (record (note_of s v) { dirty = false }) low refl q (sym (ap (λ x. is_dirty x q) e) ∙ k)) d
dirty_moves s t (change.brings w r slot page v at e) ready h =
    let d = totals.lost_totals s t w r ready.0.0 (writing slot page v) refl at (ap (λ x. x.seats) e) in
    let u = with_lists s (bring_back s.lists page v) in
    let some = loads_one s w r (writing slot page v) page at refl in
    let sent = sent_one s w r (writing slot page v) v at refl in
    let low = ready_low s ready page (ready.0.1.cached page (omega (arith, some))) in
    let vlow : v < length s.notes = omega (arith, (ready.0.1.away v sent).1, ready.0.1.pages, ready.1.notes) in
    brought_dirties s t page v ready.0.1 h some sent (ap (λ x. x.lists) e)
    (λ q. ap (λ x. is_dirty x q) e ∙ moved_dirt u page v None (frame_of s page) low vlow q) d
dirty_moves s t (change.forgets w r slot page at e) ready h =
    let d = totals.lost_totals s t w r ready.0.0 (reading slot page) refl at (ap (λ x. x.seats) e) in
    let u = with_lists s (forget s.lists page) in
    let some = loads_one s w r (reading slot page) page at refl in
    let low = ready_low s ready page (ready.0.1.cached page (omega (arith, some))) in
    forgotten_dirties s t page ready.0.1 h some (ap (λ x. x.lists) e)
    (λ q. ap (λ x. is_dirty x q) e ∙ dirty_stays u page (record (note_of s page) { frame = None }) low refl q) d
dirty_moves s t (change.loads w r slot page stamp at known e) ready h =
    let d = totals.loaded_totals s t w r ready.0.0 slot page at (ap (λ x. x.seats) e) in
    let some = loads_one s w r (reading slot page) page at refl in
    let low = ready_low s ready page (ready.0.1.cached page (omega (arith, some))) in
    calm s t h
    (λ q k. inl (sym (ap (λ x. is_dirty x q) e ∙ dirty_stays s page (record (note_of s page) { mark = Some stamp }) low
    refl q) ∙ k))
    (λ q c. subst (λ x. is_cached x q ≡ true) (sym (ap (λ x. x.lists) e)) c)
    (λ q. omega (arith, d.loads q)) (λ q. omega (arith, d.victims q))
dirty_moves s t (change.unfixes w r slot a back asked e) ready h =
    let d = totals.unfix_totals s t w r ready.0.0 slot a back asked (ap (λ x. x.seats) e) in
    still s t d.0 [] [] h (ap (λ x. x.notes) e) (ap (λ x. x.lists) e) d.2
dirty_moves s t (change.latches w r slot m asked goes e) ready h =
    still s t _ _ [] h (ap (λ x. x.notes) e) (ap (λ x. x.lists) e)
    (totals.latch_totals s t w r ready.0.0 slot m asked (ap (λ x. x.seats) e))
dirty_moves s t (change.unlatches w r slot asked e) ready h =
    let does = totals.asked_does s t w r ready.0.0 (action.Unlatch slot) asked in
    let p = page_in r slot in
    let k = held_in r slot in
    let at : p ≡ does.0.page = ap (λ o. unwrap_or (option_map (λ k. k.page) o) 0) does.1 in
    let d = totals.unlatch_totals s t w r ready.0.0 slot asked
    (ap (λ x. x.seats) e
    ∙ ap (λ x. slice_set x w (Some (having_done r (action.Unlatch slot)))) (totals.released_seats s k p)) in
    let some : 0 < weight s (on_page p) =
    subst (λ x. 0 < weight s (on_page x)) (sym at) (held_one s w r slot does.0 asked.at.seat does.1) in
    let low : p < length s.notes = ready_low s ready p (ready.0.1.cached p (omega (arith, some))) in
    loosed s t p k ready.0.1 h some low (λ q. ap (λ x. is_dirty x q) e)
    (ap (λ x. x.lists) e ∙ released_lists s k p) _ _ d
dirty_moves s t (change.chooses w r i asked e) ready h =
    still s t [] [] [] h (ap (λ x. x.notes) e) (ap (λ x. x.lists) e)
    (totals.choose_totals s t w r ready.0.0 i asked (ap (λ x. x.seats) e))
dirty_moves s t (change.unwinds w r slot given k at found e) ready h =
    let d = totals.unwound_totals s t w r ready.0.0 slot given at
    (ap (λ x. x.seats) e
    ∙ ap (λ x. slice_set x w (Some (at_stage r (leaving (slot ∷ given))))) (totals.released_seats s k.held k.page)) in
    let some = held_one s w r slot k at.seat found in
    let low : k.page < length s.notes = ready_low s ready k.page (ready.0.1.cached k.page (omega (arith, some))) in
    loosed s t k.page k.held ready.0.1 h some low (λ q. ap (λ x. is_dirty x q) e)
    (ap (λ x. x.lists) e ∙ released_lists s k.held k.page) _ _ d
dirty_moves s t (change.ends w r at asked e) ready h =
    still s t _ [] [] h (ap (λ x. x.notes) e) (ap (λ x. x.lists) e)
    (totals.idle_totals s t w r ready.0.0 acting refl refl at (ap (λ x. x.seats) e))
dirty_moves s t (change.leaves w r given at none e) ready h =
    still s t _ [] [] h (ap (λ x. x.notes) e) (ap (λ x. x.lists) e)
    (totals.idle_totals s t w r ready.0.0 (leaving given) refl refl at (ap (λ x. x.seats) e))
dirty_moves s t (change.flushes page can e) ready h =
    still s t [] [] [] h (ap (λ x. x.notes) e) (ap (λ x. x.lists) e) (no_totals s t (ap (λ x. x.seats) e))
dirty_moves s t (change.cleans f is e) ready h =
    let d = no_totals s t (ap (λ x. x.seats) e) in
    calm s t h
    (λ q k. inl (dirty_falls s f.page (record (note_of s f.page) { dirty = false }) (ready.1.flushed f is) refl q
    (sym (ap (λ x. is_dirty x q) e) ∙ k)).0)
    (λ q c. subst (λ x. is_cached x q ≡ true) (sym (ap (λ x. x.lists) e)) c)
    (λ q. omega (arith, d.loads q)) (λ q. omega (arith, d.victims q))
dirty_moves s t (change.drops f is e) ready h =
    still s t [] [] [] h (ap (λ x. x.notes) e) (ap (λ x. x.lists) e) (no_totals s t (ap (λ x. x.seats) e))

-- ---- all reached states

pub fresh_note : (k : Settings) (q : ℕ) → note_of (opening k) q ≡ untouched
fresh_note k q =
    elim (cases_lt q (page_count k.layout)) [
      | inl lt ↦ get_or-replicate (page_count k.layout) q untouched untouched lt
      | inr le ↦ get_or_past (opening k).notes q untouched
          (omega (arith, le, length-replicate (page_count k.layout) untouched))
    ]

fresh_none : (k : Settings) (q : ℕ) → IsSome (frame_of (opening k) q) → ⊥
fresh_none k q some =
    false≢true (subst (λ (o : Option ℕ). IsSome o) (ap (λ (x : Note). x.frame) (fresh_note k q)) some)

fresh_placed : (k : Settings) → Placed (opening k)
fresh_placed k = record {
  placed = λ q c. absurd (false≢true c);
  cached = λ q some. absurd (fresh_none k q some);
  in_range = λ q f is. absurd (fresh_none k q (subst (λ (o : Option ℕ). IsSome o) (sym is) refl));
  no_frame_twice = λ p q f is too. absurd (fresh_none k p (subst (λ (o : Option ℕ). IsSome o) (sym is) refl));
}

fresh_clean : (k : Settings) → Dirties (opening k)
fresh_clean k q e = absurd (false≢true (sym (ap (λ (x : Note). x.dirty) (fresh_note k q)) ∙ e))

abbrev pub Kept : State → Type 0
Kept s = Placed s × Dirties s

kept_under : IsKeptUnder Ready Kept
kept_under = record {
  opens = λ k ok. (fresh_placed k, fresh_clean k);
  moves = λ s t c ready h. (placed_moves s t c ready h.0, dirty_moves s t c ready h.1);
  submits = λ s a ok e ready h. h;
  renews = λ s ok e ready h. h;
}

-- All of these together.
abbrev pub ReadyKept : State → Type 0
ReadyKept s = Ready s × Kept s

pub all_kept : IsKept ReadyKept
all_kept = both Ready Kept ready_kept kept_under

kept : (s : State) → IsReached s → Placed s × Dirties s
kept s h = (holds ReadyKept s all_kept h).1

-- Just the cached pages have a frame, each one of its own, below their number; a dirty page is cached or a victim that
-- is written back.
pub record IsFramed (s : State) : Type 0 where
  pub placed : (q : ℕ) → is_cached s.lists q ≡ true → IsSome (frame_of s q)
  pub cached : (q : ℕ) → IsSome (frame_of s q) → is_cached s.lists q ≡ true
  pub in_range : (q f : ℕ) → frame_of s q ≡ Some f → f < s.settings.layout.frames
  pub no_frame_twice : (p q f : ℕ) → frame_of s p ≡ Some f → frame_of s q ≡ Some f → p ≡ q
  pub changed : (q : ℕ) → is_dirty s q ≡ true → (is_cached s.lists q ≡ true) ⊎ (0 < victims_of s q)

pub framed : (s : State) → IsReached s → IsFramed s
framed s h =
    let all = kept s h in
    record {
      placed = all.0.placed;
      cached = all.0.cached;
      in_range = all.0.in_range;
      no_frame_twice = all.0.no_frame_twice;
      changed = λ q e. elim (all.1 q e) [ inl a ↦ inl a.0 | inr b ↦ inr b ];
    }

-- A page that is dirty isn't being loaded.
pub dirty_unloaded : (s : State) → IsReached s → (q : ℕ) → is_dirty s q ≡ true → loads_of s q ≡ 0
dirty_unloaded s h q e =
    elim ((kept s h).1 q e) [ inl a ↦ a.1 | inr b ↦ omega (arith, b, (sound s h).alone q) ]

-- Where the cache isn't full, a frame is free.
pub free_frame_of : (s : State) → IsReached s → cached_count s.lists < s.lists.c → HasFree s
free_frame_of s h few = has_free s (kept s h).0 (omega (arith, few, (sound s h).c))

pub some_free : (s : State) → IsReached s → cached_count s.lists < s.lists.c
    → map.least_free (marks s) ≡ Some (free_frame s)
some_free s h few = (free_frame_of s h few).is

-- A page that is cached and newer than the device's isn't being loaded.
pub dirties_unloaded : (s : State) → IsSound s → Dirties s → (q : ℕ) → is_dirty s q ≡ true → is_cached s.lists q ≡ true
    → loads_of s q ≡ 0
dirties_unloaded s sound h q dirty here =
    elim (h q dirty) [
      | inl a ↦ a.1
      | inr b ↦ absurd (false≢true (sym (sound.away q b).0 ∙ here))
    ]

pub changed_unloaded : (s : State) → IsReached s → (q : ℕ) → is_dirty s q ≡ true → is_cached s.lists q ≡ true
    → loads_of s q ≡ 0
changed_unloaded s h q dirty here = dirties_unloaded s (sound s h) (kept s h).1 q dirty here
