-- What a move is refused with, as the core's tests tell it.
use Rattle.std.proofs.Common.{◌≡◌, ◌∙◌, ℕ, ◌+◌, ◌^◌, ◌<◌, ◌≤◌, Bool, true, false, Some, None, [], refl, sym, ap}
use Rattle.std.proofs.Common.{subst, arith}
use Rattle.std.specs.Prelude.{option_map, not, ◌&&◌, ◌==◌, Result, Ok}
use Rattle.std.proofs.lemmas.Bool.Decides.{nat_tests}
use Rattle.pp_plan.specs.declared.mode.Mode.{Mode}
use Rattle.pp_plan.specs.declared.action.Ask.{Ask}
use Rattle.pp_plan.specs.declared.action.Ask.TheVariants as ask
use Rattle.pp_cursor.specs.Asked.{region_has}
use Rattle.pp_cert.specs.declared.note.Held.{Held}
use Rattle.pp_cert.specs.declared.note.Held.TheVariants.{Free, S, X}
use Rattle.pp_arc.specs.declared.answer.Answer.{Answer}
use Rattle.pp_arc.specs.declared.answer.Answer.TheVariants as answer
use Rattle.pp_arc.specs.FourLists.{FourLists, is_cached, cached_count}
use Rattle.pp_arc.specs.Bounds.{IsWithinBounds}
use Rattle.pp_arc.specs.Figure.{request, is_all_busy}
use Rattle.pp_arc.specs.Laws.{AllCachedAreBusy}
use Rattle.pp_arc.proofs.LawLemmas.{RequestAnswers-request}
use Rattle.pp_frames.specs.Marks as map
use Rattle.pp_frames.specs.declared.mode.Mode.TheVariants as latch_mode
use Rattle.pp_frames.specs.Marks.{PageMap}
use Rattle.pp_model.specs.declared.moves.Move.{Move}
use Rattle.pp_model.specs.declared.moves.Move.TheVariants as move
use Rattle.pp_model.specs.declared.moves.Came.{Came}
use Rattle.pp_model.specs.declared.moves.Came.TheVariants.{Fault, Image}
use Rattle.pp_model.specs.declared.reply.Reply.{Reply}
use Rattle.pp_model.specs.declared.refusals.Cause.{Cause}
use Rattle.pp_model.specs.Pool.{Running, State, is_dirty, mark_at}
use Rattle.pp_model.specs.Outcome.{Outcome, with_lists, released}
use Rattle.pp_model.specs.Fixing.{evict_where, fix_by}
use Rattle.pp_model.specs.Answers.{write_where, write_in, write_by, read_where, read_came, read_in, read_by}
use Rattle.pp_model.specs.Answers.{is_misread}
use Rattle.pp_model.specs.Using.{latch_where}
use Rattle.pp_model.specs.Leaving.{unwound, unwind_where, finish_holding}
use Rattle.pp_model.specs.Flushing.{flush_where, flushed_where, flushed_by, is_clean}
use Rattle.pp_model.specs.Moves.{outcome_of}
use Rattle.pp_model.proofs.Framed.{cached_low}
use Rattle.pp_model.proofs.MarkChanges.{count_told}
use Rattle.pp_model.proofs.MarkSteps.{latch_mode_of}
use Rattle.pp_model.proofs.Soundness.{sound}
use Rattle.pp_core.specs.declared.answering.Write.{Write}
use Rattle.pp_core.specs.declared.answering.Read.{Read}
use Rattle.pp_core.specs.declared.seat.Hold.{Hold}
use Rattle.pp_core.specs.declared.seat.Seat.{Seat}
use Rattle.pp_core.specs.declared.table.Flush.{Flush}
use Rattle.pp_core.specs.Slots.{hold_at}
use Rattle.pp_core.specs.Parts.{Parts}
use Rattle.pp_core.specs.StandsFor.{IsKept, Moves, Asks, in_flight_as}
use Rattle.pp_core.specs.Effects.{phase_of, IsIn, IsPageIn, is_flying, is_busy}
use Rattle.pp_core.specs.LeaveEffects.{is_leaving}
use Rattle.pp_core.specs.FlushEffects.{is_changed}
use Rattle.pp_core.specs.TakeEffects.{waiting_peak, has_room}
use Rattle.pp_core.specs.Answering.{writing_of, reading_of}
use Rattle.pp_core.specs.Refusals.{refusal_by, refusal_to, IsRefusalTo}
use Rattle.pp_core.proofs.AnswerMoves.{writer, reader}
use Rattle.pp_core.proofs.LeaveMoves.{leaver, leaver_outcome, empty}
use Rattle.pp_core.proofs.UnwindMoves.{unwind_outcome, behind}
use Rattle.pp_core.proofs.UsingMoves.{latch_outcome}
use Rattle.pp_core.proofs.TakeMoves.{take_outcome_is}
use Rattle.pp_core.proofs.FixMoves as fixes
use Rattle.pp_core.proofs.FlushMoves.{begin_outcome}

-- ---- from moves and outcomes

-- A move that is refused so.
pub refused_so : (f : Parts) (m : Move) (reply : Reply) → refusal_by reply ≡ Some reply → Moves f m reply f
    → IsRefusalTo f m (Some reply)
refused_so f m reply is moves = λ s st. sym is ∙ ap refusal_by (moves.replies s st)

-- A move that comes to an outcome that isn't refused.
pub done_so : (s : State) (m : Move) (after : Outcome) → outcome_of s m ≡ after → refusal_by after.reply ≡ None
    → None ≡ refusal_to s m
done_so s m after is none = sym (ap (λ (o : Outcome). refusal_by o.reply) is ∙ none)

-- ---- acting workers

module _ (f : Parts) (w : ℕ) where
  pub latch_possible : (slot page : ℕ) (m : Mode) (asks : Asks f w (ask.Latch slot m)) → IsPageIn f w slot page
      → true ≡ map.is_compatible (latch_mode_of m) (map.latches_of f.marks page) → IsRefusalTo f (move.Latch w) None
  latch_possible slot page m asks told e = λ s st.
      done_so s (move.Latch w) (latch_where s w (asks s st).0 slot m true)
      (latch_outcome f w slot page m asks told s st true e) refl

  pub take_possible : (idle : phase_of f w ≡ Some None) (peak : ℕ) → waiting_peak f ≡ Some peak
      → has_room f peak ≡ true → IsRefusalTo f (move.Take w) None
  take_possible idle peak waits room = λ s st.
      done_so s (move.Take w) _ (take_outcome_is f w idle peak waits room s st) refl

-- ---- leaving workers

unwound_done : (k : Held) (mark : ℕ) → refusal_by (unwound k mark) ≡ None
unwound_done Free mark = refl
unwound_done S mark = refl
unwound_done X mark = refl

pub unwind_possible : (f : Parts) (w slot : ℕ) (leaves : is_leaving (phase_of f w) ≡ true) (held : Hold)
    → ((x : Seat) → IsIn f w x → Some held ≡ hold_at x.slots slot) → IsRefusalTo f (move.Unwind w slot) None
unwind_possible f w slot leaves held told = λ s st.
    let l = leaver f s w st leaves in
    let r = l.running in
    let b = behind f w slot leaves held told s l in
    done_so s (move.Unwind w slot) (unwind_where s w r slot l.given (Some b.0))
    (unwind_outcome f w slot leaves s l ∙ ap (unwind_where s w r slot l.given) b.1)
    (unwound_done b.0.held (mark_at (released s b.0.held b.0.page) b.0.page))

pub gone_possible : (f : Parts) (w : ℕ) (leaves : is_leaving (phase_of f w) ≡ true) (n : ℕ)
    → ((x : Seat) → IsIn f w x → n ≡ x.holds) → n ≤ 0 → IsRefusalTo f (move.Finish w) None
gone_possible f w leaves n told le = λ s st.
    let l = leaver f s w st leaves in
    done_so s (move.Finish w) (finish_holding s w l.running [])
    (leaver_outcome f w leaves s l ∙ ap (finish_holding s w l.running) (empty f w leaves s st.reached l n told le)) refl

-- ---- a fix

evict_done : (s : State) (w : ℕ) (r : Running) (slot page v : ℕ) (b : Bool)
    → refusal_by (evict_where s w r slot page v b).reply ≡ None
evict_done s w r slot page v true = refl
evict_done s w r slot page v false = refl

-- An answer of ARC's that has room is no refusal.
pub fix_done : (s : State) (l : FourLists) (w : ℕ) (r : Running) (slot page : ℕ) (a : Answer) → is_all_busy a ≡ false
    → refusal_by (fix_by s l w r slot page a).reply ≡ None
fix_done s l w r slot page answer.Hit e = refl
fix_done s l w r slot page answer.Free e = refl
fix_done s l w r slot page (answer.Evict v) e = evict_done (with_lists s l) w r slot page v (is_dirty s v)
fix_done s l w r slot page answer.AllBusy e = cc

pub fix_possible : (f : Parts) (w page slot region : ℕ) (wants : Ask) (into : fixes.AsksIn wants slot region)
    (asks : Asks f w wants) → region_has f.layout region page ≡ true → is_flying f page ≡ false
    → is_all_busy (request f.lists page (is_busy f)).0 ≡ false → IsRefusalTo f (move.Fix w page) None
fix_possible f w page slot region wants into asks has free room = λ s st.
    let a = (request f.lists page (is_busy f)).0 in
    let l = (request f.lists page (is_busy f)).1 in
    let r = (asks s st).0 in
    done_so s (move.Fix w page) (fix_by s l w r slot page a)
    (fixes.by_answer f w page slot region wants into asks has free a refl s st) (fix_done s l w r slot page a room)

pub busy_answer : (a : Answer) → is_all_busy a ≡ true → a ≡ answer.AllBusy
busy_answer answer.Hit e = cc
busy_answer answer.Free e = cc
busy_answer (answer.Evict v) e = cc
busy_answer answer.AllBusy e = refl

-- ---- no page that may leave

module _ (f : Parts) where
  -- Each cached page below this one is busy.
  abbrev pub AllBusyBelow : ℕ → Type 0
  AllBusyBelow n = (x : ℕ) → x < n → is_cached f.lists x ≡ true → is_busy f x ≡ true

  pub below_next : (n : ℕ) → (is_cached f.lists n && not (is_busy f n)) ≡ false → AllBusyBelow n → AllBusyBelow (n + 1)
  below_next n stays below = λ x lt here. grind (arith, nat_tests)

  pub one_leaves : (n : ℕ) → (is_cached f.lists n && not (is_busy f n)) ≡ true
      → AllCachedAreBusy f.lists (is_busy f) → ⊥
  one_leaves n leaves all = go (is_cached f.lists n) (is_busy f n) leaves (all n)
    where
      go : (a b : Bool) → (a && not b) ≡ true → (a ≡ true → b ≡ true) → ⊥
      go true true e all = cc
      go true false e all = let no = all refl in cc
      go false b e all = cc

  -- All cached pages are among the pages that have marks.
  pub all_below : IsKept f → (n : ℕ) → map.page_count f.marks ≤ n → AllBusyBelow n → AllCachedAreBusy f.lists (is_busy f)
  all_below k n le below = λ x here.
      let s = k.state in
      let st = k.stands in
      let low = cached_low s st.reached x (subst (λ (l : FourLists). is_cached l x ≡ true) st.lists here) in
      below x (omega (arith, le, low, ap (λ (m : PageMap). map.page_count m) st.marks, count_told s)) here

  pub bounds : IsKept f → IsWithinBounds f.lists
  bounds k = subst IsWithinBounds (sym k.stands.lists) (sound k.state k.stands.reached).bounds

  pub size_is : IsKept f → f.lists.c ≡ f.layout.frames
  size_is k =
      let s = k.state in
      let st = k.stands in
      ap (λ (l : FourLists). l.c) st.lists ∙ (sound s st.reached).c ∙ sym (ap (λ g. g.frames) st.layout)

  pub few_cached : IsKept f → cached_count f.lists ≤ f.lists.c
  few_cached k = (bounds k).cached

  pub frames_few : IsKept f → f.layout.frames ≤ 2 ^ 24
  frames_few k =
      omega (arith, ap (λ g. g.frames) k.stands.layout, k.stands.reached.settings.layout.frames.1)

  module _ (page : ℕ) (k : IsKept f) where
    abbrev answer_of : Answer
    answer_of = (request f.lists page (is_busy f)).0

    not_busy_answer : (a : Answer) → (a ≡ answer.AllBusy → ⊥) → is_all_busy a ≡ false
    not_busy_answer answer.Hit isnt = refl
    not_busy_answer answer.Free isnt = refl
    not_busy_answer (answer.Evict v) isnt = refl
    not_busy_answer answer.AllBusy isnt = absurd (isnt refl)

    pub not_cached : is_cached f.lists page ≡ true → false ≡ is_all_busy answer_of
    not_cached here =
        let a = RequestAnswers-request f.lists page (is_busy f) (bounds k) in
        sym (not_busy_answer answer_of (λ e. let no : is_cached f.lists page ≡ false = (a.all_busy.0 e).0 in absurd (cc)))

    pub not_full : (cached_count f.lists == f.lists.c) ≡ false → false ≡ is_all_busy answer_of
    not_full room =
        let a = RequestAnswers-request f.lists page (is_busy f) (bounds k) in
        sym (not_busy_answer answer_of (λ e.
        let full : cached_count f.lists ≡ f.lists.c = (a.all_busy.0 e).1 in
        absurd (grind (arith, nat_tests))))

    not_all : (AllCachedAreBusy f.lists (is_busy f) → ⊥) → false ≡ is_all_busy answer_of
    not_all one =
        let a = RequestAnswers-request f.lists page (is_busy f) (bounds k) in
        sym (not_busy_answer answer_of (λ e. one (a.all_busy.0 e).2))

    all_are : is_cached f.lists page ≡ false → (cached_count f.lists == f.lists.c) ≡ true
        → AllCachedAreBusy f.lists (is_busy f) → true ≡ is_all_busy answer_of
    all_are gone full all =
        let a = RequestAnswers-request f.lists page (is_busy f) (bounds k) in
        let so_many : cached_count f.lists ≡ f.lists.c = grind (arith, nat_tests) in
        sym (ap is_all_busy (a.all_busy.1 (gone, so_many, all)))

    -- Where the page isn't cached and the cache is full, it is told by whether every cached page is busy.
    pub held_up : (b : Bool) → is_cached f.lists page ≡ false → (cached_count f.lists == f.lists.c) ≡ true
        → (b ≡ true → AllCachedAreBusy f.lists (is_busy f)) → (b ≡ false → AllCachedAreBusy f.lists (is_busy f) → ⊥)
        → b ≡ is_all_busy answer_of
    held_up true gone full all one = all_are gone full (all refl)
    held_up false gone full all one = not_all (one refl)

-- ---- devices

written_done : (s : State) (w : ℕ) (r : Running) (slot page v : ℕ) (ok : Bool)
    → refusal_by (write_where s w r slot page v ok).reply ≡ None
written_done s w r slot page v true = refl
written_done s w r slot page v false = refl

pub write_possible : (f : Parts) (w : ℕ) (x : Write) → ◌≡◌ {A = Result Write Cause} (writing_of (phase_of f w)) (Ok x)
    → (ok : Bool) → IsRefusalTo f (move.WriteDone w ok) None
write_possible f w x writes ok = λ s st.
    let h = writer f s w x st writes in
    let r = h.running in
    done_so s (move.WriteDone w ok) (write_where s w r x.slot x.page x.victim ok)
    (ap (write_by s w ok) h.at.seat ∙ ap (write_in s w ok r) h.at.stage)
    (written_done s w r x.slot x.page x.victim ok)

read_where_done : (s : State) (w : ℕ) (r : Running) (slot page stamp : ℕ) (b : Bool)
    → refusal_by (read_where s w r slot page stamp b).reply ≡ None
read_where_done s w r slot page stamp true = refl
read_where_done s w r slot page stamp false = refl

came_done : (s : State) (w : ℕ) (r : Running) (slot page : ℕ) (came : Came)
    → refusal_by (read_came s w r slot page came).reply ≡ None
came_done s w r slot page Fault = refl
came_done s w r slot page (Image named stamp) = read_where_done s w r slot page stamp (is_misread s page named stamp)

pub read_possible : (f : Parts) (w : ℕ) (x : Read) → ◌≡◌ {A = Result Read Cause} (reading_of (phase_of f w)) (Ok x)
    → (came : Came) → IsRefusalTo f (move.ReadDone w came) None
read_possible f w x reads came = λ s st.
    let h = reader f s w x st reads in
    let r = h.running in
    done_so s (move.ReadDone w came) (read_came s w r x.slot x.page came)
    (ap (read_by s w came) h.at.seat ∙ ap (read_in s w came r) h.at.stage)
    (came_done s w r x.slot x.page came)

-- ---- the flusher

pub begin_possible : (f : Parts) (page : ℕ) (none : f.flush ≡ None) (changed : is_changed f page ≡ true)
    → 0 < f.flushes_left → map.has_latch latch_mode.X (map.latches_of f.marks page) ≡ false
    → IsRefusalTo f (move.FlushBegin page) None
begin_possible f page none changed left unlatched = λ s st.
    done_so s (move.FlushBegin page) (flush_where s page true true false)
    (begin_outcome f page none changed left unlatched s st) refl

flushed_done : (s : State) (page : ℕ) (b : Bool) → refusal_by (flushed_where s page b).reply ≡ None
flushed_done s page true = refl
flushed_done s page false = refl

pub flushed_possible : (f : Parts) (x : Flush) → f.flush ≡ Some x → (ok : Bool) → IsRefusalTo f (move.FlushDone ok) None
flushed_possible f x here ok = λ s st.
    let k = in_flight_as x in
    let is = sym st.flush ∙ ap (option_map in_flight_as) here in
    done_so s (move.FlushDone ok) (flushed_where s k.page (is_clean s ok k)) (ap (flushed_by s ok) is)
    (flushed_done s k.page (is_clean s ok k))
