-- Ready frames of reached states, in the words of the laws: what a device's answer, a latch, the end of a latch and a
-- flush that begins say of them.
use Rattle.std.proofs.Common.{◌≡◌, ◌∙◌, ℕ, ◌+◌, Bool, true, false, cond, Option, Some, None, List, ◌∷◌}
use Rattle.std.proofs.Common.{refl, sym, ap, subst}
use Rattle.std.specs.Prelude.{nat_lt, ◌&&◌}
use Rattle.std.proofs.lemmas.Bool.{false≢true}
use Rattle.pp_plan.specs.declared.mode.Mode.{Mode}
use Rattle.pp_plan.specs.declared.mode.Mode.TheVariants as mode
use Rattle.pp_plan.specs.declared.action.Action.TheVariants as action
use Rattle.pp_plan.specs.declared.action.Ask.TheVariants as ask
use Rattle.pp_cursor.specs.Cursor.{NamesAction}
use Rattle.pp_cert.specs.declared.note.Held.{Held}
use Rattle.pp_cert.specs.declared.note.Held.TheVariants.{Free, S, X}
use Rattle.pp_cert.specs.Held.{Holding, holding_at}
use Rattle.pp_arc.specs.FourLists.{is_cached}
use Rattle.pp_frames.specs.Marks as map
use Rattle.pp_model.specs.declared.moves.Came.{Came}
use Rattle.pp_model.specs.declared.moves.Came.TheVariants.{Fault, Image}
use Rattle.pp_model.specs.declared.moves.Move.TheVariants as moves
use Rattle.pp_model.specs.declared.refusals.Cause.TheVariants.{NoWorker, NoErrand}
use Rattle.pp_model.specs.declared.reply.Failure.{Failure}
use Rattle.pp_model.specs.declared.reply.Failure.TheVariants.{WriteFault}
use Rattle.pp_model.specs.declared.reply.Reply.{Reply}
use Rattle.pp_model.specs.declared.reply.Reply.TheVariants.{MustRead, Failed, Loaded, Latched, Unlatched, Flushing}
use Rattle.pp_model.specs.declared.reply.Reply.TheVariants.{OffPlan}
use Rattle.pp_model.specs.Pool.{Stage, acting, writing, reading, leaving, Running, Flush, State, is_dirty, frame_at}
use Rattle.pp_model.specs.Pool.{mark_at}
use Rattle.pp_model.specs.Holders.{holdings, page_in, held_in, latches_at, readers_of, writers_of, latches_of}
use Rattle.pp_model.specs.Outcome.{Outcome, did, with_stage, released, raised}
use Rattle.pp_model.specs.Answers.{write_where, write_in, write_by, is_misread, read_where, read_came, read_in, read_by}
use Rattle.pp_model.specs.Using.{goes_with, latch_where, latch_asked, unlatch_asked}
use Rattle.pp_model.specs.Leaving.{unwound, unwind_where, unwind_in, unwind_by}
use Rattle.pp_model.specs.Flushing.{flush_where, flush_by}
use Rattle.pp_model.specs.Moves.{asked_by, act_in, act_by, seat_of, outcome_of, reply_of}
use Rattle.pp_model.specs.Reached.{IsReached}
use Rattle.pp_model.specs.Ready.{ready_at, Keeps, Leaves, Enters, WrittenKeeps, UnwrittenEnters, LoadedEnters}
use Rattle.pp_model.specs.Ready.{SharedStays, ExclusiveLeaves, SharedGoes, ExclusiveEnters, UnwoundEnters}
use Rattle.pp_model.specs.Ready.{FlushedAreReady}
use Rattle.pp_model.proofs.Changes.{IsAt, IsAsked}
use Rattle.pp_model.proofs.HoldingSteps.{holds_at}
use Rattle.pp_model.proofs.Framed.{dirty_unloaded}
use Rattle.pp_model.proofs.ReadySteps as steps
use Rattle.pp_model.specs.Ready.{ReadyStay, ImageComes, UnreadReturns}
use Rattle.pp_model.proofs.ReadyPages.{keeps, cached_ready}
use Rattle.pp_model.proofs.ReadyLaws.{zero_of, not_read}

-- ---- a device answers

-- A worker whose victim is written. Another's device has nothing to tell.
write_stage : (s : State) (w : ℕ) (ok : Bool) (r : Running) (g : Stage) (frame : ℕ)
    → (write_in s w ok r g).reply ≡ MustRead frame → (slot : ℕ) × (page : ℕ) × (v : ℕ) × (g ≡ writing slot page v)
write_stage s w ok r acting frame is = absurd (not_read (OffPlan NoErrand) _ frame refl is refl)
write_stage s w ok r (writing slot page v) frame is = (slot, page, v, refl)
write_stage s w ok r (reading slot page) frame is = absurd (not_read (OffPlan NoErrand) _ frame refl is refl)
write_stage s w ok r (leaving given) frame is = absurd (not_read (OffPlan NoErrand) _ frame refl is refl)

-- What comes of a victim that is written is computed from the worker's seat and stage.
write_outcome : (s : State) (w : ℕ) (ok : Bool) (r : Running) (slot page v : ℕ) → IsAt s w r (writing slot page v)
    → outcome_of s (moves.WriteDone w ok) ≡ write_where s w r slot page v ok
write_outcome s w ok r slot page v at = ap (write_by s w ok) at.seat ∙ ap (write_in s w ok r) at.stage

written_keeps_at : (s : State) → IsReached s → (w frame : ℕ) (ok : Bool) (r : Running) (slot page v : ℕ)
    → IsAt s w r (writing slot page v) → (write_where s w r slot page v ok).reply ≡ MustRead frame
    → Keeps s (write_where s w r slot page v ok).state
written_keeps_at s h w frame true r slot page v at is = keeps s _ (steps.write_stays s h w r slot page v at)
written_keeps_at s h w frame false r slot page v at is =
    absurd (not_read (Failed WriteFault) _ frame refl is refl)

written_keeps_by : (s : State) → IsReached s → (w frame : ℕ) (ok : Bool) (o : Option (Option Running))
    → seat_of s w ≡ o → (write_by s w ok o).reply ≡ MustRead frame → Keeps s (write_by s w ok o).state
written_keeps_by s h w frame ok None e is = absurd (not_read (OffPlan NoWorker) _ frame refl is refl)
written_keeps_by s h w frame ok (Some None) e is = absurd (not_read (OffPlan NoErrand) _ frame refl is refl)
written_keeps_by s h w frame ok (Some (Some r)) e is =
    let at = write_stage s w ok r r.stage frame is in
    let same = ap (write_in s w ok r) at.3 in
    subst (λ (o : Outcome). Keeps s o.state) (sym same)
    (written_keeps_at s h w frame ok r at.0 at.1 at.2 (record { seat = e; stage = at.3 })
    (sym (ap (λ (o : Outcome). o.reply) same) ∙ is))

pub written_keeps : (s : State) → IsReached s → WrittenKeeps s
written_keeps s h w frame ok is = written_keeps_by s h w frame ok (seat_of s w) refl is

pub unwritten_enters : (s : State) → IsReached s → UnwrittenEnters s
unwritten_enters s h w slot page v r ok seat stage is =
    let at : IsAt s w r (writing slot page v) = record { seat = seat; stage = stage } in
    let same = write_outcome s w ok r slot page v at in
    subst (λ (o : Outcome). Enters s o.state v (record { frame = frame_at s page; mark = mark_at s v })) (sym same)
    (go ok at (sym (ap (λ (o : Outcome). o.reply) same) ∙ is))
  where
    go : (b : Bool) → IsAt s w r (writing slot page v) → (write_where s w r slot page v b).reply ≡ Failed WriteFault
        → Enters s (write_where s w r slot page v b).state v (record { frame = frame_at s page; mark = mark_at s v })
    go true at is = absurd (not_read (MustRead (frame_at s page)) _ (frame_at s page) is refl refl)
    go false at is = steps.bring_enters s h w r slot page v at

-- ---- marks that are told

abbrev mark_told : Reply → Option ℕ
mark_told (Loaded mark) = Some mark
mark_told (Latched mark) = Some mark
mark_told (Unlatched mark) = Some mark
mark_told (Flushing mark) = Some mark
mark_told _ = None

not_told : (mark : ℕ) → ◌≡◌ {A = Option ℕ} None (Some mark) → ⊥
not_told mark e = absurd (cc)

told_same : (a b : ℕ) → ◌≡◌ {A = Option ℕ} (Some a) (Some b) → a ≡ b
told_same a b e = cc

same_place : (s : State) (p a b : ℕ) → a ≡ b
    → ready_at s p ≡ Some (record { frame = frame_at s p; mark = a })
    → ready_at s p ≡ Some (record { frame = frame_at s p; mark = b })
same_place s p a b e is = is ∙ (λ i. Some (record { frame = frame_at s p; mark = e i }))

enters_with : (s t : State) (p f a b : ℕ) → a ≡ b → Enters s t p (record { frame = f; mark = a })
    → Enters s t p (record { frame = f; mark = b })
enters_with s t p f a b e is = subst (λ m. Enters s t p (record { frame = f; mark = m })) e is

-- ---- a page was read

loaded_at : (s : State) → IsReached s → (w mark : ℕ) (r : Running) (slot page stamp : ℕ)
    → IsAt s w r (reading slot page) → (misread : Bool) → (read_where s w r slot page stamp misread).reply ≡ Loaded mark
    → Enters s (read_where s w r slot page stamp misread).state page (record { frame = frame_at s page; mark = mark })
loaded_at s h w mark r slot page stamp at true is = absurd (not_told mark (ap mark_told is))
loaded_at s h w mark r slot page stamp at false is =
    let told = told_same stamp mark (ap mark_told is) in
    enters_with s _ page (frame_at s page) stamp mark told (steps.load_enters s h w r slot page at stamp)

loaded_by : (s : State) → IsReached s → (w mark : ℕ) (r : Running) (slot page : ℕ) (came : Came)
    → IsAt s w r (reading slot page) → (read_came s w r slot page came).reply ≡ Loaded mark
    → Enters s (read_came s w r slot page came).state page (record { frame = frame_at s page; mark = mark })
loaded_by s h w mark r slot page Fault at is = absurd (not_told mark (ap mark_told is))
loaded_by s h w mark r slot page (Image named stamp) at is =
    loaded_at s h w mark r slot page stamp at (is_misread s page named stamp) is

pub loaded_enters : (s : State) → IsReached s → LoadedEnters s
loaded_enters s h w slot page mark r came seat stage is =
    let same : outcome_of s (moves.ReadDone w came) ≡ read_came s w r slot page came =
    ap (read_by s w came) seat ∙ ap (read_in s w came r) stage in
    subst (λ (o : Outcome). Enters s o.state page (record { frame = frame_at s page; mark = mark })) (sym same)
    (loaded_by s h w mark r slot page came (record { seat = seat; stage = stage })
    (sym (ap (λ (o : Outcome). o.reply) same) ∙ is))

-- ---- a page was not read

unread_where : (s : State) → IsReached s → (w : ℕ) (r : Running) (slot page stamp : ℕ) (failure : Failure)
    → IsAt s w r (reading slot page) → (misread : Bool)
    → (read_where s w r slot page stamp misread).reply ≡ Failed failure
    → ReadyStay s (read_where s w r slot page stamp misread).state
    × ImageComes s (read_where s w r slot page stamp misread).state (frame_at s page)
unread_where s h w r slot page stamp failure at true is =
    (steps.forget_ready s h w r slot page at, steps.forget_comes s h w r slot page at)
unread_where s h w r slot page stamp failure at false is = absurd (not_told stamp (sym (ap mark_told is)))

unread_by : (s : State) → IsReached s → (w : ℕ) (r : Running) (slot page : ℕ) (came : Came) (failure : Failure)
    → IsAt s w r (reading slot page) → (read_came s w r slot page came).reply ≡ Failed failure
    → ReadyStay s (read_came s w r slot page came).state
    × ImageComes s (read_came s w r slot page came).state (frame_at s page)
unread_by s h w r slot page Fault failure at is =
    (steps.forget_ready s h w r slot page at, steps.forget_comes s h w r slot page at)
unread_by s h w r slot page (Image named stamp) failure at is =
    unread_where s h w r slot page stamp failure at (is_misread s page named stamp) is

pub unread_returns : (s : State) → IsReached s → UnreadReturns s
unread_returns s h w slot page r came failure seat stage is =
    let same : outcome_of s (moves.ReadDone w came) ≡ read_came s w r slot page came =
    ap (read_by s w came) seat ∙ ap (read_in s w came r) stage in
    subst (λ (o : Outcome). ReadyStay s o.state × ImageComes s o.state (frame_at s page)) (sym same)
    (unread_by s h w r slot page came failure (record { seat = seat; stage = stage })
    (sym (ap (λ (o : Outcome). o.reply) same) ∙ is))

-- ---- latches

-- Only an acting worker is told a mark.
acting_now : (s : State) (act : Running → Outcome) (r : Running) (g : Stage) (mark : ℕ)
    → mark_told (act_in s act r g).reply ≡ Some mark → g ≡ acting
acting_now s act r acting mark is = refl
acting_now s act r (writing slot page v) mark is = absurd (not_told mark is)
acting_now s act r (reading slot page) mark is = absurd (not_told mark is)
acting_now s act r (leaving given) mark is = absurd (not_told mark is)

-- What comes of a latch, and of an unlatch, that the plan asks.
pub record Comes (s : State) (w : ℕ) (r : Running) (o p : Outcome) : Type 0 where
  pub at : IsAt s w r acting
  pub same : o ≡ p

acts : (s : State) (w : ℕ) (r : Running) (act : Running → Outcome) (p : Outcome) (mark : ℕ)
    → seat_of s w ≡ Some (Some r) → act r ≡ p → mark_told (act_by s act (seat_of s w)).reply ≡ Some mark
    → Comes s w r (act_by s act (seat_of s w)) p
acts s w r act p mark seat asked is =
    let sat = ap (act_by s act) seat in
    let stage = acting_now s act r r.stage mark (sym (ap (λ (o : Outcome). mark_told o.reply) sat) ∙ is) in
    record {
      at = record { seat = seat; stage = stage };
      same = sat ∙ ap (act_in s act r) stage ∙ asked;
    }

latch_comes : (s : State) (w slot mark : ℕ) (m : Mode) (r : Running) → seat_of s w ≡ Some (Some r)
    → asked_by r ≡ ask.Latch slot m → reply_of s (moves.Latch w) ≡ Latched mark
    → Comes s w r (outcome_of s (moves.Latch w)) (latch_where s w r slot m (goes_with s m (page_in r slot)))
latch_comes s w slot mark m r seat asked is =
    acts s w r (λ r. latch_asked s w r (asked_by r)) _ mark seat (ap (latch_asked s w r) asked) (ap mark_told is)

unlatch_comes : (s : State) (w slot mark : ℕ) (r : Running) → seat_of s w ≡ Some (Some r)
    → asked_by r ≡ ask.Unlatch slot → reply_of s (moves.Unlatch w) ≡ Unlatched mark
    → Comes s w r (outcome_of s (moves.Unlatch w)) (unlatch_asked s w r (ask.Unlatch slot))
unlatch_comes s w slot mark r seat asked is =
    acts s w r (λ r. unlatch_asked s w r (asked_by r)) _ mark seat (ap (unlatch_asked s w r) asked) (ap mark_told is)

latch_named : (s : State) (w slot : ℕ) (m : Mode) (r : Running) → IsAt s w r acting → asked_by r ≡ ask.Latch slot m
    → IsAsked s w r (action.Latch slot m)
latch_named s w slot m r at asked = record {
  at = at;
  names = subst (λ y. NamesAction r.accepted.plan.layout y (action.Latch slot m)) (sym asked) (refl, refl);
}

unlatch_named : (s : State) (w slot : ℕ) (r : Running) → IsAt s w r acting → asked_by r ≡ ask.Unlatch slot
    → IsAsked s w r (action.Unlatch slot)
unlatch_named s w slot r at asked = record {
  at = at;
  names = subst (λ y. NamesAction r.accepted.plan.layout y (action.Unlatch slot)) (sym asked) refl;
}

module _ (s : State) (h : IsReached s) (w slot mark : ℕ) (r : Running) where
  -- The page is ready with the mark that is told, and all stay.
  abbrev StaysReady : State → Type 0
  StaysReady t =
      (ready_at s (page_in r slot) ≡ Some (record { frame = frame_at s (page_in r slot); mark = mark })) × Keeps s t

  -- It leaves with it.
  abbrev LeavesReady : State → Type 0
  LeavesReady t =
      Leaves s t (page_in r slot) (record { frame = frame_at s (page_in r slot); mark = mark })

  -- It enters with it, and it is one more than before.
  abbrev EntersRaised : State → Type 0
  EntersRaised t =
      (mark ≡ mark_at s (page_in r slot) + 1)
      × Enters s t (page_in r slot) (record { frame = frame_at s (page_in r slot); mark = mark })

  shared_at : IsAsked s w r (action.Latch slot mode.S) → (b : Bool) → goes_with s mode.S (page_in r slot) ≡ b
      → (latch_where s w r slot mode.S b).reply ≡ Latched mark → StaysReady (latch_where s w r slot mode.S b).state
  shared_at asked true goes is =
      let p = page_in r slot in
      let told = told_same (mark_at s p) mark (ap mark_told is) in (
        same_place s p (mark_at s p) mark told (steps.shared_ready s h w r slot asked goes),
        keeps s _ (steps.shared_stays s h w r slot asked),
      )
  shared_at asked false goes is = absurd (not_told mark (ap mark_told is))

  exclusive_at : IsAsked s w r (action.Latch slot mode.X) → (b : Bool) → goes_with s mode.X (page_in r slot) ≡ b
      → (latch_where s w r slot mode.X b).reply ≡ Latched mark → LeavesReady (latch_where s w r slot mode.X b).state
  exclusive_at asked true goes is =
      let p = page_in r slot in
      let told = told_same (mark_at s p) mark (ap mark_told is) in
      let t = did s w r (action.Latch slot mode.X) in
      subst (λ m. Leaves s t p (record { frame = frame_at s p; mark = m })) told
      (steps.exclusive_leaves s h w r slot asked goes)
  exclusive_at asked false goes is = absurd (not_told mark (ap mark_told is))

  unshared_at : IsAsked s w r (action.Unlatch slot) → held_in r slot ≡ S
      → (unlatch_asked s w r (ask.Unlatch slot)).reply ≡ Unlatched mark
      → StaysReady (unlatch_asked s w r (ask.Unlatch slot)).state
  unshared_at asked held is =
      let p = page_in r slot in
      let was = ap (λ k. mark_at (released s k p) p) held in
      let told = told_same (mark_at (released s (held_in r slot) p) p) mark (ap mark_told is) in (
        same_place s p (mark_at s p) mark (sym was ∙ told) (steps.unshared_ready s h w r slot asked held),
        keeps s _ (steps.unshared_stays s h w r slot asked held),
      )

  unlatched_at : IsAsked s w r (action.Unlatch slot) → held_in r slot ≡ X
      → (unlatch_asked s w r (ask.Unlatch slot)).reply ≡ Unlatched mark
      → EntersRaised (unlatch_asked s w r (ask.Unlatch slot)).state
  unlatched_at asked held is =
      let p = page_in r slot in
      let was = ap (λ k. mark_at (released s k p) p) held in
      let told = told_same (mark_at (released s (held_in r slot) p) p) mark (ap mark_told is) in
      let more = steps.unlatch_mark s h w r slot asked in
      let raised = sym more ∙ sym was ∙ told in (
        sym raised,
        enters_with s _ p (frame_at s p) (mark_at s p + 1) mark raised
            (steps.unlatch_enters s h w r slot asked held),
      )

  unwound_as : (given : List ℕ) (k : Holding) (u : Held) → IsAt s w r (leaving given)
      → holding_at (holdings r) slot ≡ Some k → k.held ≡ u
      → unwound u (mark_at (released s u k.page) k.page) ≡ Unlatched mark
      → EntersRaised (with_stage (released s k.held k.page) w r (leaving (slot ∷ given)))
  unwound_as given k Free at found held is = absurd (not_told mark (ap mark_told is))
  unwound_as given k S at found held is = absurd (not_told mark (ap mark_told is))
  unwound_as given k X at found held is =
      let p = k.page in
      let told = told_same (mark_at (raised s p) p) mark (ap mark_told is) in
      let raised = sym (steps.raised_mark s h w r slot k at.seat found) ∙ told in
      let t = with_stage (released s k.held p) w r (leaving (slot ∷ given)) in
      subst (λ q. (mark ≡ mark_at s q + 1) × Enters s t q (record { frame = frame_at s q; mark = mark }))
      (sym (holds_at r slot k found).page_is) (
        sym raised,
        enters_with s t p (frame_at s p) (mark_at s p + 1) mark raised
            (steps.unwind_enters s h w r slot given k at found held),
      )

  unwound_at : (given : List ℕ) (o : Option Holding) → IsAt s w r (leaving given) → holding_at (holdings r) slot ≡ o
      → (unwind_where s w r slot given o).reply ≡ Unlatched mark → EntersRaised (unwind_where s w r slot given o).state
  unwound_at given None at found is = absurd (not_told mark (ap mark_told is))
  unwound_at given (Some k) at found is = unwound_as given k k.held at found refl is

  unwound_in : (g : Stage) → IsAt s w r g → (unwind_in s w slot r g).reply ≡ Unlatched mark
      → EntersRaised (unwind_in s w slot r g).state
  unwound_in acting at is = absurd (not_told mark (ap mark_told is))
  unwound_in (writing x page v) at is = absurd (not_told mark (ap mark_told is))
  unwound_in (reading x page) at is = absurd (not_told mark (ap mark_told is))
  unwound_in (leaving given) at is = unwound_at given (holding_at (holdings r) slot) at refl is

pub shared_stays : (s : State) → IsReached s → SharedStays s
shared_stays s h w slot mark r seat asked is =
    let comes = latch_comes s w slot mark mode.S r seat asked is in
    subst (λ (o : Outcome). StaysReady s h w slot mark r o.state) (sym comes.same)
    (shared_at s h w slot mark r (latch_named s w slot mode.S r comes.at asked) _ refl
    (sym (ap (λ (o : Outcome). o.reply) comes.same) ∙ is))

pub exclusive_leaves : (s : State) → IsReached s → ExclusiveLeaves s
exclusive_leaves s h w slot mark r seat asked is =
    let comes = latch_comes s w slot mark mode.X r seat asked is in
    subst (λ (o : Outcome). LeavesReady s h w slot mark r o.state) (sym comes.same)
    (exclusive_at s h w slot mark r (latch_named s w slot mode.X r comes.at asked) _ refl
    (sym (ap (λ (o : Outcome). o.reply) comes.same) ∙ is))

pub shared_goes : (s : State) → IsReached s → SharedGoes s
shared_goes s h w slot mark r seat asked held is =
    let comes = unlatch_comes s w slot mark r seat asked is in
    subst (λ (o : Outcome). StaysReady s h w slot mark r o.state) (sym comes.same)
    (unshared_at s h w slot mark r (unlatch_named s w slot r comes.at asked) held
    (sym (ap (λ (o : Outcome). o.reply) comes.same) ∙ is))

pub exclusive_enters : (s : State) → IsReached s → ExclusiveEnters s
exclusive_enters s h w slot mark r seat asked held is =
    let comes = unlatch_comes s w slot mark r seat asked is in
    subst (λ (o : Outcome). EntersRaised s h w slot mark r o.state) (sym comes.same)
    (unlatched_at s h w slot mark r (unlatch_named s w slot r comes.at asked) held
    (sym (ap (λ (o : Outcome). o.reply) comes.same) ∙ is))

pub unwound_enters : (s : State) → IsReached s → UnwoundEnters s
unwound_enters s h w slot mark r seat is =
    let same : outcome_of s (moves.Unwind w slot) ≡ unwind_in s w slot r r.stage = ap (unwind_by s w slot) seat in
    subst (λ (o : Outcome). EntersRaised s h w slot mark r o.state) (sym same)
    (unwound_in s h w slot mark r r.stage (record { seat = seat; stage = refl })
    (sym (ap (λ (o : Outcome). o.reply) same) ∙ is))

-- ---- a flush begins

and_true : (a b : Bool) → (a && b) ≡ true → (a ≡ true) × (b ≡ true)
and_true true b e = (refl, e)
and_true false b e = cc

-- A page that isn't latched X has no writer.
unwritten : (readers writers : ℕ) → map.is_exclusive (latches_at readers writers) ≡ false → writers ≡ 0
unwritten readers writers e = go (nat_lt 0 writers) refl e
  where
    go : (b : Bool) → nat_lt 0 writers ≡ b → map.is_exclusive (cond b map.Exclusive (map.Shared readers)) ≡ false
        → writers ≡ 0
    go true lt e = absurd (false≢true (sym e))
    go false lt e = zero_of writers lt

flush_tested : (s : State) → IsReached s → (page mark : ℕ) (a b c : Bool)
    → (is_cached s.lists page && is_dirty s page) ≡ a → map.is_exclusive (latches_of s page) ≡ c
    → (flush_where s page a b c).reply ≡ Flushing mark
    → ready_at s page ≡ Some (record { frame = frame_at s page; mark = mark })
flush_tested s h page mark false b c e f is = absurd (not_told mark (ap mark_told is))
flush_tested s h page mark true false c e f is = absurd (not_told mark (ap mark_told is))
flush_tested s h page mark true true true e f is = absurd (not_told mark (ap mark_told is))
flush_tested s h page mark true true false e f is =
    let both = and_true (is_cached s.lists page) (is_dirty s page) e in
    same_place s page (mark_at s page) mark (told_same (mark_at s page) mark (ap mark_told is))
    (cached_ready s h page both.0 (dirty_unloaded s h page both.1)
    (unwritten (readers_of s page) (writers_of s page) f))

flush_told : (s : State) → IsReached s → (page mark : ℕ) (o : Option Flush)
    → (flush_by s page o).reply ≡ Flushing mark
    → ready_at s page ≡ Some (record { frame = frame_at s page; mark = mark })
flush_told s h page mark (Some f) is = absurd (not_told mark (ap mark_told is))
flush_told s h page mark None is = flush_tested s h page mark _ _ _ refl refl is

pub flushed_are_ready : (s : State) → IsReached s → FlushedAreReady s
flushed_are_ready s h page mark is = flush_told s h page mark s.flush is
