-- Whose move a call is that was done with the tokens of a worker's hand; and that the hand has no answer of a device
-- after it.
use Rattle.std.proofs.Common.{◌≡◌, ◌∙◌, ℕ, Bool, true, false, Some, List, refl, sym, ap, subst}
use Rattle.std.specs.Prelude.{◌&&◌, is_ok}
use Rattle.std.proofs.lemmas.Bool.{false≢true}
use Rattle.pp_plan.specs.declared.mode.Mode.TheVariants as mode
use Rattle.pp_cert.specs.declared.note.Held.{Held}
use Rattle.pp_cert.specs.declared.note.Held.TheVariants.{Free, S, X}
use Rattle.pp_model.specs.declared.moves.Move.{Move}
use Rattle.pp_model.specs.declared.moves.Move.TheVariants as move
use Rattle.pp_model.specs.Pool.{State}
use Rattle.pp_model.specs.WorkerParts.{worker_of}
use Rattle.pp_core.specs.Queries.{is_idle, is_leaving, ask_of}
use Rattle.pp_device.specs.Image.{head_of}
use Rattle.pp_vault.specs.declared.tokens.Duty.{Duty}
use Rattle.pp_vault.specs.declared.tokens.Duty.TheVariants as duty
use Rattle.pp_vault.specs.declared.tokens.Leaver.{Leaver}
use Rattle.pp_vault.specs.declared.tokens.Returned.{Returned}
use Rattle.pp_vault.specs.declared.guards.Guard.{Guard}
use Rattle.pp_vault.specs.declared.guards.Guard.TheVariants.{Pin, Read, Write, Bundle}
use Rattle.pp_vault.specs.declared.stage.Stage.{Stage}
use Rattle.pp_vault.specs.declared.stage.Stage.TheVariants.{Idle, In, Out, Back, Leaving}
use Rattle.pp_vault.specs.declared.stage.Hand.{Hand}
use Rattle.pp_vault.specs.declared.fixing.Fixed.TheVariants as fixed
use Rattle.pp_vault.specs.declared.answering.Answered.{Answered}
use Rattle.pp_vault.specs.declared.answering.Answered.TheVariants as answered
use Rattle.pp_vault.specs.Parts.{Parts}
use Rattle.pp_vault.specs.Calls.{asks}
use Rattle.pp_vault.specs.Fits.{is_acting, names_slot, fix_slot, fits_both, bundle_fits, asks_unfix, asks_scatter}
use Rattle.pp_vault.specs.Fits.{asks_latch, asks_unlatch, leaver_fits, leaver_fits_bundle, unwind_call}
use Rattle.pp_vault.specs.Tokens.{is_long}
use Rattle.pp_vault.specs.Answers.{is_flush_out, is_write_out, is_read_out, came_of, duty_call, answer_call, DutyEnds}
use Rattle.pp_vault.specs.Leaves.{give_back_call}
use Rattle.pp_vault.specs.Stages.{stage_worker}
use Rattle.pp_vault.specs.Duties.{duty_worker}
use Rattle.pp_contents.specs.HandMoves.{HandMoves, takes, chooses, finishes, ends, fixes, answers, unfixes, scatters}
use Rattle.pp_contents.specs.HandMoves.{latches_shared, latches_exclusive, unlatches_shared, unlatches_exclusive}
use Rattle.pp_contents.specs.HandMoves.{gives_back, call_in}
use Rattle.pp_contents.proofs.MovesDone.{if_asks, guard_is}

-- ---- whose move a call is

module _ (old new : Parts) (s : State) (m : Move) where
  duty_mover : (d : Duty) (image : List ℕ) (ok : Bool) → duty_call old.page_bytes d image ok s ≡ asks m
      → worker_of m ≡ duty_worker d
  duty_mover (duty.Read w slot page) image ok is =
      let k : Move = move.ReadDone w (came_of ok (head_of image)) in
      ap worker_of (sym (if_asks (is_read_out old.page_bytes w slot page image s) k m is).1)
  duty_mover (duty.Write w slot page victim) image ok is =
      ap worker_of
      (sym (if_asks (is_write_out old.page_bytes w slot page victim image s) (move.WriteDone w ok) m is).1)
  duty_mover (duty.Flush page) image ok is =
      ap worker_of (sym (if_asks (is_flush_out old.page_bytes page image s) (move.FlushDone ok) m is).1)

  unwinder : (long : Bool) (x : Leaver) (of slot page : ℕ) (held : Held)
      → unwind_call long held x.worker of slot page s ≡ asks m → worker_of m ≡ Some x.worker
  unwinder long x of slot page held is =
      ap worker_of
      (sym (if_asks (leaver_fits s x.worker of slot page held && long) (move.Unwind x.worker slot) m is).1)

  gives_mover : (x : Leaver) (g : Guard) → give_back_call old x g s ≡ asks m → worker_of m ≡ Some x.worker
  gives_mover x (Pin g) is = unwinder true x g.worker g.slot g.page Free is
  gives_mover x (Read g) is = unwinder true x g.worker g.slot g.page S is
  gives_mover x (Write g) is = unwinder (is_long old g.image) x g.worker g.slot g.page X is
  gives_mover x (Bundle g) is =
      ap worker_of
      (sym (if_asks (leaver_fits_bundle s x.worker g.worker g.slot) (move.Unwind x.worker g.slot) m is).1)

  -- The move is of the worker whose token the hand had.
  pub mover : (hand left : Hand) (moves : HandMoves old hand new left) → call_in old hand new left moves s ≡ asks m
      → worker_of m ≡ stage_worker hand.stage
  mover hand left (takes chair session e does images now) is =
      ap worker_of (sym (if_asks (is_idle s chair.worker) (move.Take chair.worker) m is).1) ∙ sym (ap stage_worker e)
  mover hand left (chooses session now branch e does images has) is =
      ap worker_of (sym (if_asks (is_acting s session.worker) (move.Choose session.worker branch) m is).1)
      ∙ sym (ap stage_worker e)
  mover hand left (finishes session chair e does images now) is =
      ap worker_of (sym (if_asks (is_acting s session.worker) (move.Finish session.worker) m is).1)
      ∙ sym (ap stage_worker e)
  mover hand left (ends leaver chair e does images now) is =
      ap worker_of (sym (if_asks (is_leaving s leaver.worker) (move.Finish leaver.worker) m is).1)
      ∙ sym (ap stage_worker e)
  mover hand left (fixes session page out e gives has) is =
      ap worker_of
      (sym (if_asks (names_slot (fix_slot session.ask) (ask_of s session.worker)) (move.Fix session.worker page) m is).1)
      ∙ sym (ap stage_worker e)
  mover hand left (answers returned out e comes has) is =
      duty_mover returned.duty returned.image (is_ok returned.answer) is ∙ sym (ap stage_worker e)
  mover hand left (unfixes session now slot g e there does has) is =
      ap worker_of
      (sym (guard_is (fits_both s session.worker g.worker g.slot g.page Free)
      (asks_unfix g.slot (ask_of s session.worker)) (move.Unfix session.worker) m is).2)
      ∙ sym (ap stage_worker e)
  mover hand left (scatters session now slot g e there does has) is =
      ap worker_of
      (sym (guard_is (bundle_fits s session.worker g.worker g.slot)
      (asks_scatter g.slot (ask_of s session.worker)) (move.Unfix session.worker) m is).2)
      ∙ sym (ap stage_worker e)
  mover hand left (latches_shared session now slot g latched e there does has) is =
      ap worker_of
      (sym (guard_is (fits_both s session.worker g.worker g.slot g.page Free)
      (asks_latch g.slot mode.S (ask_of s session.worker)) (move.Latch session.worker) m is).2)
      ∙ sym (ap stage_worker e)
  mover hand left (latches_exclusive session now slot g latched e there does has) is =
      ap worker_of
      (sym (guard_is (fits_both s session.worker g.worker g.slot g.page Free)
      (asks_latch g.slot mode.X (ask_of s session.worker)) (move.Latch session.worker) m is).2)
      ∙ sym (ap stage_worker e)
  mover hand left (unlatches_shared session now slot g pinned e there does has) is =
      ap worker_of
      (sym (guard_is (fits_both s session.worker g.worker g.slot g.page S)
      (asks_unlatch g.slot (ask_of s session.worker)) (move.Unlatch session.worker) m is).2)
      ∙ sym (ap stage_worker e)
  mover hand left (unlatches_exclusive session now slot g pinned e there does has) is =
      ap worker_of
      (sym (guard_is (fits_both s session.worker g.worker g.slot g.page X && is_long old g.image)
      (asks_unlatch g.slot (ask_of s session.worker)) (move.Unlatch session.worker) m is).2)
      ∙ sym (ap stage_worker e)
  mover hand left (gives_back leaver now slot g e there gives has) is =
      gives_mover leaver g is ∙ sym (ap stage_worker e)

-- ---- the hand after it

abbrev is_back : Stage → Bool
is_back (Idle chair) = false
is_back (In session) = false
is_back (Out errand) = false
is_back (Back returned) = true
is_back (Leaving leaver) = false

abbrev at_back : Hand → Bool
at_back hand = is_back hand.stage

left_ahead : (old new : Parts) (hand left : Hand) → HandMoves old hand new left → at_back left ≡ false
left_ahead old new hand left (takes chair session e does images now) = ap at_back now
left_ahead old new hand left (chooses session now branch e does images is) = ap at_back is
left_ahead old new hand left (finishes session chair e does images now) = ap at_back now
left_ahead old new hand left (ends leaver chair e does images now) = ap at_back now
left_ahead old new hand left (fixes session page (fixed.Got x g) e gives has) = ap at_back has
left_ahead old new hand left (fixes session page (fixed.Opened x g) e gives has) = ap at_back has
left_ahead old new hand left (fixes session page (fixed.Joined x) e gives has) = ap at_back has
left_ahead old new hand left (fixes session page (fixed.Away errand) e gives has) = ap at_back has
left_ahead old new hand left (answers returned (answered.Got session guard) e comes has) = ap at_back has
left_ahead old new hand left (answers returned (answered.Opened session guard) e comes has) = ap at_back has
left_ahead old new hand left (answers returned (answered.Joined session) e comes has) = ap at_back has
left_ahead old new hand left (answers returned (answered.Away errand) e comes has) = ap at_back has
left_ahead old new hand left (answers returned (answered.Lost leaver) e comes has) = ap at_back has
left_ahead old new hand left (answers returned (answered.Flushed clean) e comes has) = absurd has
left_ahead old new hand left (unfixes session now slot g e there does has) = ap at_back has
left_ahead old new hand left (scatters session now slot g e there does has) = ap at_back has
left_ahead old new hand left (latches_shared session now slot g latched e there does has) = ap at_back has
left_ahead old new hand left (latches_exclusive session now slot g latched e there does has) = ap at_back has
left_ahead old new hand left (unlatches_shared session now slot g pinned e there does has) = ap at_back has
left_ahead old new hand left (unlatches_exclusive session now slot g pinned e there does has) = ap at_back has
left_ahead old new hand left (gives_back leaver now slot g e there gives has) = ap at_back has

-- No hand has an answer of a device after a call.
pub left_answered : (old new : Parts) (hand left : Hand) → HandMoves old hand new left → (x : Returned)
    → left.stage ≡ Back x → ⊥
left_answered old new hand left moves x e = false≢true (sym (left_ahead old new hand left moves) ∙ ap is_back e)

-- ---- the hand before it

-- Whether a device works for the worker, or did.
abbrev pub is_abroad : Stage → Bool
is_abroad (Idle chair) = false
is_abroad (In session) = false
is_abroad (Out errand) = true
is_abroad (Back returned) = true
is_abroad (Leaving leaver) = false

-- A call that takes no answer is a worker's for which no device works.
pub is_home : (old new : Parts) (hand left : Hand) → ((x : Returned) → hand.stage ≡ Back x → ⊥)
    → HandMoves old hand new left → is_abroad hand.stage ≡ false
is_home old new hand left none (takes chair session e does images now) = ap is_abroad e
is_home old new hand left none (chooses session now branch e does images is) = ap is_abroad e
is_home old new hand left none (finishes session chair e does images now) = ap is_abroad e
is_home old new hand left none (ends leaver chair e does images now) = ap is_abroad e
is_home old new hand left none (fixes session page out e gives has) = ap is_abroad e
is_home old new hand left none (answers returned out e comes has) = absurd (none returned e)
is_home old new hand left none (unfixes session now slot g e there does has) = ap is_abroad e
is_home old new hand left none (scatters session now slot g e there does has) = ap is_abroad e
is_home old new hand left none (latches_shared session now slot g latched e there does has) = ap is_abroad e
is_home old new hand left none (latches_exclusive session now slot g latched e there does has) = ap is_abroad e
is_home old new hand left none (unlatches_shared session now slot g pinned e there does has) = ap is_abroad e
is_home old new hand left none (unlatches_exclusive session now slot g pinned e there does has) = ap is_abroad e
is_home old new hand left none (gives_back leaver now slot g e there gives has) = ap is_abroad e

-- What an answer of a device came to, and that it is this move.
pub record Ended (old new : Parts) (x : Returned) (s : State) (m : Move) : Type 0 where
  pub out : Answered
  pub done : DutyEnds old x.duty x.image (is_ok x.answer) out new
  pub is : answer_call old.page_bytes x s ≡ asks m

-- The answer in a stage. (The other one where there is none; no lemma looks there.)
abbrev returned_in : Returned → Stage → Returned
returned_in other (Idle chair) = other
returned_in other (In session) = other
returned_in other (Out errand) = other
returned_in other (Back returned) = returned
returned_in other (Leaving leaver) = other

module _ (old new : Parts) (s : State) (m : Move) (hand left : Hand) (x : Returned) (at : hand.stage ≡ Back x) where
  not_at : (y : Stage) → hand.stage ≡ y → is_back y ≡ false → ⊥
  not_at y e none = false≢true (sym none ∙ ap is_back (sym e ∙ at))

  -- A call with an answer of a device at hand takes it.
  pub answer_ended : (moves : HandMoves old hand new left) → call_in old hand new left moves s ≡ asks m
      → Ended old new x s m
  answer_ended (takes chair session e does images now) is = absurd (not_at (Idle chair) e refl)
  answer_ended (chooses session now branch e does images has) is = absurd (not_at (In session) e refl)
  answer_ended (finishes session chair e does images now) is = absurd (not_at (In session) e refl)
  answer_ended (ends leaver chair e does images now) is = absurd (not_at (Leaving leaver) e refl)
  answer_ended (fixes session page out e gives has) is = absurd (not_at (In session) e refl)
  answer_ended (answers returned out e comes has) is =
      let it : returned ≡ x = ap (returned_in returned) (sym e ∙ at) in
      subst (λ y. Ended old new y s m) it (record { out = out; done = comes; is = is })
  answer_ended (unfixes session now slot g e there does has) is = absurd (not_at (In session) e refl)
  answer_ended (scatters session now slot g e there does has) is = absurd (not_at (In session) e refl)
  answer_ended (latches_shared session now slot g latched e there does has) is = absurd (not_at (In session) e refl)
  answer_ended (latches_exclusive session now slot g latched e there does has) is = absurd (not_at (In session) e refl)
  answer_ended (unlatches_shared session now slot g pinned e there does has) is = absurd (not_at (In session) e refl)
  answer_ended (unlatches_exclusive session now slot g pinned e there does has) is = absurd (not_at (In session) e refl)
  answer_ended (gives_back leaver now slot g e there gives has) is = absurd (not_at (Leaving leaver) e refl)
