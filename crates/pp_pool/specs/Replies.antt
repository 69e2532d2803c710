-- What every site promises of a response, whatever others have done meanwhile.
use Rattle.std.specs.Prelude.{◌≡◌, ◌≤◌, ℕ, length, Bool, not, Option, Some, None, IfSome, List, is_ok}
use Rattle.std.specs.Option.{is_some}
use Rattle.pp_model.specs.declared.moves.Move.{Move}
use Rattle.pp_model.specs.declared.moves.Move.TheVariants as move
use Rattle.pp_model.specs.declared.event.Event.{Event}
use Rattle.pp_model.specs.declared.event.Event.TheVariants.{Submit, Step}
use Rattle.pp_device.specs.Image.{head_of}
use Rattle.pp_vault.specs.declared.tokens.Duty.{Duty}
use Rattle.pp_vault.specs.declared.tokens.Duty.TheVariants.{Read, Write, Flush}
use Rattle.pp_vault.specs.Duties.{duty_worker, duty_slot}
use Rattle.pp_vault.specs.Fits.{fix_slot}
use Rattle.pp_vault.specs.Holding.{slot_by}
use Rattle.pp_vault.specs.Answers.{came_of}
use Rattle.pp_pool.specs.declared.request.Request.{Request}
use Rattle.pp_pool.specs.declared.request.Request.TheVariants as request
use Rattle.pp_pool.specs.declared.response.BookAnswer.{BookAnswer}
use Rattle.pp_pool.specs.declared.response.BookAnswer.TheVariants.{Acts, Idle, Leaves, Pinned, Shared, Exclusive, Away}
use Rattle.pp_pool.specs.declared.response.BookAnswer.TheVariants.{Opened, Joined, Flushed, No}
use Rattle.pp_pool.specs.declared.response.Response.{Response}
use Rattle.pp_pool.specs.Performing.{is_no}

-- ---- the event

-- The move that the answer of a device makes.
abbrev pub duty_move : Duty → (image : List ℕ) → (ok : Bool) → Move
duty_move (Read w slot page) image ok = move.ReadDone w (came_of ok (head_of image))
duty_move (Write w slot page victim) image ok = move.WriteDone w ok
duty_move (Flush page) image ok = move.FlushDone ok

-- The move is the request's.
abbrev pub IsMoveOf : Request → Move → Type 0
IsMoveOf (request.Take chair) m = m ≡ move.Take chair.worker
IsMoveOf (request.Fix x page) m = m ≡ move.Fix x.worker page
IsMoveOf (request.Join x page) m = m ≡ move.Fix x.worker page
IsMoveOf (request.Unfix x g) m = m ≡ move.Unfix x.worker
IsMoveOf (request.Scatter x g) m = m ≡ move.Unfix x.worker
IsMoveOf (request.LatchShared x g) m = m ≡ move.Latch x.worker
IsMoveOf (request.LatchExclusive x g) m = m ≡ move.Latch x.worker
IsMoveOf (request.UnlatchShared x g) m = m ≡ move.Unlatch x.worker
IsMoveOf (request.UnlatchExclusive x g) m = m ≡ move.Unlatch x.worker
IsMoveOf (request.Choose x branch) m = m ≡ move.Choose x.worker branch
IsMoveOf (request.Finish x) m = m ≡ move.Finish x.worker
IsMoveOf (request.End x) m = m ≡ move.Finish x.worker
IsMoveOf (request.GiveBack x g) m = m ≡ move.Unwind x.worker (slot_by g)
IsMoveOf (request.Answer returned) m = m ≡ duty_move returned.duty returned.image (is_ok returned.answer)
IsMoveOf (request.AnswerJoin returned) m = m ≡ duty_move returned.duty returned.image (is_ok returned.answer)
IsMoveOf (request.Flush page) m = m ≡ move.FlushBegin page
IsMoveOf (request.FlushNext number) m = (page : ℕ) × (m ≡ move.FlushBegin page)

abbrev pub IsEventOf : Request → Event → Type 0
IsEventOf asked (Submit plan) = ⊥
IsEventOf asked (Step did reply) = IsMoveOf asked did

-- ---- the tokens

-- The tokens of an answer are of the request's worker, and a guard is of the slot and the page that it was of, a bundle's of
-- the slot; one of a latch X has an image of 64 bytes or more. A page that joins a bundle brings no guard. What is refused comes
-- back.
abbrev pub TokensFit : Request → BookAnswer → Type 0
TokensFit asked (No back refusal) = back ≡ asked
TokensFit (request.Take chair) (Acts x) = x.worker ≡ chair.worker
TokensFit (request.Fix x page) (Pinned y g) =
    (y.worker ≡ x.worker) × (g.worker ≡ x.worker) × (g.page ≡ page) × (g.slot ≡ fix_slot x.ask)
TokensFit (request.Fix x page) (Opened y g) = (y.worker ≡ x.worker) × (g.worker ≡ x.worker) × (g.slot ≡ fix_slot x.ask)
TokensFit (request.Fix x page) (Joined y) = y.worker ≡ x.worker
TokensFit (request.Fix x page) (Away errand) = duty_worker errand.duty ≡ Some x.worker
TokensFit (request.Join x page) (Joined y) = y.worker ≡ x.worker
TokensFit (request.Join x page) (Away errand) = duty_worker errand.duty ≡ Some x.worker
TokensFit (request.Unfix x g) (Acts y) = y.worker ≡ x.worker
TokensFit (request.Scatter x g) (Acts y) = y.worker ≡ x.worker
TokensFit (request.LatchShared x g) (Shared y h) = (y.worker ≡ x.worker) × (h.slot ≡ g.slot) × (h.page ≡ g.page)
TokensFit (request.LatchExclusive x g) (Exclusive y h) =
    (y.worker ≡ x.worker) × (h.slot ≡ g.slot) × (h.page ≡ g.page) × (64 ≤ length h.image)
TokensFit (request.UnlatchShared x g) (Pinned y h) = (y.worker ≡ x.worker) × (h.slot ≡ g.slot) × (h.page ≡ g.page)
TokensFit (request.UnlatchExclusive x g) (Pinned y h) = (y.worker ≡ x.worker) × (h.slot ≡ g.slot) × (h.page ≡ g.page)
TokensFit (request.Choose x branch) (Acts y) = y.worker ≡ x.worker
TokensFit (request.Finish x) (Idle chair) = chair.worker ≡ x.worker
TokensFit (request.End x) (Idle chair) = chair.worker ≡ x.worker
TokensFit (request.GiveBack x g) (Leaves y) = y ≡ x
TokensFit (request.Answer returned) (Pinned y g) =
    (duty_worker returned.duty ≡ Some y.worker) × (duty_slot returned.duty ≡ Some g.slot) × (g.worker ≡ y.worker)
TokensFit (request.Answer returned) (Opened y g) =
    (duty_worker returned.duty ≡ Some y.worker) × (duty_slot returned.duty ≡ Some g.slot) × (g.worker ≡ y.worker)
TokensFit (request.Answer returned) (Joined y) = duty_worker returned.duty ≡ Some y.worker
TokensFit (request.Answer returned) (Away errand) = duty_worker errand.duty ≡ duty_worker returned.duty
TokensFit (request.Answer returned) (Leaves x) = duty_worker returned.duty ≡ Some x.worker
TokensFit (request.Answer returned) (Flushed clean) = duty_worker returned.duty ≡ None
TokensFit (request.AnswerJoin returned) (Joined y) = duty_worker returned.duty ≡ Some y.worker
TokensFit (request.AnswerJoin returned) (Away errand) = duty_worker errand.duty ≡ duty_worker returned.duty
TokensFit (request.AnswerJoin returned) (Leaves x) = duty_worker returned.duty ≡ Some x.worker
TokensFit (request.Flush page) (Away errand) = duty_worker errand.duty ≡ None
TokensFit (request.FlushNext number) (Away errand) = duty_worker errand.duty ≡ None
TokensFit asked out = ⊥

-- ---- the slot

-- The slot of a guard or of a page that can come of the request, if one can.
abbrev pub slot_for : Request → Option ℕ
slot_for (request.Fix x page) = Some (fix_slot x.ask)
slot_for (request.Join x page) = Some (fix_slot x.ask)
slot_for (request.Unfix x g) = Some g.slot
slot_for (request.Scatter x g) = Some g.slot
slot_for (request.LatchShared x g) = Some g.slot
slot_for (request.LatchExclusive x g) = Some g.slot
slot_for (request.UnlatchShared x g) = Some g.slot
slot_for (request.UnlatchExclusive x g) = Some g.slot
slot_for (request.GiveBack x g) = Some (slot_by g)
slot_for (request.Answer returned) = duty_slot returned.duty
slot_for (request.AnswerJoin returned) = duty_slot returned.duty
slot_for _ = None

-- An errand is for the request's slot: the one that a fix or a gather names, or the one for which a device has worked. One of
-- the flusher is for none.
abbrev pub SlotFits : Request → BookAnswer → Type 0
SlotFits asked (Away errand) = duty_slot errand.duty ≡ slot_for asked
SlotFits asked out = Unit {0}

-- ---- a response

-- There is an event exactly where the answer is no refusal, and it is the request's; and the tokens fit, an errand's slot
-- too.
pub record Replies (asked : Request) (response : Response) : Type 0 where
  pub done : is_some response.event ≡ not (is_no response.answer)
  pub event : IfSome response.event (IsEventOf asked)
  pub tokens : TokensFit asked response.answer
  pub slot : SlotFits asked response.answer
