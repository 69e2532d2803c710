-- What a call of a vault that is done makes of the hand in which its tokens were.
use Rattle.std.specs.Prelude.{◌≡◌, ℕ, Some, None, slice_set}
use Rattle.pp_vault.specs.declared.guards.Guard.{Guard}
use Rattle.pp_vault.specs.declared.guards.Guard.TheVariants.{Pin, Read, Write, Bundle}
use Rattle.pp_vault.specs.declared.guards.PinGuard.{PinGuard}
use Rattle.pp_vault.specs.declared.guards.ReadGuard.{ReadGuard}
use Rattle.pp_vault.specs.declared.guards.WriteGuard.{WriteGuard}
use Rattle.pp_vault.specs.declared.guards.BundleGuard.{BundleGuard}
use Rattle.pp_vault.specs.declared.tokens.Chair.{Chair}
use Rattle.pp_vault.specs.declared.tokens.Session.{Session}
use Rattle.pp_vault.specs.declared.tokens.Leaver.{Leaver}
use Rattle.pp_vault.specs.declared.tokens.Returned.{Returned}
use Rattle.pp_vault.specs.declared.stage.Stage.{Stage}
use Rattle.pp_vault.specs.declared.stage.Stage.TheVariants.{Idle, In, Out, Back, Leaving}
use Rattle.pp_vault.specs.declared.stage.Hand.{Hand}
use Rattle.pp_vault.specs.declared.fixing.Fixed.{Fixed}
use Rattle.pp_vault.specs.declared.fixing.Fixed.TheVariants as fixed
use Rattle.pp_vault.specs.declared.answering.Answered.{Answered}
use Rattle.pp_vault.specs.declared.answering.Answered.TheVariants as answered
use Rattle.pp_cert.specs.declared.note.Held.TheVariants.{S}
use Rattle.pp_plan.specs.declared.mode.Mode.TheVariants as mode
use Rattle.pp_model.specs.Pool.{State}
use Rattle.pp_vault.specs.Parts.{Parts}
use Rattle.pp_vault.specs.Calls.{Call}
use Rattle.pp_vault.specs.Events.{Does}
use Rattle.pp_vault.specs.Fits.{take_call, choose_call, finish_call, end_call, fix_slot, fix_call, unfix_call, scatter_call}
use Rattle.pp_vault.specs.Fits.{latch_call, unlatch_call, put_back_call}
use Rattle.pp_vault.specs.Tokens.{is_long}
use Rattle.pp_vault.specs.Fixes.{FixAnswers}
use Rattle.pp_vault.specs.Answers.{answer_call, AnswerComesTo}
use Rattle.pp_vault.specs.Uses.{Unfixes, Scatters, LatchesShared, LatchesExclusive, UnlatchesShared, UnlatchesExclusive}
use Rattle.pp_vault.specs.Leaves.{give_back_call, GivesBack}
use Rattle.pp_vault.specs.ImageMoves.{ImagesStay}
use Rattle.pp_vault.specs.Holding.{placed}

-- The hand has this token now, and its guards are as they were.
abbrev pub IsNowAt : (hand : Hand) → Stage → (left : Hand) → Type 0
IsNowAt hand stage left = left ≡ record hand { stage = stage }

-- It has this token, and in the place of the slot this guard in place of the one that was there.
abbrev pub HasNow : (hand : Hand) → Stage → (slot : ℕ) → Guard → (left : Hand) → Type 0
HasNow hand stage slot guard left =
    left ≡ record { stage = stage; guards = slice_set (slice_set hand.guards slot None) slot (Some guard) }

-- It has this token, and the guard of the slot is spent.
abbrev pub HasSpent : (hand : Hand) → Stage → (slot : ℕ) → (left : Hand) → Type 0
HasSpent hand stage slot left = left ≡ record { stage = stage; guards = slice_set hand.guards slot None }

-- What a fix gave: the guard of a slot, or of a bundle that it opened; nothing beside the token for a further page of a
-- bundle; or an errand.
abbrev pub HasFixed : (hand : Hand) → Fixed → (left : Hand) → Type 0
HasFixed hand (fixed.Got session guard) left =
    left ≡ record { stage = In session; guards = slice_set hand.guards guard.slot (Some (Pin guard)) }
HasFixed hand (fixed.Opened session guard) left =
    left ≡ record { stage = In session; guards = slice_set hand.guards guard.slot (Some (Bundle guard)) }
HasFixed hand (fixed.Joined session) left = IsNowAt hand (In session) left
HasFixed hand (fixed.Away errand) left = IsNowAt hand (Out errand) left

-- What an answer gave: the guard of a slot, or of a bundle that it opened; nothing beside the token for a further page of a
-- bundle; a further errand; or the way out of the plan.
abbrev pub HasAnswer : (hand : Hand) → Answered → (left : Hand) → Type 0
HasAnswer hand (answered.Got session guard) left =
    left ≡ record { stage = In session; guards = slice_set hand.guards guard.slot (Some (Pin guard)) }
HasAnswer hand (answered.Opened session guard) left =
    left ≡ record { stage = In session; guards = slice_set hand.guards guard.slot (Some (Bundle guard)) }
HasAnswer hand (answered.Joined session) left = IsNowAt hand (In session) left
HasAnswer hand (answered.Away errand) left = IsNowAt hand (Out errand) left
HasAnswer hand (answered.Lost leaver) left = IsNowAt hand (Leaving leaver) left
HasAnswer hand (answered.Flushed clean) left = ⊥

-- A call of a vault is done with the tokens of this hand, and what it gave is in the hand.
pub data HandMoves (old : Parts) (hand : Hand) (new : Parts) (left : Hand) : Type 0 where
  takes : (chair : Chair) (session : Session) → hand.stage ≡ Idle chair → Does old (take_call chair.worker) new
      → ImagesStay old new → IsNowAt hand (In session) left → HandMoves old hand new left
  chooses : (session now : Session) (branch : ℕ) → hand.stage ≡ In session
      → Does old (choose_call session.worker branch) new → ImagesStay old new → IsNowAt hand (In now) left
      → HandMoves old hand new left
  finishes : (session : Session) (chair : Chair) → hand.stage ≡ In session → Does old (finish_call session.worker) new
      → ImagesStay old new → IsNowAt hand (Idle chair) left → HandMoves old hand new left
  ends : (leaver : Leaver) (chair : Chair) → hand.stage ≡ Leaving leaver → Does old (end_call leaver.worker) new
      → ImagesStay old new → IsNowAt hand (Idle chair) left → HandMoves old hand new left
  fixes : (session : Session) (page : ℕ) (fixed : Fixed) → hand.stage ≡ In session
      → FixAnswers old session page fixed new → HasFixed hand fixed left → HandMoves old hand new left
  answers : (returned : Returned) (answered : Answered) → hand.stage ≡ Back returned
      → AnswerComesTo old returned answered new → HasAnswer hand answered left → HandMoves old hand new left
  unfixes : (session now : Session) (slot : ℕ) (guard : PinGuard) → hand.stage ≡ In session
      → placed hand.guards slot ≡ Some (Pin guard) → Unfixes old session guard new now
      → HasSpent hand (In now) slot left → HandMoves old hand new left
  scatters : (session now : Session) (slot : ℕ) (guard : BundleGuard) → hand.stage ≡ In session
      → placed hand.guards slot ≡ Some (Bundle guard) → Scatters old session guard new now
      → HasSpent hand (In now) slot left → HandMoves old hand new left
  latches_shared : (session now : Session) (slot : ℕ) (guard : PinGuard) (latched : ReadGuard)
      → hand.stage ≡ In session → placed hand.guards slot ≡ Some (Pin guard)
      → LatchesShared old session guard new now latched → HasNow hand (In now) slot (Read latched) left
      → HandMoves old hand new left
  latches_exclusive : (session now : Session) (slot : ℕ) (guard : PinGuard) (latched : WriteGuard)
      → hand.stage ≡ In session → placed hand.guards slot ≡ Some (Pin guard)
      → LatchesExclusive old session guard new now latched → HasNow hand (In now) slot (Write latched) left
      → HandMoves old hand new left
  unlatches_shared : (session now : Session) (slot : ℕ) (guard : ReadGuard) (pinned : PinGuard)
      → hand.stage ≡ In session → placed hand.guards slot ≡ Some (Read guard)
      → UnlatchesShared old session guard new now pinned → HasNow hand (In now) slot (Pin pinned) left
      → HandMoves old hand new left
  unlatches_exclusive : (session now : Session) (slot : ℕ) (guard : WriteGuard) (pinned : PinGuard)
      → hand.stage ≡ In session → placed hand.guards slot ≡ Some (Write guard)
      → UnlatchesExclusive old session guard new now pinned → HasNow hand (In now) slot (Pin pinned) left
      → HandMoves old hand new left
  gives_back : (leaver now : Leaver) (slot : ℕ) (guard : Guard) → hand.stage ≡ Leaving leaver
      → placed hand.guards slot ≡ Some guard → GivesBack old leaver guard new now
      → HasSpent hand (Leaving now) slot left → HandMoves old hand new left

-- Which call of the vault it is.
abbrev pub call_in : (old : Parts) (hand : Hand) (new : Parts) (left : Hand) → HandMoves old hand new left → State → Call
call_in old hand new left (takes chair session at does images has) = take_call chair.worker
call_in old hand new left (chooses session now branch at does images has) = choose_call session.worker branch
call_in old hand new left (finishes session chair at does images has) = finish_call session.worker
call_in old hand new left (ends leaver chair at does images has) = end_call leaver.worker
call_in old hand new left (fixes session page fixed at gives has) = fix_call session.worker (fix_slot session.ask) page
call_in old hand new left (answers returned answered at comes has) = answer_call old.page_bytes returned
call_in old hand new left (unfixes x now slot guard at there does has) =
    unfix_call x.worker guard.worker guard.slot guard.page
call_in old hand new left (scatters x now slot guard at there does has) = scatter_call x.worker guard.worker guard.slot
call_in old hand new left (latches_shared x now slot guard latched at there does has) =
    latch_call mode.S x.worker guard.worker guard.slot guard.page
call_in old hand new left (latches_exclusive x now slot guard latched at there does has) =
    latch_call mode.X x.worker guard.worker guard.slot guard.page
call_in old hand new left (unlatches_shared x now slot guard pinned at there does has) =
    unlatch_call S x.worker guard.worker guard.slot guard.page
call_in old hand new left (unlatches_exclusive x now slot guard pinned at there does has) =
    put_back_call (is_long old guard.image) x.worker guard.worker guard.slot guard.page
call_in old hand new left (gives_back leaver now slot guard at there does has) = give_back_call old leaver guard
