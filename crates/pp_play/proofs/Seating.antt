-- Take, choose and finish, where the worker's hand fits.
use Rattle.std.proofs.Common.{◌≡◌, ◌∙◌, ℕ, Bool, true, false, [], Option, Some, None, refl, sym, ap, subst, rules}
use Rattle.std.specs.Prelude.{if◌then◌else◌, unwrap_or}
use Rattle.std.proofs.lemmas.Bool.{false≢true}
use Rattle.pp_model.specs.declared.moves.Move.{Move}
use Rattle.pp_model.specs.declared.moves.Move.TheVariants as move
use Rattle.pp_model.specs.declared.reply.Ending.{Ending}
use Rattle.pp_model.specs.Pool.{Running, State}
use Rattle.pp_model.specs.Moves.{reply_of, next_of, seat_of}
use Rattle.pp_core.specs.Gathered.{bundle_in}
use Rattle.pp_core.specs.Queries.{is_idle, idle_by, is_leaving, held_by}
use Rattle.pp_core.specs.AfterMoves.{HasFinished}
use Rattle.pp_core.proofs.AfterMoves.{after_moves}
use Rattle.pp_core.proofs.Alike.{same_idle}
use Rattle.pp_vault.specs.declared.refusal.Refusal.{Refusal}
use Rattle.pp_vault.specs.declared.tokens.Chair.{Chair}
use Rattle.pp_vault.specs.declared.tokens.Leaver.{Leaver}
use Rattle.pp_vault.specs.declared.tokens.Session.{Session}
use Rattle.pp_vault.specs.declared.stage.Stage.{Stage}
use Rattle.pp_vault.specs.declared.stage.Stage.TheVariants as stage
use Rattle.pp_vault.specs.declared.stage.Hand.{Hand}
use Rattle.pp_vault.specs.Parts.{Parts}
use Rattle.pp_vault.specs.StandsFor.{StandsFor, IsKept}
use Rattle.pp_vault.specs.Calls.{Call, stranger, asks, refusal_in, refusal_of, after_call}
use Rattle.pp_vault.specs.Events.{Does, Refuses}
use Rattle.pp_vault.specs.Fits.{is_acting, is_acting_by, take_call, choose_call, finish_call, end_call}
use Rattle.pp_vault.specs.Tokens.{SessionFits}
use Rattle.pp_vault.specs.Hands.{StageFits}
use Rattle.pp_vault.specs.HandLaws.{FitsIn, LeavesSlot}
use Rattle.pp_vault.proofs.FitTests.{none_gathered}
use Rattle.pp_vault.proofs.Plain.{answered, taken, chosen, finished}
use Rattle.pp_play.specs.Doing.{LeavesOthers}
use Rattle.pp_play.proofs.Exactly.{not_refusal}
use Rattle.pp_play.proofs.Fitting.{Laws, called_by, others_left, guards_left}
use Rattle.pp_play.proofs.Room.{gathered_same}

-- ---- calls that are done

-- A call that is this move where a test of the state passes.
abbrev tested : (State → Bool) → Move → State → Call
tested test m s = if test s then asks m else stranger

leaves_if : (s : State) (b : Bool) (m : Move) (w slot : ℕ) → (b ≡ true → LeavesSlot s (asks m) w slot)
    → LeavesSlot s (if b then asks m else stranger) w slot
leaves_if s true m w slot h = h refl
leaves_if s false m w slot h = tt

done_move : (s : State) (b : Bool) (m : Move) → refusal_of s (if b then asks m else stranger) ≡ None
    → refusal_in (reply_of s m) ≡ None
done_move s true m e = e
done_move s false m e = absurd (search rules)

asked_move : (s : State) (b : Bool) (m : Move) → refusal_of s (if b then asks m else stranger) ≡ None
    → next_of s m ≡ after_call s (if b then asks m else stranger)
asked_move s true m e = refl
asked_move s false m e = absurd (search rules)

idle_empty : (o : Option (Option Running)) → idle_by o ≡ true → (slot : ℕ) → held_by o slot ≡ None
idle_empty None e slot = refl
idle_empty (Some None) e slot = refl
idle_empty (Some (Some r)) e slot = absurd (false≢true e)

idle_no_bundle : (o : Option (Option Running)) → idle_by o ≡ true → (slot : ℕ) → bundle_in (unwrap_or o None) slot ≡ []
idle_no_bundle None e slot = refl
idle_no_bundle (Some None) e slot = refl
idle_no_bundle (Some (Some r)) e slot = absurd (false≢true e)

module _ (laws : Laws) (old new : Parts) (kept : IsKept old) (w : ℕ) (hand : Hand) (fits : FitsIn old w hand) where
  -- ---- take

  module _ (does : Does old (take_call w) new) where
    take_leaves : (s : State) → StandsFor old s → (slot : ℕ) → LeavesSlot s (take_call w s) w slot
    take_leaves s st slot =
        let done = done_move s (is_idle s w) (move.Take w) (does.allowed s st) in
        let of = taken w (reply_of s (move.Take w))
        (answered s (move.Take w) (reply_of s (move.Take w)) refl (not_refusal (reply_of s (move.Take w)) done)) in
        let begun = (after_moves s st.core.reached).taken w of.0 of.1 in
        leaves_if s (is_idle s w) (move.Take w) w slot
        (λ idle. (
          begun.empty slot ∙ sym (idle_empty (seat_of s w) idle slot),
          none_gathered (next_of s (move.Take w)) w slot (begun.no_bundle slot)
              ∙ sym (none_gathered s w slot (idle_no_bundle (seat_of s w) idle slot)),
          λ r. r,
        ))

    pub take_others : LeavesOthers old w new
    take_others =
        others_left laws old new (take_call w) kept does w
        (λ s st. called_by s (is_idle s w) (move.Take w) w (does.allowed s st) refl)

    pub take_fits : (session : Session) → SessionFits new w session
        → FitsIn new w (record { stage = stage.In session; guards = hand.guards })
    take_fits session now =
        guards_left laws old new (take_call w) kept does w hand fits take_leaves (stage.In session)
        (λ t st. (now.worker, now.ask t st))

  -- ---- choose

  module _ (branch : ℕ) (does : Does old (choose_call w branch) new) where
    choose_leaves : (s : State) → StandsFor old s → (slot : ℕ) → LeavesSlot s (choose_call w branch s) w slot
    choose_leaves s st slot =
        let m = move.Choose w branch in
        let done = done_move s (is_acting s w) m (does.allowed s st) in
        let is = chosen w branch (reply_of s m) (answered s m (reply_of s m) refl (not_refusal (reply_of s m) done)) in
        leaves_if s (is_acting s w) m w slot
        (λ acts.
        let c = (after_moves s st.core.reached).chosen w branch is in
        (c.slots slot, gathered_same s (next_of s m) w slot (c.bundles slot), λ r. r))

    pub choose_others : LeavesOthers old w new
    choose_others =
        others_left laws old new (choose_call w branch) kept does w
        (λ s st. called_by s (is_acting s w) (move.Choose w branch) w (does.allowed s st) refl)

    pub choose_fits : (session : Session) → SessionFits new w session
        → FitsIn new w (record { stage = stage.In session; guards = hand.guards })
    choose_fits session now =
        guards_left laws old new (choose_call w branch) kept does w hand fits choose_leaves (stage.In session)
        (λ t st. (now.worker, now.ask t st))

  -- ---- finish and end

  module _ (test : State → Bool) (does : Does old (tested test (move.Finish w)) new) where
    over : (s : State) → StandsFor old s → (by : Ending) × HasFinished s (next_of s (move.Finish w)) w by
    over s st =
        let m = move.Finish w in
        let done = done_move s (test s) m (does.allowed s st) in
        let is = finished w (reply_of s m) (answered s m (reply_of s m) refl (not_refusal (reply_of s m) done)) in
        (is.0, (after_moves s st.core.reached).finished w is.0 is.1)

    finish_leaves : (s : State) → StandsFor old s → (slot : ℕ)
        → LeavesSlot s (tested test (move.Finish w) s) w slot
    finish_leaves s st slot =
        let h = (over s st).1 in
        leaves_if s (test s) (move.Finish w) w slot
        (λ b. (
          h.after slot ∙ sym (h.empty slot),
          none_gathered (next_of s (move.Finish w)) w slot (h.no_bundle_after slot)
              ∙ sym (none_gathered s w slot (h.no_bundle slot)),
          λ r. r,
        ))

    pub finish_others : LeavesOthers old w new
    finish_others =
        others_left laws old new (tested test (move.Finish w)) kept does w
        (λ s st. called_by s (test s) (move.Finish w) w (does.allowed s st) refl)

    idle_now : (t : State) → StandsFor new t → is_idle t w ≡ true
    idle_now t st =
        let s = kept.state in
        let at = asked_move s (test s) (move.Finish w) (does.allowed s kept.stands) in
        let there = subst (StandsFor new) (sym at) (does.stands s kept.stands) in
        same_idle new.core t (next_of s (move.Finish w)) st.core there.core w ∙ (over s kept.stands).1.idle

    pub finish_fits : (chair : Chair) → chair.worker ≡ w
        → FitsIn new w (record { stage = stage.Idle chair; guards = hand.guards })
    finish_fits chair of =
        guards_left laws old new (tested test (move.Finish w)) kept does w hand fits finish_leaves (stage.Idle chair)
        (λ t st. (of, idle_now t st))

-- ---- calls that are refused, where the token fits

refused_if : (s : State) (b : Bool) (m : Move) (why : Refusal) → b ≡ true
    → refusal_of s (if b then asks m else stranger) ≡ Some why → refusal_in (reply_of s m) ≡ Some why
refused_if s b m why is e = subst (λ x. refusal_of s (if x then asks m else stranger) ≡ Some why) is e

module _ (old : Parts) (w : ℕ) (hand : Hand) (fits : FitsIn old w hand) (why : Refusal) where
  fits_at : (s : State) → StandsFor old s → (x : Stage) → hand.stage ≡ x → StageFits old.page_bytes s w x
  fits_at s st x is = subst (λ y. StageFits old.page_bytes s w y) is (fits s st).stage

  pub take_refused : (chair : Chair) → hand.stage ≡ stage.Idle chair → Refuses old (take_call w) why → (s : State)
      → StandsFor old s → refusal_in (reply_of s (move.Take w)) ≡ Some why
  take_refused chair is refuses s st =
      refused_if s (is_idle s w) (move.Take w) why (fits_at s st (stage.Idle chair) is).1 (refuses s st)

  pub choose_refused : (branch : ℕ) (session : Session) → hand.stage ≡ stage.In session
      → Refuses old (choose_call w branch) why → (s : State) → StandsFor old s
      → refusal_in (reply_of s (move.Choose w branch)) ≡ Some why
  choose_refused branch session is refuses s st =
      refused_if s (is_acting s w) (move.Choose w branch) why
      (ap is_acting_by (fits_at s st (stage.In session) is).1) (refuses s st)

  pub finish_refused : (session : Session) → hand.stage ≡ stage.In session → Refuses old (finish_call w) why
      → (s : State) → StandsFor old s → refusal_in (reply_of s (move.Finish w)) ≡ Some why
  finish_refused session is refuses s st =
      refused_if s (is_acting s w) (move.Finish w) why
      (ap is_acting_by (fits_at s st (stage.In session) is).1) (refuses s st)

  pub end_refused : (leaver : Leaver) → hand.stage ≡ stage.Leaving leaver → Refuses old (end_call w) why
      → (s : State) → StandsFor old s → refusal_in (reply_of s (move.Finish w)) ≡ Some why
  end_refused leaver is refuses s st =
      refused_if s (is_leaving s w) (move.Finish w) why (fits_at s st (stage.Leaving leaver) is).1 (refuses s st)
