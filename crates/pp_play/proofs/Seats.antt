-- How a move of a worker is answered, by what the worker is at and by what its plan asks.
use Rattle.std.proofs.Common.{◌≡◌, ◌∙◌, ℕ, Bool, true, false, Option, Some, None, List, refl, sym, ap, subst, inl, inr}
use Rattle.std.specs.Option.{is_some}
use Rattle.std.proofs.lemmas.Bool.{false≢true}
use Rattle.pp_plan.specs.declared.mode.Mode.{Mode}
use Rattle.pp_plan.specs.declared.action.Ask.{Ask}
use Rattle.pp_plan.specs.declared.action.Ask.TheVariants as ask
use Rattle.pp_cert.specs.declared.note.Held.{Held}
use Rattle.pp_cert.specs.declared.note.Held.TheVariants.{Free, S, X}
use Rattle.pp_cert.specs.Held.{Holding, holding_at}
use Rattle.pp_model.specs.declared.moves.Move.TheVariants as move
use Rattle.pp_model.specs.declared.reply.Reply.{Reply}
use Rattle.pp_model.specs.declared.reply.Reply.TheVariants as reply
use Rattle.pp_model.specs.declared.refusals.Cause.TheVariants.{NotAsked, NotActing, NotLeaving, NotHeld}
use Rattle.pp_model.specs.Pool.{Stage, acting, writing, reading, leaving, Running, State, mark_at}
use Rattle.pp_model.specs.Holders.{holdings, page_in}
use Rattle.pp_model.specs.Outcome.{Outcome, off_plan, released}
use Rattle.pp_model.specs.Using.{unfix_asked, latch_where, latch_asked, goes_with, unlatch_asked}
use Rattle.pp_model.specs.Leaving.{unwound, unwind_where, unwind_in, unwind_by}
use Rattle.pp_model.specs.Moves.{act_in, act_by, asked_by, seat_of, reply_of, is_refusal}
use Rattle.pp_model.specs.Reached.{IsReached}
use Rattle.pp_core.specs.Queries.{idle_by, is_leaving, leaving_by, leaves, ask_of, ask_in, ask_by, held_of}
use Rattle.pp_core.specs.Queries.{gathered_of, errand_of, errand_in, errand_by}
use Rattle.pp_core.proofs.AfterMoves.{after_moves}
use Rattle.pp_vault.specs.Calls.{refusal_in}
use Rattle.pp_vault.specs.declared.tokens.Duty.{Duty}
use Rattle.pp_vault.specs.declared.tokens.Duty.TheVariants as duty
use Rattle.pp_vault.specs.declared.stage.Stage.{Stage as Token}
use Rattle.pp_vault.specs.declared.stage.Stage.TheVariants.{Idle, In, Out, Back, Leaving}
use Rattle.pp_vault.specs.Fits.{is_gathered}
use Rattle.pp_vault.specs.Hands.{StageFits, IsAway}
use Rattle.pp_play.proofs.Asked.{same}
use Rattle.pp_play.proofs.Room.{some_gathered}

-- ---- an errand

module _ (n : ℕ) (s : State) (w : ℕ) where
  -- What is away is an errand of its worker.
  errand_there : (d : Duty) (image : List ℕ) → IsAway n s w d image → is_some (errand_of s w) ≡ true
  errand_there (duty.Read v slot page) image away =
      subst (λ u. is_some (errand_of s u) ≡ true) (same v w away.worker) (ap is_some away.out)
  errand_there (duty.Write v slot page victim) image away =
      subst (λ u. is_some (errand_of s u) ≡ true) (same v w away.worker) (ap is_some away.out)
  errand_there (duty.Flush page) image away = absurd (false≢true (ap is_some away.worker))

-- ---- a worker that doesn't act

-- Whether the token is a session's, and whether it is that of a worker that leaves.
abbrev pub is_session : Token → Bool
is_session (In session) = true
is_session _ = false

abbrev pub is_leaver : Token → Bool
is_leaver (Leaving leaver) = true
is_leaver _ = false

module _ (s : State) (act : Running → Outcome) where
  idle_no : (o : Option (Option Running)) → idle_by o ≡ true → act_by s act o ≡ off_plan s NotActing
  idle_no None e = absurd (false≢true e)
  idle_no (Some None) e = refl
  idle_no (Some (Some r)) e = absurd (false≢true e)

  errand_in_no : (r : Running) (g : Stage) → is_some (errand_in g) ≡ true → act_in s act r g ≡ off_plan s NotActing
  errand_in_no r acting e = absurd (false≢true e)
  errand_in_no r (writing slot page victim) e = refl
  errand_in_no r (reading slot page) e = refl
  errand_in_no r (leaving given) e = absurd (false≢true e)

  errand_no : (o : Option (Option Running)) → is_some (errand_by o) ≡ true → act_by s act o ≡ off_plan s NotActing
  errand_no None e = absurd (false≢true e)
  errand_no (Some None) e = absurd (false≢true e)
  errand_no (Some (Some r)) e = errand_in_no r r.stage e

  leaving_in_no : (r : Running) (g : Stage) → leaves g ≡ true → act_in s act r g ≡ off_plan s NotActing
  leaving_in_no r acting e = absurd (false≢true e)
  leaving_in_no r (writing slot page victim) e = absurd (false≢true e)
  leaving_in_no r (reading slot page) e = absurd (false≢true e)
  leaving_in_no r (leaving given) e = refl

  leaving_no : (o : Option (Option Running)) → leaving_by o ≡ true → act_by s act o ≡ off_plan s NotActing
  leaving_no None e = absurd (false≢true e)
  leaving_no (Some None) e = absurd (false≢true e)
  leaving_no (Some (Some r)) e = leaving_in_no r r.stage e

  -- Whatever the move would be, where the token that fits isn't a session's.
  pub not_acting : (n w : ℕ) (t : Token) → StageFits n s w t → is_session t ≡ false
      → act_by s act (seat_of s w) ≡ off_plan s NotActing
  not_acting n w (Idle chair) fits e = idle_no (seat_of s w) fits.1
  not_acting n w (In session) fits e = absurd (false≢true (sym e))
  not_acting n w (Out errand) fits e = errand_no (seat_of s w) (errand_there n s w errand.duty errand.image fits)
  not_acting n w (Back returned) fits e = errand_no (seat_of s w) (errand_there n s w returned.duty returned.image fits)
  not_acting n w (Leaving leaver) fits e = leaving_no (seat_of s w) fits.1

-- ---- a worker that acts

-- The move goes by what is run, of which the plan asks this.
pub record Acting (s : State) (w : ℕ) (a : Ask) : Type 0 where
  pub run : Running
  pub asks : asked_by run ≡ a
  pub does : (act : Running → Outcome) → act_by s act (seat_of s w) ≡ act run

none_some : {A : Type 0} (a : A) → ◌≡◌ {A = Option A} None (Some a) → ⊥
none_some a e = absurd (false≢true (ap is_some e))

acting_in : (s : State) (r : Running) (g : Stage) (a : Ask) → ask_in r g ≡ Some a
    → (asked_by r ≡ a) × ((act : Running → Outcome) → act_in s act r g ≡ act r)
acting_in s r acting a e = (cc, λ act. refl)
acting_in s r (writing slot page victim) a e = absurd (none_some a e)
acting_in s r (reading slot page) a e = absurd (none_some a e)
acting_in s r (leaving given) a e = absurd (none_some a e)

acting_by : (s : State) (w : ℕ) (a : Ask) (o : Option (Option Running)) → seat_of s w ≡ o → ask_by o ≡ Some a
    → Acting s w a
acting_by s w a None is e = absurd (none_some a e)
acting_by s w a (Some None) is e = absurd (none_some a e)
acting_by s w a (Some (Some r)) is e =
    let d = acting_in s r r.stage a e in
    record { run = r; asks = d.0; does = λ act. ap (act_by s act) is ∙ d.1 act }

pub acts_as : (s : State) (w : ℕ) (a : Ask) → ask_of s w ≡ Some a → Acting s w a
acts_as s w a e = acting_by s w a (seat_of s w) refl e

-- ---- what the plan doesn't ask

-- Whether an unfix is asked, of a slot or of a whole bundle.
abbrev pub is_unfix : Ask → Bool
is_unfix (ask.Unfix slot) = true
is_unfix (ask.Scatter slot) = true
is_unfix _ = false

abbrev pub is_latch : Ask → Bool
is_latch (ask.Latch slot m) = true
is_latch _ = false

abbrev pub is_unlatch : Ask → Bool
is_unlatch (ask.Unlatch slot) = true
is_unlatch _ = false

module _ (s : State) (w : ℕ) where
  no_unfix : (r : Running) (a : Ask) → is_unfix a ≡ false → unfix_asked s w r a ≡ off_plan s NotAsked
  no_unfix r (ask.Fix slot region) e = refl
  no_unfix r (ask.Unfix slot) e = absurd (false≢true (sym e))
  no_unfix r (ask.Latch slot m) e = refl
  no_unfix r (ask.Unlatch slot) e = refl
  no_unfix r (ask.Gather of region) e = refl
  no_unfix r (ask.Scatter of) e = absurd (false≢true (sym e))
  no_unfix r (ask.Choose count) e = refl
  no_unfix r ask.End e = refl

  no_latch : (r : Running) (a : Ask) → is_latch a ≡ false → latch_asked s w r a ≡ off_plan s NotAsked
  no_latch r (ask.Fix slot region) e = refl
  no_latch r (ask.Unfix slot) e = refl
  no_latch r (ask.Latch slot m) e = absurd (false≢true (sym e))
  no_latch r (ask.Unlatch slot) e = refl
  no_latch r (ask.Gather of region) e = refl
  no_latch r (ask.Scatter of) e = refl
  no_latch r (ask.Choose count) e = refl
  no_latch r ask.End e = refl

  no_unlatch : (r : Running) (a : Ask) → is_unlatch a ≡ false → unlatch_asked s w r a ≡ off_plan s NotAsked
  no_unlatch r (ask.Fix slot region) e = refl
  no_unlatch r (ask.Unfix slot) e = refl
  no_unlatch r (ask.Latch slot m) e = refl
  no_unlatch r (ask.Unlatch slot) e = absurd (false≢true (sym e))
  no_unlatch r (ask.Gather of region) e = refl
  no_unlatch r (ask.Scatter of) e = refl
  no_unlatch r (ask.Choose count) e = refl
  no_unlatch r ask.End e = refl

  module _ (a : Ask) (asks : ask_of s w ≡ Some a) where
    at : Acting s w a
    at = acts_as s w a asks

    pub unfix_unasked : is_unfix a ≡ false → reply_of s (move.Unfix w) ≡ reply.OffPlan NotAsked
    unfix_unasked e =
        ap (λ o. o.reply)
        (at.does (λ r. unfix_asked s w r (asked_by r)) ∙ ap (unfix_asked s w at.run) at.asks ∙ no_unfix at.run a e)

    pub latch_unasked : is_latch a ≡ false → reply_of s (move.Latch w) ≡ reply.OffPlan NotAsked
    latch_unasked e =
        ap (λ o. o.reply)
        (at.does (λ r. latch_asked s w r (asked_by r)) ∙ ap (latch_asked s w at.run) at.asks ∙ no_latch at.run a e)

    pub unlatch_unasked : is_unlatch a ≡ false → reply_of s (move.Unlatch w) ≡ reply.OffPlan NotAsked
    unlatch_unasked e =
        ap (λ o. o.reply)
        (at.does (λ r. unlatch_asked s w r (asked_by r)) ∙ ap (unlatch_asked s w at.run) at.asks
        ∙ no_unlatch at.run a e)

  -- ---- what it asks

  pub unfix_did : (slot : ℕ) → ask_of s w ≡ Some (ask.Unfix slot) → reply_of s (move.Unfix w) ≡ reply.Did
  unfix_did slot e =
      let at = acts_as s w (ask.Unfix slot) e in
      ap (λ o. o.reply)
      (at.does (λ r. unfix_asked s w r (asked_by r)) ∙ ap (unfix_asked s w at.run) at.asks)

  pub scatter_did : (slot : ℕ) → ask_of s w ≡ Some (ask.Scatter slot) → reply_of s (move.Unfix w) ≡ reply.Did
  scatter_did slot e =
      let at = acts_as s w (ask.Scatter slot) e in
      ap (λ o. o.reply)
      (at.does (λ r. unfix_asked s w r (asked_by r)) ∙ ap (unfix_asked s w at.run) at.asks)

  latch_by : (r : Running) (slot : ℕ) (m : Mode) (b : Bool) → refusal_in (latch_where s w r slot m b).reply ≡ None
      → (mark : ℕ) × ((latch_where s w r slot m b).reply ≡ reply.Latched mark)
  latch_by r slot m true e = (_, refl)
  latch_by r slot m false e = absurd (false≢true (sym (ap is_some e)))

  pub latch_marks : (slot : ℕ) (m : Mode) → ask_of s w ≡ Some (ask.Latch slot m)
      → refusal_in (reply_of s (move.Latch w)) ≡ None → (mark : ℕ) × (reply_of s (move.Latch w) ≡ reply.Latched mark)
  latch_marks slot m e allowed =
      let at = acts_as s w (ask.Latch slot m) e in
      let is = ap (λ o. o.reply)
      (at.does (λ r. latch_asked s w r (asked_by r)) ∙ ap (latch_asked s w at.run) at.asks) in
      let by = latch_by at.run slot m (goes_with s m (page_in at.run slot))
      (subst (λ r. refusal_in r ≡ None) is allowed) in
      (by.0, is ∙ by.1)

  pub unlatch_marks : (slot : ℕ) → ask_of s w ≡ Some (ask.Unlatch slot)
      → (mark : ℕ) × (reply_of s (move.Unlatch w) ≡ reply.Unlatched mark)
  unlatch_marks slot e =
      let at = acts_as s w (ask.Unlatch slot) e in (
        _,
        ap (λ o. o.reply)
            (at.does (λ r. unlatch_asked s w r (asked_by r)) ∙ ap (unlatch_asked s w at.run) at.asks),
      )

-- ---- a worker that doesn't leave, or doesn't hold the slot

module _ (s : State) (w slot : ℕ) where
  idle_stays : (o : Option (Option Running)) → idle_by o ≡ true → unwind_by s w slot o ≡ off_plan s NotLeaving
  idle_stays None e = absurd (false≢true e)
  idle_stays (Some None) e = refl
  idle_stays (Some (Some r)) e = absurd (false≢true e)

  errand_in_stays : (r : Running) (g : Stage) → is_some (errand_in g) ≡ true
      → unwind_in s w slot r g ≡ off_plan s NotLeaving
  errand_in_stays r acting e = absurd (false≢true e)
  errand_in_stays r (writing k page victim) e = refl
  errand_in_stays r (reading k page) e = refl
  errand_in_stays r (leaving given) e = absurd (false≢true e)

  errand_stays : (o : Option (Option Running)) → is_some (errand_by o) ≡ true
      → unwind_by s w slot o ≡ off_plan s NotLeaving
  errand_stays None e = absurd (false≢true e)
  errand_stays (Some None) e = absurd (false≢true e)
  errand_stays (Some (Some r)) e = errand_in_stays r r.stage e

  ask_in_stays : (r : Running) (g : Stage) → is_some (ask_in r g) ≡ true → unwind_in s w slot r g ≡ off_plan s NotLeaving
  ask_in_stays r acting e = refl
  ask_in_stays r (writing k page victim) e = absurd (false≢true e)
  ask_in_stays r (reading k page) e = absurd (false≢true e)
  ask_in_stays r (leaving given) e = absurd (false≢true e)

  ask_stays : (o : Option (Option Running)) → is_some (ask_by o) ≡ true → unwind_by s w slot o ≡ off_plan s NotLeaving
  ask_stays None e = absurd (false≢true e)
  ask_stays (Some None) e = absurd (false≢true e)
  ask_stays (Some (Some r)) e = ask_in_stays r r.stage e

  not_leaving_by : (n : ℕ) (t : Token) → StageFits n s w t → is_leaver t ≡ false
      → unwind_by s w slot (seat_of s w) ≡ off_plan s NotLeaving
  not_leaving_by n (Idle chair) fits e = idle_stays (seat_of s w) fits.1
  not_leaving_by n (In session) fits e = ask_stays (seat_of s w) (ap is_some fits.1)
  not_leaving_by n (Out errand) fits e = errand_stays (seat_of s w) (errand_there n s w errand.duty errand.image fits)
  not_leaving_by n (Back returned) fits e =
      errand_stays (seat_of s w) (errand_there n s w returned.duty returned.image fits)
  not_leaving_by n (Leaving leaver) fits e = absurd (false≢true (sym e))

  pub not_leaving : (n : ℕ) (t : Token) → StageFits n s w t → is_leaver t ≡ false
      → reply_of s (move.Unwind w slot) ≡ reply.OffPlan NotLeaving
  not_leaving n t fits e = ap (λ o. o.reply) (not_leaving_by n t fits e)

  no_page : (x : ℕ × Held) → ◌≡◌ {A = Option (ℕ × Held)} None (Some x) → ⊥
  no_page x e = none_some x e

  -- What is given back is no refusal.
  unwound_done : (how : Held) (mark : ℕ) → is_refusal (unwound how mark) ≡ false
  unwound_done Free mark = refl
  unwound_done S mark = refl
  unwound_done X mark = refl

  module _ (reached : IsReached s) (none : held_of s w slot ≡ None) (single : is_gathered s w slot ≡ false) where
    -- A slot that holds nothing isn't given back.
    not_done : is_refusal (reply_of s (move.Unwind w slot)) ≡ false → ⊥
    not_done e =
        let found = (after_moves s reached).found (move.Unwind w slot) e in
        elim (found.1) [
          | inl own ↦ no_page (own.0, own.1) (sym none ∙ own.2)
          | inr more ↦ some_gathered (gathered_of s w slot) more single
        ]

    lacks : (r : Running) (given : List ℕ) (o : Option Holding)
        → reply_of s (move.Unwind w slot) ≡ (unwind_where s w r slot given o).reply
        → unwind_where s w r slot given o ≡ off_plan s NotHeld
    lacks r given None is = refl
    lacks r given (Some h) is =
        absurd (not_done (ap is_refusal is ∙ unwound_done h.held (mark_at (released s h.held h.page) h.page)))

    held_in_none : (r : Running) (g : Stage) → leaves g ≡ true
        → reply_of s (move.Unwind w slot) ≡ (unwind_in s w slot r g).reply
        → unwind_in s w slot r g ≡ off_plan s NotHeld
    held_in_none r acting e is = absurd (false≢true e)
    held_in_none r (writing k page victim) e is = absurd (false≢true e)
    held_in_none r (reading k page) e is = absurd (false≢true e)
    held_in_none r (leaving given) e is = lacks r given (holding_at (holdings r) slot) is

    held_by_none : (o : Option (Option Running)) → leaving_by o ≡ true
        → reply_of s (move.Unwind w slot) ≡ (unwind_by s w slot o).reply → unwind_by s w slot o ≡ off_plan s NotHeld
    held_by_none None e is = absurd (false≢true e)
    held_by_none (Some None) e is = absurd (false≢true e)
    held_by_none (Some (Some r)) e is = held_in_none r r.stage e is

    pub not_held : is_leaving s w ≡ true → reply_of s (move.Unwind w slot) ≡ reply.OffPlan NotHeld
    not_held e = ap (λ o. o.reply) (held_by_none (seat_of s w) e refl)

-- ---- refusals

pub unrefused : (r : Reply) → refusal_in r ≡ None → is_refusal r ≡ false
unrefused (reply.Taken plan) e = refl
unrefused (reply.Hit frame mark) e = refl
unrefused (reply.MustRead frame) e = refl
unrefused (reply.MustWrite frame victim) e = refl
unrefused (reply.Failed failure) e = refl
unrefused (reply.Loaded mark) e = refl
unrefused reply.Did e = refl
unrefused (reply.Latched mark) e = refl
unrefused (reply.Unlatched mark) e = refl
unrefused (reply.Finished ending) e = refl
unrefused (reply.Flushing mark) e = refl
unrefused (reply.Flushed clean) e = refl
unrefused (reply.NotNow delay) e = absurd (false≢true (sym (ap is_some e)))
unrefused (reply.OffPlan cause) e = absurd (false≢true (sym (ap is_some e)))
