-- Giving a slot back with a hand that fits.
use Rattle.std.proofs.Common.{◌≡◌, ◌≢◌, ◌∙◌, ℕ, ◌<◌, Bool, true, false, Option, Some, None, List, refl, sym, ap, subst}
use Rattle.std.specs.Prelude.{◌&&◌, ◌==◌, if◌then◌else◌, slice_set}
use Rattle.pp_cert.specs.declared.note.Held.{Held}
use Rattle.pp_cert.specs.declared.note.Held.TheVariants.{Free, S, X}
use Rattle.pp_model.specs.declared.moves.Move.{Move}
use Rattle.pp_model.specs.declared.moves.Move.TheVariants as move
use Rattle.pp_model.specs.declared.reply.Reply.{Reply}
use Rattle.pp_model.specs.Pool.{State}
use Rattle.pp_model.specs.Moves.{reply_of, next_of, is_refusal}
use Rattle.pp_core.specs.Queries.{is_leaving, held_of}
use Rattle.pp_core.specs.AfterMoves.{HasUnwound, HasUnwoundBundle}
use Rattle.pp_core.proofs.AfterMoves.{after_moves}
use Rattle.pp_vault.specs.declared.refusal.Refusal.{Refusal}
use Rattle.pp_vault.specs.declared.tokens.Leaver.{Leaver}
use Rattle.pp_vault.specs.declared.guards.Guard.{Guard}
use Rattle.pp_vault.specs.declared.guards.Guard.TheVariants.{Pin, Read, Write, Bundle}
use Rattle.pp_vault.specs.declared.stage.Stage.TheVariants.{Leaving}
use Rattle.pp_vault.specs.Parts.{Parts}
use Rattle.pp_vault.specs.StandsFor.{StandsFor, IsKept}
use Rattle.pp_vault.specs.Calls.{asks, stranger, refusal_of}
use Rattle.pp_vault.specs.Events.{Refuses}
use Rattle.pp_vault.specs.Fits.{is_held_so, is_gathered, IsEmpty, leaver_fits, leaver_fits_bundle}
use Rattle.pp_vault.specs.Tokens.{is_long}
use Rattle.pp_vault.specs.Leaves.{StillLeaves, GivesBack, give_back_call}
use Rattle.pp_vault.specs.Hands.{GuardFits, PlaceFits}
use Rattle.pp_vault.specs.HandLaws.{FitsIn, LeavesSlot}
use Rattle.pp_vault.specs.Holding.{slot_by, placed}
use Rattle.pp_vault.proofs.FitTests.{gathered_some}
use Rattle.pp_script.specs.declared.cue.Cue.TheVariants as cue
use Rattle.pp_play.specs.declared.line.Line.{Line}
use Rattle.pp_play.specs.declared.line.Line.TheVariants.{Did, Refused}
use Rattle.pp_play.specs.Doing.{IsDone, HandPlays}
use Rattle.pp_play.specs.Guarding.{hand_of}
use Rattle.pp_play.proofs.Leaves.{did_leaves}
use Rattle.pp_play.proofs.Room.{gathered_same}
use Rattle.pp_play.proofs.Slots.{low, low_gathered}
use Rattle.pp_play.proofs.Seats.{unrefused}
use Rattle.pp_play.proofs.UsePlays.{both, number_is, held_so}
use Rattle.pp_play.proofs.StillFitting.{StillFit, refused_plays, others_fit, allowed, one_fits, line_fits}

module _ (old new : Parts) (x : Leaver) (y : Leaver) where
  -- Whatever the guard is, the call is done and the worker still leaves.
  pub still_leaves : (g : Guard) → GivesBack old x g new y → StillLeaves old (give_back_call old x g) x new y
  still_leaves (Pin g) gives = gives.still
  still_leaves (Read g) gives = gives.still
  still_leaves (Write g) gives = gives.still
  still_leaves (Bundle g) gives = gives.still

unwind_asks : (long leaver : Bool) (w k slot : ℕ) → k ≡ slot → leaver ≡ true → long ≡ true
    → (if leaver && long then asks (move.Unwind w k) else stranger) ≡ asks (move.Unwind w slot)
unwind_asks long leaver w k slot at a b =
    ap (λ t. if t then asks (move.Unwind w k) else stranger) (both leaver long a b)
    ∙ ap (λ n. asks (move.Unwind w n)) at

unwind_asks_bundle : (leaver : Bool) (w k slot : ℕ) → k ≡ slot → leaver ≡ true
    → (if leaver then asks (move.Unwind w k) else stranger) ≡ asks (move.Unwind w slot)
unwind_asks_bundle leaver w k slot at a =
    ap (λ t. if t then asks (move.Unwind w k) else stranger) a ∙ ap (λ n. asks (move.Unwind w n)) at

module _ (old new : Parts) (kept : IsKept old) (x : Leaver) (places : List (Option Guard))
    (fits : FitsIn old x.worker (hand_of (Leaving x) places)) (slot : ℕ) (g : Guard)
    (at : placed places slot ≡ Some g) where
  here : (s : State) → StandsFor old s → GuardFits old.page_bytes s x.worker slot g
  here s st = subst (λ p. PlaceFits old.page_bytes s x.worker slot p) at ((fits s st).guards slot)

  leaver : (s : State) → StandsFor old s → (of k page : ℕ) (how : Held) → of ≡ x.worker → k ≡ slot
      → held_of s x.worker slot ≡ Some (page, how) → leaver_fits s x.worker of k page how ≡ true
  leaver s st of k page how is same held =
      both (is_leaving s x.worker && (of == x.worker)) (is_held_so s x.worker k page how)
      (both (is_leaving s x.worker) (of == x.worker) (fits s st).stage.1 (number_is of x.worker is))
      (held_so s x.worker slot k page how same held)

  bundle_leaver : (s : State) → StandsFor old s → (of k : ℕ) → of ≡ x.worker → k ≡ slot
      → is_gathered s x.worker slot ≡ true → leaver_fits_bundle s x.worker of k ≡ true
  bundle_leaver s st of k is same gathered =
      both (is_leaving s x.worker && (of == x.worker)) (is_gathered s x.worker k)
      (both (is_leaving s x.worker) (of == x.worker) (fits s st).stage.1 (number_is of x.worker is))
      (ap (is_gathered s x.worker) same ∙ gathered)

  calls_by : (s : State) → StandsFor old s → (h : Guard) → GuardFits old.page_bytes s x.worker slot h
      → give_back_call old x h s ≡ asks (move.Unwind x.worker slot)
  calls_by s st (Pin h) fit =
      unwind_asks true (leaver_fits s x.worker h.worker h.slot h.page Free) x.worker h.slot slot fit.of_slot
      (leaver s st h.worker h.slot h.page Free fit.worker fit.of_slot fit.held) refl
  calls_by s st (Read h) fit =
      unwind_asks true (leaver_fits s x.worker h.worker h.slot h.page S) x.worker h.slot slot fit.of_slot
      (leaver s st h.worker h.slot h.page S fit.worker fit.of_slot fit.held) refl
  calls_by s st (Write h) fit =
      unwind_asks (is_long old h.image) (leaver_fits s x.worker h.worker h.slot h.page X) x.worker h.slot slot
      fit.of_slot (leaver s st h.worker h.slot h.page X fit.worker fit.of_slot fit.held) (number_is _ _ fit.long)
  calls_by s st (Bundle h) fit =
      unwind_asks_bundle (leaver_fits_bundle s x.worker h.worker h.slot) x.worker h.slot slot fit.of_slot
      (bundle_leaver s st h.worker h.slot fit.worker fit.of_slot fit.gathered)

  calls : (s : State) → StandsFor old s → give_back_call old x g s ≡ asks (move.Unwind x.worker slot)
  calls s st = calls_by s st g (here s st)

  -- The slot is one of 32.
  low_by : (s : State) → StandsFor old s → (h : Guard) → GuardFits old.page_bytes s x.worker slot h → slot < 32
  low_by s st (Pin h) fit = low old s x.worker slot st (h.page, Free) fit.held
  low_by s st (Read h) fit = low old s x.worker slot st (h.page, S) fit.held
  low_by s st (Write h) fit = low old s x.worker slot st (h.page, X) fit.held
  low_by s st (Bundle h) fit = low_gathered old s x.worker slot st fit.gathered

  pub unwind_refused : (why : Refusal) → Refuses old (give_back_call old x g) why → new ≡ old
      → HandPlays old x.worker (hand_of (Leaving x) places) (cue.Unwind x.worker slot)
      (Refused (cue.Unwind x.worker slot) why) new (hand_of (Leaving x) places)
  unwind_refused why refuses same =
      refused_plays old new same x.worker (hand_of (Leaving x) places) (cue.Unwind x.worker slot) why fits
      (λ s st. subst (λ c. refusal_of s c ≡ Some why) (calls s st) (refuses s st))

  module _ (laws : StillFit) (y : Leaver) (still : StillLeaves old (give_back_call old x g) x new y) where
    done_so : (s : State) → StandsFor old s → is_refusal (reply_of s (move.Unwind x.worker slot)) ≡ false
    done_so s st =
        unrefused (reply_of s (move.Unwind x.worker slot))
        (allowed laws old new (give_back_call old x g) kept still.does x.worker (move.Unwind x.worker slot) refl calls s st)

    other_slot : (k : ℕ) → k ≢ slot → (x.worker ≡ x.worker) × (slot ≡ k) → ⊥
    other_slot k off e = off (sym e.1)

    -- Every other slot is left: a page of the slot's own goes, or a bundle.
    own_leaves : (s : State) → StandsFor old s → (page : ℕ) (how : Held)
        → held_of s x.worker slot ≡ Some (page, how) → (k : ℕ) → k ≢ slot
        → LeavesSlot s (asks (move.Unwind x.worker slot)) x.worker k
    own_leaves s st page how held k off =
        let u : HasUnwound s (next_of s (move.Unwind x.worker slot)) x.worker slot page how
        (reply_of s (move.Unwind x.worker slot)) =
        (after_moves s st.core.reached).unwound x.worker slot page how (done_so s st) held in (
          u.others k off,
          gathered_same s (next_of s (move.Unwind x.worker slot)) x.worker k (u.bundles k),
          λ e. other_slot k off e,
        )

    bundle_leaves : (s : State) → StandsFor old s → is_gathered s x.worker slot ≡ true → (k : ℕ) → k ≢ slot
        → LeavesSlot s (asks (move.Unwind x.worker slot)) x.worker k
    bundle_leaves s st gathered k off =
        let u : HasUnwoundBundle s (next_of s (move.Unwind x.worker slot)) x.worker slot
        (reply_of s (move.Unwind x.worker slot)) =
        (after_moves s st.core.reached).unwound_bundle x.worker slot (done_so s st)
        (gathered_some s x.worker slot gathered) in (
          u.slots k,
          gathered_same s (next_of s (move.Unwind x.worker slot)) x.worker k (u.others k off),
          λ e. other_slot k off e,
        )

    leaves_by : (s : State) → StandsFor old s → (h : Guard) → GuardFits old.page_bytes s x.worker slot h → (k : ℕ)
        → k ≢ slot → LeavesSlot s (asks (move.Unwind x.worker slot)) x.worker k
    leaves_by s st (Pin h) fit k off = own_leaves s st h.page Free fit.held k off
    leaves_by s st (Read h) fit k off = own_leaves s st h.page S fit.held k off
    leaves_by s st (Write h) fit k off = own_leaves s st h.page X fit.held k off
    leaves_by s st (Bundle h) fit k off = bundle_leaves s st fit.gathered k off

    slot_of : (h : Guard) → GuardFits old.page_bytes kept.state x.worker slot h → slot_by h ≡ slot
    slot_of (Pin h) fit = fit.of_slot
    slot_of (Read h) fit = fit.of_slot
    slot_of (Write h) fit = fit.of_slot
    slot_of (Bundle h) fit = fit.of_slot

    pub unwind_plays : ((s : State) → StandsFor new s → IsEmpty s x.worker (slot_by g)) → (line : Line) {done : Move × Reply}
        → IsDone old (cue.Unwind x.worker slot) done new
        → line ≡ Did done.0 done.1
        → HandPlays old x.worker (hand_of (Leaving x) places) (cue.Unwind x.worker slot) line new
        (hand_of (Leaving y) (slice_set places slot None))
    unwind_plays empty line done tells =
        let call = give_back_call old x g in
        let w = x.worker in
        record {
          exact = line_fits old new (cue.Unwind w slot) line done tells (move.Unwind w slot) (λ n e. e) (λ s. refl)
              places (slice_set places slot None);
          leaves =
              did_leaves old new line tells (hand_of (Leaving x) places)
              (hand_of (Leaving y) (slice_set places slot None));
          fit = one_fits laws old new call kept still.does w (move.Unwind w slot) refl calls (Leaving x) (Leaving y)
              places fits (λ s st. (ap (λ (l : Leaver). l.worker) still.same, still.leaves s st)) slot None
              (low_by kept.state kept.stands g (here kept.state kept.stands))
              (λ s st. subst (λ n. IsEmpty s w n) (slot_of g (here kept.state kept.stands)) (empty s st))
              (λ s st k off. leaves_by s st g (here s st) k off);
          others = others_fit laws old new call kept still.does w (move.Unwind w slot) refl calls;
        }
