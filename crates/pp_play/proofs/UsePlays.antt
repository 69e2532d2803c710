-- Unfix, scatter, latch and unlatch with a hand that fits.
use Rattle.std.proofs.Common.{◌≡◌, ◌≢◌, ◌∙◌, ℕ, Bool, true, false, Option, Some, None, List, refl, sym, ap, subst, arith}
use Rattle.std.specs.Prelude.{◌&&◌, ◌==◌, slice_set}
use Rattle.std.proofs.lemmas.Bool.{false≢true}
use Rattle.std.proofs.lemmas.Bool.Decides.{nat_tests}
use Rattle.pp_plan.specs.declared.mode.Mode.{Mode}
use Rattle.pp_plan.specs.declared.mode.Mode.TheVariants as mode
use Rattle.pp_plan.specs.declared.action.Ask.{Ask}
use Rattle.pp_plan.specs.declared.action.Ask.TheVariants as ask
use Rattle.pp_cert.specs.declared.note.Held.{Held}
use Rattle.pp_cert.specs.declared.note.Held.TheVariants.{Free, S, X}
use Rattle.pp_model.specs.declared.moves.Move.{Move}
use Rattle.pp_model.specs.declared.moves.Move.TheVariants as move
use Rattle.pp_model.specs.declared.reply.Reply.{Reply}
use Rattle.pp_model.specs.Pool.{State}
use Rattle.pp_model.specs.Moves.{next_of}
use Rattle.pp_core.specs.Queries.{ask_of, held_of}
use Rattle.pp_core.specs.AfterMoves.{AfterMoves, HasUnfixed, HasScattered}
use Rattle.pp_core.proofs.AfterMoves.{after_moves}
use Rattle.pp_vault.specs.declared.refusal.Refusal.{Refusal}
use Rattle.pp_vault.specs.declared.tokens.Session.{Session}
use Rattle.pp_vault.specs.declared.guards.PinGuard.{PinGuard}
use Rattle.pp_vault.specs.declared.guards.Guard.{Guard}
use Rattle.pp_vault.specs.declared.guards.Guard.TheVariants.{Pin, Read, Write, Bundle}
use Rattle.pp_vault.specs.declared.guards.BundleGuard.{BundleGuard}
use Rattle.pp_vault.specs.declared.stage.Stage.TheVariants.{In}
use Rattle.pp_vault.specs.Parts.{Parts}
use Rattle.pp_vault.specs.StandsFor.{StandsFor, IsKept}
use Rattle.pp_vault.specs.Calls.{Call, asks, refusal_of}
use Rattle.pp_vault.specs.Events.{Refuses}
use Rattle.pp_vault.specs.Fits.{is_acting_by, is_acting, is_same_held, is_held_by, is_held_so, asks_unfix, is_same_mode}
use Rattle.pp_vault.specs.Fits.{asks_scatter, asks_latch, asks_unlatch, guard_call, fits_both, bundle_fits, is_gathered}
use Rattle.pp_vault.specs.Fits.{IsEmpty, unfix_call, scatter_call, latch_call}
use Rattle.pp_vault.specs.Tokens.{is_long}
use Rattle.pp_vault.specs.Uses.{Unfixes, Scatters}
use Rattle.pp_vault.specs.Hands.{GuardFits, PlaceFits, IsPin, IsBundle}
use Rattle.pp_vault.specs.HandLaws.{FitsIn}
use Rattle.pp_vault.specs.Holding.{placed}
use Rattle.pp_script.specs.declared.cue.Cue.TheVariants as cue
use Rattle.pp_play.specs.declared.line.Line.{Line}
use Rattle.pp_play.specs.declared.line.Line.TheVariants.{Did, Refused}
use Rattle.pp_play.specs.Doing.{IsDone, HandPlays}
use Rattle.pp_play.specs.Guarding.{hand_of, unlatch_with, ChangesGuard}
use Rattle.pp_play.proofs.Leaves.{did_leaves}
use Rattle.pp_play.proofs.Room.{gathered_same}
use Rattle.pp_play.proofs.Slots.{low, low_gathered}
use Rattle.pp_play.proofs.Held.{is_latched}
use Rattle.pp_play.proofs.Seats.{unfix_did, scatter_did, latch_marks, unlatch_marks}
use Rattle.pp_play.proofs.StillFitting.{StillFit, refused_plays, others_fit, allowed, one_fits, line_fits}

-- ---- tests

pub same_number : (n : ℕ) → (n == n) ≡ true
same_number n = grind (arith, nat_tests)

pub number_is : (m n : ℕ) → m ≡ n → (m == n) ≡ true
number_is m n e = grind (arith, nat_tests)

pub both : (a b : Bool) → a ≡ true → b ≡ true → (a && b) ≡ true
both a b e f = ap (λ x. x && b) e ∙ f

same_how : (h : Held) → is_same_held h h ≡ true
same_how Free = refl
same_how S = refl
same_how X = refl

same_mode : (m : Mode) → is_same_mode m m ≡ true
same_mode mode.S = refl
same_mode mode.X = refl

pub held_so : (s : State) (w slot k page : ℕ) (how : Held) → k ≡ slot → held_of s w slot ≡ Some (page, how)
    → is_held_so s w k page how ≡ true
held_so s w slot k page how at e =
    ap (λ n. is_held_by page how (held_of s w n)) at ∙ ap (is_held_by page how) e
    ∙ both (page == page) (is_same_held how how) (same_number page) (same_how how)

both_fit : (s : State) (w of slot k page : ℕ) (how : Held) (a : Ask) → ask_of s w ≡ Some a → of ≡ w → k ≡ slot
    → held_of s w slot ≡ Some (page, how) → fits_both s w of k page how ≡ true
both_fit s w of slot k page how a wanted is at e =
    both (is_acting s w && (of == w)) (is_held_so s w k page how)
    (both (is_acting s w) (of == w) (ap is_acting_by wanted) (number_is of w is)) (held_so s w slot k page how at e)

bundle_fit : (s : State) (w of slot k : ℕ) (a : Ask) → ask_of s w ≡ Some a → of ≡ w → k ≡ slot
    → is_gathered s w slot ≡ true → bundle_fits s w of k ≡ true
bundle_fit s w of slot k a wanted is at e =
    both (is_acting s w && (of == w)) (is_gathered s w k)
    (both (is_acting s w) (of == w) (ap is_acting_by wanted) (number_is of w is)) (ap (is_gathered s w) at ∙ e)

asked_call : (fits asked : Bool) (call : Call) → fits ≡ true → asked ≡ true → guard_call fits asked call ≡ call
asked_call true true call e f = refl
asked_call true false call e f = absurd (false≢true f)
asked_call false asked call e f = absurd (false≢true e)

-- ---- slots that a move leaves

-- The slot of which an unlatch is asked.
abbrev unlatch_of : (d : ℕ) → Option Ask → ℕ
unlatch_of d (Some (ask.Unlatch slot)) = slot
unlatch_of d _ = d

module _ (old new : Parts) (kept : IsKept old) (x : Session) (places : List (Option Guard))
    (fits : FitsIn old x.worker (hand_of (In x) places)) (slot : ℕ) where
  after : (s : State) → StandsFor old s → AfterMoves s
  after s st = after_moves s st.core.reached

  here : (s : State) → StandsFor old s → (o : Option Guard) → placed places slot ≡ o
      → PlaceFits old.page_bytes s x.worker slot o
  here s st o at = subst (λ p. PlaceFits old.page_bytes s x.worker slot p) at ((fits s st).guards slot)

  asked : (s : State) → StandsFor old s → (a : Ask) → x.ask ≡ a → ask_of s x.worker ≡ Some a
  asked s st a e = (fits s st).stage.1 ∙ ap (λ b. Some b) e

  -- ---- unfix

  module _ (is : x.ask ≡ ask.Unfix slot) (g : PinGuard) (at : placed places slot ≡ Some (Pin g)) where
    unfix_calls : (s : State) → StandsFor old s
        → unfix_call x.worker g.worker g.slot g.page s ≡ asks (move.Unfix x.worker)
    unfix_calls s st =
        let pin : IsPin s x.worker slot g = here s st (Some (Pin g)) at in
        let wants = asked s st (ask.Unfix slot) is in
        asked_call (fits_both s x.worker g.worker g.slot g.page Free) (asks_unfix g.slot (ask_of s x.worker))
        (asks (move.Unfix x.worker))
        (both_fit s x.worker g.worker slot g.slot g.page Free (ask.Unfix slot) wants pin.worker pin.of_slot pin.held)
        (ap (asks_unfix g.slot) wants ∙ number_is g.slot slot pin.of_slot)

    pub unfix_refused : (why : Refusal) → Refuses old (unfix_call x.worker g.worker g.slot g.page) why
        → new ≡ old
        → HandPlays old x.worker (hand_of (In x) places) (cue.Unfix x.worker) (Refused (cue.Unfix x.worker) why) new
        (hand_of (In x) places)
    unfix_refused why refuses same =
        refused_plays old new same x.worker (hand_of (In x) places) (cue.Unfix x.worker) why fits
        (λ s st. subst (λ c. refusal_of s c ≡ Some why) (unfix_calls s st) (refuses s st))

    unfixed : (s : State) → StandsFor old s → HasUnfixed s (next_of s (move.Unfix x.worker)) x.worker slot
    unfixed s st =
        let wants = asked s st (ask.Unfix slot) is in
        (after s st).unfixed x.worker slot (unfix_did s x.worker slot wants) wants

    pub unfix_plays : (laws : StillFit) (y : Session) → Unfixes old x g new y
        → ((s : State) → StandsFor new s → IsEmpty s x.worker g.slot) → (line : Line) {done : Move × Reply}
        → IsDone old (cue.Unfix x.worker) done new
        → line ≡ Did done.0 done.1
        → HandPlays old x.worker (hand_of (In x) places) (cue.Unfix x.worker) line new
        (hand_of (In y) (slice_set places slot None))
    unfix_plays laws y unfixes empty line done tells =
        let call = unfix_call x.worker g.worker g.slot g.page in
        let w = x.worker in
        let pin : IsPin kept.state w slot g = here kept.state kept.stands (Some (Pin g)) at in
        record {
          exact = line_fits old new (cue.Unfix w) line done tells (move.Unfix w) (λ n e. e) (λ s. refl) places
              (slice_set places slot None);
          leaves =
              did_leaves old new line tells (hand_of (In x) places)
              (hand_of (In y) (slice_set places slot None));
          fit = one_fits laws old new call kept unfixes.does w (move.Unfix w) refl unfix_calls (In x) (In y) places fits
              (λ s st. (unfixes.session.worker, unfixes.session.ask s st)) slot None
              (low old kept.state w slot kept.stands (g.page, Free) pin.held)
              (λ s st. subst (λ n. IsEmpty s w n) pin.of_slot (empty s st))
              (λ s st k off.
              let u = unfixed s st in
              (u.others k off, gathered_same s (next_of s (move.Unfix w)) w k (u.bundles k), λ h. h));
          others = others_fit laws old new call kept unfixes.does w (move.Unfix w) refl unfix_calls;
        }

  -- ---- scatter

  module _ (is : x.ask ≡ ask.Scatter slot) (g : BundleGuard) (at : placed places slot ≡ Some (Bundle g)) where
    scatter_calls : (s : State) → StandsFor old s
        → scatter_call x.worker g.worker g.slot s ≡ asks (move.Unfix x.worker)
    scatter_calls s st =
        let bundle : IsBundle s x.worker slot g = here s st (Some (Bundle g)) at in
        let wants = asked s st (ask.Scatter slot) is in
        asked_call (bundle_fits s x.worker g.worker g.slot) (asks_scatter g.slot (ask_of s x.worker))
        (asks (move.Unfix x.worker))
        (bundle_fit s x.worker g.worker slot g.slot (ask.Scatter slot) wants bundle.worker bundle.of_slot bundle.gathered)
        (ap (asks_scatter g.slot) wants ∙ number_is g.slot slot bundle.of_slot)

    pub scatter_refused : (why : Refusal) → Refuses old (scatter_call x.worker g.worker g.slot) why
        → new ≡ old
        → HandPlays old x.worker (hand_of (In x) places) (cue.Unfix x.worker) (Refused (cue.Unfix x.worker) why) new
        (hand_of (In x) places)
    scatter_refused why refuses same =
        refused_plays old new same x.worker (hand_of (In x) places) (cue.Unfix x.worker) why fits
        (λ s st. subst (λ c. refusal_of s c ≡ Some why) (scatter_calls s st) (refuses s st))

    scattered : (s : State) → StandsFor old s → HasScattered s (next_of s (move.Unfix x.worker)) x.worker slot
    scattered s st =
        let wants = asked s st (ask.Scatter slot) is in
        (after s st).scattered x.worker slot (scatter_did s x.worker slot wants) wants

    pub scatter_plays : (laws : StillFit) (y : Session) → Scatters old x g new y
        → ((s : State) → StandsFor new s → IsEmpty s x.worker g.slot) → (line : Line) {done : Move × Reply}
        → IsDone old (cue.Unfix x.worker) done new
        → line ≡ Did done.0 done.1
        → HandPlays old x.worker (hand_of (In x) places) (cue.Unfix x.worker) line new
        (hand_of (In y) (slice_set places slot None))
    scatter_plays laws y scatters empty line done tells =
        let call = scatter_call x.worker g.worker g.slot in
        let w = x.worker in
        let bundle : IsBundle kept.state w slot g = here kept.state kept.stands (Some (Bundle g)) at in
        record {
          exact = line_fits old new (cue.Unfix w) line done tells (move.Unfix w) (λ n e. e) (λ s. refl) places
              (slice_set places slot None);
          leaves =
              did_leaves old new line tells (hand_of (In x) places)
              (hand_of (In y) (slice_set places slot None));
          fit = one_fits laws old new call kept scatters.does w (move.Unfix w) refl scatter_calls (In x) (In y) places fits
              (λ s st. (scatters.session.worker, scatters.session.ask s st)) slot None
              (low_gathered old kept.state w slot kept.stands bundle.gathered)
              (λ s st. subst (λ n. IsEmpty s w n) bundle.of_slot (empty s st))
              (λ s st k off.
              let u = scattered s st in
              (u.slots k, gathered_same s (next_of s (move.Unfix w)) w k (u.others k off), λ h. h));
          others = others_fit laws old new call kept scatters.does w (move.Unfix w) refl scatter_calls;
        }

  -- ---- latch

  module _ (m : Mode) (is : x.ask ≡ ask.Latch slot m) (g : PinGuard) (at : placed places slot ≡ Some (Pin g)) where
    latch_calls : (s : State) → StandsFor old s
        → latch_call m x.worker g.worker g.slot g.page s ≡ asks (move.Latch x.worker)
    latch_calls s st =
        let pin : IsPin s x.worker slot g = here s st (Some (Pin g)) at in
        let wants = asked s st (ask.Latch slot m) is in
        asked_call (fits_both s x.worker g.worker g.slot g.page Free) (asks_latch g.slot m (ask_of s x.worker))
        (asks (move.Latch x.worker))
        (both_fit s x.worker g.worker slot g.slot g.page Free (ask.Latch slot m) wants pin.worker pin.of_slot pin.held)
        (ap (asks_latch g.slot m) wants
        ∙ both (g.slot == slot) (is_same_mode m m) (number_is g.slot slot pin.of_slot) (same_mode m))

    pub latch_refused : (why : Refusal) → Refuses old (latch_call m x.worker g.worker g.slot g.page) why
        → new ≡ old
        → HandPlays old x.worker (hand_of (In x) places) (cue.Latch x.worker) (Refused (cue.Latch x.worker) why) new
        (hand_of (In x) places)
    latch_refused why refuses same =
        refused_plays old new same x.worker (hand_of (In x) places) (cue.Latch x.worker) why fits
        (λ s st. subst (λ c. refusal_of s c ≡ Some why) (latch_calls s st) (refuses s st))

    pub latch_plays : (laws : StillFit) (y : Session) (h : Guard)
        → ChangesGuard old (latch_call m x.worker g.worker g.slot g.page) x.worker slot new y h → (line : Line) {done : Move × Reply}
        → IsDone old (cue.Latch x.worker) done new
        → line ≡ Did done.0 done.1
        → HandPlays old x.worker (hand_of (In x) places) (cue.Latch x.worker) line new
        (hand_of (In y) (slice_set places slot (Some h)))
    latch_plays laws y h changes line done tells =
        let call = latch_call m x.worker g.worker g.slot g.page in
        let w = x.worker in
        let pin : IsPin kept.state w slot g = here kept.state kept.stands (Some (Pin g)) at in
        record {
          exact = line_fits old new (cue.Latch w) line done tells (move.Latch w) (λ n e. e) (λ s. refl) places
              (slice_set places slot (Some h));
          leaves =
              did_leaves old new line tells (hand_of (In x) places)
              (hand_of (In y) (slice_set places slot (Some h)));
          fit = one_fits laws old new call kept changes.does w (move.Latch w) refl latch_calls (In x) (In y) places fits
              (λ s st. (changes.session_fits.worker, changes.session_fits.ask s st)) slot (Some h)
              (low old kept.state w slot kept.stands (g.page, Free) pin.held) changes.guard_fits
              (λ s st k off.
              let wants = asked s st (ask.Latch slot m) is in
              let free : IsPin s w slot g = here s st (Some (Pin g)) at in
              let mark = latch_marks s w slot m wants
              (allowed laws old new call kept changes.does w (move.Latch w) refl latch_calls s st) in
              let now = ((after s st).latched w slot g.page mark.0 m mark.1 wants free.held).now in
              (now.others k off, gathered_same s (next_of s (move.Latch w)) w k (now.bundles k), λ h. h));
          others = others_fit laws old new call kept changes.does w (move.Latch w) refl latch_calls;
        }

  -- ---- unlatch

  module _ (is : x.ask ≡ ask.Unlatch slot) (g : Guard) (at : placed places slot ≡ Some g) (latched : is_latched g ≡ true) where
    unlatch_calls_by : (s : State) → StandsFor old s → (h : Guard) → GuardFits old.page_bytes s x.worker slot h
        → is_latched h ≡ true → unlatch_with old x h s ≡ asks (move.Unlatch x.worker)
    unlatch_calls_by s st (Pin h) fit of = absurd (false≢true of)
    unlatch_calls_by s st (Bundle h) fit of = absurd (false≢true of)
    unlatch_calls_by s st (Read h) fit of =
        let wants = asked s st (ask.Unlatch slot) is in
        asked_call (fits_both s x.worker h.worker h.slot h.page S) (asks_unlatch h.slot (ask_of s x.worker))
        (asks (move.Unlatch x.worker))
        (both_fit s x.worker h.worker slot h.slot h.page S (ask.Unlatch slot) wants fit.worker fit.of_slot fit.held)
        (ap (asks_unlatch h.slot) wants ∙ number_is h.slot slot fit.of_slot)
    unlatch_calls_by s st (Write h) fit of =
        let wants = asked s st (ask.Unlatch slot) is in
        asked_call (fits_both s x.worker h.worker h.slot h.page X && is_long old h.image)
        (asks_unlatch h.slot (ask_of s x.worker)) (asks (move.Unlatch x.worker))
        (both (fits_both s x.worker h.worker h.slot h.page X) (is_long old h.image)
        (both_fit s x.worker h.worker slot h.slot h.page X (ask.Unlatch slot) wants fit.worker fit.of_slot fit.held)
        (number_is _ _ fit.long))
        (ap (asks_unlatch h.slot) wants ∙ number_is h.slot slot fit.of_slot)

    unlatch_calls : (s : State) → StandsFor old s → unlatch_with old x g s ≡ asks (move.Unlatch x.worker)
    unlatch_calls s st = unlatch_calls_by s st g (here s st (Some g) at) latched

    pub unlatch_refused : (why : Refusal) → Refuses old (unlatch_with old x g) why → new ≡ old
        → HandPlays old x.worker (hand_of (In x) places) (cue.Unlatch x.worker) (Refused (cue.Unlatch x.worker) why) new
        (hand_of (In x) places)
    unlatch_refused why refuses same =
        refused_plays old new same x.worker (hand_of (In x) places) (cue.Unlatch x.worker) why fits
        (λ s st. subst (λ c. refusal_of s c ≡ Some why) (unlatch_calls s st) (refuses s st))

    -- The page of such a guard, and how its slot holds it.
    abbrev page_of : (h : Guard) → ℕ × Held
    page_of (Pin h) = (h.page, Free)
    page_of (Read h) = (h.page, S)
    page_of (Write h) = (h.page, X)
    page_of (Bundle h) = (0, Free)

    held_here : (s : State) (h : Guard) → is_latched h ≡ true → GuardFits old.page_bytes s x.worker slot h
        → held_of s x.worker slot ≡ Some (page_of h)
    held_here s (Pin h) of fit = fit.held
    held_here s (Read h) of fit = fit.held
    held_here s (Write h) of fit = fit.held
    held_here s (Bundle h) of fit = absurd (false≢true of)

    other_ask : (s : State) (k : ℕ) → k ≢ slot → ask_of s x.worker ≡ Some (ask.Unlatch slot)
        → ask_of s x.worker ≡ Some (ask.Unlatch k) → ⊥
    other_ask s k off e f = off (ap (unlatch_of slot) (sym f ∙ e))

    pub unlatch_plays : (laws : StillFit) (y : Session) (h : Guard)
        → ChangesGuard old (unlatch_with old x g) x.worker slot new y h → (line : Line) {done : Move × Reply}
        → IsDone old (cue.Unlatch x.worker) done new
        → line ≡ Did done.0 done.1
        → HandPlays old x.worker (hand_of (In x) places) (cue.Unlatch x.worker) line new
        (hand_of (In y) (slice_set places slot (Some h)))
    unlatch_plays laws y h changes line done tells =
        let call = unlatch_with old x g in
        let w = x.worker in
        record {
          exact = line_fits old new (cue.Unlatch w) line done tells (move.Unlatch w) (λ n e. e) (λ s. refl) places
              (slice_set places slot (Some h));
          leaves =
              did_leaves old new line tells (hand_of (In x) places)
              (hand_of (In y) (slice_set places slot (Some h)));
          fit = one_fits laws old new call kept changes.does w (move.Unlatch w) refl unlatch_calls (In x) (In y) places
              fits (λ s st. (changes.session_fits.worker, changes.session_fits.ask s st)) slot (Some h)
              (low old kept.state w slot kept.stands (page_of g)
              (held_here kept.state g latched (here kept.state kept.stands (Some g) at))) changes.guard_fits
              (λ s st k off.
              let wants = asked s st (ask.Unlatch slot) is in
              let mark = unlatch_marks s w slot wants in
              let now =
              (after s st).unlatched w slot (page_of g).0 mark.0 (page_of g).1 mark.1 wants
              (held_here s g latched (here s st (Some g) at)) in (
                now.others k off,
                gathered_same s (next_of s (move.Unlatch w)) w k (now.bundles k),
                λ h. other_ask s k off wants h.1,
              ));
          others = others_fit laws old new call kept changes.does w (move.Unlatch w) refl unlatch_calls;
        }
