-- Slots that a leaving worker gives back.
use Rattle.std.proofs.Common.{◌≡◌, ◌≢◌, ◌∙◌, ℕ, ◌+◌, ◌<◌, ◌&&◌, Bool, true, Some, List, length, nat_lt}
use Rattle.std.proofs.Common.{refl, sym, ap, subst}
use Rattle.std.specs.Prelude.{slice_set, if◌then◌else◌, IsTrue, ◌==◌}
use Rattle.pp_cert.specs.declared.note.Held.{Held}
use Rattle.pp_cert.specs.declared.note.Held.TheVariants.{Free, S, X}
use Rattle.pp_model.specs.declared.moves.Move.TheVariants as move
use Rattle.pp_model.specs.declared.reply.Reply.{Reply}
use Rattle.pp_model.specs.declared.reply.Reply.TheVariants as reply
use Rattle.pp_model.specs.Pool.{State, frame_of, frame_at, mark_at}
use Rattle.pp_model.specs.Moves.{reply_of, next_of, is_refusal}
use Rattle.pp_model.specs.Ready.{Enters, Keeps, is_still}
use Rattle.pp_model.proofs.ReadyLaws.{still_keeps}
use Rattle.pp_model.proofs.ReadyAnswers.{unwound_enters}
use Rattle.pp_core.specs.Queries.{is_leaving, held_of}
use Rattle.pp_core.specs.AfterMoves.{HasUnwound, HasUnwoundBundle, IsUnwindReply}
use Rattle.pp_core.proofs.AfterMoves.{after_moves}
use Rattle.pp_core.proofs.Alike.{same_leaving, same_held, same_bundle}
use Rattle.pp_core.specs.StandsFor as core
use Rattle.pp_core.specs.Parts as core_parts
use Rattle.pp_device.specs.Image.{with_head, head_of}
use Rattle.pp_vault.specs.declared.refusal.Refusal.{Refusal}
use Rattle.pp_vault.specs.declared.tokens.Leaver.{Leaver}
use Rattle.pp_vault.specs.declared.guards.WriteGuard.{WriteGuard}
use Rattle.pp_vault.specs.Parts.{Parts}
use Rattle.pp_vault.specs.StandsFor.{StandsFor, IsKept}
use Rattle.pp_vault.specs.Calls.{Call, asks, stranger}
use Rattle.pp_vault.specs.Steps.{Stepped, Refused, told_mark}
use Rattle.pp_vault.specs.Events.{Refuses}
use Rattle.pp_vault.specs.Fits.{is_held_so, is_gathered, IsEmpty, leaver_fits, leaver_fits_bundle, unwind_call}
use Rattle.pp_vault.specs.Fits.{unwind_bundle_call}
use Rattle.pp_vault.specs.Tokens.{is_long}
use Rattle.pp_vault.specs.Leaves.{GivesSlot, GivesImage, GivesBundle}
use Rattle.pp_vault.proofs.BackSteps as back
use Rattle.pp_vault.proofs.Done.{refuses}
use Rattle.pp_vault.proofs.FitTests.{both_hold, slot_held, Holds, holds, own_alone, bundle_alone, gathered_some}
use Rattle.pp_vault.proofs.FitTests.{none_gathered}
use Rattle.pp_vault.proofs.GoingBack.{Raised, WriterSeat, writer_seat}
use Rattle.pp_vault.proofs.GoingBack as going
use Rattle.pp_vault.proofs.WriteSteps.{same_nat}

-- A slot that is empty in one state that a core stands for is so in each.
still_empty : (f : core_parts.Parts) (s t : State) → core.StandsFor f s → core.StandsFor f t → (w slot : ℕ)
    → IsEmpty s w slot → IsEmpty t w slot
still_empty f s t a b w slot empty =
    record {
      no_page = same_held f t s b a w slot ∙ empty.no_page;
      no_bundle = ap (λ (ps : List ℕ). nat_lt 0 (length ps)) (same_bundle f t s b a w slot) ∙ empty.no_bundle;
    }

module _ (old mid : Parts) (x : Leaver) (of slot page : ℕ) (held : Held) (long : Bool)
    (fit : (s : State) → StandsFor old s → (leaver_fits s x.worker of slot page held && long) ≡ true) where
  pub unwind_calls : (s : State) → StandsFor old s
      → unwind_call long held x.worker of slot page s ≡ asks (move.Unwind x.worker slot)
  unwind_calls s st = ap (λ b. if b then asks (move.Unwind x.worker slot) else stranger) (fit s st)

  pub unwind_refuses : (why : Refusal) → Refused old mid (move.Unwind x.worker slot) why
      → Refuses old (unwind_call long held x.worker of slot page) why
  unwind_refuses why h =
      refuses old mid (unwind_call long held x.worker of slot page) (move.Unwind x.worker slot) why h unwind_calls

  was_held : (s : State) → StandsFor old s → held_of s x.worker slot ≡ Some (page, held)
  was_held s st =
      slot_held s x.worker slot page held
      (both_hold (is_leaving s x.worker && (of == x.worker)) (is_held_so s x.worker slot page held)
      (both_hold (leaver_fits s x.worker of slot page held) long (fit s st)).0).1

  module _ (r : Reply) (did : Stepped old mid (move.Unwind x.worker slot) r) where
    answer : (s : State) → StandsFor old s → reply_of s (move.Unwind x.worker slot) ≡ r
    answer s st = sym (did.moves.replies s st.core)

    unwound : (s : State) → StandsFor old s
        → HasUnwound s (next_of s (move.Unwind x.worker slot)) x.worker slot page held
        (reply_of s (move.Unwind x.worker slot))
    unwound s st =
        (after_moves s st.core.reached).unwound x.worker slot page held
        (ap is_refusal (answer s st) ∙ did.done) (was_held s st)

    -- Nothing is in the slot.
    unwound_empty : (s : State) → StandsFor old s → IsEmpty (next_of s (move.Unwind x.worker slot)) x.worker slot
    unwound_empty s st =
        record {
          no_page = (unwound s st).empty;
          no_bundle = ap (λ (ps : List ℕ). nat_lt 0 (length ps)) ((unwound s st).bundles slot)
              ∙ own_alone s st.core.reached x.worker slot (page, held) (was_held s st);
        }

-- ---- a slot that isn't latched X

did_reply : (t : State) (page : ℕ) (held : Held) (r : Reply) → held ≢ X → IsUnwindReply t page held r → r ≡ reply.Did
did_reply t page Free r d e = e
did_reply t page S r d e = e
did_reply t page X r d e = absurd (d refl)

module _ (old mid : Parts) (x : Leaver) (of slot page : ℕ) (held : Held) (other : held ≢ X)
    (fit : (s : State) → StandsFor old s → leaver_fits s x.worker of slot page held ≡ true)
    (r : Reply) (k : IsKept old) (did : Stepped old mid (move.Unwind x.worker slot) r) where
  fit_long : (s : State) → StandsFor old s → (leaver_fits s x.worker of slot page held && true) ≡ true
  fit_long s st = ap (λ b. b && true) (fit s st)

  keeps : (s : State) → StandsFor old s → Keeps s (next_of s (move.Unwind x.worker slot))
  keeps s st =
      let u = unwound old mid x of slot page held true fit_long r did s st in
      let e = did_reply (next_of s (move.Unwind x.worker slot)) page held (reply_of s (move.Unwind x.worker slot)) other
      u.told in
      still_keeps s st.core.reached (move.Unwind x.worker slot) (subst (λ a. IsTrue (is_still a)) (sym e) refl)

  pub slot_is_empty : (s : State) → StandsFor mid s → IsEmpty s x.worker slot
  slot_is_empty t st =
      still_empty mid.core (next_of k.state (move.Unwind x.worker slot)) t (did.moves.stands k.state k.stands.core) st.core
      x.worker slot (unwound_empty old mid x of slot page held true fit_long r did k.state k.stands)

  pub gives_slot : GivesSlot old x of slot page held mid x
  gives_slot =
      let call = unwind_call true held x.worker of slot page in
      let calls = unwind_calls old mid x of slot page held true fit_long in
      record {
        still = record {
          does = back.stay_does old mid x.worker (move.Unwind x.worker slot) refl call r did calls keeps;
          same = refl;
          leaves = λ t st.
              same_leaving mid.core t (next_of k.state (move.Unwind x.worker slot)) st.core
              (did.moves.stands k.state k.stands.core) x.worker
              ∙ (unwound old mid x of slot page held true fit_long r did k.state k.stands).leaving;
        };
        images = back.stay old mid x.worker (move.Unwind x.worker slot) refl call r did calls keeps;
      }

-- ---- a bundle

module _ (old mid : Parts) (x : Leaver) (of slot : ℕ)
    (fit : (s : State) → StandsFor old s → leaver_fits_bundle s x.worker of slot ≡ true) where
  bundle_calls : (s : State) → StandsFor old s
      → unwind_bundle_call x.worker of slot s ≡ asks (move.Unwind x.worker slot)
  bundle_calls s st = ap (λ b. if b then asks (move.Unwind x.worker slot) else stranger) (fit s st)

  pub bundle_refuses : (why : Refusal) → Refused old mid (move.Unwind x.worker slot) why
      → Refuses old (unwind_bundle_call x.worker of slot) why
  bundle_refuses why h =
      refuses old mid (unwind_bundle_call x.worker of slot) (move.Unwind x.worker slot) why h bundle_calls

  was_gathered : (s : State) → StandsFor old s → is_gathered s x.worker slot ≡ true
  was_gathered s st = (both_hold (is_leaving s x.worker && (of == x.worker)) (is_gathered s x.worker slot) (fit s st)).1

  module _ (r : Reply) (k : IsKept old) (did : Stepped old mid (move.Unwind x.worker slot) r) where
    bundle_unwound : (s : State) → StandsFor old s
        → HasUnwoundBundle s (next_of s (move.Unwind x.worker slot)) x.worker slot (reply_of s (move.Unwind x.worker slot))
    bundle_unwound s st =
        (after_moves s st.core.reached).unwound_bundle x.worker slot
        (ap is_refusal (sym (did.moves.replies s st.core)) ∙ did.done)
        (gathered_some s x.worker slot (was_gathered s st))

    bundle_keeps : (s : State) → StandsFor old s → Keeps s (next_of s (move.Unwind x.worker slot))
    bundle_keeps s st =
        still_keeps s st.core.reached (move.Unwind x.worker slot)
        (subst (λ a. IsTrue (is_still a)) (sym (bundle_unwound s st).told) refl)

    bundle_empty : IsEmpty (next_of k.state (move.Unwind x.worker slot)) x.worker slot
    bundle_empty =
        record {
          no_page = (bundle_unwound k.state k.stands).slots slot
              ∙ bundle_alone k.state k.stands.core.reached x.worker slot (was_gathered k.state k.stands);
          no_bundle = none_gathered (next_of k.state (move.Unwind x.worker slot)) x.worker slot
              (bundle_unwound k.state k.stands).none;
        }

    pub bundle_is_empty : (s : State) → StandsFor mid s → IsEmpty s x.worker slot
    bundle_is_empty t st =
        still_empty mid.core (next_of k.state (move.Unwind x.worker slot)) t (did.moves.stands k.state k.stands.core)
        st.core x.worker slot bundle_empty

    pub gives_bundle : GivesBundle old x of slot mid x
    gives_bundle =
        let call = unwind_bundle_call x.worker of slot in
        record {
          still = record {
            does = back.stay_does old mid x.worker (move.Unwind x.worker slot) refl call r did bundle_calls bundle_keeps;
            same = refl;
            leaves = λ t st.
                same_leaving mid.core t (next_of k.state (move.Unwind x.worker slot)) st.core
                (did.moves.stands k.state k.stands.core) x.worker
                ∙ (bundle_unwound k.state k.stands).leaving;
          };
          images = back.stay old mid x.worker (move.Unwind x.worker slot) refl call r did bundle_calls bundle_keeps;
        }

-- ---- a slot that is latched X

-- Its page has a frame.
pub unwind_framed : (v : Parts) (x : Leaver) (g : WriteGuard)
    → ((s : State) → StandsFor v s
    → (leaver_fits s x.worker g.worker g.slot g.page X && is_long v g.image) ≡ true)
    → (k : IsKept v) → frame_of k.state g.page ≡ Some (frame_at k.state g.page)
unwind_framed v x g fit k =
    going.writer_framed k.state k.stands.core.reached x.worker g.slot g.page
    (was_held v v x g.worker g.slot g.page X (is_long v g.image) fit k.state k.stands)

module _ (old mid : Parts) (x : Leaver) (g : WriteGuard)
    (fit : (s : State) → StandsFor old s
    → (leaver_fits s x.worker g.worker g.slot g.page X && is_long old g.image) ≡ true)
    (r : Reply) (k : IsKept old) (did : Stepped old mid (move.Unwind x.worker g.slot) r)
    (frame : ℕ) (at : (s : State) → StandsFor old s → frame ≡ frame_at s g.page) where
  abbrev call : State → Call
  call = unwind_call (is_long old g.image) X x.worker g.worker g.slot g.page

  calls : (s : State) → StandsFor old s → call s ≡ asks (move.Unwind x.worker g.slot)
  calls = unwind_calls old mid x g.worker g.slot g.page X (is_long old g.image) fit

  held : (s : State) → StandsFor old s → held_of s x.worker g.slot ≡ Some (g.page, X)
  held = was_held old mid x g.worker g.slot g.page X (is_long old g.image) fit

  long : length g.image ≡ old.page_bytes
  long =
      same_nat (length g.image) old.page_bytes
      (both_hold (leaver_fits k.state x.worker g.worker g.slot g.page X) (is_long old g.image) (fit k.state k.stands)).1

  raises : (s : State) → StandsFor old s → Raised s (next_of s (move.Unwind x.worker g.slot)) g.page (told_mark r)
  raises s st =
      let u = unwound old mid x g.worker g.slot g.page X (is_long old g.image) fit r did s st in
      let w : WriterSeat s x.worker = writer_seat s x.worker g.slot g.page (held s st) in
      let h : Holds w.by g.slot g.page X = holds s x.worker g.slot g.page X w.by w.seat (held s st) in
      let is : told_mark r ≡ u.told.0 = ap told_mark (sym (answer old mid x g.worker g.slot g.page X (is_long old g.image)
      fit r did s st) ∙ u.told.1) in
      let e = unwound_enters s st.core.reached x.worker g.slot (told_mark r) w.by w.seat
      (u.told.1 ∙ ap (λ m. reply.Unlatched m) (sym is)) in
      record {
        raised = e.0 ∙ ap (λ p. mark_at s p + 1) h.page_is;
        enters = subst
            (λ p. Enters s (next_of s (move.Unwind x.worker g.slot)) p
            (record { frame = frame_at s p; mark = told_mark r }))
            h.page_is e.1;
      }

  pub unwind_low : frame < length mid.images
  unwind_low =
      going.low old mid x.worker g.slot g.page (move.Unwind x.worker g.slot) refl call r k did calls held raises frame at

  -- The parts with the image in its frame.
  module _ (b : List ℕ) (is : b ≡ with_head g.image g.page (told_mark r)) (head : head_of b ≡ (g.page, told_mark r))
      (same : length b ≡ length g.image) (new : Parts)
      (rest : new ≡ record mid { images = slice_set mid.images frame (Some b) }) where
    stands_core : core.StandsFor new.core (next_of k.state (move.Unwind x.worker g.slot))
    stands_core =
        going.back_core old mid x.worker g.slot g.page (move.Unwind x.worker g.slot) refl call r k did calls held raises
        frame at g.image b is head (same ∙ long) new rest

    left : HasUnwound k.state (next_of k.state (move.Unwind x.worker g.slot)) x.worker g.slot g.page X
        (reply_of k.state (move.Unwind x.worker g.slot))
    left = unwound old mid x g.worker g.slot g.page X (is_long old g.image) fit r did k.state k.stands

    pub image_slot_is_empty : (s : State) → StandsFor new s → IsEmpty s x.worker g.slot
    image_slot_is_empty t st =
        still_empty new.core (next_of k.state (move.Unwind x.worker g.slot)) t stands_core st.core x.worker g.slot
        (unwound_empty old mid x g.worker g.slot g.page X (is_long old g.image) fit r did k.state k.stands)

    pub gives_image : GivesImage old x g new x
    gives_image =
        record {
          still = record {
            does =
                going.back_does old mid x.worker g.slot g.page (move.Unwind x.worker g.slot) refl call r k did calls held
                raises frame at g.image b is head (same ∙ long) new rest;
            same = refl;
            leaves = λ t st.
                same_leaving new.core t (next_of k.state (move.Unwind x.worker g.slot)) st.core stands_core x.worker
                ∙ left.leaving;
          };
          image =
              going.put_back old mid x.worker g.slot g.page (move.Unwind x.worker g.slot) refl call r k did calls held
              raises frame at g.image b is head (same ∙ long) new rest;
        }
