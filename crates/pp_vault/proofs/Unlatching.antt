-- Unlatch X.
use Rattle.std.proofs.Common.{◌≡◌, ◌∙◌, ℕ, ◌+◌, ◌<◌, ◌&&◌, true, Some, List, length, refl, sym, ap, subst}
use Rattle.std.specs.Prelude.{slice_set}
use Rattle.pp_plan.specs.declared.action.Ask.TheVariants as ask
use Rattle.pp_cert.specs.declared.note.Held.TheVariants.{Free, X}
use Rattle.pp_model.specs.declared.moves.Move.TheVariants as move
use Rattle.pp_model.specs.declared.reply.Reply.{Reply}
use Rattle.pp_model.specs.declared.reply.Reply.TheVariants as reply
use Rattle.pp_model.specs.Pool.{State, frame_of, frame_at, mark_at}
use Rattle.pp_model.specs.Moves.{reply_of, next_of}
use Rattle.pp_model.specs.Ready.{Enters}
use Rattle.pp_model.proofs.ReadyAnswers.{exclusive_enters}
use Rattle.pp_core.specs.StandsFor as core
use Rattle.pp_core.specs.Queries.{ask_of, held_of}
use Rattle.pp_core.specs.AfterMoves.{NowHeld}
use Rattle.pp_core.proofs.AfterMoves.{after_moves}
use Rattle.pp_core.proofs.Alike.{same_ask, same_held}
use Rattle.pp_device.specs.Image.{with_head, head_of}
use Rattle.pp_vault.specs.declared.tokens.Session.{Session}
use Rattle.pp_vault.specs.declared.guards.WriteGuard.{WriteGuard}
use Rattle.pp_vault.specs.Parts.{Parts}
use Rattle.pp_vault.specs.StandsFor.{StandsFor, IsKept}
use Rattle.pp_vault.specs.Calls.{Call, asks}
use Rattle.pp_vault.specs.Steps.{Stepped, told_mark}
use Rattle.pp_vault.specs.Events.{Does}
use Rattle.pp_vault.specs.Fits.{fits_both, asks_unlatch, put_back_call, is_acting_by}
use Rattle.pp_vault.specs.Tokens.{is_long, ActsIn, SessionFits}
use Rattle.pp_vault.specs.Uses.{UnlatchesExclusive}
use Rattle.pp_vault.proofs.UseReplies.{is_unlatched}
use Rattle.pp_vault.proofs.FitTests.{both_hold, guard_held, guard_asks, unlatch_asked, acts_by, Asking, asking}
use Rattle.pp_vault.proofs.FitTests.{Holds, holds}
use Rattle.pp_vault.proofs.Kept as kept
use Rattle.pp_vault.proofs.GoingBack.{Raised}
use Rattle.pp_vault.proofs.GoingBack as going
use Rattle.pp_vault.proofs.WriteSteps.{same_nat}

-- The page of a slot that is latched X has a frame.
pub exclusive_framed : (v : Parts) (x : Session) (g : WriteGuard)
    → ((s : State) → StandsFor v s → (fits_both s x.worker g.worker g.slot g.page X && is_long v g.image) ≡ true)
    → (k : IsKept v) → frame_of k.state g.page ≡ Some (frame_at k.state g.page)
exclusive_framed v x g fit k =
    going.writer_framed k.state k.stands.core.reached x.worker g.slot g.page
    (guard_held k.state x.worker g.worker g.slot g.page X
    (both_hold (fits_both k.state x.worker g.worker g.slot g.page X) (is_long v g.image) (fit k.state k.stands)).0)

module _ (old mid : Parts) (x : Session) (g : WriteGuard) (r : Reply) (k : IsKept old)
    (did : Stepped old mid (move.Unlatch x.worker) r)
    (fit : (s : State) → StandsFor old s
    → (fits_both s x.worker g.worker g.slot g.page X && is_long old g.image) ≡ true)
    (wanted : (s : State) → StandsFor old s → asks_unlatch g.slot (ask_of s x.worker) ≡ true)
    (frame : ℕ) (at : (s : State) → StandsFor old s → frame ≡ frame_at s g.page) where
  abbrev call : State → Call
  call = put_back_call (is_long old g.image) x.worker g.worker g.slot g.page

  unlatched : (s : State) → StandsFor old s → reply_of s (move.Unlatch x.worker) ≡ reply.Unlatched (told_mark r)
  unlatched s st = sym (did.moves.replies s st.core) ∙ is_unlatched old mid x.worker r did s st

  unlatch_ask : (s : State) → StandsFor old s → ask_of s x.worker ≡ Some (ask.Unlatch g.slot)
  unlatch_ask s st = unlatch_asked g.slot (ask_of s x.worker) (wanted s st)

  both : (s : State) → StandsFor old s
      → (fits_both s x.worker g.worker g.slot g.page X ≡ true) × (is_long old g.image ≡ true)
  both s st = both_hold (fits_both s x.worker g.worker g.slot g.page X) (is_long old g.image) (fit s st)

  held : (s : State) → StandsFor old s → held_of s x.worker g.slot ≡ Some (g.page, X)
  held s st = guard_held s x.worker g.worker g.slot g.page X (both s st).0

  long : length g.image ≡ old.page_bytes
  long = same_nat (length g.image) old.page_bytes (both k.state k.stands).1

  calls : (s : State) → StandsFor old s → call s ≡ asks (move.Unlatch x.worker)
  calls s st =
      guard_asks (fits_both s x.worker g.worker g.slot g.page X && is_long old g.image)
      (asks_unlatch g.slot (ask_of s x.worker)) (asks (move.Unlatch x.worker)) (fit s st) (wanted s st)

  raises : (s : State) → StandsFor old s → Raised s (next_of s (move.Unlatch x.worker)) g.page (told_mark r)
  raises s st =
      let a : Asking s x.worker (ask.Unlatch g.slot) = asking s x.worker (ask.Unlatch g.slot) (unlatch_ask s st) in
      let h : Holds a.run g.slot g.page X = holds s x.worker g.slot g.page X a.run a.seat (held s st) in
      let e = exclusive_enters s st.core.reached x.worker g.slot (told_mark r) a.run a.seat a.ask h.held_is
      (unlatched s st) in
      record {
        raised = e.0 ∙ ap (λ p. mark_at s p + 1) h.page_is;
        enters = subst
            (λ p. Enters s (next_of s (move.Unlatch x.worker)) p (record { frame = frame_at s p; mark = told_mark r }))
            h.page_is e.1;
      }

  pub exclusive_low : frame < length mid.images
  exclusive_low =
      going.low old mid x.worker g.slot g.page (move.Unlatch x.worker) refl call r k did calls held raises frame at

  now_free : NowHeld k.state (next_of k.state (move.Unlatch x.worker)) x.worker g.slot g.page (told_mark r) Free
  now_free =
      (after_moves k.state k.stands.core.reached).unlatched x.worker g.slot g.page (told_mark r) X
      (unlatched k.state k.stands) (unlatch_ask k.state k.stands) (held k.state k.stands)

  module _ (b : List ℕ) (is : b ≡ with_head g.image g.page (told_mark r)) (head : head_of b ≡ (g.page, told_mark r))
      (same : length b ≡ length g.image) (new : Parts)
      (rest : new ≡ record mid { images = slice_set mid.images frame (Some b) }) where
    goes_does : Does old call new
    goes_does =
        going.back_does old mid x.worker g.slot g.page (move.Unlatch x.worker) refl call r k did calls held raises frame at
        g.image b is head (same ∙ long) new rest

    goes_core : core.StandsFor new.core (next_of k.state (move.Unlatch x.worker))
    goes_core =
        going.back_core old mid x.worker g.slot g.page (move.Unlatch x.worker) refl call r k did calls held raises frame at
        g.image b is head (same ∙ long) new rest

    pub exclusive_goes_kept : IsKept new
    exclusive_goes_kept = kept.kept_after old new call k goes_does

    pub exclusive_goes_acts : ActsIn new x.worker
    exclusive_goes_acts t st =
        ap is_acting_by (same_ask new.core t (next_of k.state (move.Unlatch x.worker)) st.core goes_core x.worker)
        ∙ acts_by (ask_of (next_of k.state (move.Unlatch x.worker)) x.worker) now_free.acts

    pub exclusive_unlatches : (y : Session) → SessionFits new x.worker y
        → UnlatchesExclusive old x g new y (record { worker = x.worker; slot = g.slot; page = g.page })
    exclusive_unlatches y session =
        record {
          does = goes_does;
          session = session;
          guard = record {
            worker = refl;
            held = λ t st.
                same_held new.core t (next_of k.state (move.Unlatch x.worker)) st.core goes_core x.worker g.slot
                ∙ now_free.held;
          };
          same = (refl, refl);
          image =
              going.put_back old mid x.worker g.slot g.page (move.Unlatch x.worker) refl call r k did calls held raises
              frame at g.image b is head (same ∙ long) new rest;
        }
