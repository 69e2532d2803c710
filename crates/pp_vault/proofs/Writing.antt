-- Latch X.
use Rattle.std.proofs.Common.{◌≡◌, ◌≢◌, ◌∙◌, ℕ, ◌<◌, true, Option, Some, None, List, length, refl, sym, ap}
use Rattle.std.proofs.Common.{subst}
use Rattle.std.specs.Prelude.{slice_set, IsSome}
use Rattle.pp_plan.specs.declared.mode.Mode.TheVariants as mode
use Rattle.pp_plan.specs.declared.action.Ask.TheVariants as ask
use Rattle.pp_cert.specs.declared.note.Held.TheVariants.{Free, X}
use Rattle.pp_model.specs.declared.moves.Move.TheVariants as move
use Rattle.pp_model.specs.declared.reply.Reply.{Reply}
use Rattle.pp_model.specs.declared.reply.Reply.TheVariants as reply
use Rattle.pp_model.specs.Pool.{State, frame_at}
use Rattle.pp_model.specs.Moves.{reply_of, next_of}
use Rattle.pp_model.specs.Ready.{Standing, ready_at, Leaves, StandsIn}
use Rattle.pp_model.proofs.Alone.{flush_stays, settings_stay}
use Rattle.pp_model.proofs.ReadyLaws.{ready_stand, ready_are_apart}
use Rattle.pp_model.proofs.ReadyAnswers.{exclusive_leaves}
use Rattle.pp_model.proofs.Requests.{same, other, which}
use Rattle.pp_core.specs.Queries.{ask_of, held_of}
use Rattle.pp_core.specs.AfterMoves.{HasLatched}
use Rattle.pp_model.specs.Reached.{IsReached}
use Rattle.pp_core.proofs.AfterMoves.{after_moves}
use Rattle.pp_device.specs.Image.{head_of}
use Rattle.pp_vault.specs.declared.tokens.Session.{Session}
use Rattle.pp_vault.specs.declared.guards.PinGuard.{PinGuard}
use Rattle.pp_vault.specs.Parts.{Parts}
use Rattle.pp_vault.specs.StandsFor.{StandsFor, ImagesFit, IsKept, IsRight, image_in}
use Rattle.pp_vault.specs.Calls.{asks}
use Rattle.pp_vault.specs.Steps.{Stepped, told_mark}
use Rattle.pp_vault.specs.Fits.{fits_both, asks_latch, latch_call}
use Rattle.pp_vault.specs.ImageMoves.{TakenOut}
use Rattle.pp_vault.specs.Tokens.{ActsIn, SessionFits}
use Rattle.pp_vault.specs.Uses.{LatchesExclusive}
use Rattle.pp_vault.proofs.AfterSteps.{kept_after, acts_after, held_after, mark_after}
use Rattle.pp_vault.proofs.UseReplies.{is_latched}
use Rattle.pp_vault.proofs.Done.{does}
use Rattle.pp_vault.proofs.FitTests.{guard_held, guard_asks, latch_asked, Asking, asking, Holds, holds}
use Rattle.pp_vault.proofs.Images.{fit_out}

no_standing : {x : Standing} → ◌≡◌ {A = Option Standing} None (Some x) → ⊥
no_standing e = cc

-- A page that leaves its frame: each other that is ready stands in another frame.
others_apart : (s t : State) (page : ℕ) (x : Standing) → IsReached s → Leaves s t page x → (p : ℕ) (y : Standing)
    → ready_at t p ≡ Some y → (ready_at s p ≡ Some y) × (y.frame ≢ x.frame)
others_apart s t page x reached leaves p y e =
    elim (which p page) [
      | same d e' ↦ absurd (no_standing (sym leaves.gone ∙ sym (ap (ready_at t) d) ∙ e))
      | other d e' ↦
          let was : ready_at s p ≡ Some y = sym (leaves.others p d) ∙ e in
          (was, λ f. d (ready_are_apart s reached p page y x was leaves.was f))
    ]

module _ (old mid : Parts) (x : Session) (g : PinGuard) (r : Reply) (kept : IsKept old)
    (h : Stepped old mid (move.Latch x.worker) r)
    (fit : (s : State) → StandsFor old s → fits_both s x.worker g.worker g.slot g.page Free ≡ true)
    (wanted : (s : State) → StandsFor old s → asks_latch g.slot mode.X (ask_of s x.worker) ≡ true)
    (frame : ℕ) (at : (s : State) → StandsFor old s → frame ≡ frame_at s g.page) where
  latched : (s : State) → StandsFor old s → reply_of s (move.Latch x.worker) ≡ reply.Latched (told_mark r)
  latched s st = sym (h.moves.replies s st.core) ∙ is_latched old mid x.worker r h s st

  latch_ask : (s : State) → StandsFor old s → ask_of s x.worker ≡ Some (ask.Latch g.slot mode.X)
  latch_ask s st = latch_asked g.slot mode.X (ask_of s x.worker) (wanted s st)

  was_held : (s : State) → StandsFor old s → held_of s x.worker g.slot ≡ Some (g.page, Free)
  was_held s st = guard_held s x.worker g.worker g.slot g.page Free (fit s st)

  abbrev stood : Standing
  stood = record { frame = frame; mark = told_mark r }

  leaves : (s : State) → StandsFor old s → Leaves s (next_of s (move.Latch x.worker)) g.page stood
  leaves s st =
      let a : Asking s x.worker (ask.Latch g.slot mode.X) = asking s x.worker (ask.Latch g.slot mode.X) (latch_ask s st) in
      let k : Holds a.run g.slot g.page Free = holds s x.worker g.slot g.page Free a.run a.seat (was_held s st) in
      subst (λ f. Leaves s (next_of s (move.Latch x.worker)) g.page (record { frame = f; mark = told_mark r }))
      (sym (at s st))
      (subst
      (λ p. Leaves s (next_of s (move.Latch x.worker)) p (record { frame = frame_at s p; mark = told_mark r }))
      k.page_is
      (exclusive_leaves s st.core.reached x.worker g.slot (told_mark r) a.run a.seat a.ask (latched s st)))

  stands_in : (s : State) → StandsFor old s → StandsIn s g.page stood
  stands_in s st = ready_stand s st.core.reached g.page stood (leaves s st).was

  low : (s : State) → StandsFor old s → frame < length old.images
  low s st = subst (λ n. frame < n) (sym st.images.frames) (stands_in s st).low

  right : IsRight old.images g.page stood
  right = kept.stands.images.right g.page stood (leaves kept.state kept.stands).was

  mid_images : mid.images ≡ old.images
  mid_images = ap (λ (v : Parts). v.images) h.rest

  mid_there : image_in mid.images frame ≡ Some right.image
  mid_there = ap (λ z. image_in z frame) mid_images ∙ right.there

  pub exclusive_there : IsSome (image_in mid.images frame)
  exclusive_there = subst (λ o. IsSome o) (sym mid_there) refl

  -- The parts with the image taken out.
  abbrev out : Parts
  out = record mid { images = slice_set mid.images frame None }

  out_images : (s : State) → StandsFor old s
      → ImagesFit out.page_bytes out.images out.spare (next_of s (move.Latch x.worker))
  out_images s st =
      subst
      (λ (v : Parts). ImagesFit v.page_bytes (slice_set v.images frame None) v.spare (next_of s (move.Latch x.worker)))
      (sym h.rest)
      (fit_out old.page_bytes old.images old.spare s (next_of s (move.Latch x.worker)) st.images
      (ap (λ k. k.layout.frames) (settings_stay s (move.Latch x.worker))) frame (low s st) (leaves s st).image
      (others_apart s (next_of s (move.Latch x.worker)) g.page stood st.core.reached (leaves s st))
      (λ none. sym (flush_stays s (move.Latch x.worker) x.worker refl) ∙ none))

  pub exclusive_kept : IsKept out
  exclusive_kept = kept_after old out (move.Latch x.worker) r kept h.moves out_images

  has_latched : HasLatched kept.state (next_of kept.state (move.Latch x.worker)) x.worker g.slot g.page (told_mark r)
      mode.X
  has_latched =
      (after_moves kept.state kept.stands.core.reached).latched x.worker g.slot g.page (told_mark r) mode.X
      (latched kept.state kept.stands) (latch_ask kept.state kept.stands) (was_held kept.state kept.stands)

  pub exclusive_acts : ActsIn out x.worker
  exclusive_acts = acts_after old out (move.Latch x.worker) r kept h.moves out_images x.worker has_latched.now.acts

  some_image : (a b : List ℕ) → ◌≡◌ {A = Option (List ℕ)} (Some a) (Some b) → a ≡ b
  some_image a b e = cc

  taken : (image : List ℕ) → image_in mid.images frame ≡ Some image → TakenOut old out frame image
  taken image there =
      record {
        was = ap (λ z. image_in z frame) (sym mid_images) ∙ there;
        images = ap (λ z. slice_set z frame None) mid_images;
        spare = ap (λ (v : Parts). v.spare) h.rest;
      }

  pub exclusive_latches : (y : Session) (mark : ℕ) (image : List ℕ) → mark ≡ told_mark r
      → image_in mid.images frame ≡ Some image → SessionFits out x.worker y
      → LatchesExclusive old x g out y
      (record { worker = x.worker; slot = g.slot; page = g.page; mark = mark; image = image })
  exclusive_latches y mark image e there session =
      record {
        does = does old out (latch_call mode.X x.worker g.worker g.slot g.page) (move.Latch x.worker) r h.moves h.done (ap (λ (v : Parts). v.page_bytes) h.rest)
            (λ s st. guard_asks (fits_both s x.worker g.worker g.slot g.page Free)
            (asks_latch g.slot mode.X (ask_of s x.worker)) (asks (move.Latch x.worker)) (fit s st) (wanted s st))
            out_images;
        session = session;
        guard = record {
          worker = refl;
          held = held_after old out (move.Latch x.worker) r kept h.moves out_images x.worker g.slot
              (Some (g.page, X)) has_latched.now.held;
          mark = mark_after old out (move.Latch x.worker) r kept h.moves out_images g.page (Some mark)
              (has_latched.now.known ∙ ap {B = Option ℕ} Some (sym e));
          head = ap head_of (some_image image right.image (sym there ∙ mid_there)) ∙ right.head
              ∙ ap (λ n. (g.page, n)) (sym e);
          long = kept.stands.images.long frame image (ap (λ z. image_in z frame) (sym mid_images) ∙ there)
              ∙ sym (ap (λ (v : Parts). v.page_bytes) h.rest);
        };
        same = (refl, refl);
        image = λ s st. (frame, (stands_in s st).frame, taken image there);
      }
