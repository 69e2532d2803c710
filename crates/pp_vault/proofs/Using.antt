-- Unfix, scatter, latch S and unlatch S.
use Rattle.std.proofs.Common.{◌≡◌, ◌∙◌, ℕ, true, false, Some, None, List, length, nat_lt, refl, sym, ap, subst}
use Rattle.std.specs.Prelude.{IsTrue}
use Rattle.pp_plan.specs.declared.mode.Mode.TheVariants as mode
use Rattle.pp_plan.specs.declared.action.Ask.TheVariants as ask
use Rattle.pp_cert.specs.declared.note.Held.TheVariants.{Free, S}
use Rattle.pp_model.specs.declared.moves.Move.{Move}
use Rattle.pp_model.specs.declared.moves.Move.TheVariants as move
use Rattle.pp_model.specs.declared.reply.Reply.{Reply}
use Rattle.pp_model.specs.declared.reply.Reply.TheVariants as reply
use Rattle.pp_model.specs.Pool.{State}
use Rattle.pp_model.specs.Moves.{reply_of, next_of}
use Rattle.pp_model.specs.Ready.{is_still, Keeps}
use Rattle.pp_model.proofs.ReadyLaws.{still_keeps}
use Rattle.pp_model.proofs.ReadyAnswers.{shared_stays, shared_goes}
use Rattle.pp_core.specs.Queries.{ask_of, held_of}
use Rattle.pp_core.specs.AfterMoves.{HasUnfixed, HasScattered, HasLatched, NowHeld}
use Rattle.pp_core.proofs.AfterMoves.{after_moves}
use Rattle.pp_vault.specs.declared.tokens.Session.{Session}
use Rattle.pp_vault.specs.declared.guards.PinGuard.{PinGuard}
use Rattle.pp_vault.specs.declared.guards.ReadGuard.{ReadGuard}
use Rattle.pp_vault.specs.declared.guards.BundleGuard.{BundleGuard}
use Rattle.pp_vault.specs.Parts.{Parts}
use Rattle.pp_vault.specs.StandsFor.{StandsFor, ImagesFit, IsKept}
use Rattle.pp_vault.specs.Calls.{asks}
use Rattle.pp_vault.specs.Steps.{Stepped, Refused, told_mark}
use Rattle.pp_vault.specs.Events.{Refuses}
use Rattle.pp_vault.specs.declared.refusal.Refusal.{Refusal}
use Rattle.pp_plan.specs.declared.mode.Mode.{Mode}
use Rattle.pp_vault.specs.Fits.{is_gathered, IsEmpty, fits_both, bundle_fits, asks_unfix, asks_scatter, asks_latch}
use Rattle.pp_vault.specs.Fits.{asks_unlatch, unfix_call, scatter_call, latch_call, unlatch_call}
use Rattle.pp_vault.specs.ImageMoves.{ImagesStay}
use Rattle.pp_vault.specs.Tokens.{ActsIn, SessionFits}
use Rattle.pp_vault.specs.Uses.{Unfixes, Scatters, LatchesShared, UnlatchesShared}
use Rattle.pp_vault.proofs.UseReplies.{is_did, is_latched, is_unlatched}
use Rattle.pp_vault.proofs.AfterSteps.{kept_after, acts_after, held_after, gathered_after, mark_after, images_stay}
use Rattle.pp_vault.proofs.Done.{does, refuses}
use Rattle.pp_vault.proofs.FitTests.{guard_held, guard_gathered, guard_asks, unfix_asked, scatter_asked, latch_asked}
use Rattle.pp_vault.proofs.FitTests.{unlatch_asked, Asking, asking, Holds, holds, own_alone, bundle_alone, none_gathered}

-- A step leaves the images and the bytes of a page.
pub stays : (old new : Parts) (m : Move) (r : Reply) → Stepped old new m r → ImagesStay old new
stays old new m r h =
    record {
      images = ap (λ (v : Parts). v.images) h.rest;
      spare = ap (λ (v : Parts). v.spare) h.rest;
    }

-- ---- unfix

module _ (old new : Parts) (x : Session) (g : PinGuard) (r : Reply) (kept : IsKept old)
    (h : Stepped old new (move.Unfix x.worker) r)
    (fit : (s : State) → StandsFor old s → fits_both s x.worker g.worker g.slot g.page Free ≡ true)
    (wanted : (s : State) → StandsFor old s → asks_unfix g.slot (ask_of s x.worker) ≡ true) where
  did : (s : State) → StandsFor old s → reply_of s (move.Unfix x.worker) ≡ reply.Did
  did s st = sym (h.moves.replies s st.core) ∙ is_did old new x.worker r h s st

  unfix_keeps : (s : State) → StandsFor old s → Keeps s (next_of s (move.Unfix x.worker))
  unfix_keeps s st =
      still_keeps s st.core.reached (move.Unfix x.worker) (subst (λ a. IsTrue (is_still a)) (sym (did s st)) refl)

  unfix_images : (s : State) → StandsFor old s
      → ImagesFit new.page_bytes new.images new.spare (next_of s (move.Unfix x.worker))
  unfix_images = images_stay old new (move.Unfix x.worker) r h x.worker refl unfix_keeps

  pub unfix_kept : IsKept new
  unfix_kept = kept_after old new (move.Unfix x.worker) r kept h.moves unfix_images

  has_unfixed : HasUnfixed kept.state (next_of kept.state (move.Unfix x.worker)) x.worker g.slot
  has_unfixed =
      (after_moves kept.state kept.stands.core.reached).unfixed x.worker g.slot (did kept.state kept.stands)
      (unfix_asked g.slot (ask_of kept.state x.worker) (wanted kept.state kept.stands))

  pub unfix_acts : ActsIn new x.worker
  unfix_acts = acts_after old new (move.Unfix x.worker) r kept h.moves unfix_images x.worker has_unfixed.acts

  no_bundle : is_gathered (next_of kept.state (move.Unfix x.worker)) x.worker g.slot ≡ false
  no_bundle =
      ap (λ (ps : List ℕ). nat_lt 0 (length ps)) (has_unfixed.bundles g.slot)
      ∙ own_alone kept.state kept.stands.core.reached x.worker g.slot (g.page, Free)
      (guard_held kept.state x.worker g.worker g.slot g.page Free (fit kept.state kept.stands))

  pub unfix_empty : (s : State) → StandsFor new s → IsEmpty s x.worker g.slot
  unfix_empty s st =
      record {
        no_page = held_after old new (move.Unfix x.worker) r kept h.moves unfix_images x.worker g.slot None has_unfixed.empty
            s st;
        no_bundle = gathered_after old new (move.Unfix x.worker) r kept h.moves unfix_images x.worker g.slot false no_bundle
            s st;
      }

  pub unfixes : (y : Session) → SessionFits new x.worker y → Unfixes old x g new y
  unfixes y session =
      record {
        does = does old new (unfix_call x.worker g.worker g.slot g.page) (move.Unfix x.worker) r h.moves h.done (ap (λ (v : Parts). v.page_bytes) h.rest)
            (λ s st. guard_asks (fits_both s x.worker g.worker g.slot g.page Free)
            (asks_unfix g.slot (ask_of s x.worker)) (asks (move.Unfix x.worker)) (fit s st) (wanted s st))
            unfix_images;
        session = session;
        images = stays old new (move.Unfix x.worker) r h;
      }

-- ---- scatter

module _ (old new : Parts) (x : Session) (g : BundleGuard) (r : Reply) (kept : IsKept old)
    (h : Stepped old new (move.Unfix x.worker) r)
    (fit : (s : State) → StandsFor old s → bundle_fits s x.worker g.worker g.slot ≡ true)
    (wanted : (s : State) → StandsFor old s → asks_scatter g.slot (ask_of s x.worker) ≡ true) where
  scattered : (s : State) → StandsFor old s → reply_of s (move.Unfix x.worker) ≡ reply.Did
  scattered s st = sym (h.moves.replies s st.core) ∙ is_did old new x.worker r h s st

  scatter_keeps : (s : State) → StandsFor old s → Keeps s (next_of s (move.Unfix x.worker))
  scatter_keeps s st =
      still_keeps s st.core.reached (move.Unfix x.worker) (subst (λ a. IsTrue (is_still a)) (sym (scattered s st)) refl)

  scatter_images : (s : State) → StandsFor old s
      → ImagesFit new.page_bytes new.images new.spare (next_of s (move.Unfix x.worker))
  scatter_images = images_stay old new (move.Unfix x.worker) r h x.worker refl scatter_keeps

  pub scatter_kept : IsKept new
  scatter_kept = kept_after old new (move.Unfix x.worker) r kept h.moves scatter_images

  has_scattered : HasScattered kept.state (next_of kept.state (move.Unfix x.worker)) x.worker g.slot
  has_scattered =
      (after_moves kept.state kept.stands.core.reached).scattered x.worker g.slot (scattered kept.state kept.stands)
      (scatter_asked g.slot (ask_of kept.state x.worker) (wanted kept.state kept.stands))

  pub scatter_acts : ActsIn new x.worker
  scatter_acts = acts_after old new (move.Unfix x.worker) r kept h.moves scatter_images x.worker has_scattered.acts

  no_page : held_of (next_of kept.state (move.Unfix x.worker)) x.worker g.slot ≡ None
  no_page =
      has_scattered.slots g.slot
      ∙ bundle_alone kept.state kept.stands.core.reached x.worker g.slot
      (guard_gathered kept.state x.worker g.worker g.slot (fit kept.state kept.stands))

  pub scatter_empty : (s : State) → StandsFor new s → IsEmpty s x.worker g.slot
  scatter_empty s st =
      record {
        no_page = held_after old new (move.Unfix x.worker) r kept h.moves scatter_images x.worker g.slot None no_page s st;
        no_bundle = gathered_after old new (move.Unfix x.worker) r kept h.moves scatter_images x.worker g.slot false
            (none_gathered (next_of kept.state (move.Unfix x.worker)) x.worker g.slot has_scattered.none) s st;
      }

  pub scatters : (y : Session) → SessionFits new x.worker y → Scatters old x g new y
  scatters y session =
      record {
        does = does old new (scatter_call x.worker g.worker g.slot) (move.Unfix x.worker) r h.moves h.done (ap (λ (v : Parts). v.page_bytes) h.rest)
            (λ s st. guard_asks (bundle_fits s x.worker g.worker g.slot)
            (asks_scatter g.slot (ask_of s x.worker)) (asks (move.Unfix x.worker)) (fit s st) (wanted s st))
            scatter_images;
        session = session;
        images = stays old new (move.Unfix x.worker) r h;
      }

-- ---- latch S

module _ (old new : Parts) (x : Session) (g : PinGuard) (r : Reply) (kept : IsKept old)
    (h : Stepped old new (move.Latch x.worker) r)
    (fit : (s : State) → StandsFor old s → fits_both s x.worker g.worker g.slot g.page Free ≡ true)
    (wanted : (s : State) → StandsFor old s → asks_latch g.slot mode.S (ask_of s x.worker) ≡ true) where
  latched : (s : State) → StandsFor old s → reply_of s (move.Latch x.worker) ≡ reply.Latched (told_mark r)
  latched s st = sym (h.moves.replies s st.core) ∙ is_latched old new x.worker r h s st

  latch_ask : (s : State) → StandsFor old s → ask_of s x.worker ≡ Some (ask.Latch g.slot mode.S)
  latch_ask s st = latch_asked g.slot mode.S (ask_of s x.worker) (wanted s st)

  latch_keeps : (s : State) → StandsFor old s → Keeps s (next_of s (move.Latch x.worker))
  latch_keeps s st =
      let a : Asking s x.worker (ask.Latch g.slot mode.S) = asking s x.worker (ask.Latch g.slot mode.S) (latch_ask s st) in
      (shared_stays s st.core.reached x.worker g.slot (told_mark r) a.run a.seat a.ask (latched s st)).1

  latch_images : (s : State) → StandsFor old s
      → ImagesFit new.page_bytes new.images new.spare (next_of s (move.Latch x.worker))
  latch_images = images_stay old new (move.Latch x.worker) r h x.worker refl latch_keeps

  pub latch_kept : IsKept new
  latch_kept = kept_after old new (move.Latch x.worker) r kept h.moves latch_images

  has_latched : HasLatched kept.state (next_of kept.state (move.Latch x.worker)) x.worker g.slot g.page (told_mark r) mode.S
  has_latched =
      (after_moves kept.state kept.stands.core.reached).latched x.worker g.slot g.page (told_mark r) mode.S
      (latched kept.state kept.stands) (latch_ask kept.state kept.stands)
      (guard_held kept.state x.worker g.worker g.slot g.page Free (fit kept.state kept.stands))

  pub latch_acts : ActsIn new x.worker
  latch_acts =
      acts_after old new (move.Latch x.worker) r kept h.moves latch_images x.worker
      has_latched.now.acts

  pub latches : (y : Session) → SessionFits new x.worker y
      → LatchesShared old x g new y (record { worker = x.worker; slot = g.slot; page = g.page; mark = told_mark r })
  latches y session =
      record {
        does = does old new (latch_call mode.S x.worker g.worker g.slot g.page) (move.Latch x.worker)
            r h.moves h.done (ap (λ (v : Parts). v.page_bytes) h.rest)
            (λ s st. guard_asks (fits_both s x.worker g.worker g.slot g.page Free)
            (asks_latch g.slot mode.S (ask_of s x.worker)) (asks (move.Latch x.worker)) (fit s st) (wanted s st))
            latch_images;
        session = session;
        guard = record {
          worker = refl;
          held = held_after old new (move.Latch x.worker) r kept h.moves latch_images x.worker
              g.slot (Some (g.page, S)) has_latched.now.held;
          mark = mark_after old new (move.Latch x.worker) r kept h.moves latch_images g.page
              (Some (told_mark r)) has_latched.now.known;
        };
        same = (refl, refl);
        images = stays old new (move.Latch x.worker) r h;
      }

  pub latches_so : (y : Session) (mark : ℕ) → mark ≡ told_mark r → SessionFits new x.worker y
      → LatchesShared old x g new y (record { worker = x.worker; slot = g.slot; page = g.page; mark = mark })
  latches_so y mark e session =
      subst
      (λ n. LatchesShared old x g new y (record { worker = x.worker; slot = g.slot; page = g.page; mark = n })) (sym e)
      (latches y session)

-- ---- a latch that is refused

pub latch_refuses : (old new : Parts) (how : Mode) (x : Session) (g : PinGuard) (why : Refusal)
    → Refused old new (move.Latch x.worker) why
    → ((s : State) → StandsFor old s → fits_both s x.worker g.worker g.slot g.page Free ≡ true)
    → ((s : State) → StandsFor old s → asks_latch g.slot how (ask_of s x.worker) ≡ true)
    → Refuses old (latch_call how x.worker g.worker g.slot g.page) why
latch_refuses old new how x g why h fit wanted =
    refuses old new (latch_call how x.worker g.worker g.slot g.page) (move.Latch x.worker) why h
    (λ s st. guard_asks (fits_both s x.worker g.worker g.slot g.page Free)
    (asks_latch g.slot how (ask_of s x.worker)) (asks (move.Latch x.worker)) (fit s st) (wanted s st))

-- ---- unlatch S

module _ (old new : Parts) (x : Session) (g : ReadGuard) (r : Reply) (kept : IsKept old)
    (h : Stepped old new (move.Unlatch x.worker) r)
    (fit : (s : State) → StandsFor old s → fits_both s x.worker g.worker g.slot g.page S ≡ true)
    (wanted : (s : State) → StandsFor old s → asks_unlatch g.slot (ask_of s x.worker) ≡ true) where
  unlatched : (s : State) → StandsFor old s
      → reply_of s (move.Unlatch x.worker) ≡ reply.Unlatched (told_mark r)
  unlatched s st = sym (h.moves.replies s st.core) ∙ is_unlatched old new x.worker r h s st

  unlatch_ask : (s : State) → StandsFor old s → ask_of s x.worker ≡ Some (ask.Unlatch g.slot)
  unlatch_ask s st = unlatch_asked g.slot (ask_of s x.worker) (wanted s st)

  was_held : (s : State) → StandsFor old s → held_of s x.worker g.slot ≡ Some (g.page, S)
  was_held s st = guard_held s x.worker g.worker g.slot g.page S (fit s st)

  unlatch_keeps : (s : State) → StandsFor old s → Keeps s (next_of s (move.Unlatch x.worker))
  unlatch_keeps s st =
      let a : Asking s x.worker (ask.Unlatch g.slot) = asking s x.worker (ask.Unlatch g.slot) (unlatch_ask s st) in
      let k : Holds a.run g.slot g.page S = holds s x.worker g.slot g.page S a.run a.seat (was_held s st) in
      (shared_goes s st.core.reached x.worker g.slot (told_mark r) a.run a.seat a.ask k.held_is (unlatched s st)).1

  unlatch_images : (s : State) → StandsFor old s
      → ImagesFit new.page_bytes new.images new.spare (next_of s (move.Unlatch x.worker))
  unlatch_images = images_stay old new (move.Unlatch x.worker) r h x.worker refl unlatch_keeps

  pub unlatch_kept : IsKept new
  unlatch_kept = kept_after old new (move.Unlatch x.worker) r kept h.moves unlatch_images

  now_free : NowHeld kept.state (next_of kept.state (move.Unlatch x.worker)) x.worker g.slot g.page (told_mark r) Free
  now_free =
      (after_moves kept.state kept.stands.core.reached).unlatched x.worker g.slot g.page (told_mark r) S
      (unlatched kept.state kept.stands) (unlatch_ask kept.state kept.stands) (was_held kept.state kept.stands)

  pub unlatch_acts : ActsIn new x.worker
  unlatch_acts =
      acts_after old new (move.Unlatch x.worker) r kept h.moves unlatch_images x.worker now_free.acts

  pub unlatches : (y : Session) → SessionFits new x.worker y
      → UnlatchesShared old x g new y (record { worker = x.worker; slot = g.slot; page = g.page })
  unlatches y session =
      record {
        does = does old new (unlatch_call S x.worker g.worker g.slot g.page) (move.Unlatch x.worker) r h.moves h.done (ap (λ (v : Parts). v.page_bytes) h.rest)
            (λ s st. guard_asks (fits_both s x.worker g.worker g.slot g.page S)
            (asks_unlatch g.slot (ask_of s x.worker)) (asks (move.Unlatch x.worker)) (fit s st) (wanted s st))
            unlatch_images;
        session = session;
        guard = record {
          worker = refl;
          held = held_after old new (move.Unlatch x.worker) r kept h.moves unlatch_images x.worker
              g.slot (Some (g.page, Free)) now_free.held;
        };
        same = (refl, refl);
        images = stays old new (move.Unlatch x.worker) r h;
      }
