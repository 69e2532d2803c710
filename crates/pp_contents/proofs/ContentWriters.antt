-- A writer that changes its image, what guards show of a page, and a page that is being read.
use Rattle.std.proofs.Common.{◌≡◌, ◌≢◌, ◌∙◌, ℕ, Some, None, List, refl, sym, ap}
use Rattle.std.specs.Prelude.{slice_set}
use Rattle.std.proofs.lemmas.List.{get_or-set_same, set-set}
use Rattle.pp_cert.specs.declared.note.Held.TheVariants.{S}
use Rattle.pp_model.specs.Pool.{State, frame_of, frame_at}
use Rattle.pp_model.specs.Ready.{standing_of, ready_at}
use Rattle.pp_model.proofs.ReadyLaws.{ready_stand}
use Rattle.pp_model.proofs.Requests.{same, other, which}
use Rattle.pp_core.specs.Queries.{held_of}
use Rattle.pp_device.specs.Image.{body_of}
use Rattle.pp_vault.specs.declared.guards.Guard.TheVariants.{Read, Write}
use Rattle.pp_vault.specs.declared.guards.ReadGuard.{ReadGuard}
use Rattle.pp_vault.specs.declared.guards.WriteGuard.{WriteGuard}
use Rattle.pp_vault.specs.declared.stage.Stage.TheVariants.{Back}
use Rattle.pp_vault.specs.declared.stage.Hand.{Hand}
use Rattle.pp_vault.specs.declared.tokens.Returned.{Returned}
use Rattle.pp_vault.specs.declared.hands.Hands.{Hands}
use Rattle.pp_vault.specs.Parts.{Parts}
use Rattle.pp_vault.specs.StandsFor.{image_in}
use Rattle.pp_vault.specs.Flushes.{IsImageOf}
use Rattle.pp_vault.specs.Holding.{placed}
use Rattle.pp_contents.specs.Content.{standing_image, ready_image, content, ContentIsSet}
use Rattle.pp_contents.specs.Agreeing.{Agrees, flush_copy}
use Rattle.pp_contents.specs.ContentLaws.{Held, HandsBack, SetsContent, WritersSetContents, ContentsAreSeen, LoadedAreTold}
use Rattle.pp_contents.proofs.AgreementPlaces.{place_low}
use Rattle.pp_contents.proofs.CallMoves.{other_writes}
use Rattle.pp_contents.proofs.ContentPlaces.{in_hand, in_frame, on_device, hand_stands}
use Rattle.pp_contents.proofs.ContentPlaces.{unready_image, content_at}
use Rattle.pp_contents.proofs.ContentSteps.{is_left, was_there, has_after, one_is_set}
use Rattle.pp_vault.proofs.FitTests.{some_some}
use Rattle.pp_contents.proofs.ImageSteps.{guarded, SameToken}
use Rattle.pp_vault.proofs.Looked.{shared_ready}
use Rattle.pp_contents.proofs.TokenMoves.{guards_now, set_there, set_others}
use Rattle.pp_contents.proofs.TokensApart.{token_unloaded, loaded_unready}

-- ---- a writer

module _ (v : Parts) (s : State) (hands after : Hands) (told : ℕ → List ℕ) (w slot : ℕ) (hand : Hand) (g : WriteGuard)
    (image : List ℕ) (before : Held v s hands) (there : placed hands.workers w ≡ Some hand)
    (at : placed hand.guards slot ≡ Some (Write g)) where
  abbrev changed : WriteGuard
  changed = record g { image = image }

  abbrev left : Hand
  left = record hand { guards = slice_set hand.guards slot (Some (Write changed)) }

  -- Of every other page the hand has the images that it had.
  others_same : (page : ℕ) → page ≢ g.page → SameToken hand left page
  others_same page apart =
      guards_now hand left hand.stage slot left.guards refl page refl
      (set_others hand.guards slot (Some (Write changed)))
      (λ x. other_writes g.page page g refl apart (x.0, sym at ∙ x.1, x.2))
      (λ x. other_writes g.page page changed refl apart
      (x.0, set_there hand.guards slot (Some (Write changed)) (Write x.0) x.1, x.2))

  changed_there : placed left.guards slot ≡ Some (Write changed)
  changed_there = get_or-set_same hand.guards slot (Some (Write changed)) None (place_low hand.guards slot (Write g) at)

  module _ (is : after ≡ record hands { workers = slice_set hands.workers w (Some left) }) (later : Held v s after) where
    back : HandsBack hands w left after
    back =
        record {
          workers = ap (λ (h : Hands). h.workers) is ∙ sym (set-set hands.workers w None (Some left));
          flushing = ap (λ (h : Hands). h.flushing) is;
        }

    sets : ContentIsSet g.page (body_of image) (content v s hands told) (content v s after told)
    sets =
        one_is_set v v s s hands after before later w hand left there back told told g.page
        (record { tokens = others_same; ready = λ q d. refl }) (λ q d. refl) (body_of image)
        (has_after v v s s hands after before later w hand left there back told g.page image
        (guarded slot changed changed_there refl refl))

    answered : Agrees v s hands told → (u : ℕ) (x : Hand) (returned : Returned) → placed after.workers u ≡ Some x
        → x.stage ≡ Back returned → ⊥
    answered agrees u x returned on e =
        elim (which u w) [
          | same f k ↦
              agrees.answered w hand returned there
              (
              ap (λ (h : Hand). h.stage) (is_left v v s s hands after before later w hand left there back u x f on)
              ∙ e
              )
          | other d k ↦
              agrees.answered u x returned
              (was_there v v s s hands after before later w hand left there back u x d on) e
        ]

    agree : Agrees v s hands told → Agrees v s after told
    agree agrees =
        record {
          clean = agrees.clean;
          loaded = agrees.loaded;
          victim = agrees.victim;
          flushed = agrees.flushed;
          copied = λ f b copy out known ready copied.
              agrees.copied f b copy out known ready (sym (ap flush_copy back.flushing) ∙ copied);
          answered = answered agrees;
          flush_answered = λ returned e. agrees.flush_answered returned (sym back.flushing ∙ e);
        }

    pub writer_sets : Agrees v s hands told → SetsContent v s hands told g.page (body_of image) after
    writer_sets agrees = record { sets = sets; agrees = agree agrees }

pub writers_set_contents : WritersSetContents
writers_set_contents v s hands after told w slot hand g image before there at is later agrees =
    writer_sets v s hands after told w slot hand g image before there at is later agrees

-- ---- what guards show

module _ (v : Parts) (s : State) (hands : Hands) (told : ℕ → List ℕ) (w slot : ℕ) (hand : Hand) (held : Held v s hands)
    (there : placed hands.workers w ≡ Some hand) where
  written_seen : (g : WriteGuard) → placed hand.guards slot ≡ Some (Write g)
      → content v s hands told g.page ≡ body_of g.image
  written_seen g at =
      content_at v s hands held told g.page g.image (in_hand w hand there (guarded slot g at refl refl))

  -- The frame of a page that is ready has its image.
  frame_image : (page frame : ℕ) (image : List ℕ) → ready_at s page ≡ Some (standing_of s page)
      → frame_of s page ≡ Some frame → image_in v.images frame ≡ Some image → ready_image v s page ≡ Some image
  frame_image page frame image ready at is =
      let stands = (ready_stand s held.stands.core.reached page (standing_of s page) ready).frame in
      let same : frame_at s page ≡ frame = some_some frame (frame_at s page) frame (sym stands ∙ at) in
      ap (standing_image v) ready ∙ ap (image_in v.images) same ∙ is

  read_seen : (g : ReadGuard) (image : List ℕ) → placed hand.guards slot ≡ Some (Read g)
      → IsImageOf v s g.page image → content v s hands told g.page ≡ body_of image
  read_seen g image at of =
      let latched : held_of s w slot ≡ Some (g.page, S) = (hand_stands v s hands held w hand there).slots slot (Read g) at in
      let ready = shared_ready s held.stands.core.reached w slot g.page latched in
      content_at v s hands held told g.page image
      (in_frame (frame_image g.page of.frame image ready of.stands of.there))

pub contents_are_seen : ContentsAreSeen
contents_are_seen v s hands told w slot hand held there =
    (written_seen v s hands told w slot hand held there, read_seen v s hands told w slot hand held there)

-- ---- a page that is being read: nobody has an image of it

pub loaded_are_told : LoadedAreTold
loaded_are_told v s hands told w slot page held out =
    let reached = held.stands.core.reached in
    content_at v s hands held told page (told page)
    (on_device
    (λ u x at image token.
    token_unloaded s reached u x (hand_stands v s hands held u x at) w slot page image out token)
    (unready_image v s page (loaded_unready s reached w slot page out)) refl)
