-- A page that a slot has latched S has its image in its frame, which names the page and its mark.
use Rattle.std.proofs.Common.{◌≡◌, ◌∙◌, ℕ, true, Option, Some, None, List, refl, sym, ap, subst}
use Rattle.std.specs.Prelude.{option_map}
use Rattle.std.specs.Option.{is_some}
use Rattle.std.proofs.lemmas.Bool.{false≢true}
use Rattle.pp_cert.specs.declared.note.Held.TheVariants.{S}
use Rattle.pp_cert.specs.Held.{Holding, holding_at}
use Rattle.pp_model.specs.Pool.{Running, State, frame_of, frame_at}
use Rattle.pp_model.specs.Holders.{holdings}
use Rattle.pp_model.specs.Moves.{seat_of}
use Rattle.pp_model.specs.Reached.{IsReached}
use Rattle.pp_model.specs.Ready.{ready_at, standing_of}
use Rattle.pp_model.proofs.ReadyLaws.{shared_are_ready, ready_stand}
use Rattle.pp_core.specs.Queries.{own_of, held_by, held_of}
use Rattle.pp_device.specs.Image.{head_of, body_of}
use Rattle.pp_vault.specs.declared.guards.ReadGuard.{ReadGuard}
use Rattle.pp_vault.specs.Parts.{Parts}
use Rattle.pp_vault.specs.StandsFor.{StandsFor, IsKept, IsRight, image_in}
use Rattle.pp_vault.specs.Flushes.{IsImageOf}
use Rattle.pp_vault.specs.Looks.{may_see, CanSee, Shows, ShowsBody}
use Rattle.pp_vault.proofs.FitTests.{slot_held, own_told}
use Rattle.pp_vault.proofs.Flushed.{same_frame, same_image}

-- ---- the page is ready

module _ (s : State) (h : IsReached s) (w slot page : ℕ) where
  of_holding : (r : Running) → seat_of s w ≡ Some (Some r) → (o : Option Holding) → holding_at (holdings r) slot ≡ o
      → own_of o ≡ Some (page, S)
      → ready_at s page ≡ Some (standing_of s page)
  of_holding r seat None is e = absurd (false≢true (ap is_some e))
  of_holding r seat (Some x) is e =
      let both = own_told x page S e in
      let ready = shared_are_ready s h w slot r x seat is (ap (λ b. b.1) both) in
      subst (λ p. ready_at s p ≡ Some (standing_of s p)) (ap (λ b. b.0) both) ready

  of_seat : (o : Option (Option Running)) → seat_of s w ≡ o → held_by o slot ≡ Some (page, S)
      → ready_at s page ≡ Some (standing_of s page)
  of_seat None seat e = absurd (false≢true (ap is_some e))
  of_seat (Some None) seat e = absurd (false≢true (ap is_some e))
  of_seat (Some (Some r)) seat e = of_holding r seat (holding_at (holdings r) slot) refl e

  pub shared_ready : held_of s w slot ≡ Some (page, S) → ready_at s page ≡ Some (standing_of s page)
  shared_ready e = of_seat (seat_of s w) refl e

-- ---- its image is there

module _ (v : Parts) (guard : ReadGuard) (fits : (s : State) → StandsFor v s → may_see guard s ≡ true) where
  ready : (s : State) → StandsFor v s → ready_at s guard.page ≡ Some (standing_of s guard.page)
  ready s st =
      shared_ready s st.core.reached guard.worker guard.slot guard.page
      (slot_held s guard.worker guard.slot guard.page S (fits s st))

  right : (s : State) → StandsFor v s → IsRight v.images guard.page (standing_of s guard.page)
  right s st = st.images.right guard.page (standing_of s guard.page) (ready s st)

  at : (s : State) → StandsFor v s → frame_of s guard.page ≡ Some (frame_at s guard.page)
  at s st = (ready_stand s st.core.reached guard.page (standing_of s guard.page) (ready s st)).frame

  pub can_see : IsKept v → CanSee v guard.page
  can_see kept =
      let s = kept.state in
      let st = kept.stands in
      record {
        state = s;
        stands = st;
        image = (right s st).image;
        source = record { frame = frame_at s guard.page; stands = at s st; there = (right s st).there };
      }

  module _ (bytes : List ℕ) (copy : (s : State) → StandsFor v s → IsImageOf v s guard.page bytes) where
    same : (s : State) → (st : StandsFor v s) → bytes ≡ (right s st).image
    same s st =
        let c = copy s st in
        same_image (image_in v.images (frame_at s guard.page)) bytes (right s st).image
        (
        ap (image_in v.images) (same_frame (frame_of s guard.page) (frame_at s guard.page) c.frame (at s st) c.stands)
        ∙ c.there
        )
        (right s st).there

    pub shows : Shows v guard.page bytes
    shows =
        record {
          copy = copy;
          head = λ s st.
              ap (λ b. Some (head_of b)) (same s st)
              ∙ ap (λ h. Some h) (right s st).head
              ∙ sym (
              ap (option_map (λ mark. (guard.page, mark)))
              (ready_stand s st.core.reached guard.page (standing_of s guard.page) (ready s st)).mark
              );
        }

    pub shows_body : (body : List ℕ) → body ≡ body_of bytes → ShowsBody v guard.page body
    shows_body body is = record { image = bytes; shown = shows; body_is = is }
