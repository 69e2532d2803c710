-- What a core tells is the same of all states that it stands for.
use Rattle.std.proofs.Common.{◌≡◌, ◌∙◌, ℕ, Option, Some, None, refl, sym}
use Rattle.pp_model.specs.declared.refusals.Cause.{Cause}
use Rattle.pp_model.specs.Pool.{State, frame_of, known_mark}
use Rattle.pp_core.specs.declared.seat.Phase.TheVariants.{Acting}
use Rattle.pp_core.specs.declared.seat.Seat.{Seat}
use Rattle.pp_core.specs.Parts.{Parts}
use Rattle.pp_core.specs.StandsFor.{StandsFor, Asks, CannotAct}
use Rattle.pp_core.specs.Effects.{phase_of, acting_fault, IsIn}
use Rattle.pp_core.specs.Queries.{is_idle, is_leaving, ask_of, held_of, bundle_of, pending_of, errand_of, flushed_page}
use Rattle.pp_core.proofs.Asking.{InPhase, in_phase, asks_this, cannot, acts}
use Rattle.pp_core.proofs.QueryTies.{idle_told, leaving_told, held_told, errand_told, ask_told, none_told, frame_told}
use Rattle.pp_core.proofs.QueryTies.{mark_told, flush_told, bundle_told, pending_told}

module _ (f : Parts) (s t : State) (a : StandsFor f s) (b : StandsFor f t) where
  pub same_idle : (w : ℕ) → is_idle s w ≡ is_idle t w
  same_idle w = sym (idle_told f s a w) ∙ idle_told f t b w

  pub same_leaving : (w : ℕ) → is_leaving s w ≡ is_leaving t w
  same_leaving w = sym (leaving_told f s a w) ∙ leaving_told f t b w

  pub same_held : (w slot : ℕ) → held_of s w slot ≡ held_of t w slot
  same_held w slot = sym (held_told f s a w slot) ∙ held_told f t b w slot

  pub same_bundle : (w slot : ℕ) → bundle_of s w slot ≡ bundle_of t w slot
  same_bundle w slot = sym (bundle_told f s a w slot) ∙ bundle_told f t b w slot

  pub same_pending : (w : ℕ) → pending_of s w ≡ pending_of t w
  same_pending w = sym (pending_told f s a w) ∙ pending_told f t b w

  pub same_errand : (w : ℕ) → errand_of s w ≡ errand_of t w
  same_errand w = sym (errand_told f s a w) ∙ errand_told f t b w

  pub same_frame : (page : ℕ) → frame_of s page ≡ frame_of t page
  same_frame page = sym (frame_told f s a page) ∙ frame_told f t b page

  pub same_mark : (page : ℕ) → known_mark s page ≡ known_mark t page
  same_mark page = sym (mark_told f s a page) ∙ mark_told f t b page

  pub same_flushed : flushed_page s ≡ flushed_page t
  same_flushed = sym (flush_told f s a) ∙ flush_told f t b

  ask_either : (w : ℕ) (o : Option Cause) → acting_fault (phase_of f w) ≡ o → ask_of s w ≡ ask_of t w
  ask_either w None e =
      let told = acts f w e in
      let at : InPhase f w Acting = in_phase f w Acting told in
      let this : Asks f w at.seat.ask = asks_this f w at.seat.ask told (λ (x : Seat) (is : IsIn f w x). cc (at.is_in, is)) in
      sym (ask_told f s w at.seat.ask a this) ∙ ask_told f t w at.seat.ask b this
  ask_either w (Some cause) e =
      let no : CannotAct f w cause = cannot f w cause e in
      sym (none_told f s w cause a no) ∙ none_told f t w cause b no

  pub same_ask : (w : ℕ) → ask_of s w ≡ ask_of t w
  same_ask w = ask_either w (acting_fault (phase_of f w)) refl
