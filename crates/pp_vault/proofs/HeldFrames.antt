-- A page that a slot holds has a frame.
use Rattle.std.proofs.Common.{◌≡◌, ℕ, true, Some, refl, subst, arith}
use Rattle.pp_cert.specs.declared.note.Held.{Held}
use Rattle.pp_arc.specs.FourLists.{is_cached}
use Rattle.pp_model.specs.Pool.{State, frame_of, frame_at}
use Rattle.pp_model.specs.Moves.{seat_of}
use Rattle.pp_model.specs.Reached.{IsReached}
use Rattle.pp_model.proofs.Framed.{framed, held_one}
use Rattle.pp_model.proofs.Soundness.{sound}
use Rattle.pp_core.specs.Queries.{held_of}
use Rattle.pp_vault.proofs.GoingBack.{HoldsSo, in_seat, known_at}

module _ (s : State) (reached : IsReached s) (w slot page : ℕ) (how : Held)
    (held : held_of s w slot ≡ Some (page, how)) where
  has : HoldsSo s w slot page how
  has = in_seat s w slot page how (seat_of s w) refl held

  cached : is_cached s.lists has.holding.page ≡ true
  cached =
      (sound s reached).cached has.holding.page
      (omega (arith, held_one s w has.by slot has.holding has.seat has.found))

  pub held_framed : frame_of s page ≡ Some (frame_at s page)
  held_framed =
      subst (λ p. frame_of s p ≡ Some (frame_at s p)) has.page_is
      (known_at (frame_of s has.holding.page) ((framed s reached).placed has.holding.page cached))
