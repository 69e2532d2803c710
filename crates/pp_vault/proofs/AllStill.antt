-- Hands that fit still do after a call that leaves all that is told of workers and of the flusher.
use Rattle.std.proofs.Common.{◌≡◌, ◌∙◌, ℕ, ◌<◌, length, sym, subst}
use Rattle.pp_model.specs.Pool.{State}
use Rattle.pp_core.specs.Queries.{flushed_page}
use Rattle.pp_core.proofs.Alike.{same_flushed}
use Rattle.pp_vault.specs.declared.hands.Hands.{Hands}
use Rattle.pp_vault.specs.Parts.{Parts}
use Rattle.pp_vault.specs.StandsFor.{StandsFor}
use Rattle.pp_vault.specs.Hands.{HandFits, HasHand, FlushingFits, HandsFit}
use Rattle.pp_vault.proofs.StillFits.{Same, same_told, hand_still, flushing_still}

-- The pool has as many workers in t as in s, and the same is told of each of them, and of the flusher.
pub record SameAll (s t : State) : Type 0 where
  pub each : (v : ℕ) → Same s t v
  pub flush : flushed_page t ≡ flushed_page s
  pub count : length t.seats ≡ length s.seats

module _ (old new : Parts) (s after : State) (from : StandsFor old s) (to : StandsFor new after) (same : SameAll s after)
    (bytes : new.page_bytes ≡ old.page_bytes) (t : State) (st : StandsFor new t) where
  count : length t.seats ≡ length s.seats
  count = sym st.core.seats.size ∙ to.core.seats.size ∙ same.count

  flush : flushed_page t ≡ flushed_page s
  flush = same_flushed new.core t after st.core to.core ∙ same.flush

  still_has : (hands : Hands) (w : ℕ) → HasHand old.page_bytes s hands.workers w → HasHand new.page_bytes t hands.workers w
  still_has hands w has =
      record {
        hand = has.hand;
        there = has.there;
        fits =
            subst (λ n. HandFits n t w has.hand) (sym bytes) (
            hand_still old.page_bytes after t w (same_told new.core after t to.core st.core w) has.hand
            (hand_still old.page_bytes s after w (same.each w) has.hand has.fits)
            );
      }

-- They fit each state that the new parts stand for, where the call leads from one that the old parts stand for to one of the
-- new parts.
pub all_still_fit : (old new : Parts) (s after : State) → StandsFor old s → StandsFor new after → SameAll s after
    → new.page_bytes ≡ old.page_bytes → (hands : Hands) → HandsFit old hands → HandsFit new hands
all_still_fit old new s after from to same bytes hands fit t st =
    let before = fit s from in
    let size = count old new s after from to same bytes t st in
    record {
      places = before.places ∙ sym size;
      each = λ w low.
          still_has old new s after from to same bytes t st hands w (before.each w (subst (λ n. w < n) size low));
      flushing =
          subst (λ n. FlushingFits n t hands.flushing) (sym bytes)
          (
          flushing_still old.page_bytes s t (flush old new s after from to same bytes t st) hands.flushing before.flushing
          );
    }
