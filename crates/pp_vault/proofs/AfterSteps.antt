-- What is told after a step of the core.
use Rattle.std.proofs.Common.{◌≡◌, ◌∙◌, ℕ, Bool, Option, Some, None, List, length, nat_lt, sym, ap, subst}
use Rattle.std.specs.Prelude.{IsSome}
use Rattle.pp_cert.specs.declared.note.Held.{Held}
use Rattle.pp_model.specs.declared.moves.Move.{Move}
use Rattle.pp_model.specs.declared.reply.Reply.{Reply}
use Rattle.pp_model.specs.Pool.{State, known_mark}
use Rattle.pp_model.specs.Moves.{reply_of, next_of}
use Rattle.pp_model.specs.Ready.{Keeps}
use Rattle.pp_model.specs.WorkerParts.{worker_of}
use Rattle.pp_model.proofs.Alone.{flush_stays, settings_stay}
use Rattle.pp_core.specs.Queries.{ask_of, held_of}
use Rattle.pp_core.specs.StandsFor as core
use Rattle.pp_core.proofs.Alike.{same_ask, same_held, same_bundle, same_mark}
use Rattle.pp_vault.specs.Parts.{Parts}
use Rattle.pp_vault.specs.StandsFor.{StandsFor, ImagesFit, IsKept}
use Rattle.pp_vault.specs.Steps.{Stepped}
use Rattle.pp_vault.specs.Fits.{is_gathered}
use Rattle.pp_vault.specs.Tokens.{ActsIn}
use Rattle.pp_vault.proofs.FitTests.{acts_by}
use Rattle.pp_vault.proofs.Images.{fit_stays}

-- What holds in one state that the new parts stand for holds in all.
module _ (old new : Parts) (m : Move) (r : Reply) (kept : IsKept old) (moves : core.Moves old.core m r new.core)
    (fits : (s : State) → StandsFor old s → ImagesFit new.page_bytes new.images new.spare (next_of s m)) where
  after : StandsFor new (next_of kept.state m)
  after = record { core = moves.stands kept.state kept.stands.core; images = fits kept.state kept.stands }

  pub kept_after : IsKept new
  kept_after = record { state = next_of kept.state m; stands = after }

  pub answered : reply_of kept.state m ≡ r
  answered = sym (moves.replies kept.state kept.stands.core)

  pub acts_after : (w : ℕ) → IsSome (ask_of (next_of kept.state m) w) → ActsIn new w
  acts_after w acts s st =
      acts_by (ask_of s w) (subst IsSome (same_ask new.core (next_of kept.state m) s after.core st.core w) acts)

  pub held_after : (w slot : ℕ) (o : Option (ℕ × Held)) → held_of (next_of kept.state m) w slot ≡ o
      → (s : State) → StandsFor new s → held_of s w slot ≡ o
  held_after w slot o e s st = sym (same_held new.core (next_of kept.state m) s after.core st.core w slot) ∙ e

  pub gathered_after : (w slot : ℕ) (b : Bool) → is_gathered (next_of kept.state m) w slot ≡ b
      → (s : State) → StandsFor new s → is_gathered s w slot ≡ b
  gathered_after w slot b e s st =
      ap (λ (ps : List ℕ). nat_lt 0 (length ps))
      (sym (same_bundle new.core (next_of kept.state m) s after.core st.core w slot)) ∙ e

  pub mark_after : (page : ℕ) (o : Option ℕ) → known_mark (next_of kept.state m) page ≡ o
      → (s : State) → StandsFor new s → known_mark s page ≡ o
  mark_after page o e s st = sym (same_mark new.core (next_of kept.state m) s after.core st.core page) ∙ e

-- ---- a worker's step

flush_before : (s : State) (m : Move) (w : ℕ) → worker_of m ≡ Some w → (next_of s m).flush ≡ None → s.flush ≡ None
flush_before s m w e none = sym (flush_stays s m w e) ∙ none

-- A step after which all images stay.
module _ (old new : Parts) (m : Move) (r : Reply) (h : Stepped old new m r) (w : ℕ) (by : worker_of m ≡ Some w)
    (keeps : (s : State) → StandsFor old s → Keeps s (next_of s m)) where
  pub images_stay : (s : State) → StandsFor old s → ImagesFit new.page_bytes new.images new.spare (next_of s m)
  images_stay s st =
      subst (λ (v : Parts). ImagesFit v.page_bytes v.images v.spare (next_of s m)) (sym h.rest)
      (fit_stays old.page_bytes old.images old.spare s (next_of s m) st.images
      (ap (λ k. k.layout.frames) (settings_stay s m)) (keeps s st) (flush_before s m w by))
