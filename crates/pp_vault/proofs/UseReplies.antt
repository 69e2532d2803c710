-- How the moves that use a page are answered, where they are done.
use Rattle.std.proofs.Common.{◌≡◌, ℕ, true, false, refl, sym, subst}
use Rattle.std.specs.Prelude.{IsTrue}
use Rattle.std.proofs.lemmas.Bool.{false≢true}
use Rattle.pp_model.specs.declared.moves.Move.{Move}
use Rattle.pp_model.specs.declared.moves.Move.TheVariants as move
use Rattle.pp_model.specs.declared.reply.Reply.{Reply}
use Rattle.pp_model.specs.declared.reply.Reply.TheVariants as reply
use Rattle.pp_model.specs.Pool.{State}
use Rattle.pp_model.specs.Moves.{is_refusal}
use Rattle.pp_model.specs.Shapes.{fits_reply}
use Rattle.pp_model.proofs.Shapes.{reply_fits}
use Rattle.pp_vault.specs.Parts.{Parts}
use Rattle.pp_vault.specs.StandsFor.{StandsFor}
use Rattle.pp_vault.specs.Steps.{Stepped, told_mark}

-- ---- by the reply

no_refusal : true ≡ false → ⊥
no_refusal e = false≢true (sym e)

pub did_by : (w : ℕ) (r : Reply) → is_refusal r ≡ false → IsTrue (fits_reply (move.Unfix w) r) → r ≡ reply.Did
did_by w (reply.Taken plan) e h = absurd (false≢true h)
did_by w (reply.Hit frame mark) e h = absurd (false≢true h)
did_by w (reply.MustRead frame) e h = absurd (false≢true h)
did_by w (reply.MustWrite frame victim) e h = absurd (false≢true h)
did_by w (reply.Failed failure) e h = absurd (false≢true h)
did_by w (reply.Loaded mark) e h = absurd (false≢true h)
did_by w reply.Did e h = refl
did_by w (reply.Latched mark) e h = absurd (false≢true h)
did_by w (reply.Unlatched mark) e h = absurd (false≢true h)
did_by w (reply.Finished ending) e h = absurd (false≢true h)
did_by w (reply.Flushing mark) e h = absurd (false≢true h)
did_by w (reply.Flushed clean) e h = absurd (false≢true h)
did_by w (reply.NotNow delay) e h = absurd (no_refusal e)
did_by w (reply.OffPlan cause) e h = absurd (no_refusal e)

pub latched_by : (w : ℕ) (r : Reply) → is_refusal r ≡ false → IsTrue (fits_reply (move.Latch w) r)
    → r ≡ reply.Latched (told_mark r)
latched_by w (reply.Taken plan) e h = absurd (false≢true h)
latched_by w (reply.Hit frame mark) e h = absurd (false≢true h)
latched_by w (reply.MustRead frame) e h = absurd (false≢true h)
latched_by w (reply.MustWrite frame victim) e h = absurd (false≢true h)
latched_by w (reply.Failed failure) e h = absurd (false≢true h)
latched_by w (reply.Loaded mark) e h = absurd (false≢true h)
latched_by w reply.Did e h = absurd (false≢true h)
latched_by w (reply.Latched mark) e h = refl
latched_by w (reply.Unlatched mark) e h = absurd (false≢true h)
latched_by w (reply.Finished ending) e h = absurd (false≢true h)
latched_by w (reply.Flushing mark) e h = absurd (false≢true h)
latched_by w (reply.Flushed clean) e h = absurd (false≢true h)
latched_by w (reply.NotNow delay) e h = absurd (no_refusal e)
latched_by w (reply.OffPlan cause) e h = absurd (no_refusal e)

pub unlatched_by : (w : ℕ) (r : Reply) → is_refusal r ≡ false → IsTrue (fits_reply (move.Unlatch w) r)
    → r ≡ reply.Unlatched (told_mark r)
unlatched_by w (reply.Taken plan) e h = absurd (false≢true h)
unlatched_by w (reply.Hit frame mark) e h = absurd (false≢true h)
unlatched_by w (reply.MustRead frame) e h = absurd (false≢true h)
unlatched_by w (reply.MustWrite frame victim) e h = absurd (false≢true h)
unlatched_by w (reply.Failed failure) e h = absurd (false≢true h)
unlatched_by w (reply.Loaded mark) e h = absurd (false≢true h)
unlatched_by w reply.Did e h = absurd (false≢true h)
unlatched_by w (reply.Latched mark) e h = absurd (false≢true h)
unlatched_by w (reply.Unlatched mark) e h = refl
unlatched_by w (reply.Finished ending) e h = absurd (false≢true h)
unlatched_by w (reply.Flushing mark) e h = absurd (false≢true h)
unlatched_by w (reply.Flushed clean) e h = absurd (false≢true h)
unlatched_by w (reply.NotNow delay) e h = absurd (no_refusal e)
unlatched_by w (reply.OffPlan cause) e h = absurd (no_refusal e)

-- ---- of a step

module _ (old new : Parts) (m : Move) (r : Reply) (h : Stepped old new m r) where
  fits_of : (s : State) → StandsFor old s → IsTrue (fits_reply m r)
  fits_of s st = subst (λ x. IsTrue (fits_reply m x)) (sym (h.moves.replies s st.core)) (reply_fits s m)

pub is_did : (old new : Parts) (w : ℕ) (r : Reply) → Stepped old new (move.Unfix w) r → (s : State) → StandsFor old s
    → r ≡ reply.Did
is_did old new w r h s st = did_by w r h.done (fits_of old new (move.Unfix w) r h s st)

pub is_latched : (old new : Parts) (w : ℕ) (r : Reply) → Stepped old new (move.Latch w) r → (s : State)
    → StandsFor old s → r ≡ reply.Latched (told_mark r)
is_latched old new w r h s st = latched_by w r h.done (fits_of old new (move.Latch w) r h s st)

pub is_unlatched : (old new : Parts) (w : ℕ) (r : Reply) → Stepped old new (move.Unlatch w) r → (s : State)
    → StandsFor old s → r ≡ reply.Unlatched (told_mark r)
is_unlatched old new w r h s st = unlatched_by w r h.done (fits_of old new (move.Unlatch w) r h s st)
