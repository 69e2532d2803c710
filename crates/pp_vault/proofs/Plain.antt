-- Moves of a worker that leave all images where they are.
use Rattle.std.proofs.Common.{◌≡◌, ◌∙◌, ℕ, true, false, Some, refl, sym, ap, subst}
use Rattle.std.proofs.lemmas.Bool.{false≢true}
use Rattle.pp_model.specs.declared.moves.Move.{Move}
use Rattle.pp_model.specs.declared.moves.Move.TheVariants.{Take, Choose, Finish}
use Rattle.pp_model.specs.declared.reply.Reply.{Reply}
use Rattle.pp_model.specs.declared.reply.Reply.TheVariants as reply
use Rattle.pp_model.specs.declared.reply.Ending.{Ending}
use Rattle.pp_model.specs.Pool.{State}
use Rattle.pp_model.specs.Moves.{reply_of, next_of, is_refusal}
use Rattle.pp_model.specs.Ready.{is_still}
use Rattle.pp_model.specs.Shapes.{is_answer}
use Rattle.pp_model.specs.WorkerParts.{worker_of}
use Rattle.pp_model.proofs.Alone.{flush_stays, settings_stay}
use Rattle.pp_model.proofs.ReadyLaws.{still_keeps}
use Rattle.pp_model.proofs.Shapes.{reply_fits}
use Rattle.pp_vault.specs.Parts.{Parts}
use Rattle.pp_vault.specs.StandsFor.{StandsFor, ImagesFit}
use Rattle.pp_vault.specs.Calls.{Call, asks}
use Rattle.pp_vault.specs.Steps.{Stepped}
use Rattle.pp_vault.specs.Events.{Does}
use Rattle.pp_vault.proofs.Done.{does}
use Rattle.pp_vault.proofs.Images.{fit_stays}

-- ---- what plain moves are answered

-- A done move has one of its answers.
pub answered : (s : State) (m : Move) (r : Reply) → reply_of s m ≡ r → is_refusal r ≡ false → is_answer m r ≡ true
answered s m r e done =
    let fits = reply_fits s m in
    cc

-- A plan is taken.
pub taken : (w : ℕ) (r : Reply) → is_answer (Take w) r ≡ true → (plan : ℕ) × (r ≡ reply.Taken plan)
taken w (reply.Taken plan) e = (plan, refl)
taken w (reply.Hit frame mark) e = absurd (false≢true e)
taken w (reply.MustRead frame) e = absurd (false≢true e)
taken w (reply.MustWrite frame victim) e = absurd (false≢true e)
taken w (reply.Failed failure) e = absurd (false≢true e)
taken w (reply.Loaded mark) e = absurd (false≢true e)
taken w reply.Did e = absurd (false≢true e)
taken w (reply.Latched mark) e = absurd (false≢true e)
taken w (reply.Unlatched mark) e = absurd (false≢true e)
taken w (reply.Finished ending) e = absurd (false≢true e)
taken w (reply.Flushing mark) e = absurd (false≢true e)
taken w (reply.Flushed clean) e = absurd (false≢true e)
taken w (reply.NotNow delay) e = absurd (false≢true e)
taken w (reply.OffPlan cause) e = absurd (false≢true e)

-- A branch is chosen.
pub chosen : (w branch : ℕ) (r : Reply) → is_answer (Choose w branch) r ≡ true → r ≡ reply.Did
chosen w i (reply.Taken plan) e = absurd (false≢true e)
chosen w i (reply.Hit frame mark) e = absurd (false≢true e)
chosen w i (reply.MustRead frame) e = absurd (false≢true e)
chosen w i (reply.MustWrite frame victim) e = absurd (false≢true e)
chosen w i (reply.Failed failure) e = absurd (false≢true e)
chosen w i (reply.Loaded mark) e = absurd (false≢true e)
chosen w i reply.Did e = refl
chosen w i (reply.Latched mark) e = absurd (false≢true e)
chosen w i (reply.Unlatched mark) e = absurd (false≢true e)
chosen w i (reply.Finished ending) e = absurd (false≢true e)
chosen w i (reply.Flushing mark) e = absurd (false≢true e)
chosen w i (reply.Flushed clean) e = absurd (false≢true e)
chosen w i (reply.NotNow delay) e = absurd (false≢true e)
chosen w i (reply.OffPlan cause) e = absurd (false≢true e)

-- A worker has finished.
pub finished : (w : ℕ) (r : Reply) → is_answer (Finish w) r ≡ true → (by : Ending) × (r ≡ reply.Finished by)
finished w (reply.Taken plan) e = absurd (false≢true e)
finished w (reply.Hit frame mark) e = absurd (false≢true e)
finished w (reply.MustRead frame) e = absurd (false≢true e)
finished w (reply.MustWrite frame victim) e = absurd (false≢true e)
finished w (reply.Failed failure) e = absurd (false≢true e)
finished w (reply.Loaded mark) e = absurd (false≢true e)
finished w reply.Did e = absurd (false≢true e)
finished w (reply.Latched mark) e = absurd (false≢true e)
finished w (reply.Unlatched mark) e = absurd (false≢true e)
finished w (reply.Finished ending) e = (ending, refl)
finished w (reply.Flushing mark) e = absurd (false≢true e)
finished w (reply.Flushed clean) e = absurd (false≢true e)
finished w (reply.NotNow delay) e = absurd (false≢true e)
finished w (reply.OffPlan cause) e = absurd (false≢true e)

-- ---- what they do

module _ (old new : Parts) (call : State → Call) (m : Move) (r : Reply) (w : ℕ) (step : Stepped old new m r)
    (of : worker_of m ≡ Some w) (still : is_still r ≡ true)
    (calls : (s : State) → StandsFor old s → call s ≡ asks m) where
  fits : (s : State) → StandsFor old s → ImagesFit new.page_bytes new.images new.spare (next_of s m)
  fits s st =
      let answer : reply_of s m ≡ r = sym (step.moves.replies s st.core) in
      let keeps = still_keeps s st.core.reached m (ap is_still answer ∙ still) in
      let flush = flush_stays s m w of in
      let frames = ap (λ k. k.layout.frames) (settings_stay s m) in
      subst (λ (v : Parts). ImagesFit v.page_bytes v.images v.spare (next_of s m)) (sym step.rest)
      (fit_stays old.page_bytes old.images old.spare s (next_of s m) st.images frames keeps (λ e. sym flush ∙ e))

  pub plain : Does old call new
  plain =
      does old new call m r step.moves step.done
      (ap (λ (v : Parts). v.page_bytes) step.rest) calls fits
