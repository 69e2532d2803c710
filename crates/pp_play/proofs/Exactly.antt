-- The lines of cues that are done: nothing refuses them.
use Rattle.std.proofs.Common.{◌≡◌, ◌∙◌, false, Option, Some, None, List, refl, sym, ap, subst, inl, inr, rules}
use Rattle.std.specs.Option.{is_some}
use Rattle.pp_model.specs.declared.moves.Move.{Move}
use Rattle.pp_model.specs.declared.moves.Move.TheVariants as move
use Rattle.pp_model.specs.declared.reply.Reply.{Reply}
use Rattle.pp_model.specs.declared.reply.Reply.TheVariants as reply
use Rattle.pp_model.specs.Pool.{State}
use Rattle.pp_model.specs.Moves.{reply_of, is_refusal}
use Rattle.pp_model.specs.Reached.{IsReached}
use Rattle.pp_core.specs.AfterMoves.{Found}
use Rattle.pp_core.proofs.AfterMoves.{after_moves}
use Rattle.pp_vault.specs.declared.guards.Guard.{Guard}
use Rattle.pp_vault.specs.Parts.{Parts}
use Rattle.pp_vault.specs.StandsFor.{StandsFor}
use Rattle.pp_vault.specs.Calls.{refusal_in}
use Rattle.pp_script.specs.declared.cue.Cue.{Cue}
use Rattle.pp_script.specs.declared.cue.Cue.TheVariants.{Take, Fix, Device, Unfix, Latch, Unlatch, Choose, Unwind, Finish}
use Rattle.pp_script.specs.declared.cue.Cue.TheVariants.{Flush, FlushDevice, Write, Look}
use Rattle.pp_play.specs.declared.line.Line.{Line}
use Rattle.pp_play.specs.declared.line.Line.TheVariants.{Did}
use Rattle.pp_play.specs.Plays.{IsMoveOf}
use Rattle.pp_play.specs.Exact.{unless_out, refusal_to, IsLineOf}
use Rattle.pp_play.specs.Doing.{IsDone}

-- A reply in which no refusal is isn't one.
pub not_refusal : (r : Reply) → refusal_in r ≡ None → is_refusal r ≡ false
not_refusal (reply.NotNow delay) e = absurd (search rules)
not_refusal (reply.OffPlan cause) e = absurd (search rules)
not_refusal (reply.Taken plan) e = refl
not_refusal (reply.Hit frame mark) e = refl
not_refusal (reply.MustRead frame) e = refl
not_refusal (reply.MustWrite frame victim) e = refl
not_refusal (reply.Failed failure) e = refl
not_refusal (reply.Loaded mark) e = refl
not_refusal reply.Did e = refl
not_refusal (reply.Latched mark) e = refl
not_refusal (reply.Unlatched mark) e = refl
not_refusal (reply.Finished ending) e = refl
not_refusal (reply.Flushing mark) e = refl
not_refusal (reply.Flushed clean) e = refl

out : {T : Type 0} (o : Option T) (x : T) → o ≡ Some x → unless_out (is_some o) ≡ None
out o x e = ap (λ p. unless_out (is_some p)) e

module _ (s : State) (reached : IsReached s) (m : Move) (allowed : refusal_in (reply_of s m) ≡ None) where
  same : (n : Move) → m ≡ n → refusal_in (reply_of s n) ≡ None
  same n is = subst (λ x. refusal_in (reply_of s x) ≡ None) is allowed

  found : Found s m
  found = (after_moves s reached).found m (not_refusal (reply_of s m) allowed)

  found_as : (n : Move) → m ≡ n → Found s n
  found_as n is = subst (λ x. Found s x) is found

  -- A cue whose move is done isn't refused.
  pub unrefused : (cue : Cue) → IsMoveOf cue m → refusal_to s cue ≡ None
  unrefused (Take w) is = same (move.Take w) is
  unrefused (Fix w page) is = same (move.Fix w page) is
  unrefused (Device w) (inl at) = out _ _ (found_as (move.WriteDone w at.0) at.1).3
  unrefused (Device w) (inr at) = out _ _ (found_as (move.ReadDone w at.0) at.1).2
  unrefused (Unfix w) is = same (move.Unfix w) is
  unrefused (Latch w) is = same (move.Latch w) is
  unrefused (Unlatch w) is = same (move.Unlatch w) is
  unrefused (Choose w branch) is = same (move.Choose w branch) is
  unrefused (Unwind w slot) is = same (move.Unwind w slot) is
  unrefused (Finish w) is = same (move.Finish w) is
  unrefused (Flush page) is = same (move.FlushBegin page) is
  unrefused FlushDevice at = out _ _ (found_as (move.FlushDone at.0) at.1).1
  unrefused (Write w slot byte) is = absurd is
  unrefused (Look w slot) is = absurd is

-- The line of what is done is exact.
pub did_exact : (old new : Parts) (cue : Cue) (line : Line) (was now : List (Option Guard)) {done : Move × Reply}
    → IsDone old cue done new → line ≡ Did done.0 done.1 → (s : State) → StandsFor old s
    → IsLineOf old s was now cue line
did_exact old new cue line was now {done} d is s st =
    subst (λ l. IsLineOf old s was now cue l) (sym is)
    (unrefused s st.core.reached done.0 (ap refusal_in (d.replies s st) ∙ d.allowed) cue d.asked)
