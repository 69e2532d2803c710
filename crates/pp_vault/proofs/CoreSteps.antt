-- The core's moves, as the vault sees them: a move that the core has answered is done, or refused.
use Rattle.std.proofs.Common.{◌≡◌, false, Result, Ok, Err, refl, sym, ap, subst}
use Rattle.std.specs.Prelude.{IsTrue, IfOk, IfErr}
use Rattle.pp_model.specs.declared.moves.Move.{Move}
use Rattle.pp_model.specs.declared.reply.Reply.{Reply}
use Rattle.pp_model.specs.Moves.{is_refusal}
use Rattle.pp_core.specs.Parts as core
use Rattle.pp_core.specs.StandsFor as core_stands
use Rattle.pp_vault.specs.declared.refusal.Refusal.{Refusal}
use Rattle.pp_vault.specs.Parts.{Parts}
use Rattle.pp_vault.specs.Steps.{Stepped, Refused, IsDone, IsRefusal}

module _ (old : Parts) (k : core.Parts) (m : Move) (r : Reply) (moves : core_stands.Moves old.core m r k)
    (same : IsTrue (is_refusal r) → k ≡ old.core) where
  abbrev stepped : Parts
  stepped = record old { core = k }

  is_stepped : (x : Reply) → IsDone r x → Stepped old stepped m x
  is_stepped x d = record {
    moves = subst (λ y. core_stands.Moves old.core m y k) (sym d.same) moves;
    done = subst (λ y. is_refusal y ≡ false) (sym d.same) d.done;
    rest = refl;
  }

  is_refused : (why : Refusal) → IsRefusal r why → Refused old stepped m why
  is_refused why d = record {
    reply = r;
    moves = subst (λ c. core_stands.Moves old.core m r c) (same d.refuses) moves;
    refused = d.refused;
    rest = ap (λ c. record old { core = c }) (same d.refuses);
  }

  pub step_done : (out : Result Reply Refusal) → IfOk out (λ x. IsDone r x) → IfOk out (λ x. Stepped old stepped m x)
  step_done (Ok x) d = is_stepped x d
  step_done (Err why) d = d

  pub step_refused : (out : Result Reply Refusal) → IfErr out (λ why. IsRefusal r why)
      → IfErr out (λ why. Refused old stepped m why)
  step_refused (Ok x) d = d
  step_refused (Err why) d = is_refused why d
