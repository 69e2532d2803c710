-- An auditor after a move, and after a renewal: its life stays a bounded one.
use Rattle.std.proofs.Common.{◌≡◌, ◌∙◌, Bool, true, false, Option, Some, None, refl, sym, ap, subst}
use Rattle.std.specs.Prelude.{IsTrue, if◌then◌else◌}
use Rattle.pp_model.specs.declared.moves.Move.{Move}
use Rattle.pp_model.specs.declared.reply.Reply.{Reply}
use Rattle.pp_model.specs.Pool.{Settings}
use Rattle.pp_model.specs.Moves.{is_refusal}
use Rattle.pp_model.proofs.Alone.{settings_stay}
use Rattle.pp_core.specs.Parts.{Parts}
use Rattle.pp_core.specs.StandsFor.{StandsFor, Moves}
use Rattle.pp_report.specs.declared.auditor.Auditor.{Auditor}
use Rattle.pp_report.specs.declared.line.Asked.TheVariants as asked
use Rattle.pp_report.specs.declared.line.Told.{Told}
use Rattle.pp_report.specs.declared.line.Told.TheVariants.{Answer}
use Rattle.pp_report.specs.Auditing.{Progress, told_reply, told_to}
use Rattle.pp_report.specs.Auditors.{IsAt, progress_after}

pub stepped : (was : Auditor) (core : Parts) (m : Move) (reply : Reply) (told : Option Told) (p : Progress) → IsAt was p
    → Moves was.core m reply core → (IsTrue (is_refusal reply) → core ≡ was.core) → told ≡ told_reply reply
    → (told ≡ told_to p (asked.Do m)) × IsAt (record was { core = core }) (progress_after p (asked.Do m) told)
stepped was core m reply told p at moves stays is =
    subst (λ t. (t ≡ told_to p (asked.Do m)) × IsAt (record was { core = core }) (progress_after p (asked.Do m) t)) (sym is)
    (ap told_reply (moves.replies p.state at.stands), by (is_refusal reply) stays)
  where
    by : (b : Bool) → (IsTrue b → core ≡ was.core)
        → IsAt (record was { core = core }) (progress_after p (asked.Do m) (if b then None else Some (Answer reply)))
    by true stays = record {
      stands = subst (λ f. StandsFor f p.state) (sym (stays refl)) at.stands;
      bounded = at.bounded;
      waiting = at.waiting;
    }
    by false stays = record {
      stands = moves.stands p.state at.stands;
      bounded = ap (λ (j : Settings). j.span) (settings_stay p.state m) ∙ at.bounded;
      waiting = at.waiting;
    }
