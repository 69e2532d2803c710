-- A refusal of the core's, in the vault's words.
use Rattle.std.proofs.Common.{◌≡◌, ◌∙◌, Option, refl, ap}
use Rattle.std.specs.Prelude.{option_and_then}
use Rattle.pp_model.specs.declared.reply.Reply.{Reply}
use Rattle.pp_model.specs.declared.reply.Reply.TheVariants as reply
use Rattle.pp_core.specs.Refusals.{refusal_by}
use Rattle.pp_vault.specs.Calls.{refusal_in}

twice : (r : Reply) → option_and_then refusal_in (refusal_by r) ≡ refusal_in r
twice (reply.NotNow delay) = refl
twice (reply.OffPlan cause) = refl
twice (reply.Taken plan) = refl
twice (reply.Hit frame mark) = refl
twice (reply.MustRead frame) = refl
twice (reply.MustWrite frame victim) = refl
twice (reply.Failed failure) = refl
twice (reply.Loaded mark) = refl
twice reply.Did = refl
twice (reply.Latched mark) = refl
twice (reply.Unlatched mark) = refl
twice (reply.Finished ending) = refl
twice (reply.Flushing mark) = refl
twice (reply.Flushed clean) = refl

-- What the core tells of the reply is what the vault tells of it.
pub same_refusal : (told : Option Reply) (r : Reply) → told ≡ refusal_by r
    → option_and_then refusal_in told ≡ refusal_in r
same_refusal told r is = ap (option_and_then refusal_in) is ∙ twice r
