use Rattle.std.proofs.Common.{◌∙◌, Some, None}
use Rattle.pp_model.specs.Moves.{reply_of}
use Rattle.pp_vault.proofs.RefusalTies.{same_refusal}
use Rattle.pp_vault.proofs.refusal.refusal_by.Goals as goal

pub returns-in-Some : goal.returns-in-Some
returns-in-Some c = λ s st.
    c.refusal_in.ensures
    ∙ same_refusal (Some c.in-Some.reply) (reply_of s c.args.asked.now) (c.in-Some.ensures s st)

pub returns-in-None : goal.returns-in-None
returns-in-None c = λ s st. same_refusal None (reply_of s c.args.asked.now) (c.in-None.ensures s st)
