-- The words that are printed of a refusal.
use Rattle.std.specs.Prelude.{ℕ, List, codes}
use Rattle.pp_model.specs.declared.reply.Reply.TheVariants as reply
use Rattle.pp_model.specs.Words.{reply_words}
use Rattle.pp_vault.specs.declared.refusal.Refusal.{Refusal}
use Rattle.pp_vault.specs.declared.refusal.Refusal.TheVariants.{NotNow, OffPlan, Stranger}
use Rattle.pp_vault.specs.declared.looking.LookError.{LookError}
use Rattle.pp_vault.specs.declared.looking.LookError.TheVariants as look

-- The words of the core's reply, as in `notnow flushholds` or `offplan noerrand`, or `offplan stranger`.
abbrev pub refusal_words : Refusal → List ℕ
refusal_words (NotNow delay) = reply_words (reply.NotNow delay)
refusal_words (OffPlan cause) = reply_words (reply.OffPlan cause)
refusal_words Stranger = codes "offplan stranger"

-- The words of an error of a look.
abbrev pub look_error_words : LookError → List ℕ
look_error_words look.Stranger = codes "the guard is not one of this state"
look_error_words look.Length = codes "the slice is not as long as a page"
