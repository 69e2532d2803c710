-- What giving a slot back does for the cue that asks it.
use Rattle.std.proofs.Common.{◌≡◌, ℕ, true}
use Rattle.pp_cert.specs.declared.note.Held.TheVariants.{Free, S, X}
use Rattle.pp_vault.specs.declared.tokens.Leaver.{Leaver}
use Rattle.pp_vault.specs.declared.guards.Guard.{Guard}
use Rattle.pp_vault.specs.declared.guards.Guard.TheVariants.{Pin, Read, Write, Bundle}
use Rattle.pp_vault.specs.Parts.{Parts}
use Rattle.pp_vault.specs.StandsFor.{IsKept}
use Rattle.pp_vault.specs.Holding.{slot_by}
use Rattle.pp_vault.specs.Tokens.{is_long}
use Rattle.pp_model.specs.declared.moves.Move.{Move}
use Rattle.pp_model.specs.declared.reply.Reply.{Reply}
use Rattle.pp_vault.specs.Events.{Tells}
use Rattle.pp_vault.specs.Leaves.{give_back_call, GivesBack}
use Rattle.pp_script.specs.declared.cue.Cue.TheVariants as cue
use Rattle.pp_play.specs.Doing.{IsDone}
use Rattle.pp_play.proofs.Asked.{unwind_done, unwind_bundle_done}

module _ (old new : Parts) (kept : IsKept old) (w slot : ℕ) (x y : Leaver) (of : x.worker ≡ w) where
  pub given_back : (g : Guard) {done : Move × Reply} → slot_by g ≡ slot → GivesBack old x g new y
      → Tells old (give_back_call old x g) done → IsDone old (cue.Unwind w slot) done new
  given_back (Pin g) at gives tells =
      unwind_done old new kept x.worker w of true Free g.worker g.slot slot g.page at gives.still.does tells
  given_back (Read g) at gives tells =
      unwind_done old new kept x.worker w of true S g.worker g.slot slot g.page at gives.still.does tells
  given_back (Write g) at gives tells =
      unwind_done old new kept x.worker w of (is_long old g.image) X g.worker g.slot slot g.page at gives.still.does tells
  given_back (Bundle g) at gives tells =
      unwind_bundle_done old new kept x.worker w of g.worker g.slot slot at gives.still.does tells
