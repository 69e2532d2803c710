-- Whether a run went well, and what is printed where it gives no report.
use Rattle.std.specs.Prelude.{ℕ, Bool, true, false, ◌||◌, not, List, ◌++◌, codes}
use Rattle.std.specs.List.{list_all}
use Rattle.pp_text.specs.Refusals.{Row, refusal_text}
use Rattle.pp_model.specs.declared.event.Event.{Event}
use Rattle.pp_model.specs.declared.event.Event.TheVariants.{Submit, Step}
use Rattle.pp_model.specs.declared.moves.Move.{Move}
use Rattle.pp_model.specs.declared.moves.Move.TheVariants.{FlushDone}
use Rattle.pp_model.specs.declared.reply.Ending.TheVariants.{Gone}
use Rattle.pp_model.specs.declared.reply.Reply.{Reply}
use Rattle.pp_model.specs.declared.reply.Reply.TheVariants.{Finished}

-- The reply says that a plan was left before its end.
abbrev pub tells_gone : Reply → Bool
tells_gone (Finished Gone) = true
tells_gone _ = false

-- The move says that a flush was not written.
abbrev pub fails_flush : Move → Bool
fails_flush (FlushDone false) = true
fails_flush _ = false

-- A plan was left, or a flush failed.
abbrev pub is_trouble : Event → Bool
is_trouble (Submit plan) = false
is_trouble (Step did reply) = tells_gone reply || fails_flush did

-- Every plan that ended was done, and every flush was written.
abbrev pub went_well : List Event → Bool
went_well es = list_all (λ e. not (is_trouble e)) es

-- The line of a refusal.
abbrev pub stopped_line : Row → List ℕ
stopped_line row = codes "refused " ++ refusal_text row ++ codes "\n"
