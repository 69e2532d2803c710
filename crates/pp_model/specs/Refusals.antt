-- The numbers and the names of what a reply tells against a move: a refusal, or the failure of a fix at the device.
use Rattle.std.specs.Prelude.{codes}
use Rattle.pp_text.specs.Refusals.{Row, row, nothing}
use Rattle.pp_model.specs.declared.refusals.Delay.{Delay}
use Rattle.pp_model.specs.declared.refusals.Cause.{Cause}
use Rattle.pp_model.specs.declared.reply.Failure.{Failure}
use Rattle.pp_model.specs.declared.reply.Failure.TheVariants.{WriteFault, ReadFault, Misread}

-- A refusal for now has one number whatever delays the move, and one for good has one whatever is the cause.
abbrev pub delay_row : Delay → Row
delay_row delay = row 61 (codes "NotNow") nothing

abbrev pub cause_row : Cause → Row
cause_row cause = row 62 (codes "OffPlan") nothing

-- Each way in which a fix fails at the device has its own.
abbrev pub failure_row : Failure → Row
failure_row ReadFault = row 71 (codes "ReadFault") nothing
failure_row WriteFault = row 72 (codes "WriteFault") nothing
failure_row Misread = row 73 (codes "Misread") nothing
