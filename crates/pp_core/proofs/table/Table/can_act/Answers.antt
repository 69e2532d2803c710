use Rattle.std.proofs.Common.{◌∙◌, sym}
use Rattle.pp_core.specs.Parts.{parts_of}
use Rattle.pp_core.proofs.TurnTies.{leaver_tells, stayer_tells, actor_tells}
use Rattle.pp_core.proofs.table.Table.can_act.Goals as goal

pub returns-then-is_leaving : goal.returns-then-is_leaving
returns-then-is_leaving c =
    leaver_tells (parts_of c.args.self.now) c.args.worker (sym c.is_leaving.ensures ∙ c.if-is_leaving.true)

pub returns-in-Ok : goal.returns-in-Ok
returns-in-Ok c =
    actor_tells (parts_of c.args.self.now) c.args.worker c.in-Ok.ask c.is_stopped_at.result c.in-Ok.ensures.asks
    c.is_stopped_at.ensures

pub returns-in-Err : goal.returns-in-Err
returns-in-Err c =
    stayer_tells (parts_of c.args.self.now) c.args.worker c.in-Err.field-0
    (sym c.is_leaving.ensures ∙ c.if-is_leaving.false) c.in-Err.ensures.cause
