use Rattle.pp_settings.proofs.Trees.{value_got}
use Rattle.pp_settings.proofs.reading.value_at.Goals as goal

pub returns : goal.returns
returns c =
    rw c.ok_or.ensures.value
    (value_got c.args.spot c.get.result c.key.result.now c.args.table.now c.get.ensures.value c.key.ensures)
