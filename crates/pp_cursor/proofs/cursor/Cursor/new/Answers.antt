use Rattle.std.proofs.Common.{subst}
use Rattle.pp_cursor.specs.Left.{left}
use Rattle.pp_cursor.specs.CursorMoves.{Same}
use Rattle.pp_cursor.proofs.Standing.{stands_at_start}
use Rattle.pp_cursor.proofs.cursor.Cursor.new.Goals as goal

pub returns : goal.returns
returns c =
    let plan = c.args.plan.now in
    record {
      stands = stands_at_start plan c.settle.new.self.place c.settle.ensures.facts c.settle.ensures.at
          (subst (λ p. Same plan.layout (left plan.body p.place) (left plan.body c.settle.new.self.place))
          c.start-cursor.ensures c.settle.ensures.same);
      on = c.settle.ensures.on.on;
    }
