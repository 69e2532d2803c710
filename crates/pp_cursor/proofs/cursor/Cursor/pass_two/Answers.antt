use Rattle.std.proofs.Common.{◌++◌, ◌∷◌, []}
use Rattle.pp_cursor.proofs.cursor.Cursor.pass_two.Goals as goal

pub pass-requires-2 : goal.pass-requires-2
pass-requires-2 c =
    let (before, (stands, asks)) = c.requires.first in
    (before ++ c.args.first ∷ [], (c.pass.ensures.passed before stands, c.requires.second before stands))

pub returns-clause-between : goal.returns-clause-between
returns-clause-between c = (c.pass.new.self, c.pass.ensures.passed)

pub returns-clause-passed : goal.returns-clause-passed
returns-clause-passed c before stands =
    c.pass-2.ensures.passed (before ++ c.args.first ∷ []) (c.pass.ensures.passed before stands)

pub returns-clause-next : goal.returns-clause-next
returns-clause-next c before stands =
    c.pass-2.ensures.next (before ++ c.args.first ∷ []) (c.pass.ensures.passed before stands)
