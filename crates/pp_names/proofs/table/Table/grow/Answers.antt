-- What is left to show of Table::grow: the keys that were passed are all keys.
use Rattle.std.proofs.Common.{arith}
use Rattle.pp_names.proofs.TableLemmas.{unnamed_yet, all_grown}
use Rattle.pp_names.proofs.table.Table.grow.Goals as goal

pub insert-requires-clause-unnamed : goal.insert-requires-clause-unnamed
insert-requires-clause-unnamed c = unnamed_yet c.args.self.now c.loop-name.larger c.loop-name.name c.in-Some.key
    c.loop-name.invariant.keys c.key.ensures.one_to_one c.in-Some.ensures.value

pub returns-clause-grown : goal.returns-clause-grown
returns-clause-grown c = λ _. all_grown c.args.self.now c.loop-name.larger c.loop-name.name c.args.names
    c.loop-name.invariant.size c.requires.more
    (omega (arith, c.loop-name-test.false, c.loop-name.auto.name-end, c.len-name-end.ensures.value))
    c.loop-name.invariant.keys
