use Rattle.std.proofs.Common.{rules, arith}
use Rattle.pp_example.proofs.NodeLemmas.{word_at-before, word_at-behind}
use Rattle.pp_example.proofs.node.put_word.Goals as goal

pub returns-clause-before : goal.returns-clause-before
returns-clause-before c other below = word_at-before c.args.at _ c.args.body.now _ other below (omega (arith, c.requires))

pub returns-clause-behind : goal.returns-clause-behind
returns-clause-behind c other above =
    word_at-behind c.args.at _ c.args.body.now _ other (omega (arith, above)) (omega (arith, c.requires)) (search rules)
