use Rattle.std.proofs.Common.{◌∙◌}
use Rattle.std.proofs.lemmas.Bool.{false≢true}
use Rattle.pp_text.proofs.Printed.{parsed, not_plain}
use Rattle.pp_text.proofs.numbers.number.Goals as goal

pub returns-then-is_plain : goal.returns-then-is_plain
returns-then-is_plain c =
    c.ok.ensures.value
    ∙ parsed c.args.word.now c.parse.result c.parse.ensures.value.0 (c.is_plain.ensures.0 c.if-is_plain.true)

pub returns-else-is_plain : goal.returns-else-is_plain
returns-else-is_plain c = not_plain c.args.word.now (λ p. false≢true (c.if-is_plain.ensures.1 p))
