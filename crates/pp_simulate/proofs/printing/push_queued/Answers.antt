use Rattle.std.proofs.Common.{◌++◌, ◌+◌, ◌-◌, ap, ◌∙◌, string_bytes}
use Rattle.pp_simulate.specs.Lines.{queued_line, queued_lines}
use Rattle.pp_simulate.proofs.Texts.{grown, queued_step}
use Rattle.pp_simulate.proofs.printing.push_queued.Goals as goal

pub loop-number-preserved : goal.loop-number-preserved
loop-number-preserved c =
    grown (string_bytes c.args.text.now ++ queued_lines 0 c.args.plans) (string_bytes c.loop-number.text)
    (queued_line c.loop-number.number) (string_bytes c.push_line.new.text)
    (queued_lines (c.loop-number.number + 1) (c.args.plans - (c.loop-number.number + 1)))
    c.in_ok-push_line.ensures
    (c.loop-number.invariant
    ∙ ap (λ xs. string_bytes c.loop-number.text ++ xs)
    (queued_step c.loop-number.number c.args.plans c.loop-number-test.true))
