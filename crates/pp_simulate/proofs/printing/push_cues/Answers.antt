use Rattle.std.proofs.Common.{◌++◌, ap, ◌∙◌, string_bytes}
use Rattle.pp_simulate.proofs.Texts.{grown, cues_step}
use Rattle.pp_simulate.proofs.printing.push_cues.Goals as goal

pub loop-number-preserved : goal.loop-number-preserved
loop-number-preserved c =
    grown _ (string_bytes c.loop-number.text) _ (string_bytes c.push_line.new.text) _ c.in_ok-push_line.ensures
    (c.loop-number.invariant
    ∙ ap (λ xs. string_bytes c.loop-number.text ++ xs)
    (cues_step c.args.cues.now c.args.lines.now c.loop-number.number _ _ c.loop-number-test.true c.requires))
