use Rattle.std.proofs.Common.{◌++◌, codes, ◌∙◌}
use Rattle.std.proofs.Output.{has_written_of_eq}
use Rattle.std.specs.Fmt.{styled_decimal}
use Rattle.pp_model.specs.Words.{ending_word}
use Rattle.pp_report.proofs.Columns.{plan_line}
use Rattle.pp_report.proofs.row.RowDisplay.fmt.Goals as goal

pub returns-clause-writes : goal.returns-clause-writes
returns-clause-writes g c =
    let r = c.args.self.now in
    λ plain ok. has_written_of_eq _ _ _ _ _
    ((λ i. styled_decimal (c.laid_out.ensures i) r.plan ++ (styled_decimal (c.laid_out-2.ensures i) r.worker
    ++ (styled_decimal (c.laid_out-3.ensures i) r.steps ++ (styled_decimal (c.laid_out-4.ensures i) r.hits
    ++ (styled_decimal (c.laid_out-5.ensures i) r.loads ++ (codes "  " ++ ending_word r.ending))))))
    ∙ plan_line r.plan r.worker r.steps r.hits r.loads (ending_word r.ending))
    (c.write.ensures.writes plain ok)
