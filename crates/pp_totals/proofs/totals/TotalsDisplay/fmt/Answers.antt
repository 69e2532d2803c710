use Rattle.std.proofs.Common.{rules, ◌++◌, codes, ◌∙◌}
use Rattle.std.proofs.Output.{has_written_append, has_written_of_eq}
use Rattle.std.specs.Fmt.{styled_decimal}
use Rattle.pp_totals.proofs.Text.{all_lines}
use Rattle.pp_totals.proofs.totals.TotalsDisplay.fmt.Goals as goal

pub returns-clause-writes : goal.returns-clause-writes
returns-clause-writes g c =
    let x = c.args.self.now in
    λ plain ok.
    let one = c.write.ensures.writes plain (search rules) in
    let two = c.write-2.ensures.writes one.plain (search rules) in
    let three = c.write-3.ensures.writes two.plain ok in
    has_written_of_eq _ _ _ _ _
    ((λ i. (codes "submitted   " ++ (styled_decimal (c.laid_out.ensures i) x.submitted
    ++ (codes "\ntaken       " ++ (styled_decimal (c.laid_out-2.ensures i) x.taken
    ++ (codes "\ndone        " ++ (styled_decimal (c.laid_out-3.ensures i) x.done
    ++ (codes "\ngone        " ++ (styled_decimal (c.laid_out-4.ensures i) x.gone ++ codes "\n"))))))))
    ++ ((codes "moves       " ++ (styled_decimal (c.laid_out-5.ensures i) x.moves
    ++ (codes "\nhits        " ++ (styled_decimal (c.laid_out-6.ensures i) x.hits
    ++ (codes "\nloads       " ++ (styled_decimal (c.laid_out-7.ensures i) x.loads
    ++ (codes "\nreadfaults  " ++ (styled_decimal (c.laid_out-8.ensures i) x.read_faults ++ codes "\n"))))))))
    ++ (codes "misreads    " ++ (styled_decimal (c.laid_out-9.ensures i) x.misreads
    ++ (codes "\nwritebacks  " ++ (styled_decimal (c.laid_out-10.ensures i) x.write_backs
    ++ (codes "\nwritefaults " ++ (styled_decimal (c.laid_out-11.ensures i) x.write_faults
    ++ (codes "\nflushes     " ++ (styled_decimal (c.laid_out-12.ensures i) x.flushes ++ codes "\n"))))))))))
    ∙ all_lines x)
    (has_written_append _ _ _ _ _ _ one (has_written_append _ _ _ _ _ _ two three))
