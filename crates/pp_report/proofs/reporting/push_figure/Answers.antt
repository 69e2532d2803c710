use Rattle.std.proofs.Common.{◌++◌, ◌∷◌, [], ◌∙◌, ap, string_bytes}
use Rattle.std.specs.Fmt.{styled_text, styled_decimal}
use Rattle.pp_report.proofs.Columns.{figure_line}
use Rattle.pp_report.proofs.reporting.push_figure.Goals as goal

pub returns : goal.returns
returns c =
    let f = c.args.figure in
    let n = c.args.number in
    c.in_ok-push_str.ensures.bytes
    ∙ ap (λ x. string_bytes c.args.text.now ++ x)
    (c.as_str.ensures.value ∙ c.in_ok-line.ensures.ok
    ∙ (λ i. styled_text (c.laid_out.ensures i) (c.name.ensures i) ++ (styled_decimal (c.laid_out-2.ensures i) n ++ 10 ∷ []))
    ∙ figure_line f n)
