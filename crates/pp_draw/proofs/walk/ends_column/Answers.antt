use Rattle.std.proofs.Common.{◌≡◌, ℕ, ◌%◌, Bool, false, List, length, sym, ◌∙◌, arith}
use Rattle.std.specs.Prelude.{◌==◌}
use Rattle.std.proofs.lemmas.Bool.Decides.{nat_tests}
use Rattle.pp_report.specs.Journals.{journal_lines}
use Rattle.pp_draw.specs.Drawing.{ends_column}
use Rattle.pp_draw.proofs.Drawn.{empty_is, no_line}
use Rattle.pp_draw.proofs.walk.ends_column.Goals as goal

not_full : (width number : ℕ) (text : List ℕ) (b : Bool) → (number % width ≡ 0 → ⊥) → b ≡ (length text == 0)
    → b ≡ ends_column width number (journal_lines text)
not_full width number text b part e =
    let not : (number % width == 0) ≡ false = grind (arith, nat_tests) in
    rw not (e ∙ empty_is text ∙ sym (no_line text))

pub returns-else-number-width-eq0 : goal.returns-else-number-width-eq0
returns-else-number-width-eq0 c =
    not_full c.args.width c.args.number c.args.rest.now c.is_empty.result c.if-number-width-eq0.false c.is_empty.ensures
