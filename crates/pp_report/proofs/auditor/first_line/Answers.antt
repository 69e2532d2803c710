use Rattle.std.proofs.Common.{rules, tests, ◌==◌, ℕ, sym, ◌∙◌}
use Rattle.std.proofs.lemmas.Iterator.{YieldsList-from_slice}
use Rattle.std.proofs.lemmas.Iterator.Search.{position_from_yields_List}
use Rattle.pp_report.proofs.Splitting.{cut_at, cut_none}
use Rattle.pp_report.proofs.auditor.first_line.Goals as goal

pub returns-in-Some-clause-lines : goal.returns-in-Some-clause-lines
returns-in-Some-clause-lines c =
    let found =
    position_from_yields_List (λ (b : ℕ). b == 10) _ _ c.position.result c.position.ensures.ran
    (YieldsList-from_slice c.args.text.now cc) (λ x b q k. search (rules, tests)) in
    cut_at c.args.text.now c.in-Some.end (sym c.in-Some.is ∙ found)

pub returns-in-None-clause-lines : goal.returns-in-None-clause-lines
returns-in-None-clause-lines c =
    let found =
    position_from_yields_List (λ (b : ℕ). b == 10) _ _ c.position.result c.position.ensures.ran
    (YieldsList-from_slice c.args.text.now cc) (λ x b q k. search (rules, tests)) in
    cut_none c.args.text.now c.requires (sym c.in-None.is ∙ found)
