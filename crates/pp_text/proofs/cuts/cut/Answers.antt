use Rattle.std.proofs.Common.{Some, None, sym, ap, ◌∙◌}
use Rattle.std.proofs.lemmas.Str.Pattern.{split_parts}
use Rattle.pp_text.specs.Parts.{ahead, behind}
use Rattle.pp_text.proofs.Cutting.{parts_one, parts_more, ahead_at, behind_at, ahead_none, behind_none}
use Rattle.pp_text.proofs.cuts.cut.Goals as goal

pub returns-in-Some-clause-parts : goal.returns-in-Some-clause-parts
returns-in-Some-clause-parts c =
    let found = split_parts c.args.separator c.args.text.now (Some (c.in-Some.first, c.in-Some.rest))
    c.in-Some.ensures.cases c.requires in
    parts_more c.args.separator c.args.text.now c.in-Some.first.now c.in-Some.rest.now found.0 found.1

pub returns-in-Some-clause-ahead : goal.returns-in-Some-clause-ahead
returns-in-Some-clause-ahead c =
    let found = split_parts c.args.separator c.args.text.now (Some (c.in-Some.first, c.in-Some.rest))
    c.in-Some.ensures.cases c.requires in
    sym (ap (ahead c.args.separator) found.0
    ∙ ahead_at c.args.separator c.in-Some.first.now c.in-Some.rest.now found.1)

pub returns-in-Some-clause-behind : goal.returns-in-Some-clause-behind
returns-in-Some-clause-behind c =
    let found = split_parts c.args.separator c.args.text.now (Some (c.in-Some.first, c.in-Some.rest))
    c.in-Some.ensures.cases c.requires in
    sym (ap (behind c.args.separator) found.0
    ∙ behind_at c.args.separator c.in-Some.first.now c.in-Some.rest.now found.1)

pub returns-in-None-clause-parts : goal.returns-in-None-clause-parts
returns-in-None-clause-parts c =
    parts_one c.args.separator c.args.text.now
    (split_parts c.args.separator c.args.text.now None c.in-None.ensures.cases c.requires)

pub returns-in-None-clause-ahead : goal.returns-in-None-clause-ahead
returns-in-None-clause-ahead c =
    sym (ahead_none c.args.separator c.args.text.now
    (split_parts c.args.separator c.args.text.now None c.in-None.ensures.cases c.requires))

pub returns-in-None-clause-behind : goal.returns-in-None-clause-behind
returns-in-None-clause-behind c =
    sym (behind_none c.args.separator c.args.text.now
    (split_parts c.args.separator c.args.text.now None c.in-None.ensures.cases c.requires))
