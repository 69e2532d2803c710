use Rattle.std.proofs.Common.{inl, map, string_bytes, subst}
use Rattle.pp_words.specs.CommandLine.{asked, faults_in}
use Rattle.pp_words.specs.Faults.{IsToldBy}
use Rattle.pp_words.specs.Texts.{IsSaid}
use Rattle.pp_cli.proofs.Memory.{memory_comes, misused_comes}
use Rattle.pp_cli.proofs.program.exit_of_words.Goals as goal

pub returns-in-Some-clause-comes : goal.returns-in-Some-clause-comes
returns-in-Some-clause-comes g c =
    rw c.in-Ok.ensures.ok
    (inl (c.in-Some.clash.written.now, c.in-Some.clash.other.now, c.in-Some.ensures.written, c.misplaced.ensures))

pub returns-clause-comes : goal.returns-clause-comes
returns-clause-comes g c =
    memory_comes (asked (map g.S.AsStr.text c.args.words.now)) (map g.S.AsStr.text c.args.words.now)

pub returns-in-Err-Words-clause-comes : goal.returns-in-Err-Words-clause-comes
returns-in-Err-Words-clause-comes g c =
    let words = map g.S.AsStr.text c.args.words.now in
    let is = c.in-Err-Words.field-0-is in
    misused_comes (asked words) words (string_bytes c.in-Err-Words.text)
    (λ some. let memory = c.in-Err-Words.ensures.err some in absurd cc)
    (subst (IsToldBy (faults_in words)) is c.in-Err-Words.ensures.told) (subst IsSaid is c.in-Err-Words.ensures.text)
