use Rattle.std.proofs.Common.{◌≡◌, ◌∙◌, ap, sym, map, inl, inr, None, option_map}
use Rattle.clap.specs.Words.{app_of, fault_of, is_simple, is_simple_and_free, kind_of, subcommand_of}
use Rattle.clap.specs.Words.{subcommand_rows_of}
use Rattle.pp_words.specs.CommandLine.{asked_by, asked_of, asked_plainly, program}
use Rattle.pp_words.proofs.Asked.{asked_by_fault, asked_by_matches, nothing_asked, program_is_free, program_is_simple}
use Rattle.pp_words.proofs.Told.{told_by, told_of_memory}
use Rattle.pp_words.proofs.words.plain_job.Goals as goal

pub returns-in-Some-clause-ok : goal.returns-in-Some-clause-ok
returns-in-Some-clause-ok g c =
    let is : app_of c.in_ok-command.field-0 ≡ program = c.in_ok-command.ensures in
    asked_by_matches (app_of c.in_ok-command.field-0) program (map g.S.AsStr.text c.args.words.now)
    (subcommand_rows_of c.in-Ok.matches) asked_of is
    (c.in-Ok.ensures.kinds (ap is_simple_and_free is ∙ program_is_free))
    ((c.in-Ok.ensures.matches (ap is_simple is ∙ program_is_simple)).1)
    ∙ sym c.in_ok-job-in-Ok.ensures ∙ ap (option_map asked_by) c.in-Some.is

pub returns-in-Ok-clause-err : goal.returns-in-Ok-clause-err
returns-in-Ok-clause-err g c = λ some.
    let is : app_of c.in_ok-command.field-0 ≡ program = c.in_ok-command.ensures in
    let none : asked_plainly (map g.S.AsStr.text c.args.words.now) ≡ None =
    asked_by_matches (app_of c.in_ok-command.field-0) program (map g.S.AsStr.text c.args.words.now)
    (subcommand_rows_of c.in-Ok.matches) asked_of is
    (c.in-Ok.ensures.kinds (ap is_simple_and_free is ∙ program_is_free))
    ((c.in-Ok.ensures.matches (ap is_simple is ∙ program_is_simple)).1)
    ∙ sym c.in_ok-job-in-Ok.ensures ∙ ap (option_map asked_by) c.in-None.is in
    absurd (nothing_asked (asked_plainly (map g.S.AsStr.text c.args.words.now)) none some)

pub returns-clause-err : goal.returns-clause-err
returns-clause-err g c = λ some.
    let is : app_of c.in_ok-command.field-0 ≡ program = c.in_ok-command.ensures in
    elim (c.in-Err.ensures.kinds (ap is_simple_and_free is ∙ program_is_free)) [
      | inl memory ↦ c.refused.ensures.memory memory
      | inr among ↦ absurd (nothing_asked (asked_plainly (map g.S.AsStr.text c.args.words.now))
          (asked_by_fault (app_of c.in_ok-command.field-0) program (map g.S.AsStr.text c.args.words.now)
          (kind_of c.in-Err.fault) (asked_of (subcommand_of program (map g.S.AsStr.text c.args.words.now))) is among)
          some)
    ]

pub returns-in-Ok-clause-told : goal.returns-in-Ok-clause-told
returns-in-Ok-clause-told g c =
    let is : app_of c.in_ok-command.field-0 ≡ program = c.in_ok-command.ensures in
    inr (ap (λ a. fault_of a (map g.S.AsStr.text c.args.words.now)) (sym is)
    ∙ c.in-Ok.ensures.kinds (ap is_simple_and_free is ∙ program_is_free))

pub returns-clause-told : goal.returns-clause-told
returns-clause-told g c =
    let is : app_of c.in_ok-command.field-0 ≡ program = c.in_ok-command.ensures in
    elim (c.in-Err.ensures.kinds (ap is_simple_and_free is ∙ program_is_free)) [
      | inl memory ↦ told_of_memory (fault_of program (map g.S.AsStr.text c.args.words.now)) c.refused.result
          (c.refused.ensures.memory memory)
      | inr among ↦ told_by (app_of c.in_ok-command.field-0) program (map g.S.AsStr.text c.args.words.now)
          (kind_of c.in-Err.fault) c.refused.result
          is among c.refused.ensures.told
    ]
