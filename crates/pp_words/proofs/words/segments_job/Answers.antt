use Rattle.std.proofs.Common.{◌≡◌, ◌∙◌, ap, sym, map, inl, inr, None, option_map}
use Rattle.clap.specs.Words.{app_of, fault_of, is_simple, is_simple_and_free, kind_of, subcommand_of}
use Rattle.clap.specs.Words.{subcommand_rows_of}
use Rattle.pp_words.specs.CommandLine.{asked_in_parts, asked_segments, segments_of, segments_program}
use Rattle.pp_words.proofs.Asked.{asked_by_fault, asked_by_matches, nothing_asked, segments_program_is_free}
use Rattle.pp_words.proofs.Asked.{segments_program_is_simple}
use Rattle.pp_words.proofs.Told.{told_by, told_of_memory}
use Rattle.pp_words.proofs.words.segments_job.Goals as goal

pub returns-in-Some-clause-ok : goal.returns-in-Some-clause-ok
returns-in-Some-clause-ok g c =
    let is : app_of c.in_ok-segments_command.field-0 ≡ segments_program = c.in_ok-segments_command.ensures in
    asked_by_matches (app_of c.in_ok-segments_command.field-0) segments_program (map g.S.AsStr.text c.args.front.now)
    (subcommand_rows_of c.in-Ok.matches) (λ found. segments_of found (map g.S.AsStr.text c.args.files.now)) is
    (c.in-Ok.ensures.kinds (ap is_simple_and_free is ∙ segments_program_is_free))
    ((c.in-Ok.ensures.matches (ap is_simple is ∙ segments_program_is_simple)).1)
    ∙ sym c.in_ok-paths-in-Ok.ensures ∙ ap (option_map asked_segments) c.in-Some.is

pub returns-in-Ok-clause-err : goal.returns-in-Ok-clause-err
returns-in-Ok-clause-err g c = λ some.
    let is : app_of c.in_ok-segments_command.field-0 ≡ segments_program = c.in_ok-segments_command.ensures in
    let none : asked_in_parts (map g.S.AsStr.text c.args.front.now) (map g.S.AsStr.text c.args.files.now) ≡ None =
    asked_by_matches (app_of c.in_ok-segments_command.field-0) segments_program (map g.S.AsStr.text c.args.front.now)
    (subcommand_rows_of c.in-Ok.matches) (λ found. segments_of found (map g.S.AsStr.text c.args.files.now)) is
    (c.in-Ok.ensures.kinds (ap is_simple_and_free is ∙ segments_program_is_free))
    ((c.in-Ok.ensures.matches (ap is_simple is ∙ segments_program_is_simple)).1)
    ∙ sym c.in_ok-paths-in-Ok.ensures ∙ ap (option_map asked_segments) c.in-None.is in
    absurd (nothing_asked (asked_in_parts (map g.S.AsStr.text c.args.front.now) (map g.S.AsStr.text c.args.files.now))
    none some)

pub returns-clause-err : goal.returns-clause-err
returns-clause-err g c = λ some.
    let is : app_of c.in_ok-segments_command.field-0 ≡ segments_program = c.in_ok-segments_command.ensures in
    let front = map g.S.AsStr.text c.args.front.now in
    let files = map g.S.AsStr.text c.args.files.now in
    elim (c.in-Err.ensures.kinds (ap is_simple_and_free is ∙ segments_program_is_free)) [
      | inl memory ↦ c.refused.ensures.memory memory
      | inr among ↦ absurd (nothing_asked (asked_in_parts front files)
          (asked_by_fault (app_of c.in_ok-segments_command.field-0) segments_program front (kind_of c.in-Err.fault)
          (segments_of (subcommand_of segments_program front) files) is among) some)
    ]

pub returns-in-Ok-clause-told : goal.returns-in-Ok-clause-told
returns-in-Ok-clause-told g c =
    let is : app_of c.in_ok-segments_command.field-0 ≡ segments_program = c.in_ok-segments_command.ensures in
    inr (ap (λ a. fault_of a (map g.S.AsStr.text c.args.front.now)) (sym is)
    ∙ c.in-Ok.ensures.kinds (ap is_simple_and_free is ∙ segments_program_is_free))

pub returns-clause-told : goal.returns-clause-told
returns-clause-told g c =
    let is : app_of c.in_ok-segments_command.field-0 ≡ segments_program = c.in_ok-segments_command.ensures in
    let front = map g.S.AsStr.text c.args.front.now in
    elim (c.in-Err.ensures.kinds (ap is_simple_and_free is ∙ segments_program_is_free)) [
      | inl memory ↦ told_of_memory (fault_of segments_program front) c.refused.result (c.refused.ensures.memory memory)
      | inr among ↦ told_by (app_of c.in_ok-segments_command.field-0) segments_program front (kind_of c.in-Err.fault)
          c.refused.result is among c.refused.ensures.told
    ]
