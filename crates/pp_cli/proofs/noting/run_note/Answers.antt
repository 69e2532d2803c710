use Rattle.std.proofs.Common.{◌∙◌}
use Rattle.pp_cli.proofs.noting.run_note.Goals as goal

pub returns : goal.returns
returns c =
    c.in_ok-format.ensures.ok
    ∙ simp (
      c.in_ok-unkept.ensures,
      c.in_ok-ratio.ensures,
      c.in_ok-dirty.ensures,
      c.in_ok-missed.ensures,
      c.count_of-hits.ensures,
      c.count_of-loads.ensures,
      c.begun_flushes-begun.ensures,
    )
