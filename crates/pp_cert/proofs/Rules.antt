-- What the search is given for functions that walk over a plan.
use Rattle.pp_cert.proofs.Faults.{unless_value}
use Rattle.pp_cert.proofs.Places.{statement_end-le, sequence_end-le, alternatives_end-le, sequence_of-drop}
use Rattle.pp_cert.proofs.Places.{alternatives_of-drop, stmt_falls, body_falls}

pub ruleset walks = (
  unless_value,
  statement_end-le,
  sequence_end-le,
  alternatives_end-le,
  sequence_of-drop,
  alternatives_of-drop,
  stmt_falls,
  body_falls,
)
