use Rattle.pp_draw.proofs.walk.Walk.add_column.Goals as goal

pub returns-clause-added : goal.returns-clause-added
returns-clause-added c = λ p at. (
  c.in_ok-column.column,
  c.in_ok-push.ensures.items,
  c.in_ok-column.ensures.line,
  c.in_ok-column.ensures.shows p.state (c.core.ensures p at),
)
