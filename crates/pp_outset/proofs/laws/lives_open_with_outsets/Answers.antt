use Rattle.std.proofs.Common.{refl}
use Rattle.pp_outset.proofs.Beginning.{next_opens, next_reached}
use Rattle.pp_outset.proofs.laws.lives_open_with_outsets.Goals as goal

pub returns-clause-new : goal.returns-clause-new
returns-clause-new c = λ k. refl

pub returns-clause-next : goal.returns-clause-next
returns-clause-next c = next_opens

pub returns-clause-keeps : goal.returns-clause-keeps
returns-clause-keeps c = λ s. refl

pub returns-clause-with : goal.returns-clause-with
returns-clause-with c = λ k o. refl

pub returns-clause-reached : goal.returns-clause-reached
returns-clause-reached c = next_reached
