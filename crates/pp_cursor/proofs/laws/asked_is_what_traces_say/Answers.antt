use Rattle.pp_cursor.proofs.Asking.{asks_named, asks_end, asked_within}
use Rattle.pp_cursor.proofs.laws.asked_is_what_traces_say.Goals as goal

pub returns-clause-named : goal.returns-clause-named
returns-clause-named c = asks_named

pub returns-clause-ended : goal.returns-clause-ended
returns-clause-ended c = asks_end

pub returns-clause-within : goal.returns-clause-within
returns-clause-within c = asked_within
