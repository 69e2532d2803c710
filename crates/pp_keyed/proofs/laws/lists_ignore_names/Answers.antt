-- ARC's figure is the same under other names.
use Rattle.std.proofs.Common.{false}
use Rattle.pp_keyed.proofs.RenamedLemmas.{place-by, is_cached-by, answer-by, request-by, dropped-by, victim-by, after_giving_up-by}
use Rattle.pp_keyed.proofs.RenamedLemmas.{forget-by, renamed-by, resized-by, last-by}
use Rattle.pp_keyed.proofs.laws.lists_ignore_names.Goals as goal

pub returns-clause-place : goal.returns-clause-place
returns-clause-place c = place-by

pub returns-clause-cached : goal.returns-clause-cached
returns-clause-cached c = is_cached-by

pub returns-clause-answer : goal.returns-clause-answer
returns-clause-answer c = answer-by

pub returns-clause-lists : goal.returns-clause-lists
returns-clause-lists c = request-by

pub returns-clause-dropped : goal.returns-clause-dropped
returns-clause-dropped c = dropped-by

pub returns-clause-given_up : goal.returns-clause-given_up
returns-clause-given_up c = λ f m s busy busy_by same. victim-by f m s false busy busy_by same

pub returns-clause-after_giving_up : goal.returns-clause-after_giving_up
returns-clause-after_giving_up c = after_giving_up-by

pub returns-clause-forget : goal.returns-clause-forget
returns-clause-forget c = forget-by

pub returns-clause-renamed : goal.returns-clause-renamed
returns-clause-renamed c = renamed-by

pub returns-clause-resized : goal.returns-clause-resized
returns-clause-resized c = resized-by

pub returns-clause-last : goal.returns-clause-last
returns-clause-last c = last-by
