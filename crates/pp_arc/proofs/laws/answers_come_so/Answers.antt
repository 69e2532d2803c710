-- Which answer comes when.
use Rattle.pp_arc.proofs.LawLemmas.{RequestAnswers-request}
use Rattle.pp_arc.proofs.laws.answers_come_so.Goals as goal

pub returns-clause-hit : goal.returns-clause-hit
returns-clause-hit c = λ s x busy h. (RequestAnswers-request s x busy h).hit

pub returns-clause-free : goal.returns-clause-free
returns-clause-free c = λ s x busy h. (RequestAnswers-request s x busy h).free

pub returns-clause-all_busy : goal.returns-clause-all_busy
returns-clause-all_busy c = λ s x busy h. (RequestAnswers-request s x busy h).all_busy

pub returns-clause-victim_was_cached : goal.returns-clause-victim_was_cached
returns-clause-victim_was_cached c = λ s x busy v h. (RequestAnswers-request s x busy h).cached v

pub returns-clause-victim_is_not_busy : goal.returns-clause-victim_is_not_busy
returns-clause-victim_is_not_busy c = λ s x busy v h. (RequestAnswers-request s x busy h).not_busy v
