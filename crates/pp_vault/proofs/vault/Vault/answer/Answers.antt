use Rattle.std.specs.Prelude.{is_ok}
use Rattle.pp_vault.specs.Parts.{parts_of}
use Rattle.pp_vault.specs.Answers.{answer_call, AnswerComesTo}
use Rattle.pp_vault.proofs.Kept.{kept_where, holds}
use Rattle.pp_vault.proofs.DutyEnds.{ends_done}
use Rattle.pp_vault.proofs.vault.Vault.answer.Goals as goal

pub invariant_of-self : goal.invariant_of-self
invariant_of-self c =
    let old = parts_of c.self.inside.store in
    let new = parts_of c.answer.new.self in
    let x = c.args.returned in
    kept_where old new (answer_call old.page_bytes x) (λ y. AnswerComesTo old x y.0 new) c.answer.result
    (λ y h. ends_done old new x.duty x.image (is_ok x.answer) y.0 h) c.answer.ensures.ok c.answer.ensures.unchanged
    c.self.invariant

pub returns-clause-holds : goal.returns-clause-holds
returns-clause-holds c =
    let old = parts_of c.self.inside.store in
    let new = parts_of c.answer.new.self in
    let x = c.args.returned in
    holds new
    (kept_where old new (answer_call old.page_bytes x) (λ y. AnswerComesTo old x y.0 new) c.answer.result
    (λ y h. ends_done old new x.duty x.image (is_ok x.answer) y.0 h) c.answer.ensures.ok c.answer.ensures.unchanged
    c.self.invariant)
