use Rattle.std.proofs.Common.{subst, rules}
use Rattle.pp_pool.specs.Parts.{parts_with}
use Rattle.pp_pool.specs.Submits.{TakesIn}
use Rattle.std.specs.Prelude.{◌≡◌, Some}
use Rattle.pp_model.specs.Submitting.{submit_error}
use Rattle.pp_pool.specs.Parts.{state_of}
use Rattle.pp_pool.proofs.Growing.{book_taken, taken_in, refused_so}
use Rattle.pp_pool.proofs.book.Book.add.Goals as goal

pub invariant_of-self : goal.invariant_of-self
invariant_of-self c =
    book_taken (parts_with c.self.inside.vault c.self.inside.workers c.self.inside.journal c.self.inside.most c.self.inside.flushes c.self.inside.began)
    c.self.invariant c.args.accepted c.in-Ok.id c.submit.new.self c.in-Ok.ensures.ok c.push_reserved.new.self.items
    (search rules) c.push_reserved.new.self.capacity (search rules) c.max-self-inside.result (search rules)

pub returns-in-Ok-clause-ok : goal.returns-in-Ok-clause-ok
returns-in-Ok-clause-ok c =
    subst (λ b. TakesIn b c.args.accepted c.in-Ok.id
    (parts_with c.submit.new.self c.self.inside.workers c.push_reserved.new.self c.max-self-inside.result c.self.inside.flushes c.self.inside.began)) c.self.view_is
    (taken_in (parts_with c.self.inside.vault c.self.inside.workers c.self.inside.journal c.self.inside.most c.self.inside.flushes c.self.inside.began)
    c.self.invariant c.args.accepted c.in-Ok.id c.submit.new.self c.in-Ok.ensures.ok c.push_reserved.new.self.items
    (search rules) c.push_reserved.new.self.capacity (search rules) c.max-self-inside.result (search rules))

pub returns-in-Ok-clause-kept : goal.returns-in-Ok-clause-kept
returns-in-Ok-clause-kept c =
    book_taken (parts_with c.self.inside.vault c.self.inside.workers c.self.inside.journal c.self.inside.most c.self.inside.flushes c.self.inside.began)
    c.self.invariant c.args.accepted c.in-Ok.id c.submit.new.self c.in-Ok.ensures.ok c.push_reserved.new.self.items
    (search rules) c.push_reserved.new.self.capacity (search rules) c.max-self-inside.result (search rules)

pub returns-in-Err-clause-error : goal.returns-in-Err-clause-error
returns-in-Err-clause-error c =
    subst (λ b. submit_error (state_of b) c.args.accepted ≡ Some c.in-Err.refused.1) c.self.view_is
    (refused_so (parts_with c.self.inside.vault c.self.inside.workers c.self.inside.journal c.self.inside.most c.self.inside.flushes c.self.inside.began)
    c.self.invariant c.args.accepted c.in-Err.refused.1 c.in-Err.ensures.error)
