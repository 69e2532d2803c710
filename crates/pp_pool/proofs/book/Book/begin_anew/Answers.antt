use Rattle.std.proofs.Common.{◌∙◌, ap, arith, subst}
use Rattle.pp_journal.specs.Events.{Events}
use Rattle.pp_model.specs.Renewing.{renewed}
use Rattle.pp_outset.specs.Outsets.{outset_of}
use Rattle.pp_pool.specs.Parts.{Parts, parts_with, plans_of, opening_of, state_of}
use Rattle.pp_model.specs.Lives.{IsLife}
use Rattle.pp_pool.specs.Parts.{settings_of}
use Rattle.pp_pool.proofs.Renewed.{plans_gone, settings_kept, has_room_for, is_life, is_outset, book_again, state_again}
use Rattle.pp_pool.proofs.book.Book.begin_anew.Goals as goal

pub leave-requires : goal.leave-requires
leave-requires c =
    has_room_for (parts_with c.self.inside.vault c.self.inside.workers c.self.inside.journal c.self.inside.most c.self.inside.flushes c.self.inside.began)
    c.self.invariant c.renew.new.self c.in-Ok.ensures.ok c.core.result.now c.core.ensures

pub invariant_of-self-in-Ok : goal.invariant_of-self-in-Ok
invariant_of-self-in-Ok c =
    book_again (parts_with c.self.inside.vault c.self.inside.workers c.self.inside.journal c.self.inside.most c.self.inside.flushes c.self.inside.began)
    c.self.invariant c.renew.new.self c.in-Ok.ensures.ok c.core.result.now c.core.ensures c.leave.new.self c.leave.ensures
    c.replace.new.dest.capacity (omega (arith, ap (λ (j : Events). j.capacity) c.replace.ensures.after, c.requires.room, ap (λ (b : Parts). b.flushes) c.self.view_is))
    c.replace.new.dest.items (ap (λ (j : Events). j.items) c.replace.ensures.after ∙ c.requires.empty)

pub returns-in-Ok-clause-outset : goal.returns-in-Ok-clause-outset
returns-in-Ok-clause-outset c =
    is_outset (parts_with c.self.inside.vault c.self.inside.workers c.self.inside.journal c.self.inside.most c.self.inside.flushes c.self.inside.began)
    c.self.invariant c.renew.new.self c.in-Ok.ensures.ok c.core.result.now c.core.ensures c.leave.new.self c.leave.ensures
    c.replace.new.dest.capacity (omega (arith, ap (λ (j : Events). j.capacity) c.replace.ensures.after, c.requires.room, ap (λ (b : Parts). b.flushes) c.self.view_is))
    ∙ ap (λ (b : Parts). outset_of (state_of b)) c.self.view_is

pub returns-in-Ok-clause-state : goal.returns-in-Ok-clause-state
returns-in-Ok-clause-state c =
    state_again (parts_with c.self.inside.vault c.self.inside.workers c.self.inside.journal c.self.inside.most c.self.inside.flushes c.self.inside.began)
    c.self.invariant c.renew.new.self c.in-Ok.ensures.ok c.core.result.now c.core.ensures c.leave.new.self c.leave.ensures
    c.replace.new.dest.capacity (omega (arith, ap (λ (j : Events). j.capacity) c.replace.ensures.after, c.requires.room, ap (λ (b : Parts). b.flushes) c.self.view_is))
    c.replace.new.dest.items (ap (λ (j : Events). j.items) c.replace.ensures.after ∙ c.requires.empty)
    ∙ ap (λ (b : Parts). renewed (state_of b)) c.self.view_is

pub returns-in-Ok-clause-kept : goal.returns-in-Ok-clause-kept
returns-in-Ok-clause-kept c =
    book_again (parts_with c.self.inside.vault c.self.inside.workers c.self.inside.journal c.self.inside.most c.self.inside.flushes c.self.inside.began)
    c.self.invariant c.renew.new.self c.in-Ok.ensures.ok c.core.result.now c.core.ensures c.leave.new.self c.leave.ensures
    c.replace.new.dest.capacity (omega (arith, ap (λ (j : Events). j.capacity) c.replace.ensures.after, c.requires.room, ap (λ (b : Parts). b.flushes) c.self.view_is))
    c.replace.new.dest.items (ap (λ (j : Events). j.items) c.replace.ensures.after ∙ c.requires.empty)

pub returns-in-Ok-clause-life : goal.returns-in-Ok-clause-life
returns-in-Ok-clause-life c =
    subst (λ (b : Parts). IsLife (opening_of b) (record { plans = plans_of b; journal = b.journal })) c.self.view_is
    (is_life (parts_with c.self.inside.vault c.self.inside.workers c.self.inside.journal c.self.inside.most c.self.inside.flushes c.self.inside.began)
    c.self.invariant c.renew.new.self c.in-Ok.ensures.ok)

pub returns-in-Ok-clause-fresh : goal.returns-in-Ok-clause-fresh
returns-in-Ok-clause-fresh c = (
  ap (λ (j : Events). j.items) c.replace.ensures.after ∙ c.requires.empty,
  plans_gone (parts_with c.self.inside.vault c.self.inside.workers c.self.inside.journal c.self.inside.most c.self.inside.flushes c.self.inside.began) c.self.invariant c.renew.new.self
      c.in-Ok.ensures.ok,
  settings_kept (parts_with c.self.inside.vault c.self.inside.workers c.self.inside.journal c.self.inside.most c.self.inside.flushes c.self.inside.began) c.self.invariant c.renew.new.self
      c.in-Ok.ensures.ok
      ∙ ap settings_of c.self.view_is,
)
