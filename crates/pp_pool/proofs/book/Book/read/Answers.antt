use Rattle.std.proofs.Common.{◌≡◌, ◌∙◌, ◌++◌, true, ap, subst}
use Rattle.pp_vault.specs.Reads.{may_read}
use Rattle.pp_pool.specs.Parts.{parts_with, state_of}
use Rattle.pp_pool.specs.Performs.{Performs}
use Rattle.pp_pool.specs.Readings.{read_events, ReadsBy}
use Rattle.pp_pool.proofs.Readings.{room_to_read, kept_read, headline_read, reads_by}
use Rattle.pp_pool.proofs.book.Book.read.Goals as goal

pub note_read-requires : goal.note_read-requires
note_read-requires c =
    room_to_read (parts_with c.self.inside.vault c.self.inside.workers c.self.inside.journal c.self.inside.most c.self.inside.flushes c.self.inside.began)
    c.self.invariant c.args.session c.args.page c.read.new.self c.in-Ok.session c.in-Ok.guard c.in-Ok.frame c.in-Ok.ensures.ok

pub invariant_of-self : goal.invariant_of-self
invariant_of-self c =
    kept_read (parts_with c.self.inside.vault c.self.inside.workers c.self.inside.journal c.self.inside.most c.self.inside.flushes c.self.inside.began)
    c.self.invariant c.args.session c.args.page c.read.new.self c.in-Ok.session c.in-Ok.guard c.in-Ok.frame c.in-Ok.ensures.ok
    c.note_read.new.journal.items
    (c.note_read.ensures.journal
    ∙ ap (λ w. c.self.inside.journal.items ++ read_events w c.args.page c.in-Ok.frame c.mark-mark.result) c.worker-worker.ensures
    ∙ ap (λ m. c.self.inside.journal.items ++ read_events c.args.session.worker c.args.page c.in-Ok.frame m) c.mark-mark.ensures)
    c.note_read.new.journal.capacity c.note_read.ensures.memory

pub returns-in-Ok-clause-exact : goal.returns-in-Ok-clause-exact
returns-in-Ok-clause-exact c =
    subst (λ b. true ≡ may_read c.args.session c.args.page (state_of b)) c.self.view_is
    (c.in-Ok.ensures.exact (state_of (parts_with c.self.inside.vault c.self.inside.workers c.self.inside.journal c.self.inside.most c.self.inside.flushes c.self.inside.began))
    c.self.invariant.stands)

pub returns-in-Ok-clause-ok : goal.returns-in-Ok-clause-ok
returns-in-Ok-clause-ok c =
    subst (λ b. ReadsBy Performs b c.args.session c.args.page
    (parts_with c.read.new.self c.self.inside.workers c.note_read.new.journal c.self.inside.most c.self.inside.flushes c.self.inside.began)
    c.in-Ok.session c.in-Ok.guard c.in-Ok.frame)
    c.self.view_is
    (reads_by (parts_with c.self.inside.vault c.self.inside.workers c.self.inside.journal c.self.inside.most c.self.inside.flushes c.self.inside.began)
    c.self.invariant c.args.session c.args.page c.read.new.self c.in-Ok.session c.in-Ok.guard c.in-Ok.frame c.in-Ok.ensures.ok
    c.note_read.new.journal.items
    (c.note_read.ensures.journal
    ∙ ap (λ w. c.self.inside.journal.items ++ read_events w c.args.page c.in-Ok.frame c.mark-mark.result) c.worker-worker.ensures
    ∙ ap (λ m. c.self.inside.journal.items ++ read_events c.args.session.worker c.args.page c.in-Ok.frame m) c.mark-mark.ensures)
    c.note_read.new.journal.capacity c.note_read.ensures.memory)

pub returns-in-Ok-clause-kept : goal.returns-in-Ok-clause-kept
returns-in-Ok-clause-kept c =
    kept_read (parts_with c.self.inside.vault c.self.inside.workers c.self.inside.journal c.self.inside.most c.self.inside.flushes c.self.inside.began)
    c.self.invariant c.args.session c.args.page c.read.new.self c.in-Ok.session c.in-Ok.guard c.in-Ok.frame c.in-Ok.ensures.ok
    c.note_read.new.journal.items
    (c.note_read.ensures.journal
    ∙ ap (λ w. c.self.inside.journal.items ++ read_events w c.args.page c.in-Ok.frame c.mark-mark.result) c.worker-worker.ensures
    ∙ ap (λ m. c.self.inside.journal.items ++ read_events c.args.session.worker c.args.page c.in-Ok.frame m) c.mark-mark.ensures)
    c.note_read.new.journal.capacity c.note_read.ensures.memory

pub returns-in-Ok-clause-headline : goal.returns-in-Ok-clause-headline
returns-in-Ok-clause-headline c =
    headline_read (parts_with c.self.inside.vault c.self.inside.workers c.self.inside.journal c.self.inside.most c.self.inside.flushes c.self.inside.began)
    c.self.invariant c.args.session c.args.page c.read.new.self c.in-Ok.session c.in-Ok.guard c.in-Ok.frame c.in-Ok.ensures.ok
    c.note_read.new.journal.items
    (c.note_read.ensures.journal
    ∙ ap (λ w. c.self.inside.journal.items ++ read_events w c.args.page c.in-Ok.frame c.mark-mark.result) c.worker-worker.ensures
    ∙ ap (λ m. c.self.inside.journal.items ++ read_events c.args.session.worker c.args.page c.in-Ok.frame m) c.mark-mark.ensures)
    c.note_read.new.journal.capacity c.note_read.ensures.memory
