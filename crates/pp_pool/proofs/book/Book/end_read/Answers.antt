use Rattle.std.proofs.Common.{◌≡◌, ◌∙◌, ◌++◌, true, ap, subst}
use Rattle.pp_vault.specs.Reads.{may_end_read}
use Rattle.pp_pool.specs.Parts.{parts_with, state_of}
use Rattle.pp_pool.specs.Performs.{Performs}
use Rattle.pp_pool.specs.Readings.{end_events, EndsReadBy}
use Rattle.pp_pool.proofs.Readings.{room_to_end, kept_ended, headline_ended, ends_read_by}
use Rattle.pp_pool.proofs.book.Book.end_read.Goals as goal

pub note_end-requires : goal.note_end-requires
note_end-requires c =
    room_to_end (parts_with c.self.inside.vault c.self.inside.workers c.self.inside.journal c.self.inside.most c.self.inside.flushes c.self.inside.began)
    c.self.invariant c.args.session c.args.guard c.end_read.new.self c.in-Ok.session c.in-Ok.mark c.in-Ok.ensures.ok

pub invariant_of-self : goal.invariant_of-self
invariant_of-self c =
    kept_ended (parts_with c.self.inside.vault c.self.inside.workers c.self.inside.journal c.self.inside.most c.self.inside.flushes c.self.inside.began)
    c.self.invariant c.args.session c.args.guard c.end_read.new.self c.in-Ok.session c.in-Ok.mark c.in-Ok.ensures.ok
    c.note_end.new.journal.items
    (c.note_end.ensures.journal
    ∙ ap (λ w. c.self.inside.journal.items ++ end_events w c.in-Ok.mark) c.worker-worker.ensures)
    c.note_end.new.journal.capacity c.note_end.ensures.memory

pub returns-in-Ok-clause-exact : goal.returns-in-Ok-clause-exact
returns-in-Ok-clause-exact c =
    subst (λ b. true ≡ may_end_read c.args.session c.args.guard (state_of b)) c.self.view_is
    (c.in-Ok.ensures.exact (state_of (parts_with c.self.inside.vault c.self.inside.workers c.self.inside.journal c.self.inside.most c.self.inside.flushes c.self.inside.began))
    c.self.invariant.stands)

pub returns-in-Ok-clause-ok : goal.returns-in-Ok-clause-ok
returns-in-Ok-clause-ok c =
    subst (λ b. EndsReadBy Performs b c.args.session c.args.guard
    (parts_with c.end_read.new.self c.self.inside.workers c.note_end.new.journal c.self.inside.most c.self.inside.flushes c.self.inside.began)
    c.in-Ok.session c.in-Ok.mark)
    c.self.view_is
    (ends_read_by (parts_with c.self.inside.vault c.self.inside.workers c.self.inside.journal c.self.inside.most c.self.inside.flushes c.self.inside.began)
    c.self.invariant c.args.session c.args.guard c.end_read.new.self c.in-Ok.session c.in-Ok.mark c.in-Ok.ensures.ok
    c.note_end.new.journal.items
    (c.note_end.ensures.journal
    ∙ ap (λ w. c.self.inside.journal.items ++ end_events w c.in-Ok.mark) c.worker-worker.ensures)
    c.note_end.new.journal.capacity c.note_end.ensures.memory)

pub returns-in-Ok-clause-kept : goal.returns-in-Ok-clause-kept
returns-in-Ok-clause-kept c =
    kept_ended (parts_with c.self.inside.vault c.self.inside.workers c.self.inside.journal c.self.inside.most c.self.inside.flushes c.self.inside.began)
    c.self.invariant c.args.session c.args.guard c.end_read.new.self c.in-Ok.session c.in-Ok.mark c.in-Ok.ensures.ok
    c.note_end.new.journal.items
    (c.note_end.ensures.journal
    ∙ ap (λ w. c.self.inside.journal.items ++ end_events w c.in-Ok.mark) c.worker-worker.ensures)
    c.note_end.new.journal.capacity c.note_end.ensures.memory

pub returns-in-Ok-clause-headline : goal.returns-in-Ok-clause-headline
returns-in-Ok-clause-headline c =
    headline_ended (parts_with c.self.inside.vault c.self.inside.workers c.self.inside.journal c.self.inside.most c.self.inside.flushes c.self.inside.began)
    c.self.invariant c.args.session c.args.guard c.end_read.new.self c.in-Ok.session c.in-Ok.mark c.in-Ok.ensures.ok
    c.note_end.new.journal.items
    (c.note_end.ensures.journal
    ∙ ap (λ w. c.self.inside.journal.items ++ end_events w c.in-Ok.mark) c.worker-worker.ensures)
    c.note_end.new.journal.capacity c.note_end.ensures.memory
