use Rattle.std.proofs.Common.{◌≡◌, ◌∙◌, ap, subst}
use Rattle.pp_pool.specs.Parts.{parts_with, settings_of, plans_of}
use Rattle.pp_pool.specs.Requests.{event_for}
use Rattle.pp_pool.proofs.Noted.{noted}
use Rattle.pp_pool.proofs.Replying.{replies}
use Rattle.pp_pool.proofs.Growing.{book_headline, room_in, event_in, performed, settings_then, plans_then}
use Rattle.pp_pool.proofs.book.Book.perform.Goals as goal

pub noted-event-requires : goal.noted-event-requires
noted-event-requires c =
    room_in (parts_with c.self.inside.vault c.self.inside.workers c.self.inside.journal c.self.inside.most c.self.inside.flushes c.self.inside.began)
    c.self.invariant c.args.request c.ask-answer.new.vault c.ask-answer.result.1 (noted c.self.inside.vault c.ask-answer.new.vault c.args.request c.ask-answer.result.0 c.ask-answer.result.1
    c.ask-answer.ensures.comes c.ask-answer.ensures.does c.ask-answer.ensures.done)

pub invariant_of-self : goal.invariant_of-self
invariant_of-self c =
    performed (parts_with c.self.inside.vault c.self.inside.workers c.self.inside.journal c.self.inside.most c.self.inside.flushes c.self.inside.began)
    c.self.invariant c.args.request c.ask-answer.new.vault c.ask-answer.result.1 (noted c.self.inside.vault c.ask-answer.new.vault c.args.request c.ask-answer.result.0 c.ask-answer.result.1
    c.ask-answer.ensures.comes c.ask-answer.ensures.does c.ask-answer.ensures.done) c.noted-event.result
    c.noted-event.ensures.event c.noted-event.new.journal.items c.noted-event.ensures.journal
    c.noted-event.new.journal.capacity c.noted-event.ensures.memory

pub returns-clause-event : goal.returns-clause-event
returns-clause-event c =
    subst (λ b. c.noted-event.result ≡ event_for b c.args.request) c.self.view_is
    (event_in (parts_with c.self.inside.vault c.self.inside.workers c.self.inside.journal c.self.inside.most c.self.inside.flushes c.self.inside.began)
    c.self.invariant c.args.request c.ask-answer.new.vault c.ask-answer.result.1 (noted c.self.inside.vault c.ask-answer.new.vault c.args.request c.ask-answer.result.0 c.ask-answer.result.1
    c.ask-answer.ensures.comes c.ask-answer.ensures.does c.ask-answer.ensures.done) c.noted-event.result
    c.noted-event.ensures.event)

pub returns-clause-settings : goal.returns-clause-settings
returns-clause-settings c =
    settings_then (parts_with c.self.inside.vault c.self.inside.workers c.self.inside.journal c.self.inside.most c.self.inside.flushes c.self.inside.began)
    c.self.invariant c.args.request c.ask-answer.new.vault c.ask-answer.result.1 (noted c.self.inside.vault c.ask-answer.new.vault c.args.request c.ask-answer.result.0 c.ask-answer.result.1
    c.ask-answer.ensures.comes c.ask-answer.ensures.does c.ask-answer.ensures.done) c.noted-event.result
    c.noted-event.ensures.event c.noted-event.new.journal.items c.noted-event.ensures.journal
    c.noted-event.new.journal.capacity c.noted-event.ensures.memory
    ∙ ap settings_of c.self.view_is

pub returns-clause-plans : goal.returns-clause-plans
returns-clause-plans c =
    plans_then (parts_with c.self.inside.vault c.self.inside.workers c.self.inside.journal c.self.inside.most c.self.inside.flushes c.self.inside.began)
    c.self.invariant c.args.request c.ask-answer.new.vault c.ask-answer.result.1 (noted c.self.inside.vault c.ask-answer.new.vault c.args.request c.ask-answer.result.0 c.ask-answer.result.1
    c.ask-answer.ensures.comes c.ask-answer.ensures.does c.ask-answer.ensures.done) c.noted-event.result
    c.noted-event.ensures.event c.noted-event.new.journal.items c.noted-event.ensures.journal
    c.noted-event.new.journal.capacity c.noted-event.ensures.memory
    ∙ ap plans_of c.self.view_is

pub returns-clause-kept : goal.returns-clause-kept
returns-clause-kept c =
    performed (parts_with c.self.inside.vault c.self.inside.workers c.self.inside.journal c.self.inside.most c.self.inside.flushes c.self.inside.began)
    c.self.invariant c.args.request c.ask-answer.new.vault c.ask-answer.result.1 (noted c.self.inside.vault c.ask-answer.new.vault c.args.request c.ask-answer.result.0 c.ask-answer.result.1
    c.ask-answer.ensures.comes c.ask-answer.ensures.does c.ask-answer.ensures.done) c.noted-event.result
    c.noted-event.ensures.event c.noted-event.new.journal.items c.noted-event.ensures.journal
    c.noted-event.new.journal.capacity c.noted-event.ensures.memory

pub returns-clause-fits : goal.returns-clause-fits
returns-clause-fits c =
    replies (parts_with c.self.inside.vault c.self.inside.workers c.self.inside.journal c.self.inside.most c.self.inside.flushes c.self.inside.began)
    c.self.invariant c.args.request c.ask-answer.result.0 c.ask-answer.new.vault c.ask-answer.ensures.comes
    c.ask-answer.ensures.does c.ask-answer.result.1 c.ask-answer.ensures.done c.noted-event.result c.noted-event.ensures.event c.ask-answer.ensures.tokens

pub returns-clause-headline : goal.returns-clause-headline
returns-clause-headline c =
    book_headline _
    (performed (parts_with c.self.inside.vault c.self.inside.workers c.self.inside.journal c.self.inside.most c.self.inside.flushes c.self.inside.began)
    c.self.invariant c.args.request c.ask-answer.new.vault c.ask-answer.result.1 (noted c.self.inside.vault c.ask-answer.new.vault c.args.request c.ask-answer.result.0 c.ask-answer.result.1
    c.ask-answer.ensures.comes c.ask-answer.ensures.does c.ask-answer.ensures.done) c.noted-event.result
    c.noted-event.ensures.event c.noted-event.new.journal.items c.noted-event.ensures.journal
    c.noted-event.new.journal.capacity c.noted-event.ensures.memory)
