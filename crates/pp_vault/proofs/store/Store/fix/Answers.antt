use Rattle.std.proofs.Common.{◌∙◌, sym}
use Rattle.pp_vault.specs.Parts.{parts_of}
use Rattle.pp_vault.specs.Fits.{fix_slot}
use Rattle.pp_core.specs.Queries.{ask_of}
use Rattle.pp_vault.proofs.FixSteps.{asked_so, strange, fix_tells, no_other, hit_does, hit_kept, hit_acts, hit_at, opens_at, joins}
use Rattle.pp_vault.proofs.FixSteps.{read_there, read_at, write_there, write_at}
use Rattle.pp_vault.proofs.store.Store.fix.Goals as goal

pub returns-in_default-clause-err : goal.returns-in_default-clause-err
returns-in_default-clause-err c =
    strange (parts_of c.args.self.now) c.args.session.worker (fix_slot c.args.session.ask) c.args.page
    (λ s st. sym (c.asked_slot.ensures s st.core) ∙ c.in_default.is)

pub step_fix-requires : goal.step_fix-requires
step_fix-requires c = λ s st.
    (asked_so (fix_slot c.args.session.ask) (ask_of s c.args.session.worker) c.in-Some.asked
    (sym (c.asked_slot.ensures s st) ∙ c.in-Some.is)).is

pub session-session-requires-clause-kept : goal.session-session-requires-clause-kept
session-session-requires-clause-kept c =
    hit_kept (parts_of c.args.self.now) (parts_of c.step_fix.new.self) c.args.session.worker (fix_slot c.args.session.ask)
    c.args.page c.in-Ok.reply c.in-Ok.ensures.done c.in-Some.asked
    (λ s st. sym (c.asked_slot.ensures s st.core) ∙ c.in-Some.is)
    c.in-Hit.frame c.in-Hit.mark c.in-Hit.is c.requires

pub session-session-requires-clause-acts : goal.session-session-requires-clause-acts
session-session-requires-clause-acts c =
    hit_acts (parts_of c.args.self.now) (parts_of c.step_fix.new.self) c.args.session.worker (fix_slot c.args.session.ask)
    c.args.page c.in-Ok.reply c.in-Ok.ensures.done c.in-Some.asked
    (λ s st. sym (c.asked_slot.ensures s st.core) ∙ c.in-Some.is)
    c.in-Hit.frame c.in-Hit.mark c.in-Hit.is c.requires

pub take_out-image-requires : goal.take_out-image-requires
take_out-image-requires c =
    read_there (parts_of c.args.self.now) (parts_of c.step_fix.new.self) c.args.session.worker (fix_slot c.args.session.ask)
    c.args.page c.in-Ok.reply c.in-Ok.ensures.done c.in-Some.asked
    (λ s st. sym (c.asked_slot.ensures s st.core) ∙ c.in-Some.is)
    c.in-MustRead.frame c.in-MustRead.is c.requires

pub take_out-image-requires-in-MustWrite : goal.take_out-image-requires-in-MustWrite
take_out-image-requires-in-MustWrite c =
    write_there (parts_of c.args.self.now) (parts_of c.step_fix.new.self) c.args.session.worker (fix_slot c.args.session.ask)
    c.args.page c.in-Ok.reply c.in-Ok.ensures.done c.in-Some.asked
    (λ s st. sym (c.asked_slot.ensures s st.core) ∙ c.in-Some.is)
    c.in-MustWrite.frame c.in-MustWrite.victim c.in-MustWrite.is c.requires

pub unreachable-requires : goal.unreachable-requires
unreachable-requires c =
    no_other (parts_of c.args.self.now) (parts_of c.step_fix.new.self) c.args.session.worker (fix_slot c.args.session.ask)
    c.args.page c.in-Ok.reply c.in-Ok.ensures.done c.in-Some.asked
    (λ s st. sym (c.asked_slot.ensures s st.core) ∙ c.in-Some.is)
    c.requires c.in_default-reply.not-Hit c.in_default-reply.not-MustRead c.in_default-reply.not-MustWrite

pub returns-in_default-asked-clause-ok : goal.returns-in_default-asked-clause-ok
returns-in_default-asked-clause-ok c = (
  hit_does (parts_of c.args.self.now) (parts_of c.step_fix.new.self) c.args.session.worker (fix_slot c.args.session.ask)
      c.args.page c.in-Ok.reply c.in-Ok.ensures.done c.in-Some.asked
      (λ s st. sym (c.asked_slot.ensures s st.core) ∙ c.in-Some.is)
      c.in-Hit.frame c.in-Hit.mark c.in-Hit.is,
  hit_at (parts_of c.args.self.now) (parts_of c.step_fix.new.self) c.args.session.worker (fix_slot c.args.session.ask)
      c.args.page c.in-Ok.reply c.in-Ok.ensures.done c.in-Some.asked
      (λ s st. sym (c.asked_slot.ensures s st.core) ∙ c.in-Some.is)
      c.in-Hit.frame c.in-Hit.mark c.in-Hit.is c.requires c.session-session.result
      c.session-session.ensures c.in_default-asked.not-Gather c.slot_of-slot.result c.slot_of-slot.ensures,
  c.slot_of-slot.ensures,
)

pub returns-else-gathered-gt1-clause-ok : goal.returns-else-gathered-gt1-clause-ok
returns-else-gathered-gt1-clause-ok c = (
  hit_does (parts_of c.args.self.now) (parts_of c.step_fix.new.self) c.args.session.worker (fix_slot c.args.session.ask)
      c.args.page c.in-Ok.reply c.in-Ok.ensures.done c.in-Some.asked
      (λ s st. sym (c.asked_slot.ensures s st.core) ∙ c.in-Some.is)
      c.in-Hit.frame c.in-Hit.mark c.in-Hit.is,
  opens_at (parts_of c.args.self.now) (parts_of c.step_fix.new.self) c.args.session.worker (fix_slot c.args.session.ask)
      c.args.page c.in-Ok.reply c.in-Ok.ensures.done c.in-Some.asked
      (λ s st. sym (c.asked_slot.ensures s st.core) ∙ c.in-Some.is)
      c.in-Hit.frame c.in-Hit.mark c.in-Hit.is c.requires c.session-session.result
      c.session-session.ensures c.slot_of-slot.result c.slot_of-slot.ensures c.in-Gather.slot c.in-Gather.region
      c.in-Gather.is c.gathered.result c.gathered.ensures c.if-gathered-gt1.false,
  c.slot_of-slot.ensures,
)

pub returns-then-gathered-gt1-clause-ok : goal.returns-then-gathered-gt1-clause-ok
returns-then-gathered-gt1-clause-ok c = (
  hit_does (parts_of c.args.self.now) (parts_of c.step_fix.new.self) c.args.session.worker (fix_slot c.args.session.ask)
      c.args.page c.in-Ok.reply c.in-Ok.ensures.done c.in-Some.asked
      (λ s st. sym (c.asked_slot.ensures s st.core) ∙ c.in-Some.is)
      c.in-Hit.frame c.in-Hit.mark c.in-Hit.is,
  joins (parts_of c.args.self.now) (parts_of c.step_fix.new.self) c.args.session.worker (fix_slot c.args.session.ask)
      c.args.page c.in-Ok.reply c.in-Ok.ensures.done c.in-Some.asked
      (λ s st. sym (c.asked_slot.ensures s st.core) ∙ c.in-Some.is)
      c.in-Hit.frame c.in-Hit.mark c.in-Hit.is c.requires c.session-session.result
      c.session-session.ensures c.slot_of-slot.result c.slot_of-slot.ensures c.in-Gather.slot c.in-Gather.region
      c.in-Gather.is c.gathered.result c.gathered.ensures c.if-gathered-gt1.true,
)

pub returns-in-MustRead-clause-ok : goal.returns-in-MustRead-clause-ok
returns-in-MustRead-clause-ok c =
    read_at (parts_of c.args.self.now) (parts_of c.step_fix.new.self) c.args.session.worker (fix_slot c.args.session.ask)
    c.args.page c.in-Ok.reply c.in-Ok.ensures.done c.in-Some.asked
    (λ s st. sym (c.asked_slot.ensures s st.core) ∙ c.in-Some.is)
    c.in-MustRead.frame c.in-MustRead.is c.requires (parts_of c.take_out-image.new.self) c.take_out-image.result
    c.take_out-image.ensures.image c.take_out-image.ensures.rest c.slot_of-slot.result c.slot_of-slot.ensures

pub returns-in-MustWrite-clause-ok : goal.returns-in-MustWrite-clause-ok
returns-in-MustWrite-clause-ok c =
    write_at (parts_of c.args.self.now) (parts_of c.step_fix.new.self) c.args.session.worker (fix_slot c.args.session.ask)
    c.args.page c.in-Ok.reply c.in-Ok.ensures.done c.in-Some.asked
    (λ s st. sym (c.asked_slot.ensures s st.core) ∙ c.in-Some.is)
    c.in-MustWrite.frame c.in-MustWrite.victim c.in-MustWrite.is c.requires
    (parts_of c.take_out-image-in-MustWrite.new.self) c.take_out-image-in-MustWrite.result
    c.take_out-image-in-MustWrite.ensures.image c.take_out-image-in-MustWrite.ensures.rest c.slot_of-slot.result
    c.slot_of-slot.ensures

pub returns-in_default-asked-clause-done : goal.returns-in_default-asked-clause-done
returns-in_default-asked-clause-done c =
    fix_tells (parts_of c.args.self.now) (parts_of c.step_fix.new.self) c.args.session.worker (fix_slot c.args.session.ask)
    c.args.page c.in-Ok.reply c.in-Ok.ensures.done c.in-Some.asked (λ s st. sym (c.asked_slot.ensures s st.core) ∙ c.in-Some.is)

pub returns-else-gathered-gt1-clause-done : goal.returns-else-gathered-gt1-clause-done
returns-else-gathered-gt1-clause-done c =
    fix_tells (parts_of c.args.self.now) (parts_of c.step_fix.new.self) c.args.session.worker (fix_slot c.args.session.ask)
    c.args.page c.in-Ok.reply c.in-Ok.ensures.done c.in-Some.asked (λ s st. sym (c.asked_slot.ensures s st.core) ∙ c.in-Some.is)

pub returns-then-gathered-gt1-clause-done : goal.returns-then-gathered-gt1-clause-done
returns-then-gathered-gt1-clause-done c =
    fix_tells (parts_of c.args.self.now) (parts_of c.step_fix.new.self) c.args.session.worker (fix_slot c.args.session.ask)
    c.args.page c.in-Ok.reply c.in-Ok.ensures.done c.in-Some.asked (λ s st. sym (c.asked_slot.ensures s st.core) ∙ c.in-Some.is)

pub returns-in-MustRead-clause-done : goal.returns-in-MustRead-clause-done
returns-in-MustRead-clause-done c =
    fix_tells (parts_of c.args.self.now) (parts_of c.step_fix.new.self) c.args.session.worker (fix_slot c.args.session.ask)
    c.args.page c.in-Ok.reply c.in-Ok.ensures.done c.in-Some.asked (λ s st. sym (c.asked_slot.ensures s st.core) ∙ c.in-Some.is)

pub returns-in-MustWrite-clause-done : goal.returns-in-MustWrite-clause-done
returns-in-MustWrite-clause-done c =
    fix_tells (parts_of c.args.self.now) (parts_of c.step_fix.new.self) c.args.session.worker (fix_slot c.args.session.ask)
    c.args.page c.in-Ok.reply c.in-Ok.ensures.done c.in-Some.asked (λ s st. sym (c.asked_slot.ensures s st.core) ∙ c.in-Some.is)
