use Rattle.std.proofs.Common.{◌∙◌, sym, arith}
use Rattle.pp_vault.specs.Parts.{parts_of}
use Rattle.pp_vault.proofs.BackSteps.{none_some}
use Rattle.pp_vault.proofs.ReadSteps.{framed, low, read_tells, loaded_kept, loaded_acts, loaded_is, first_is, further_is, lost_is}
use Rattle.pp_vault.proofs.store.Store.read.Goals as goal

pub unreachable-requires : goal.unreachable-requires
unreachable-requires c =
    none_some
    (sym c.in_default.is ∙ c.frame_of.ensures c.requires.state c.requires.stands.core
    ∙ framed (parts_of c.args.self.now) c.args.worker c.args.slot c.args.page c.args.image
    (λ s st. sym (c.is_read_out.ensures s st) ∙ c.if-not-is_read_out.false) c.requires)

pub put-requires : goal.put-requires
put-requires c =
    low (parts_of c.args.self.now) c.args.worker c.args.slot c.args.page c.args.image
    (λ s st. sym (c.is_read_out.ensures s st) ∙ c.if-not-is_read_out.false) c.requires
    (parts_of c.step_read_done.new.self) c.args.ok
    c.came_of-came.result c.came_of-came.ensures c.in-Ok.reply c.in-Ok.ensures.done c.in-Some.frame
    (λ s st. sym c.in-Some.is ∙ c.frame_of.ensures s st)

pub session-session-requires-clause-kept : goal.session-session-requires-clause-kept
session-session-requires-clause-kept c =
    loaded_kept (parts_of c.args.self.now) c.args.worker c.args.slot c.args.page c.args.image
    (λ s st. sym (c.is_read_out.ensures s st) ∙ c.if-not-is_read_out.false) c.requires
    (parts_of c.step_read_done.new.self) c.args.ok
    c.came_of-came.result c.came_of-came.ensures c.in-Ok.reply c.in-Ok.ensures.done c.in-Some.frame
    (λ s st. sym c.in-Some.is ∙ c.frame_of.ensures s st)
    (parts_of c.put.new.self) c.put.ensures c.in-Loaded.mark
    c.in-Loaded.is

pub session-session-requires-clause-acts : goal.session-session-requires-clause-acts
session-session-requires-clause-acts c =
    loaded_acts (parts_of c.args.self.now) c.args.worker c.args.slot c.args.page c.args.image
    (λ s st. sym (c.is_read_out.ensures s st) ∙ c.if-not-is_read_out.false) c.requires
    (parts_of c.step_read_done.new.self) c.args.ok
    c.came_of-came.result c.came_of-came.ensures c.in-Ok.reply c.in-Ok.ensures.done c.in-Some.frame
    (λ s st. sym c.in-Some.is ∙ c.frame_of.ensures s st)
    (parts_of c.put.new.self) c.put.ensures c.in-Loaded.mark
    c.in-Loaded.is

pub returns-in-0-clause-ok : goal.returns-in-0-clause-ok
returns-in-0-clause-ok c =
    loaded_is (parts_of c.args.self.now) c.args.worker c.args.slot c.args.page c.args.image
    (λ s st. sym (c.is_read_out.ensures s st) ∙ c.if-not-is_read_out.false) c.requires
    (parts_of c.step_read_done.new.self) c.args.ok
    c.came_of-came.result c.came_of-came.ensures c.in-Ok.reply c.in-Ok.ensures.done c.in-Some.frame
    (λ s st. sym c.in-Some.is ∙ c.frame_of.ensures s st)
    (parts_of c.put.new.self) c.put.ensures c.in-Loaded.mark
    c.in-Loaded.is c.session-session.result c.session-session.ensures c.gathered.result c.gathered.ensures (omega arith)

pub returns-in-1-clause-ok : goal.returns-in-1-clause-ok
returns-in-1-clause-ok c =
    first_is (parts_of c.args.self.now) c.args.worker c.args.slot c.args.page c.args.image
    (λ s st. sym (c.is_read_out.ensures s st) ∙ c.if-not-is_read_out.false) c.requires
    (parts_of c.step_read_done.new.self) c.args.ok
    c.came_of-came.result c.came_of-came.ensures c.in-Ok.reply c.in-Ok.ensures.done c.in-Some.frame
    (λ s st. sym c.in-Some.is ∙ c.frame_of.ensures s st)
    (parts_of c.put.new.self) c.put.ensures c.in-Loaded.mark
    c.in-Loaded.is c.session-session.result c.session-session.ensures c.gathered.result c.gathered.ensures (omega arith)
    (omega arith)

pub returns-in_default-gathered-clause-ok : goal.returns-in_default-gathered-clause-ok
returns-in_default-gathered-clause-ok c =
    further_is (parts_of c.args.self.now) c.args.worker c.args.slot c.args.page c.args.image
    (λ s st. sym (c.is_read_out.ensures s st) ∙ c.if-not-is_read_out.false) c.requires
    (parts_of c.step_read_done.new.self) c.args.ok
    c.came_of-came.result c.came_of-came.ensures c.in-Ok.reply c.in-Ok.ensures.done c.in-Some.frame
    (λ s st. sym c.in-Some.is ∙ c.frame_of.ensures s st)
    (parts_of c.put.new.self) c.put.ensures c.in-Loaded.mark
    c.in-Loaded.is c.session-session.result c.session-session.ensures c.gathered.result c.gathered.ensures (omega arith)
    (omega arith)

pub returns-in-Failed-clause-ok : goal.returns-in-Failed-clause-ok
returns-in-Failed-clause-ok c =
    lost_is (parts_of c.args.self.now) c.args.worker c.args.slot c.args.page c.args.image
    (λ s st. sym (c.is_read_out.ensures s st) ∙ c.if-not-is_read_out.false) c.requires
    (parts_of c.step_read_done.new.self) c.args.ok
    c.came_of-came.result c.came_of-came.ensures c.in-Ok.reply c.in-Ok.ensures.done c.in-Some.frame
    (λ s st. sym c.in-Some.is ∙ c.frame_of.ensures s st)
    (parts_of c.put.new.self) c.put.ensures c.in-Failed.field-0 c.in-Failed.is

pub returns-in-0-clause-done : goal.returns-in-0-clause-done
returns-in-0-clause-done c =
    read_tells (parts_of c.args.self.now) c.args.worker c.args.slot c.args.page c.args.image
    (λ s st. sym (c.is_read_out.ensures s st) ∙ c.if-not-is_read_out.false) c.requires
    (parts_of c.step_read_done.new.self) c.args.ok c.came_of-came.result c.came_of-came.ensures c.in-Ok.reply
    c.in-Ok.ensures.done

pub returns-in-1-clause-done : goal.returns-in-1-clause-done
returns-in-1-clause-done c =
    read_tells (parts_of c.args.self.now) c.args.worker c.args.slot c.args.page c.args.image
    (λ s st. sym (c.is_read_out.ensures s st) ∙ c.if-not-is_read_out.false) c.requires
    (parts_of c.step_read_done.new.self) c.args.ok c.came_of-came.result c.came_of-came.ensures c.in-Ok.reply
    c.in-Ok.ensures.done

pub returns-in_default-gathered-clause-done : goal.returns-in_default-gathered-clause-done
returns-in_default-gathered-clause-done c =
    read_tells (parts_of c.args.self.now) c.args.worker c.args.slot c.args.page c.args.image
    (λ s st. sym (c.is_read_out.ensures s st) ∙ c.if-not-is_read_out.false) c.requires
    (parts_of c.step_read_done.new.self) c.args.ok c.came_of-came.result c.came_of-came.ensures c.in-Ok.reply
    c.in-Ok.ensures.done

pub returns-in-Failed-clause-done : goal.returns-in-Failed-clause-done
returns-in-Failed-clause-done c =
    read_tells (parts_of c.args.self.now) c.args.worker c.args.slot c.args.page c.args.image
    (λ s st. sym (c.is_read_out.ensures s st) ∙ c.if-not-is_read_out.false) c.requires
    (parts_of c.step_read_done.new.self) c.args.ok c.came_of-came.result c.came_of-came.ensures c.in-Ok.reply
    c.in-Ok.ensures.done
