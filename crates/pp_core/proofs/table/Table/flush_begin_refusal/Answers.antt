use Rattle.std.proofs.Common.{refl, rules}
use Rattle.pp_model.specs.declared.moves.Move.TheVariants as move
use Rattle.pp_model.specs.declared.reply.Reply.TheVariants.{NotNow, OffPlan}
use Rattle.pp_model.specs.declared.refusals.Delay.TheVariants.{LatchHeld}
use Rattle.pp_model.specs.declared.refusals.Cause.TheVariants.{NotDirty, NoFlushLeft}
use Rattle.pp_core.specs.Parts.{parts_of}
use Rattle.pp_core.proofs.FlushMoves.{not_dirty, none_left, latch_held}
use Rattle.pp_core.proofs.RefusalTies.{refused_so, begin_possible}
use Rattle.pp_core.proofs.table.Table.flush_begin_refusal.Goals as goal

pub returns-then-not-is_changed : goal.returns-then-not-is_changed
returns-then-not-is_changed c =
    let f = parts_of c.args.self.now in
    refused_so f (move.FlushBegin c.args.page) (OffPlan NotDirty) refl
    (not_dirty f c.args.page (search rules) (search rules))

pub returns-then-self-eq0 : goal.returns-then-self-eq0
returns-then-self-eq0 c =
    let f = parts_of c.args.self.now in
    refused_so f (move.FlushBegin c.args.page) (OffPlan NoFlushLeft) refl
    (none_left f c.args.page (search rules) (search rules) c.if-self-eq0.true)

pub returns-then-is_latched : goal.returns-then-is_latched
returns-then-is_latched c =
    let f = parts_of c.args.self.now in
    refused_so f (move.FlushBegin c.args.page) (NotNow LatchHeld) refl
    (latch_held f c.args.page (search rules) (search rules) (search rules) (search rules))

pub returns : goal.returns
returns c =
    begin_possible (parts_of c.args.self.now) c.args.page (search rules) (search rules) (search rules) (search rules)
