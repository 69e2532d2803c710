use Rattle.std.proofs.Common.{rules}
use Rattle.pp_frames.specs.Marks.{latches_of, with_latch}
use Rattle.pp_core.specs.Busy.{page_of}
use Rattle.pp_core.proofs.KnowsTies.{Knows-granted}
use Rattle.pp_core.specs.Parts.{parts_of}
use Rattle.pp_core.proofs.UsingMoves.{can_grant, can_latch, latch_refused, latch_moves}
use Rattle.pp_core.proofs.table.Table.latch_held.Goals as goal

pub grant-requires : goal.grant-requires
grant-requires c = record {
  spare_pin = can_grant (parts_of c.args.self.now) c.args.worker c.args.slot c.args.page c.args.mode c.requires.asks
      c.requires.page c.requires.kept;
}

pub returns-then-not-grant-clause-moves : goal.returns-then-not-grant-clause-moves
returns-then-not-grant-clause-moves c =
    latch_refused (parts_of c.args.self.now) c.args.worker c.args.slot c.args.page c.args.mode c.requires.asks
    c.requires.page c.grant.new.self (search rules) (c.grant.ensures.refused c.if-not-grant.true)

pub spend-requires : goal.spend-requires
spend-requires c =
    can_latch (parts_of c.args.self.now) c.args.worker c.args.slot c.args.page c.args.mode c.requires.asks
    c.requires.page c.requires.kept c.grant.new.self

pub returns-clause-moves : goal.returns-clause-moves
returns-clause-moves c =
    latch_moves (parts_of c.args.self.now) c.args.worker c.args.slot c.args.page c.args.mode c.requires.asks
    c.requires.page (parts_of c.spend.new.self) c.grant.new.self c.mark_at.result (search rules) (search rules)
    c.spend.ensures c.mark_at.ensures

pub invariant_of-self-clause-knows : goal.invariant_of-self-clause-knows
invariant_of-self-clause-knows c =
    Knows-granted c.args.self.now.directory c.args.self.now.search c.args.self.now.marks c.grant.new.self
    (page_of c.args.self.now.flush) c.args.page
    (with_latch c.latch_mode.result (latches_of c.args.self.now.marks c.args.page)) c.grant.result
    c.grant.ensures.granted c.grant.ensures.refused c.args.self.now.knows
