use Rattle.std.proofs.Common.{◌∙◌, sym, arith}
use Rattle.pp_model.specs.declared.moves.Move.TheVariants as move
use Rattle.pp_core.specs.Parts.{parts_of}
use Rattle.pp_core.proofs.ReadMoves.{end_few, unlatch_asks, page_there, held_there, unlatch_goes, end_kept_between, unfix_asks}
use Rattle.pp_core.proofs.ReadMoves.{page_stays, end_moves, end_acts}
use Rattle.pp_core.proofs.Standing.{kept_after}
use Rattle.pp_core.proofs.table.Table.unshare_and_unfix.Goals as goal

pub overflow_cast-own : goal.overflow_cast-own
overflow_cast-own c =
    let few = end_few (parts_of c.args.self.now) c.requires c.args.worker c.args.slot c.args.page
    (λ s st. sym (c.can_end_read.ensures s st) ∙ c.if-not-can_end_read.false) in
    omega (arith, few)

pub unlatch_held-requires : goal.unlatch_held-requires
unlatch_held-requires c = record {
  kept = c.requires;
  asks = unlatch_asks (parts_of c.args.self.now) c.requires c.args.worker c.args.slot c.args.page
      (λ s st. sym (c.can_end_read.ensures s st) ∙ c.if-not-can_end_read.false);
  page = page_there (parts_of c.args.self.now) c.requires c.args.worker c.args.slot c.args.page
      (λ s st. sym (c.can_end_read.ensures s st) ∙ c.if-not-can_end_read.false);
  held = held_there (parts_of c.args.self.now) c.requires c.args.worker c.args.slot c.args.page
      (λ s st. sym (c.can_end_read.ensures s st) ∙ c.if-not-can_end_read.false);
}

pub unreachable-requires : goal.unreachable-requires
unreachable-requires c =
    let goes =
    unlatch_goes (parts_of c.args.self.now) c.requires c.args.worker c.args.slot c.args.page
    (λ s st. sym (c.can_end_read.ensures s st) ∙ c.if-not-can_end_read.false) (parts_of c.unlatch_held.new.self)
    c.unlatch_held.result c.unlatch_held.ensures.moves in
    c.in_default.not-Unlatched goes.0 goes.1

pub unfix_held-did-requires : goal.unfix_held-did-requires
unfix_held-did-requires c = record {
  kept = end_kept_between (parts_of c.args.self.now) c.requires c.args.worker c.args.slot c.args.page
      (λ s st. sym (c.can_end_read.ensures s st) ∙ c.if-not-can_end_read.false) (parts_of c.unlatch_held.new.self)
      c.in-Unlatched.mark c.in-Unlatched.ensures.moves;
  asks = unfix_asks (parts_of c.args.self.now) c.requires c.args.worker c.args.slot c.args.page
      (λ s st. sym (c.can_end_read.ensures s st) ∙ c.if-not-can_end_read.false) (parts_of c.unlatch_held.new.self)
      c.in-Unlatched.mark c.in-Unlatched.ensures.moves;
  page = page_stays (parts_of c.args.self.now) c.requires c.args.worker c.args.slot c.args.page
      (λ s st. sym (c.can_end_read.ensures s st) ∙ c.if-not-can_end_read.false) (parts_of c.unlatch_held.new.self)
      c.in-Unlatched.mark c.in-Unlatched.ensures.moves;
}

pub asked-requires : goal.asked-requires
asked-requires c =
    kept_after (parts_of c.unlatch_held.new.self) (parts_of c.unfix_held-did.new.self) (move.Unfix c.args.worker)
    c.unfix_held-did.result
    (end_kept_between (parts_of c.args.self.now) c.requires c.args.worker c.args.slot c.args.page
    (λ s st. sym (c.can_end_read.ensures s st) ∙ c.if-not-can_end_read.false) (parts_of c.unlatch_held.new.self)
    c.in-Unlatched.mark c.in-Unlatched.ensures.moves) c.unfix_held-did.ensures.moves

pub unreachable-requires-in-Err : goal.unreachable-requires-in-Err
unreachable-requires-in-Err c =
    end_acts (parts_of c.args.self.now) c.requires c.args.worker c.args.slot c.args.page
    (λ s st. sym (c.can_end_read.ensures s st) ∙ c.if-not-can_end_read.false) (parts_of c.unlatch_held.new.self)
    c.in-Unlatched.mark c.in-Unlatched.ensures.moves (parts_of c.unfix_held-did.new.self) c.unfix_held-did.result
    c.unfix_held-did.ensures.moves c.in-Err.field-0 c.in-Err.ensures.cause

pub returns-clause-moves : goal.returns-clause-moves
returns-clause-moves c =
    end_moves (parts_of c.args.self.now) c.requires c.args.worker c.args.slot c.args.page
    (λ s st. sym (c.can_end_read.ensures s st) ∙ c.if-not-can_end_read.false) (parts_of c.unlatch_held.new.self)
    c.in-Unlatched.mark c.in-Unlatched.ensures.moves (parts_of c.unfix_held-did.new.self) c.unfix_held-did.result
    c.unfix_held-did.ensures.moves
