use Rattle.std.proofs.Common.{sym, subst, rules}
use Rattle.pp_model.specs.declared.moves.Move.TheVariants as move
use Rattle.pp_model.specs.declared.reply.Reply.TheVariants.{Flushing}
use Rattle.pp_core.specs.Parts.{Parts, parts_of}
use Rattle.pp_core.specs.StandsFor.{Moves}
use Rattle.pp_core.proofs.FlushMoves.{not_dirty, none_left, latch_held, flush_begin_moves}
use Rattle.pp_core.proofs.table.Table.flush_begin.Goals as goal

pub returns-then-not-is_changed-clause-moves : goal.returns-then-not-is_changed-clause-moves
returns-then-not-is_changed-clause-moves c =
    not_dirty (parts_of c.args.self.now) c.args.page (search rules) (search rules)

pub returns-then-self-eq0-clause-moves : goal.returns-then-self-eq0-clause-moves
returns-then-self-eq0-clause-moves c =
    none_left (parts_of c.args.self.now) c.args.page (search rules) (search rules) c.if-self-eq0.true

pub returns-then-is_latched-clause-moves : goal.returns-then-is_latched-clause-moves
returns-then-is_latched-clause-moves c =
    latch_held (parts_of c.args.self.now) c.args.page (search rules) (search rules) (search rules) (search rules)

pub returns-clause-moves : goal.returns-clause-moves
returns-clause-moves c =
    let f = parts_of c.args.self.now in
    let mark = c.mark_at-mark.result in
    subst (λ (g : Parts). Moves f (move.FlushBegin c.args.page) (Flushing mark) g) (sym c.begin_flush.ensures)
    (flush_begin_moves f c.args.page (search rules) (search rules) (search rules) (search rules) mark
    c.mark_at-mark.ensures)
