use Rattle.std.proofs.Common.{sym, subst, rules}
use Rattle.pp_model.specs.declared.moves.Move.TheVariants as move
use Rattle.pp_model.specs.declared.reply.Reply.TheVariants.{Flushed}
use Rattle.pp_core.specs.Parts.{Parts, parts_of}
use Rattle.pp_core.specs.StandsFor.{Moves}
use Rattle.pp_core.proofs.FlushMoves.{flushed_in, flush_done_moves}
use Rattle.pp_core.proofs.table.Table.flush_done.Goals as goal

pub end_flush-requires-clause-page : goal.end_flush-requires-clause-page
end_flush-requires-clause-page c =
    flushed_in (parts_of c.args.self.now) c.in-Some.flush c.requires (search rules)

pub returns-clause-moves : goal.returns-clause-moves
returns-clause-moves c =
    let f = parts_of c.args.self.now in
    let clean = c.is_clean-clean.result in
    subst (λ (g : Parts). Moves f (move.FlushDone c.args.ok) (Flushed clean) g) (sym c.end_flush.ensures)
    (flush_done_moves f c.in-Some.flush c.args.ok (search rules) clean c.is_clean-clean.ensures)
