use Rattle.std.proofs.Common.{ℕ, List, subst, take, arith}
use Rattle.std.specs.Io.KnownBytes.{Appends}
use Rattle.std.proofs.lemmas.List.{length-drop}
use Rattle.pp_cli.proofs.Written.{further, rest_is}
use Rattle.pp_cli.proofs.writing.put.Goals as goal

pub loop-preserved : goal.loop-preserved
loop-preserved g c = record {
  within = omega (arith, length-drop {A = ℕ}, c.in-Some.ensures.within);
  written = further (g.W.Write.contents c.args.to.now) (g.W.Write.contents c.loop.to)
      (g.W.Write.contents c.put_piece.new.to) c.args.bytes.now c.loop.done c.in-Some.count
      c.loop.invariant.written
      (subst (λ (rest : List ℕ). Appends (g.W.Write.contents c.loop.to) (g.W.Write.contents c.put_piece.new.to) (take c.in-Some.count rest))
      (rest_is c.args.bytes.now c.loop.done) c.in-Some.ensures.piece);
}
