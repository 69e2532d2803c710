use Rattle.std.proofs.Common.{◌≡◌, ◌∙◌, ◌<◌, length, sym, ap, arith, true}
use Rattle.pp_vault.specs.Holding.{placed}
use Rattle.pp_pool.specs.Lent.{is_writer}
use Rattle.pp_pool.proofs.WayOut.{off_at_writer}
use Rattle.pp_pool.proofs.held.first_exclusive.Goals as goal

pub returns-then-is_exclusive : goal.returns-then-is_exclusive
returns-then-is_exclusive c =
    let places = c.args.guards.now in
    let long : length places ≡ 32 = c.is_exclusive.ensures.long in
    let below : c.loop-slot.slot < 32 = c.loop-slot-test.true in
    let is : is_writer (placed places c.loop-slot.slot) ≡ true =
    ap (λ n. is_writer (placed places n)) (sym c.from.ensures) ∙ sym c.if-is_exclusive.ensures.writer in
    sym (off_at_writer places c.loop-slot.slot (omega (arith, long, below)) is) ∙ c.loop-slot.invariant.rest
