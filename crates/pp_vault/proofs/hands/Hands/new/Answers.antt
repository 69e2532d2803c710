use Rattle.std.proofs.Common.{arith}
use Rattle.pp_vault.proofs.OpeningHands.{one_more}
use Rattle.pp_vault.proofs.hands.Hands.new.Goals as goal

pub loop-worker-preserved : goal.loop-worker-preserved
loop-worker-preserved c =
    record {
      idle =
          rw (c.push_reserved.ensures.items, c.of-in-loop-worker.ensures, c.of.ensures, c.in_ok-guards.ensures)
          (one_more c.loop-worker.worker c.loop-worker.places.items c.loop-worker.invariant.idle);
      room = omega (arith, c.push_reserved.ensures.capacity, c.loop-worker.invariant.room);
    }
