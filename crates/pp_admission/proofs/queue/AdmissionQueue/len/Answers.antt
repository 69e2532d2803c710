use Rattle.std.proofs.Common.{arith}
use Rattle.pp_admission.proofs.queue.AdmissionQueue.len.Goals as goal

pub overflow_cast-result : goal.overflow_cast-result
overflow_cast-result c =
    omega (arith, c.self.invariant.sound.few, c.self.invariant.most_fits, c.self.inside.waiting.ok.0)
