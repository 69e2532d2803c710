use Rattle.std.proofs.Common.{arith, refl}
use Rattle.pp_plan.proofs.Bundles.{none_marked}
use Rattle.pp_plan.proofs.numbering.new_bundles.Goals as goal

pub loop-slot-init : goal.loop-slot-init
loop-slot-init c = record { long = refl; slots = λ k below. absurd (omega arith); past = λ k above. none_marked 32 k }

pub returns-clause-slots : goal.returns-clause-slots
returns-clause-slots c = λ k below. c.loop-slot.invariant.slots k (omega arith)

pub returns-clause-past : goal.returns-clause-past
returns-clause-past c = λ k above. c.loop-slot.invariant.past k (omega arith)
