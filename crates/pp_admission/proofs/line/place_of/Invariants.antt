-- What the walk keeps true: none of those that were passed has the ticket.
use Rattle.std.proofs.Common.{◌≡◌, drop}
use Rattle.pp_admission.specs.Queues.{holder}
use Rattle.pp_admission.proofs.line.place_of.Given as goal

abbrev pub invariant-loop-place : goal.invariant-loop-place
invariant-loop-place l = holder l.ticket (drop l.place l.line) ≡ holder l.ticket l.line
