use Rattle.std.proofs.Common.{◌≡◌, None, replicate, vec_capacity}
use Rattle.pp_steps.proofs.seats.Seats.new.Given as goal

abbrev pub invariant-loop : goal.invariant-loop
invariant-loop g l =
    (l.places.items ≡ replicate l.counter (record { turn = 0; seated = None })) × (vec_capacity l.places ≡ l.chairs)
