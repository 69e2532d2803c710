use Rattle.std.proofs.Common.{◌≡◌, ◌+◌, ◌≤◌, vec_len}
use Rattle.std.specs.Prelude.{vec_capacity}
use Rattle.std.specs.Vec.Iter.{into_iter_len}
use Rattle.pp_run.proofs.queries.Works.into_queries.Given as goal

abbrev pub invariant-loop-place : goal.invariant-loop-place
invariant-loop-place g l =
    (vec_len l.queries + into_iter_len l.place-iterator ≡ into_iter_len l.initial.place-iterator)
    × (into_iter_len l.initial.place-iterator ≤ vec_capacity l.queries)
