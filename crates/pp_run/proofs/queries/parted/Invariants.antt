use Rattle.std.proofs.Common.{◌≡◌, ◌+◌, ◌++◌, ◌≤◌, vec_len}
use Rattle.std.specs.Prelude.{vec_capacity}
use Rattle.std.specs.Vec.Iter.{into_iter_items, into_iter_len}
use Rattle.pp_run.specs.Planned.{plans_in}
use Rattle.pp_run.proofs.queries.parted.Given as goal

abbrev pub invariant-loop-plan : goal.invariant-loop-plan
invariant-loop-plan g l =
    let asked = l.initial.plan-iterator in let rest = l.plan-iterator in
    (l.accepted.items ++ plans_in (into_iter_items rest) ≡ plans_in (into_iter_items asked))
    × (vec_len l.accepted + into_iter_len rest ≡ into_iter_len asked)
    × (vec_len l.places + into_iter_len rest ≡ into_iter_len asked)
    × (into_iter_len asked ≤ vec_capacity l.accepted)
    × (into_iter_len asked ≤ vec_capacity l.places)
