use Rattle.std.proofs.Common.{◌≡◌, ℕ, ◌+◌, ◌<◌, ◌≤◌, get_or, vec_items, vec_len}
use Rattle.std.specs.Prelude.{vec_capacity}
use Rattle.std.specs.Vec.Iter.{into_iter_items, into_iter_len}
use Rattle.pp_run.proofs.threads.run_workers.Given as goal

abbrev pub invariant-loop-device : goal.invariant-loop-device
invariant-loop-device g l =
    let devices = into_iter_items l.initial.device-iterator in let rest = l.device-iterator in
    (l.worker + into_iter_len rest ≡ into_iter_len l.initial.device-iterator)
    × (vec_len l.handles ≡ l.worker)
    × ((k : ℕ) (d : _) → k < into_iter_len rest → get_or (into_iter_items rest) k d ≡ get_or devices (l.worker + k) d)
    × ((k : ℕ) (d : _) (h : _) → k < l.worker → (get_or (vec_items l.handles) k h).promise.0.value ≡ get_or devices k d)
    × (into_iter_len l.works ≡ into_iter_len rest)
    × (l.worker + into_iter_len rest ≤ vec_capacity l.handles)
