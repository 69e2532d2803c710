use Rattle.std.proofs.Common.{◌≡◌, ℕ, ◌+◌, ◌<◌, get_or, vec_items, vec_len}
use Rattle.std.specs.Vec.Iter.{into_iter_items, into_iter_len}
use Rattle.pp_run.specs.Ends.{SettledAt}
use Rattle.pp_run.proofs.judging.settle.Given as goal

abbrev pub invariant-loop-end : goal.invariant-loop-end
invariant-loop-end g l =
    let worked = into_iter_items l.initial.end-iterator in let rest = l.end-iterator in
    (l.worker + into_iter_len rest ≡ into_iter_len l.initial.end-iterator)
    × (vec_len l.back ≡ l.worker)
    × ((k : ℕ) (x : _) → k < into_iter_len rest → get_or (into_iter_items rest) k x ≡ get_or worked (l.worker + k) x)
    × ((k : ℕ) (x : _) (d : _) → k < l.worker → SettledAt (get_or worked k x) l.events.items k (get_or (vec_items l.back) k d))
