use Rattle.std.proofs.Common.{◌≡◌, ℕ, ◌+◌, List, [], ◌∷◌, ◌++◌, ap₂, sym, Option, ◌∙◌, map, arith}
use Rattle.std.specs.List.{range_with_len}
use Rattle.std.proofs.lemmas.List.FromFn.{map-range_with_len_more}
use Rattle.pp_model.specs.Pool.{State}
use Rattle.pp_model.specs.Moves.{seat_of}
use Rattle.pp_draw.specs.declared.column.Doing.{Doing}
use Rattle.pp_draw.specs.declared.column.Latches.{Latches}
use Rattle.pp_draw.specs.declared.column.WorkerAt.{WorkerAt}
use Rattle.pp_draw.specs.declared.column.Wait.{Wait}
use Rattle.pp_draw.specs.Columns.{doing_by, latches_below, wait_of, worker_at}
use Rattle.pp_draw.proofs.column.workers_of.Goals as goal

one_worker : (s : State) (n : ℕ) (all new : List WorkerAt) (d : Doing) (l : Latches) (x : Option Wait)
    → new ≡ all ++ (record { doing = d; latches = l; wait = x }) ∷ [] → all ≡ map (worker_at s) (range_with_len 0 n)
    → d ≡ doing_by (seat_of s n) → l ≡ latches_below s n 32 → x ≡ wait_of s n
    → new ≡ map (worker_at s) (range_with_len 0 (n + 1))
one_worker s n all new d l x e before ed el ex =
    let it : ◌≡◌ {A = WorkerAt} (record { doing = d; latches = l; wait = x }) (worker_at s n) =
    λ i. record { doing = ed i; latches = el i; wait = ex i } in
    e ∙ ap₂ (λ (xs : List WorkerAt) (x : WorkerAt). xs ++ x ∷ []) before it
    ∙ sym (map-range_with_len_more (worker_at s) 0 n n (omega arith))

pub loop-worker-preserved : goal.loop-worker-preserved
loop-worker-preserved c = λ s st.
    one_worker s c.loop-worker.worker c.loop-worker.all.items _ _ _ _ c.in_ok-push.ensures.items
    (c.loop-worker.invariant s st) (c.doing_of.ensures s st) (c.latches_of.ensures s st) (c.wait_of.ensures s st)
