use mathlib.Core.List.{List, [], ◌∷◌}
use mir.Syntax.{Sym, named, w64}
use denote.RattleType.{RattleType}
use denote.Ref.{ShrRef}
use denote.Param.{param}
use denote.Struct.Tuple.{TupleAt}
use denote.Param.Send.{IsSync, shr_sync, sendable}
use Rattle.std.proofs.Crossing.{crosses}
use Rattle.pp_buffer_pool.specs.contracts.pool.BufferPool.{the_row as pool_row}
use Rattle.pp_buffer_pool.proofs.Sent.{pool_sync, closure_sync}
use denote.Plain.{UInt}
use Rattle.std.specs.contracts.alloc.Global.{the_row as heap_row}
use Rattle.pp_buffer_pool.specs.contracts.plan.PreparedPlan.{the_row as plan_row}
use Rattle.pp_bench_pool.specs.contracts.asked.Load.{the_row as load_row}
use Rattle.pp_bench_pool.proofs.served.clients.Goals as goal

-- the closure's name
called : Sym
called = 112 ∷ 112 ∷ 95 ∷ 98 ∷ 101 ∷ 110 ∷ 99 ∷ 104 ∷ 95 ∷ 112 ∷ 111 ∷ 111 ∷ 108 ∷ 58 ∷ 58 ∷ 115 ∷ 101 ∷ 114 ∷ 118 ∷ 101 ∷ 100 ∷ 58 ∷ 58 ∷ 102 ∷ 110 ∷ 58 ∷ 58 ∷ 99 ∷ 108 ∷ 105 ∷ 101 ∷ 110 ∷ 116 ∷ 115 ∷ 58 ∷ 58 ∷ 109 ∷ 97 ∷ 112 ∷ 95 ∷ 105 ∷ 110 ∷ 100 ∷ 105 ∷ 99 ∷ 101 ∷ 115 ∷ 43 ∷ 83 ∷ 101 ∷ 108 ∷ 102 ∷ []

pub map_indices-requires-sync-F : goal.map_indices-requires-sync-F
unfolding called
map_indices-requires-sync-F g c κs within =
    let R = param 1 g.row.R in
    let D = param 0 g.row.D in
    let pool : IsSync (pool_row D) = pool_sync D c.type_bounds.send-D in
    let heap : IsSync heap_row = search (sendable, crosses) depth 24 fits 5000 in
    let plan : IsSync plan_row = search (sendable, crosses) depth 24 fits 5000 in
    let load : IsSync load_row = search (sendable, crosses) depth 24 fits 5000 in
    let word : IsSync (UInt w64) = search sendable in
    let Ts : List RattleType = ShrRef (named 6) κs.1.1.1.1.1.1.0 R ∷ ShrRef (named 7) κs.1.1.1.1.1.1.1.0 heap_row ∷ ShrRef (named 8) κs.1.1.1.1.1.1.1.1.0 (pool_row D) ∷ ShrRef (named 9) κs.1.1.1.1.1.1.1.1.1.0 plan_row ∷ ShrRef (named 10) κs.1.1.1.1.1.1.1.1.1.1.0 load_row ∷ ShrRef (named 11) κs.1.1.1.1.1.1.1.1.1.1.1.0 (UInt w64) ∷ [] in
    let closure : IsSync (TupleAt called Ts)
    = closure_sync called Ts
    (shr_sync (named 6) κs.1.1.1.1.1.1.0 R c.type_bounds.sync-R, (shr_sync (named 7) κs.1.1.1.1.1.1.1.0 heap_row heap, (shr_sync (named 8) κs.1.1.1.1.1.1.1.1.0 (pool_row D) pool, (shr_sync (named 9) κs.1.1.1.1.1.1.1.1.1.0 plan_row plan, (shr_sync (named 10) κs.1.1.1.1.1.1.1.1.1.1.0 load_row load, (shr_sync (named 11) κs.1.1.1.1.1.1.1.1.1.1.1.0 (UInt w64) word, tt)))))) in
    record { shared = closure.shared }
