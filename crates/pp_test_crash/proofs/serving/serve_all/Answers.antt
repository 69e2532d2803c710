use mathlib.Core.List.{List, [], ◌∷◌}
use mir.Syntax.{Sym, named, w64}
use denote.RattleType.{RattleType}
use denote.Ref.{ShrRef}
use denote.Param.{param}
use denote.Plain.{UInt}
use denote.Struct.Tuple.{TupleAt}
use denote.Param.Send.{IsSync, shr_sync, sendable}
use Rattle.std.proofs.Crossing.{crosses}
use Rattle.std.specs.contracts.alloc.Global.{the_row as heap_row}
use Rattle.std.specs.contracts.sync.Mutex.{the_row as mutex_row}
use Rattle.pp_buffer_pool.specs.contracts.pool.BufferPool.{the_row as pool_row}
use Rattle.pp_buffer_pool.proofs.Sent.{pool_sync, closure_sync}
use Rattle.pp_btree.specs.contracts.serve.Plans.{the_row as plans_row}
use Rattle.pp_btree.proofs.serve.Plans.TheSendSync as plans
use Rattle.pp_test_crash.specs.contracts.redo_log.RedoLog.{the_row as log_row}
use Rattle.pp_test_crash.proofs.redo_log.RedoLog.TheSendSync as log
use Rattle.pp_test_crash.proofs.serving.serve_all.Goals as goal

-- the closure's name: pp_test_crash::serving::fn::serve_all::map_indices+Self
called : Sym
called = 112 ∷ 112 ∷ 95 ∷ 116 ∷ 101 ∷ 115 ∷ 116 ∷ 95 ∷ 99 ∷ 114 ∷ 97 ∷ 115 ∷ 104 ∷ 58 ∷ 58 ∷ 115 ∷ 101 ∷ 114 ∷ 118 ∷ 105 ∷ 110 ∷ 103 ∷ 58 ∷ 58 ∷ 102 ∷ 110 ∷ 58 ∷ 58 ∷ 115 ∷ 101 ∷ 114 ∷ 118 ∷ 101 ∷ 95 ∷ 97 ∷ 108 ∷ 108 ∷ 58 ∷ 58 ∷ 109 ∷ 97 ∷ 112 ∷ 95 ∷ 105 ∷ 110 ∷ 100 ∷ 105 ∷ 99 ∷ 101 ∷ 115 ∷ 43 ∷ 83 ∷ 101 ∷ 108 ∷ 102 ∷ []

pub map_indices-requires-sync-F : goal.map_indices-requires-sync-F
unfolding called
map_indices-requires-sync-F g c κs within =
    let D = param 0 g.row.D in
    let E = param 1 g.row.E in
    let R = param 2 g.row.R in
    let heap : IsSync heap_row = search (sendable, crosses) depth 24 fits 5000 in
    let pool : IsSync (pool_row D) = pool_sync D c.type_bounds.send-D in
    let has : IsSync (mutex_row log_row) = search (log.the_send, sendable, crosses) depth 24 fits 5000 in
    let other : IsSync (mutex_row E) = search (c.type_bounds.send-E, sendable, crosses) depth 24 fits 5000 in
    let word : IsSync (UInt w64) = search sendable in
    let Ts : List RattleType = ShrRef (named 6) κs.1.1.1.1.1.1.0 heap_row ∷ ShrRef (named 7) κs.1.1.1.1.1.1.1.0 (pool_row D) ∷ ShrRef (named 8) κs.1.1.1.1.1.1.1.1.0 plans_row ∷ ShrRef (named 9) κs.1.1.1.1.1.1.1.1.1.0 (mutex_row log_row) ∷ ShrRef (named 10) κs.1.1.1.1.1.1.1.1.1.1.0 (mutex_row E) ∷ ShrRef (named 11) κs.1.1.1.1.1.1.1.1.1.1.1.0 R ∷ ShrRef (named 12) κs.1.1.1.1.1.1.1.1.1.1.1.1.0 (UInt w64) ∷ [] in
    let closure : IsSync (TupleAt called Ts)
    = closure_sync called Ts
    (shr_sync (named 6) κs.1.1.1.1.1.1.0 heap_row heap, (shr_sync (named 7) κs.1.1.1.1.1.1.1.0 (pool_row D) pool, (shr_sync (named 8) κs.1.1.1.1.1.1.1.1.0 plans_row plans.the_sync, (shr_sync (named 9) κs.1.1.1.1.1.1.1.1.1.0 (mutex_row log_row) has, (shr_sync (named 10) κs.1.1.1.1.1.1.1.1.1.1.0 (mutex_row E) other, (shr_sync (named 11) κs.1.1.1.1.1.1.1.1.1.1.1.0 R c.type_bounds.sync-R, (shr_sync (named 12) κs.1.1.1.1.1.1.1.1.1.1.1.1.0 (UInt w64) word, tt))))))) in
    record { shared = closure.shared }
