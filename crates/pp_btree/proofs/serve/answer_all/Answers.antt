use mathlib.Core.List.{List, [], ◌∷◌}
use mir.Syntax.{Sym, named}
use denote.RattleType.{RattleType}
use denote.Ref.{ShrRef}
use denote.Param.{param}
use denote.Struct.Tuple.{TupleAt}
use denote.Param.Send.{IsSync, shr_sync, sendable}
use Rattle.std.proofs.Crossing.{crosses}
use Rattle.pp_buffer_pool.specs.contracts.pool.BufferPool.{the_row as pool_row}
use Rattle.pp_buffer_pool.proofs.Sent.{pool_sync, closure_sync}
use Rattle.std.specs.contracts.sync.Mutex.{the_row as mutex_row}
use Rattle.pp_btree.specs.contracts.serve.Plans.{the_row as plans_row}
use Rattle.pp_btree.specs.contracts.serve.Desk.{the_row as desk_row}
use Rattle.pp_btree.specs.contracts.serve.OnceLeft.{the_row as once_row}
use Rattle.pp_btree.proofs.serve.Plans.TheSendSync as plans
use Rattle.pp_btree.proofs.serve.Desk.TheSendSync as desk
use Rattle.pp_btree.proofs.serve.OnceLeft.TheSendSync as once
use Rattle.pp_btree.proofs.serve.answer_all.Goals as goal

-- the closure's name
called : Sym
called = 112 ∷ 112 ∷ 95 ∷ 98 ∷ 116 ∷ 114 ∷ 101 ∷ 101 ∷ 58 ∷ 58 ∷ 115 ∷ 101 ∷ 114 ∷ 118 ∷ 101 ∷ 58 ∷ 58 ∷ 102 ∷ 110 ∷ 58 ∷ 58 ∷ 97 ∷ 110 ∷ 115 ∷ 119 ∷ 101 ∷ 114 ∷ 95 ∷ 97 ∷ 108 ∷ 108 ∷ 58 ∷ 58 ∷ 109 ∷ 97 ∷ 112 ∷ 95 ∷ 105 ∷ 110 ∷ 100 ∷ 105 ∷ 99 ∷ 101 ∷ 115 ∷ 43 ∷ 83 ∷ 101 ∷ 108 ∷ 102 ∷ []

pub map_indices-requires-sync-F : goal.map_indices-requires-sync-F
unfolding called
map_indices-requires-sync-F g c κs within =
    let R = param 1 g.row.R in
    let D = param 0 g.row.D in
    let pool : IsSync (pool_row D) = pool_sync D c.type_bounds.send-D in
    let has : IsSync (mutex_row desk_row) = search (desk.the_send, sendable, crosses) depth 24 fits 5000 in
    let Ts : List RattleType = ShrRef (named 6) κs.1.1.1.1.1.1.0 R ∷ ShrRef (named 7) κs.1.1.1.1.1.1.1.0 (pool_row D) ∷ ShrRef (named 8) κs.1.1.1.1.1.1.1.1.0 plans_row ∷ ShrRef (named 9) κs.1.1.1.1.1.1.1.1.1.0 (mutex_row desk_row) ∷ ShrRef (named 10) κs.1.1.1.1.1.1.1.1.1.1.0 once_row ∷ [] in
    let closure : IsSync (TupleAt called Ts)
    = closure_sync called Ts
    (shr_sync (named 6) κs.1.1.1.1.1.1.0 R c.type_bounds.sync-R, (shr_sync (named 7) κs.1.1.1.1.1.1.1.0 (pool_row D) pool, (shr_sync (named 8) κs.1.1.1.1.1.1.1.1.0 plans_row plans.the_sync, (shr_sync (named 9) κs.1.1.1.1.1.1.1.1.1.0 (mutex_row desk_row) has, (shr_sync (named 10) κs.1.1.1.1.1.1.1.1.1.1.0 once_row once.the_sync, tt))))) in
    record { shared = closure.shared }
