use mathlib.Core.List.{List, [], ◌∷◌}
use mir.Syntax.{Sym, named}
use denote.RattleType.{RattleType}
use denote.Ref.{ShrRef}
use denote.Param.{param}
use denote.Struct.Tuple.{TupleAt}
use denote.Param.Send.{IsSend, IsSync, shr_sync, sendable}
use Rattle.std.proofs.Crossing.{crosses}
use Rattle.std.specs.contracts.alloc.Global.{the_row as heap_row}
use Rattle.pp_settings.specs.contracts.settings.Settings.{the_row as settings_row}
use Rattle.pp_settings.proofs.settings.Settings.TheSendSync as settings
use Rattle.pp_buffer_pool.specs.contracts.pool.BufferPool.{the_row as pool_row}
use Rattle.pp_buffer_pool.proofs.Sent.{pool_sync, closure_sync}
use Rattle.pp_test_service.specs.contracts.watched.Watched.{the_row as watched_row}
use Rattle.pp_test_service.specs.contracts.board.Board.{the_row as board_row}
use Rattle.pp_test_service.proofs.board.Board.TheSendSync as board
use Rattle.pp_test_service.proofs.watched.Watched.TheSendSync as watched
use Rattle.pp_test_service.proofs.threads.act_in_waves.Goals as goal

-- Threads can share the pool of a scene.
shared_pool : (T : RattleType) → IsSend T → IsSync (pool_row (watched_row T))
shared_pool T s = pool_sync (watched_row T) (watched.the_send T s)

-- the closure's name: pp_test_service::threads::fn::act_in_waves::map_indices+Self
called : Sym
called = 112 ∷ 112 ∷ 95 ∷ 116 ∷ 101 ∷ 115 ∷ 116 ∷ 95 ∷ 115 ∷ 101 ∷ 114 ∷ 118 ∷ 105 ∷ 99 ∷ 101 ∷ 58 ∷ 58 ∷ 116 ∷ 104 ∷ 114 ∷ 101 ∷ 97 ∷ 100 ∷ 115 ∷ 58 ∷ 58 ∷ 102 ∷ 110 ∷ 58 ∷ 58 ∷ 97 ∷ 99 ∷ 116 ∷ 95 ∷ 105 ∷ 110 ∷ 95 ∷ 119 ∷ 97 ∷ 118 ∷ 101 ∷ 115 ∷ 58 ∷ 58 ∷ 109 ∷ 97 ∷ 112 ∷ 95 ∷ 105 ∷ 110 ∷ 100 ∷ 105 ∷ 99 ∷ 101 ∷ 115 ∷ 43 ∷ 83 ∷ 101 ∷ 108 ∷ 102 ∷ []

-- (a search of its own gives up where so many types stand in one another)
pub map_indices-all-requires-sync-F : goal.map_indices-all-requires-sync-F
unfolding called
map_indices-all-requires-sync-F g c κs within =
    let R = param 0 g.row.R in
    let heap : IsSync heap_row = search (sendable, crosses) depth 24 fits 5000 in
    let pool : IsSync (pool_row (watched_row R)) = shared_pool R c.type_bounds.send-R in
    let Ts : List RattleType
    = ShrRef (named 6) κs.1.1.1.1.1.1.0 R ∷ ShrRef (named 7) κs.1.1.1.1.1.1.1.0 heap_row
    ∷ ShrRef (named 8) κs.1.1.1.1.1.1.1.1.0 settings_row ∷ ShrRef (named 9) κs.1.1.1.1.1.1.1.1.1.0 (pool_row (watched_row R))
    ∷ ShrRef (named 11) κs.1.1.1.1.1.1.1.1.1.1.1.0 board_row ∷ [] in
    let closure : IsSync (TupleAt called Ts)
    = closure_sync called Ts (
      shr_sync (named 6) κs.1.1.1.1.1.1.0 R c.type_bounds.sync-R,
      (
        shr_sync (named 7) κs.1.1.1.1.1.1.1.0 heap_row heap,
        (
          shr_sync (named 8) κs.1.1.1.1.1.1.1.1.0 settings_row settings.the_sync,
          (
            shr_sync (named 9) κs.1.1.1.1.1.1.1.1.1.0 (pool_row (watched_row R)) pool,
            (shr_sync (named 11) κs.1.1.1.1.1.1.1.1.1.1.1.0 board_row board.the_sync, tt),
          ),
        ),
      ),
    ) in
    record { shared = closure.shared }
