-- Threads can share a pool by reference, if its devices can be handed to another thread. (A search for this gives up where so
-- many types stand in one another.)
use mathlib.Core.List.{List, [], ◌∷◌}
use mir.Syntax.{Sym}
use denote.RattleType.{RattleType}
use denote.Struct.Field.{row_field}
use denote.Struct.Tuple.{parts, type_at, TupleAt}
use denote.Param.Send.{IsSend, IsSync, AllSync, sendable}
use denote.Param.SendFields.{FieldsHave, as_row_sync, declared_send, declared_sync}
use Rattle.std.proofs.Crossing.{crosses}
use Rattle.std.proofs.MapsCrossing.{crosses as maps}
use Rattle.circular_buffer.proofs.heap.HeapCircularBuffer.TheSendSync as ring
use Rattle.pp_settings.proofs.layout.Layout.TheSendSync as layout
use Rattle.pp_arc.proofs.directory.Directory.TheSendSync as directory
use Rattle.pp_arc.proofs.names.Names.TheSendSync as listed
use Rattle.pp_arc.proofs.search.Search.TheSendSync as searching
use Rattle.pp_bundles.proofs.bundles.Bundles.TheSendSync as bundles
use Rattle.pp_frames.proofs.held.Held.TheSendSync as held
use Rattle.pp_frames.proofs.number_set.NumberSet.TheLaws.TheKnot as numbers
use Rattle.pp_plan.proofs.stmt.Body.TheLaws.TheKnot as body
use Rattle.pp_core.proofs.seat.Seat.TheSendSync as seat
use Rattle.pp_core.proofs.table.Flush.TheSendSync as flush
use Rattle.pp_frames.specs.contracts.records.Records.{the_row as records_row}
use Rattle.pp_frames.specs.contracts.marks.Marks.{the_row as marks_row}
use Rattle.pp_plan.specs.contracts.flat.FlatStep.{the_row as step_row}
use Rattle.pp_plan.specs.contracts.plan.Plan.{the_row as plan_row}
use Rattle.pp_cert.specs.contracts.accepted.Accepted.{the_row as accepted_row}
use Rattle.pp_core.specs.contracts.machine.Core.TheInside.{the_row as core_inside}
use Rattle.pp_core.specs.contracts.machine.Core.{the_row as core_row}
use Rattle.pp_vault.specs.contracts.vault.Vault.TheInside.{the_row as vault_inside}
use Rattle.pp_vault.specs.contracts.vault.Vault.{the_row as vault_row}
use Rattle.pp_ledger.specs.contracts.vault_site.VaultSite.{the_row as site_row, the_type as site_type}
use Rattle.pp_hall.proofs.counts.Counts.TheSendSync as counts
use Rattle.pp_hall.proofs.waiters.Waiters.TheSendSync as waiters
use Rattle.pp_hall.proofs.posts.Posts.TheSendSync as posts
use Rattle.pp_hall.proofs.policy.Policy.TheSendSync as policy
use Rattle.pp_hall.specs.contracts.seating.Seating.TheInside.{the_row as seating_inside, the_type as seating_type}
use Rattle.pp_hall.specs.contracts.seating.Seating.{the_row as seating_row}
use Rattle.pp_hall.specs.contracts.hall.Hall.TheInside.{the_row as hall_inside, the_type as hall_type}
use Rattle.pp_hall.specs.contracts.hall.Hall.{the_row as hall_row}
use Rattle.pp_buffer_pool.proofs.bells.Bells.TheSendSync as bells
use Rattle.pp_buffer_pool.specs.contracts.pool.BufferPool.{the_row as pool_row, the_type as pool_type}

records_send : IsSend records_row
records_send = search (held.the_send, numbers.send-NumberSet, sendable, crosses) depth 24 fits 5000

marks_send : IsSend marks_row
marks_send = search (records_send, numbers.send-NumberSet, sendable, crosses) depth 24 fits 5000

step_send : IsSend step_row
step_send = search sendable depth 40 fits 50000

plan_send : IsSend plan_row
plan_send = search (layout.the_send, body.send-Body, step_send, sendable, crosses, maps) depth 24 fits 5000

accepted_send : IsSend accepted_row
accepted_send = search (plan_send, sendable, crosses) depth 24 fits 5000

core_inside_send : IsSend core_inside
core_inside_send = search (ring.the_send, numbers.send-NumberSet, marks_send, accepted_send, layout.the_send, directory.the_send, listed.the_send, searching.the_send, bundles.the_send, seat.the_send, flush.the_send, sendable, crosses) depth 24 fits 5000

core_send : IsSend core_row
core_send = search (core_inside_send, sendable)

vault_inside_send : IsSend vault_inside
vault_inside_send = search (core_send, sendable, crosses) depth 30 fits 5000

vault_send : IsSend vault_row
vault_send = search (vault_inside_send, sendable)

site_send : IsSend site_row
site_send = declared_send site_type (search (vault_send, sendable), (search sendable, tt))

seating_inside_send : IsSend seating_inside
seating_inside_send =
    declared_send seating_type
    (site_send, (search sendable, (search (sendable, crosses) depth 24 fits 5000, (search sendable, (search (counts.the_send, sendable), tt)))))

seating_send : IsSend seating_row
seating_send = search (seating_inside_send, sendable)

hall_inside_send : (D : RattleType) → IsSend D → IsSend (hall_inside D)
hall_inside_send D s =
    declared_send (hall_type D)
    (seating_send, (search (waiters.the_send, sendable), (search (s, posts.the_send, sendable, crosses) depth 24 fits 5000, (search (policy.the_send, sendable), tt))))

hall_send : (D : RattleType) → IsSend D → IsSend (hall_row D)
hall_send D s = let inside = hall_inside_send D s in search (inside, sendable)

pub pool_sync : (D : RattleType) → IsSend D → IsSync (pool_row D)
pool_sync D s =
    let hall = hall_send D s in
    declared_sync (pool_type D) (search (hall, sendable, crosses) depth 24 fits 5000, (search (bells.the_sync, sendable), tt))

-- ---- a closure

parts_sync : (Ts : List RattleType) → AllSync Ts → FieldsHave IsSync (parts Ts)
parts_sync [] s = tt
parts_sync (T ∷ Ts) s = (as_row_sync (row_field T) s.0, parts_sync Ts s.1)

-- A closure that has captured what threads can share can be shared.
pub closure_sync : (closure : Sym) (Ts : List RattleType) → AllSync Ts → IsSync (TupleAt closure Ts)
closure_sync closure Ts s = declared_sync (type_at closure Ts) (parts_sync Ts s)
