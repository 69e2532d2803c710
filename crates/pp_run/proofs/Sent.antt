-- The desk of a run can be handed to another thread. (A search for this gives up where so many types stand in one another.)
use denote.Ref.{NamedLft}
use denote.RattleType.{RattleType}
use denote.Param.Send.{IsSend, sendable}
use denote.Param.SendFields.{declared_send}
use Rattle.std.proofs.Crossing.{crosses}
use Rattle.std.proofs.MapsCrossing.{crosses as maps}
use Rattle.circular_buffer.proofs.heap.HeapCircularBuffer.TheSendSync as ring
use Rattle.pp_model.specs.contracts.moves.Move.{the_row as move_row}
use Rattle.pp_model.specs.contracts.reply.Reply.{the_row as reply_row}
use Rattle.pp_settings.proofs.layout.Layout.TheSendSync as layout
use Rattle.pp_arc.proofs.directory.Directory.TheSendSync as directory
use Rattle.pp_arc.proofs.names.Names.TheSendSync as listed
use Rattle.pp_arc.proofs.search.Search.TheSendSync as searching
use Rattle.pp_bundles.proofs.bundles.Bundles.TheSendSync as bundles
use Rattle.pp_frames.proofs.held.Held.TheSendSync as held
use Rattle.pp_frames.proofs.number_set.NumberSet.TheLaws.TheKnot as numbers
use Rattle.pp_plan.proofs.stmt.Body.TheLaws.TheKnot as body
use Rattle.pp_core.proofs.seat.Seat.TheSendSync as seat
use Rattle.pp_outset.proofs.outset.Outset.TheSendSync as outset
use Rattle.pp_vault.proofs.hands.Hands.TheSendSync as hands
use Rattle.pp_core.proofs.table.Flush.TheSendSync as flush
use Rattle.pp_journal.proofs.journal.Journal.TheSendSync as journal
use Rattle.pp_frames.specs.contracts.records.Records.{the_row as records_row}
use Rattle.pp_frames.specs.contracts.marks.Marks.{the_row as marks_row}
use Rattle.pp_plan.specs.contracts.flat.FlatStep.{the_row as step_row}
use Rattle.pp_plan.specs.contracts.plan.Plan.{the_row as plan_row}
use Rattle.pp_cert.specs.contracts.accepted.Accepted.{the_row as accepted_row}
use Rattle.pp_core.specs.contracts.machine.Core.TheInside.{the_row as core_inside}
use Rattle.pp_core.specs.contracts.machine.Core.{the_row as core_row}
use Rattle.pp_vault.specs.contracts.store.Store.{the_row as store_row}
use Rattle.pp_vault.specs.contracts.vault.Vault.TheInside.{the_row as vault_inside}
use Rattle.pp_vault.specs.contracts.vault.Vault.{the_row as vault_row}
use Rattle.pp_pool.specs.contracts.book.Book.TheInside.{the_row as book_inside}
use Rattle.pp_pool.specs.contracts.book.Book.{the_row as book_row}
use Rattle.pp_pool.specs.contracts.site.OwnSite.{the_row as site_row, the_type as site_type}
use Rattle.pp_run.specs.declared.desk.Naming.{Ghosts}
use Rattle.pp_run.specs.contracts.desk.RunDesk.{the_row as desk_row, the_type as desk_type}

pub move_send : IsSend move_row
move_send = search sendable depth 40 fits 50000

pub reply_send : IsSend reply_row
reply_send = search sendable depth 40 fits 50000

pub records_send : IsSend records_row
records_send = search (held.the_send, numbers.send-NumberSet, sendable, crosses) depth 24 fits 5000

pub marks_send : IsSend marks_row
marks_send = search (records_send, numbers.send-NumberSet, sendable, crosses) depth 24 fits 5000

pub step_send : IsSend step_row
step_send = search sendable depth 40 fits 50000

pub plan_send : IsSend plan_row
plan_send = search (layout.the_send, body.send-Body, step_send, sendable, crosses, maps) depth 24 fits 5000

pub accepted_send : IsSend accepted_row
accepted_send = search (plan_send, sendable, crosses) depth 24 fits 5000

pub core_inside_send : IsSend core_inside
core_inside_send = search (ring.the_send, numbers.send-NumberSet, marks_send, accepted_send, layout.the_send, directory.the_send, listed.the_send, searching.the_send, bundles.the_send, seat.the_send, flush.the_send, sendable, crosses) depth 24 fits 5000

pub core_send : IsSend core_row
core_send = search (core_inside_send, sendable)

pub store_send : IsSend store_row
store_send = search (core_send, move_send, reply_send, sendable, crosses) depth 24 fits 5000

pub vault_inside_send : IsSend vault_inside
vault_inside_send = search (core_send, move_send, reply_send, sendable, crosses) depth 30 fits 5000

pub vault_send : IsSend vault_row
vault_send = search (vault_inside_send, sendable)

pub book_inside_send : IsSend book_inside
book_inside_send = search (vault_send, journal.the_send, outset.the_send, sendable, crosses) depth 24 fits 5000

pub book_send : IsSend book_row
book_send = search (book_inside_send, sendable)

site_send : IsSend site_row
site_send = declared_send site_type (search (book_send, sendable), tt)

pub desk_send : (κ : NamedLft) (N : RattleType) (g : Ghosts N.Denot) → IsSend N → IsSend (desk_row κ N g)
desk_send κ N g n =
    declared_send (desk_type κ N g)
    (site_send, (search (hands.the_send, sendable), (search (layout.the_send, sendable), (search sendable, (search (sendable, crosses), tt)))))
