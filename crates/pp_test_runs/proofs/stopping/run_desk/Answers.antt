use denote.Exit.{no}
use denote.Param.Send.{IsSend, arg_send, param_send, sendable}
use denote.Param.SendFields.{declared_send}
use Rattle.std.proofs.Crossing.{crosses}
use Rattle.pp_settings.proofs.layout.Layout.TheSendSync as layout
use Rattle.pp_vault.proofs.hands.Hands.TheSendSync as hands
use Rattle.pp_pool.specs.contracts.site.OwnSite.{the_row as site_row, the_type as site_type}
use Rattle.pp_run.proofs.Sent.{book_send}
use Rattle.pp_test_runs.specs.contracts.desk.Odd.{the_row as odd_row, the_type as odd_type}
use Rattle.pp_test_runs.proofs.stopping.run_desk.Goals as goal

site_send : IsSend site_row
site_send = declared_send site_type (search (book_send, sendable), tt)

-- A desk with a habit can be handed to another thread. (A search for this gives up, as for the desk of a run.)
odd_send : IsSend odd_row
odd_send =
    declared_send odd_type (
      site_send,
      (
        search (hands.the_send, sendable),
        (
          search (layout.the_send, sendable),
          (
            search sendable depth 9,
            (
              search sendable,
              (search sendable, (search sendable, (search sendable, (search sendable, (search (sendable, crosses), (search sendable, tt)))))),
            ),
          ),
        ),
      ),
    )

pub threads_over-ends-requires-send-B : goal.threads_over-ends-requires-send-B
threads_over-ends-requires-send-B g c κs within = param_send 0 _ (arg_send _ no _ odd_send)
