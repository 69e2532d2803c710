use Rattle.std.proofs.Common.{◌≡◌, ◌+◌, ◌≤◌, ◌++◌, length}
use Rattle.std.specs.Prelude.{IsOk, sum_by}
use Rattle.std.specs.Vec.Iter.{into_iter_items, into_iter_len}
use Rattle.pp_model.specs.Budget.{cost_of}
use Rattle.pp_model.specs.Submitting.{after_submits}
use Rattle.pp_pool.specs.Books.{IsBook}
use Rattle.pp_pool.specs.Parts.{settings_of, plans_of, state_of}
use Rattle.pp_run.specs.Planned.{HasRoomFor}
use Rattle.pp_run.specs.Runs.{submits}
use Rattle.pp_run.proofs.planning.submit_all.Given as goal

abbrev pub invariant-loop-plan : goal.invariant-loop-plan
invariant-loop-plan l =
    let rest = into_iter_items l.plan-iterator in
    (settings_of l.book ≡ settings_of l.fn.book)
    × (plans_of l.fn.book ++ into_iter_items l.initial.plan-iterator ≡ plans_of l.book ++ rest)
    × (l.count + into_iter_len l.plan-iterator ≡ into_iter_len l.initial.plan-iterator)
    × (after_submits (state_of l.fn.book) (into_iter_items l.initial.plan-iterator)
    ≡ after_submits (state_of l.book) rest)
    × (l.count ≤ length (plans_of l.book))
    × (l.fn.book.journal ++ submits (length (plans_of l.fn.book)) (into_iter_len l.initial.plan-iterator)
    ≡ l.book.journal ++ submits (length (plans_of l.book)) (into_iter_len l.plan-iterator))
    × (l.book.began ≡ l.fn.book.began)
    × IsBook l.book
    × IsOk (after_submits (state_of l.book) rest)
    × HasRoomFor l.book (sum_by cost_of rest + length rest)
    × (l.book.vault.page_bytes ≡ l.fn.book.vault.page_bytes)
