use Rattle.std.proofs.Common.{◌+◌, Err, sym, ◌∙◌, ap, arith, drop}
use Rattle.std.proofs.lemmas.Result.{err_from_is_err_and}
use Rattle.pp_plan.specs.Tree.{Sequence, Alternatives, alternatives_size}
use Rattle.pp_plan.specs.View.{statement_of, sequence_of, alternatives_of}
use Rattle.pp_cert.specs.Notes.{same_note}
use Rattle.pp_cert.specs.Walk.{claims_of, note_at, walked, sequence_tests, sequence_end, later_tests, alternatives_end}
use Rattle.pp_cert.proofs.Places.{sequence_of-drop, alternatives_of-drop, alternatives_end-le}
use Rattle.pp_cert.proofs.Steps.{sequence_err, sequence_ok, turns_err, turns_changed, turns_ok, turn_err, turn_end}
use Rattle.pp_cert.proofs.Steps.{later_err, stmt_walk}
use Rattle.pp_cert.proofs.Steps.{later_differs, later_ok, choice_err, choice_later_err, choice_ok, sequence_end_is}
use Rattle.pp_cert.proofs.Steps.{inside_end, choice_walk}
use Rattle.pp_cert.proofs.walk.Walk.+walk.Goals as goal

pub sequence-returns-in_err-place : goal.sequence-returns-in_err-place
sequence-returns-in_err-place t c =
    let g = c.args.self.now.layout.now in
    let cert = c.args.self.now.certificate.now in
    let k = c.loop-stmt.place in
    let rest : Sequence = sequence_of (drop (c.loop-stmt.stmt-index + 1) c.args.stmts.now) in
    let left =
    sequence_of-drop c.args.stmts.now c.loop-stmt.stmt-index c.stmt-item.result c.stmt-item.is
    c.loop-stmt-test.true in
    let p = err_from_is_err_and c.from_residual.result c.from_residual.ensures.1 in
    p.1 ∙ ap Err p.2 ∙ sequence_err c.args.self.now.stop g cert k (statement_of c.stmt-item.result) rest c.in_err-place.field-0.0
    c.in_err-place.ensures ∙ ap (λ b. walked g cert (sequence_tests c.args.self.now.stop k b) (sequence_end k b)) (sym left)
    ∙ c.loop-stmt.invariant.goes_on

pub sequence-loop-stmt-preserved : goal.sequence-loop-stmt-preserved
sequence-loop-stmt-preserved t c =
    let g = c.args.self.now.layout.now in
    let cert = c.args.self.now.certificate.now in
    let k = c.loop-stmt.place in
    let rest : Sequence = sequence_of (drop (c.loop-stmt.stmt-index + 1) c.args.stmts.now) in
    let left =
    sequence_of-drop c.args.stmts.now c.loop-stmt.stmt-index c.stmt-item.result c.stmt-item.is
    c.loop-stmt-test.true in
    record {
      goes_on = sequence_ok c.args.self.now.stop g cert k (statement_of c.stmt-item.result) rest c.in_ok-place.place c.in_ok-place.ensures
          ∙ ap (λ b. walked g cert (sequence_tests c.args.self.now.stop k b) (sequence_end k b)) (sym left) ∙ c.loop-stmt.invariant.goes_on;
      end =
          ap (λ n. sequence_end n rest)
          (sequence_end_is c.args.self.now.stop g cert k (statement_of c.stmt-item.result) c.in_ok-place.place c.in_ok-place.ensures)
          ∙ ap (sequence_end k) (sym left) ∙ c.loop-stmt.invariant.end;
    }

pub turns-returns-in_err-end : goal.turns-returns-in_err-end
turns-returns-in_err-end t c =
    let p = err_from_is_err_and c.from_residual.result c.from_residual.ensures.1 in
    p.1 ∙ ap Err p.2 ∙ turns_err c.args.self.now.stop c.args.self.now.layout.now c.args.self.now.certificate.now c.args.at
    c.args.count c.args.body.now c.in_err-end.field-0.0 c.in_err-end.ensures

pub turns-returns-in-Some : goal.turns-returns-in-Some
turns-returns-in-Some t c =
    turns_changed c.args.self.now.stop c.args.self.now.layout.now c.args.self.now.certificate.now c.args.at c.args.count
    c.args.body.now c.in_ok-end.end c.in-Some.fault c.in_ok-end.ensures c.in-Some.ensures

pub turns-overflow_add-end : goal.turns-overflow_add-end
turns-overflow_add-end t c =
    let end =
    turn_end c.args.self.now.stop c.args.self.now.layout.now c.args.self.now.certificate.now c.args.at c.args.body.now
    c.in_ok-end.end c.in_ok-end.ensures in
    omega (arith, end)

pub turns-returns-in-None : goal.turns-returns-in-None
turns-returns-in-None t c =
    c.keep.ensures ∙ turns_ok c.args.self.now.stop c.args.self.now.layout.now c.args.self.now.certificate.now c.args.at
    c.args.count c.args.body.now c.in_ok-end.end c.in_ok-end.ensures c.in-None.ensures

pub later-returns-in_err-end : goal.later-returns-in_err-end
later-returns-in_err-end t c =
    let g = c.args.self.now.layout.now in
    let cert = c.args.self.now.certificate.now in
    let k = c.loop-body.next in
    let rest : Alternatives = alternatives_of (drop (c.loop-body.body-index + 1) c.args.bodies.now) in
    let left =
    alternatives_of-drop c.args.bodies.now c.loop-body.body-index c.body-item.result c.body-item.is
    c.loop-body-test.true in
    let p = err_from_is_err_and c.from_residual.result c.from_residual.ensures.1 in
    p.1 ∙ ap Err p.2 ∙ later_err c.args.self.now.stop g cert c.args.before c.args.first k c.body-item.result rest c.in_err-end.field-0.0
    c.in_err-end.ensures ∙ ap
    (λ bs. walked g cert (later_tests c.args.self.now.stop c.args.before c.args.first k bs) (alternatives_end k bs)) (sym left)
    ∙ c.loop-body.invariant.goes_on

pub later-returns-then-not-is_same : goal.later-returns-then-not-is_same
later-returns-then-not-is_same t c =
    let g = c.args.self.now.layout.now in
    let cert = c.args.self.now.certificate.now in
    let k = c.loop-body.next in
    let rest : Alternatives = alternatives_of (drop (c.loop-body.body-index + 1) c.args.bodies.now) in
    let left =
    alternatives_of-drop c.args.bodies.now c.loop-body.body-index c.body-item.result c.body-item.is
    c.loop-body-test.true in
    let differs = ap (λ n. same_note n (note_at (claims_of cert) c.args.first)) (sym c.entries.ensures)
    ∙ ap (λ n. same_note c.entries.result.now n) (sym c.entries-in-loop-body.ensures) ∙ sym c.is_same.ensures
    ∙ c.if-not-is_same.true in
    later_differs c.args.self.now.stop g cert c.args.before c.args.first k c.body-item.result rest c.in_ok-end.end c.in_ok-end.ensures
    differs ∙ ap (λ bs. walked g cert (later_tests c.args.self.now.stop c.args.before c.args.first k bs) (alternatives_end k bs))
    (sym left) ∙ c.loop-body.invariant.goes_on

pub later-overflow_add-next-in-loop-body : goal.later-overflow_add-next-in-loop-body
later-overflow_add-next-in-loop-body t c =
    let k = c.loop-body.next in
    let rest : Alternatives = alternatives_of (drop (c.loop-body.body-index + 1) c.args.bodies.now) in
    let left =
    alternatives_of-drop c.args.bodies.now c.loop-body.body-index c.body-item.result c.body-item.is
    c.loop-body-test.true in
    let ends = ap (alternatives_end k) left in
    let end =
    inside_end c.args.self.now.stop c.args.self.now.layout.now c.args.self.now.certificate.now c.args.before k c.body-item.result
    c.in_ok-end.end c.in_ok-end.ensures in
    omega (
      arith,
      end,
      ends,
      alternatives_end-le (sequence_end k c.body-item.result + 1) rest,
      c.loop-body.invariant.end,
    )

pub later-loop-body-preserved : goal.later-loop-body-preserved
later-loop-body-preserved t c =
    let g = c.args.self.now.layout.now in
    let cert = c.args.self.now.certificate.now in
    let k = c.loop-body.next in
    let rest : Alternatives = alternatives_of (drop (c.loop-body.body-index + 1) c.args.bodies.now) in
    let left =
    alternatives_of-drop c.args.bodies.now c.loop-body.body-index c.body-item.result c.body-item.is
    c.loop-body-test.true in
    let agrees = ap (λ n. same_note n (note_at (claims_of cert) c.args.first)) (sym c.entries.ensures)
    ∙ ap (λ n. same_note c.entries.result.now n) (sym c.entries-in-loop-body.ensures) ∙ sym c.is_same.ensures
    ∙ c.if-not-is_same.false in
    record {
      goes_on =
          later_ok c.args.self.now.stop g cert c.args.before c.args.first k c.body-item.result rest c.in_ok-end.end c.in_ok-end.ensures
          agrees ∙ ap (λ bs. walked g cert (later_tests c.args.self.now.stop c.args.before c.args.first k bs) (alternatives_end k bs))
          (sym left) ∙ c.loop-body.invariant.goes_on;
      end =
          ap (λ n. alternatives_end (n + 1) rest)
          (inside_end c.args.self.now.stop g cert c.args.before k c.body-item.result c.in_ok-end.end c.in_ok-end.ensures)
          ∙ ap (alternatives_end k) (sym left) ∙ c.loop-body.invariant.end;
    }

pub choice-returns-in_err-first : goal.choice-returns-in_err-first
choice-returns-in_err-first t c =
    let g = c.args.self.now.layout.now in
    let cert = c.args.self.now.certificate.now in
    let all = ap alternatives_of (sym c.in-Some.ensures.cases.0) ∙ c.bodies.ensures in
    let p = err_from_is_err_and c.from_residual.result c.from_residual.ensures.1 in
    p.1 ∙ ap Err p.2 ∙ choice_err c.args.self.now.stop g cert c.args.at c.in-Some.body.now (alternatives_of c.in-Some.later.now)
    c.in_err-first.field-0.0 c.in_err-first.ensures ∙ ap (choice_walk c.args.self.now.stop g cert c.args.at) all

pub choice-later-requires : goal.choice-later-requires
choice-later-requires t c =
    let rest : Alternatives = alternatives_of c.in-Some.later.now in
    let all = ap alternatives_of (sym c.in-Some.ensures.cases.0) ∙ c.bodies.ensures in
    let sizes = ap alternatives_size all in
    let ends = ap (alternatives_end (c.args.at + 1)) all in
    let first =
    ap (λ n. alternatives_end (n + 1) rest)
    (inside_end c.args.self.now.stop c.args.self.now.layout.now c.args.self.now.certificate.now c.args.at (c.args.at + 1)
    c.in-Some.body.now c.in_ok-first.first c.in_ok-first.ensures) in
    (omega (arith, sizes), omega (arith, ends, first))

pub choice-returns-in_err-next : goal.choice-returns-in_err-next
choice-returns-in_err-next t c =
    let g = c.args.self.now.layout.now in
    let cert = c.args.self.now.certificate.now in
    let all = ap alternatives_of (sym c.in-Some.ensures.cases.0) ∙ c.bodies.ensures in
    let p = err_from_is_err_and c.from_residual-in_err-next.result c.from_residual-in_err-next.ensures.1 in
    p.1 ∙ ap Err p.2 ∙ choice_later_err c.args.self.now.stop g cert c.args.at c.in-Some.body.now (alternatives_of c.in-Some.later.now)
    c.in_ok-first.first c.in_err-next.field-0.0 c.in_ok-first.ensures c.in_err-next.ensures
    ∙ ap (choice_walk c.args.self.now.stop g cert c.args.at) all

pub choice-returns : goal.choice-returns
choice-returns t c =
    let g = c.args.self.now.layout.now in
    let cert = c.args.self.now.certificate.now in
    let all = ap alternatives_of (sym c.in-Some.ensures.cases.0) ∙ c.bodies.ensures in
    c.keep-2.ensures ∙ choice_ok c.args.self.now.stop g cert c.args.at c.in-Some.body.now (alternatives_of c.in-Some.later.now)
    c.in_ok-first.first c.in_ok-next.next c.in_ok-first.ensures c.in_ok-next.ensures
    ∙ ap (choice_walk c.args.self.now.stop g cert c.args.at) all

pub statement-returns-in-Gather : goal.statement-returns-in-Gather
statement-returns-in-Gather t c =
    c.gather.ensures
    ∙ ap (stmt_walk c.args.self.now.stop c.args.self.now.layout.now c.args.self.now.certificate.now c.args.at)
    (sym c.in-Gather.is)

pub statement-returns-in-Loop : goal.statement-returns-in-Loop
statement-returns-in-Loop t c =
    c.turns.ensures
    ∙ ap (stmt_walk c.args.self.now.stop c.args.self.now.layout.now c.args.self.now.certificate.now c.args.at)
    (sym c.in-Loop.is)

pub turn-returns-in_err-begin_turns : goal.turn-returns-in_err-begin_turns
turn-returns-in_err-begin_turns t c =
    let p = err_from_is_err_and c.from_residual.result c.from_residual.ensures.1 in
    p.1 ∙ ap Err p.2 ∙ turn_err c.args.self.now.stop c.args.self.now.layout.now c.args.self.now.certificate.now c.args.first
    c.args.before c.args.body.now c.in_err-begin_turns.field-0.0 c.in_err-begin_turns.ensures
