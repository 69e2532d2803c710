use Rattle.std.proofs.Common.{◌≡◌, ◌+◌, ◌*◌, drop}
use Rattle.pp_plan.specs.Tree.{statement_size, sequence_size, alternatives_size}
use Rattle.pp_plan.specs.View.{statement_of, sequence_of, alternatives_of}
use Rattle.pp_cert.specs.Walk.{walked, sequence_tests, later_tests, sequence_end, alternatives_end}
use Rattle.pp_cert.proofs.walk.Walk.+walk.Given as goal

abbrev pub decreases-sequence : goal.decreases-sequence
decreases-sequence l = 3 * sequence_size (sequence_of l.stmts.now)

abbrev pub decreases-statement : goal.decreases-statement
decreases-statement l = 3 * statement_size (statement_of l.stmt.now)

abbrev pub decreases-inside : goal.decreases-inside
decreases-inside l = 3 * sequence_size l.body.now + 1

abbrev pub decreases-turn : goal.decreases-turn
decreases-turn l = 3 * sequence_size l.body.now + 1

abbrev pub decreases-turns : goal.decreases-turns
decreases-turns l = 3 * sequence_size l.body.now + 2

abbrev pub decreases-choice : goal.decreases-choice
decreases-choice l = 3 * alternatives_size l.branches.now + 2

abbrev pub decreases-later : goal.decreases-later
decreases-later l = 3 * alternatives_size (alternatives_of l.bodies.now)

abbrev pub invariant-sequence-loop-stmt : goal.invariant-sequence-loop-stmt
invariant-sequence-loop-stmt l = record {
  goes_on : walked l.self.layout.now l.self.certificate.now
      (sequence_tests l.self.stop l.place (sequence_of (drop l.stmt-index l.stmts)))
      (sequence_end l.place (sequence_of (drop l.stmt-index l.stmts)))
      ≡ walked l.self.layout.now l.self.certificate.now (sequence_tests l.self.stop l.first (sequence_of l.stmts))
      (sequence_end l.first (sequence_of l.stmts));
  end : sequence_end l.place (sequence_of (drop l.stmt-index l.stmts)) ≡ sequence_end l.first (sequence_of l.stmts);
}

abbrev pub invariant-later-loop-body : goal.invariant-later-loop-body
invariant-later-loop-body l = record {
  goes_on : walked l.self.layout.now l.self.certificate.now
      (later_tests l.self.stop l.before l.first l.next (alternatives_of (drop l.body-index l.bodies)))
      (alternatives_end l.next (alternatives_of (drop l.body-index l.bodies)))
      ≡ walked l.self.layout.now l.self.certificate.now
      (later_tests l.self.stop l.before l.first (l.first + 1) (alternatives_of l.bodies))
      (alternatives_end (l.first + 1) (alternatives_of l.bodies));
  end : alternatives_end l.next (alternatives_of (drop l.body-index l.bodies))
      ≡ alternatives_end (l.first + 1) (alternatives_of l.bodies);
}
