use Rattle.std.proofs.Common.{◌≡◌, ◌+◌, ◌*◌, ◌++◌, drop}
use Rattle.pp_plan.specs.Tree.{statement_size, sequence_size, alternatives_size}
use Rattle.pp_plan.specs.Rules.{uses_bundle}
use Rattle.pp_plan.specs.View.{statement_of, sequence_of, alternatives_of}
use Rattle.pp_cert.specs.Limits.{most_counted}
use Rattle.pp_annotate.specs.Made.{after_sequence, sequence_notes, branches_notes}
use Rattle.pp_annotate.proofs.writing.Draft.+writing.Given as goal

abbrev pub decreases-sequence : goal.decreases-sequence
decreases-sequence l = 3 * sequence_size (sequence_of l.stmts.now)

abbrev pub decreases-statement : goal.decreases-statement
decreases-statement l = 3 * statement_size (statement_of l.stmt.now)

abbrev pub decreases-inside : goal.decreases-inside
decreases-inside l = 3 * sequence_size l.body.now + 1

abbrev pub decreases-turns : goal.decreases-turns
decreases-turns l = 3 * sequence_size l.body.now + 2

abbrev pub decreases-choice : goal.decreases-choice
decreases-choice l = 3 * alternatives_size l.branches.now

abbrev pub decreases-later : goal.decreases-later
decreases-later l = 3 * alternatives_size (alternatives_of l.bodies.now)

abbrev pub invariant-sequence-loop-stmt : goal.invariant-sequence-loop-stmt
invariant-sequence-loop-stmt l = record {
  notes : l.self.notes.items
      ++ sequence_notes (most_counted l.plan.layout) (uses_bundle l.plan.body) (sequence_of (drop l.stmt-index l.stmts)) l.current.items
      ≡ l.fn.self.notes.items
      ++ sequence_notes (most_counted l.plan.layout) (uses_bundle l.plan.body) (sequence_of l.stmts) l.before;
  after : after_sequence (most_counted l.plan.layout) (uses_bundle l.plan.body) (sequence_of (drop l.stmt-index l.stmts)) l.current.items
      ≡ after_sequence (most_counted l.plan.layout) (uses_bundle l.plan.body) (sequence_of l.stmts) l.before;
}

abbrev pub invariant-later-loop-body : goal.invariant-later-loop-body
invariant-later-loop-body l =
    l.self.notes.items
    ++ branches_notes (most_counted l.plan.layout) (uses_bundle l.plan.body) (alternatives_of (drop l.body-index l.bodies)) l.before
    ≡ l.fn.self.notes.items
    ++ branches_notes (most_counted l.plan.layout) (uses_bundle l.plan.body) (alternatives_of l.bodies) l.before
