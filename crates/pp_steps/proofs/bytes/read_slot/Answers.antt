use Rattle.std.proofs.Common.{◌≡◌, ◌∙◌, Some, sym, ap}
use Rattle.std.proofs.lemmas.Bool.{false≢true}
use Rattle.pp_vault.specs.declared.guards.Guard.TheVariants as guard
use Rattle.pp_vault.specs.Holding.{placed, slot_by}
use Rattle.pp_steps.proofs.Bodies.{guard_back, reads_shared, reads_exclusive}
use Rattle.pp_steps.proofs.bytes.read_slot.Goals as goal
use Rattle.pp_steps.proofs.bytes.read_slot.Goals.{in-Read, in-Write, in_default-guard}

pub returns-then-is_read-clause-ok : goal.returns-then-is_read-clause-ok
returns-then-is_read-clause-ok c =
    let there : placed c.args.guards.now c.args.slot ≡ Some c.in-Some.guard = sym c.take.ensures.guard ∙ c.in-Some.is in
    elim c.match-guard.branch [
      | in-Read w ↦
          reads_shared c.args.hall.now.value.seating.vault c.args.guards.now c.args.slot c.args.from w.in-Read.guard
          w.copied_shared-is_read.new.bytes c.match-guard.bytes (there ∙ ap (λ g. Some g) w.in-Read.is)
          (w.copied_shared-is_read.ensures.read (sym w.is_read-is ∙ c.if-is_read.true)) w.bytes-is
      | in-Write w ↦
          reads_exclusive c.args.hall.now.value.seating.vault c.args.guards.now c.args.slot c.args.from w.in-Write.guard
          w.body.result.now w.copied_part-is_read.new.bytes c.match-guard.bytes (there ∙ ap (λ g. Some g) w.in-Write.is) w.body.ensures
          (w.copied_part-is_read.ensures.part (sym w.is_read-is ∙ c.if-is_read.true)) w.bytes-is
      | in_default-guard w ↦ absurd (false≢true (sym w.is_read-is ∙ c.if-is_read.true))
    ]

pub returns-then-is_read-clause-guards : goal.returns-then-is_read-clause-guards
returns-then-is_read-clause-guards c =
    guard_back c.args.guards.now c.take.new.self c.put.new.guards c.args.slot (slot_by c.in-Some.guard) c.in-Some.guard
    (sym c.in-Some.is ∙ c.take.ensures.guard) c.in-Some.ensures.taken c.in-Some.ensures.slot c.put.ensures

pub returns-else-is_read-clause-guards : goal.returns-else-is_read-clause-guards
returns-else-is_read-clause-guards c =
    guard_back c.args.guards.now c.take.new.self c.put.new.guards c.args.slot (slot_by c.in-Some.guard) c.in-Some.guard
    (sym c.in-Some.is ∙ c.take.ensures.guard) c.in-Some.ensures.taken c.in-Some.ensures.slot c.put.ensures
