use Rattle.std.proofs.Common.{◌≡◌, inl, inr, sym, ◌∙◌}
use Rattle.pp_cursor.specs.Left.{body_at, sequence_drop}
use Rattle.pp_plan.specs.declared.flat.Next.TheVariants.{Enter, Leave, Asks}
use Rattle.pp_cursor.specs.CursorMoves.{ask_at}
use Rattle.pp_cursor.proofs.CursorMoves.{ready_asks, same_ask}
use Rattle.pp_cursor.proofs.cursor.Cursor.next_ask.Goals as goal

pub unreachable-requires : goal.unreachable-requires
unreachable-requires c =
    let b = c.args.plan.now.body in
    let p = c.args.self.now.place in
    let asks : c.step.result.next ≡ Asks (ask_at b p) = c.step.ensures.is
    ∙ ready_asks (sequence_drop p.index (body_at b p.entries)) p.entries c.requires.at.ready in
    elim c.in-Enter.is [
      | inl h ↦ (let wrong : Enter h.0 ≡ Asks (ask_at b p) = sym h.1 ∙ asks in cc)
      | inr h ↦ (let wrong : Leave ≡ Asks (ask_at b p) = sym h ∙ asks in cc)
    ]

pub returns-clause-is : goal.returns-clause-is
returns-clause-is c =
    let b = c.args.plan.now.body in
    let p = c.args.self.now.place in
    same_ask (ask_at b p) c.in-Asks.ask
    (sym (ready_asks (sequence_drop p.index (body_at b p.entries)) p.entries c.requires.at.ready)
    ∙ sym c.step.ensures.is ∙ c.in-Asks.is)
