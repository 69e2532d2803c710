use Rattle.std.proofs.Common.{◌<◌, ◌+◌, ◌-◌, ap, sym, subst, ◌∙◌, arith}
use Rattle.pp_cursor.specs.Left.{left, body_at, sequence_drop}
use Rattle.pp_cursor.specs.Cursor.{IsPath}
use Rattle.pp_cursor.specs.CursorMoves.{Same}
use Rattle.pp_cursor.specs.Positions.{position}
use Rattle.pp_cursor.proofs.Sequences.{same_then_same}
use Rattle.pp_cursor.proofs.CursorMoves.{moves_left, enters, ended, loop_of}
use Rattle.pp_cursor.proofs.Rows.{entered_at, within, short}
use Rattle.pp_cursor.proofs.cursor.Cursor.settle.Goals as goal

pub overflow_sub-count : goal.overflow_sub-count
overflow_sub-count c =
    (enters c.args.plan.now.layout _ _ c.args.plan.now.body c.loop-count.self.place _ c.step-step.ensures.facts.body
    c.loop-count.invariant.on.path (sym c.step-step.ensures.is ∙ c.in-Enter.is)).some

pub enter-requires : goal.enter-requires
enter-requires c =
    let b = c.args.plan.now.body in
    let p = c.loop-count.self.place in
    let low = within _ _ b p c.step-step.ensures.facts.body c.loop-count.invariant.on.path in
    let size = short _ _ b c.step-step.ensures.facts.body in
    record {
      room = (enters c.args.plan.now.layout _ _ b p _ c.step-step.ensures.facts.body c.loop-count.invariant.on.path
          (sym c.step-step.ensures.is ∙ c.in-Enter.is)).room;
      fits = omega (arith, c.loop-count.invariant.on.on, low, size);
    }

pub loop-count-smaller-in-Enter : goal.loop-count-smaller-in-Enter
loop-count-smaller-in-Enter c =
    let b = c.args.plan.now.body in
    let p = c.loop-count.self.place in
    let f =
    enters c.args.plan.now.layout _ _ b p _ c.step-step.ensures.facts.body c.loop-count.invariant.on.path
    (sym c.step-step.ensures.is ∙ c.in-Enter.is) in
    subst (λ q. moves_left b q < moves_left b p) (sym (ap (λ x. x.place) c.enter.ensures)) f.nears.nearer

pub loop-count-preserved-in-Enter : goal.loop-count-preserved-in-Enter
loop-count-preserved-in-Enter c =
    let plan = c.args.plan.now in
    let b = plan.body in
    let p = c.loop-count.self.place in
    let is = sym c.step-step.ensures.is ∙ c.in-Enter.is in
    let f = enters plan.layout _ _ b p _ c.step-step.ensures.facts.body c.loop-count.invariant.on.path is in
    let (body, (k, at)) = loop_of (sequence_drop p.index (body_at b p.entries)) p.entries c.in-Enter.count is in
    let e = ap (λ x. x.place) c.enter.ensures in
    record {
      on = record {
        path = subst (λ q. IsPath b q.entries) (sym e) f.nears.path;
        on =
            let to = entered_at b p c.in-Enter.count (c.in-Enter.count - 1) body k at in
            ap (λ x. x.at) c.enter.ensures ∙ ap (λ n. n + 1) c.loop-count.invariant.on.on ∙ sym to
            ∙ ap (position b) (sym e);
      };
      same =
          same_then_same plan.layout _ _ _ c.loop-count.invariant.same
          (subst (λ q. Same plan.layout (left b p) (left b q)) (sym e) f.nears.same);
    }

pub leave-requires-clause-has : goal.leave-requires-clause-has
leave-requires-clause-has c =
    (ended c.args.plan.now.layout _ _ c.args.plan.now.body c.loop-count.self.place c.step-step.ensures.facts.body
    c.loop-count.invariant.on.path (sym c.step-step.ensures.is ∙ c.in-Leave.is)).has

pub loop-count-smaller : goal.loop-count-smaller
loop-count-smaller c =
    let b = c.args.plan.now.body in
    let p = c.loop-count.self.place in
    let f =
    ended c.args.plan.now.layout _ _ b p c.step-step.ensures.facts.body c.loop-count.invariant.on.path
    (sym c.step-step.ensures.is ∙ c.in-Leave.is) in
    subst (λ q. moves_left b q < moves_left b p) (sym c.leave.ensures.is) f.nears.nearer

pub loop-count-preserved : goal.loop-count-preserved
loop-count-preserved c =
    let plan = c.args.plan.now in
    let p = c.loop-count.self.place in
    let f =
    ended plan.layout _ _ plan.body p c.step-step.ensures.facts.body c.loop-count.invariant.on.path
    (sym c.step-step.ensures.is ∙ c.in-Leave.is) in
    let e = sym c.leave.ensures.is in
    record {
      on = record {
        path = subst (λ q. IsPath plan.body q.entries) e f.nears.path;
        on = c.leave.ensures.on;
      };
      same =
          same_then_same plan.layout _ _ _ c.loop-count.invariant.same
          (subst (λ q. Same plan.layout (left plan.body p) (left plan.body q)) e f.nears.same);
    }
