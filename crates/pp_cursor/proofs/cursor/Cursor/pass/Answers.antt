use Rattle.std.proofs.Common.{sym, subst, arith}
use Rattle.pp_cursor.specs.Cursor.{IsPath}
use Rattle.pp_cursor.proofs.Passing.{passes}
use Rattle.pp_cursor.proofs.Standing.{asks_named, stands_passed, asked_after}
use Rattle.pp_cursor.proofs.Rows.{within, short, stepped_at}
use Rattle.pp_cursor.proofs.cursor.Cursor.pass.Goals as goal

pub go_past-requires : goal.go_past-requires
go_past-requires c =
    let plan = c.args.plan.now in
    let p = c.args.self.now.place in
    let facts = c.body.ensures.facts in
    let (before, (stands, asks)) = c.requires in
    let named = (asks_named plan p before c.args.action facts stands.stands).0 asks in
    let low = within _ _ plan.body p facts.body stands.stands.at.path in
    let size = short _ _ plan.body facts.body in
    record {
      room = (passes plan.layout _ _ plan.body p c.args.action facts.body stands.stands.at.path named).can;
      on = record { path = stands.stands.at.path; on = stands.on };
      named = named;
      facts = facts;
      fits = omega (arith, stands.on, low, size);
      stepped =
          λ of. let at = stepped_at plan.layout plan.body p c.args.action named of in omega (arith, at, stands.on);
    }

pub settle-requires : goal.settle-requires
settle-requires c =
    let plan = c.args.plan.now in
    let p = c.args.self.now.place in
    let (before, (stands, asks)) = c.requires in
    let named = (asks_named plan p before c.args.action c.body.ensures.facts stands.stands).0 asks in
    record {
      path = subst (λ q. IsPath plan.body q.entries) (sym c.go_past.ensures.is)
          (passes plan.layout _ _ plan.body p c.args.action c.body.ensures.facts.body stands.stands.at.path named).path;
      on = c.go_past.ensures.on;
    }

pub returns-clause-passed : goal.returns-clause-passed
returns-clause-passed c before s =
    let (after, (stands, asks)) = c.requires in
    record {
      stands = stands_passed c.args.plan.now c.args.self.now.place _ _ c.args.action after c.body.ensures.facts
          stands.stands asks c.go_past.ensures.is c.settle.ensures.same c.settle.ensures.at before s.stands;
      on = c.settle.ensures.on.on;
    }

pub returns-clause-next : goal.returns-clause-next
returns-clause-next c before s =
    let (after, (stands, asks)) = c.requires in
    asked_after c.args.plan.now c.settle.new.self.place c.settle.result _ c.body.ensures.facts c.settle.ensures.ask
    (stands_passed c.args.plan.now c.args.self.now.place _ _ c.args.action after c.body.ensures.facts stands.stands asks
    c.go_past.ensures.is c.settle.ensures.same c.settle.ensures.at before s.stands)

pub returns-clause-kept : goal.returns-clause-kept
returns-clause-kept c =
    let (after, (stands, asks)) = c.requires in (
      _,
      record {
        stands = stands_passed c.args.plan.now c.args.self.now.place _ _ c.args.action after c.body.ensures.facts
            stands.stands asks c.go_past.ensures.is c.settle.ensures.same c.settle.ensures.at after stands.stands;
        on = c.settle.ensures.on.on;
      },
    )
