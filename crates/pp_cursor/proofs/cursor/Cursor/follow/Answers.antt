use Rattle.std.proofs.Common.{◌≡◌, true, false, refl}
use Rattle.pp_cursor.proofs.Standing.{answers_named}
use Rattle.pp_cursor.proofs.cursor.Cursor.follow.Goals as goal

pub returns-then-not-is_named-clause-refused : goal.returns-then-not-is_named-clause-refused
returns-then-not-is_named-clause-refused c before s asked =
    let names =
    answers_named c.args.plan.now c.args.self.now.place c.next_ask-ask.result before c.args.action
    c.next_ask-ask.ensures.facts c.next_ask-ask.ensures.is s.stands in
    let wrong : false ≡ true = c.if-not-is_named.ensures.1 (names.0 asked) in
    cc

pub pass-requires : goal.pass-requires
pass-requires c =
    let (before, stands) = c.requires in (
      before,
      (
        stands,
        (answers_named c.args.plan.now c.args.self.now.place c.next_ask-ask.result before c.args.action
            c.next_ask-ask.ensures.facts c.next_ask-ask.ensures.is stands.stands).1
            (c.if-not-is_named.ensures.0 refl),
      ),
    )

pub returns-clause-asked : goal.returns-clause-asked
returns-clause-asked c before s =
    (answers_named c.args.plan.now c.args.self.now.place c.next_ask-ask.result before c.args.action
    c.next_ask-ask.ensures.facts c.next_ask-ask.ensures.is s.stands).1 (c.if-not-is_named.ensures.0 refl)
