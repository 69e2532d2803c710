use Rattle.std.proofs.Common.{rules, refl, sym, subst}
use Rattle.pp_pool.specs.Replies.{Replies}
use Rattle.pp_ledger.specs.Sites.{MakesRoom}
use Rattle.pp_ledger.proofs.Handing.{declined_fits, declines, serves}
use Rattle.pp_ledger.proofs.site.LedgerSiteSite.perform.Goals as goal

pub returns-then-not-make_room-clause-given : goal.returns-then-not-make_room-clause-given
returns-then-not-make_room-clause-given g c =
    declines g.S.Sink.keeps c.args.self.now c.make_room.new.self c.args.request c.declined.result c.make_room.result
    c.make_room.ensures.exact (search rules) c.make_room.ensures.unchanged c.declined.ensures

pub returns-then-not-make_room-clause-fits : goal.returns-then-not-make_room-clause-fits
returns-then-not-make_room-clause-fits g c =
    subst (Replies c.args.request) (sym c.declined.ensures) (declined_fits c.args.request)

pub returns-clause-given : goal.returns-clause-given
returns-clause-given g c =
    serves g.S.Sink.keeps c.args.self.now
    (record { ledger = c.self.inside.ledger; spare = c.self.inside.spare; sink = c.self.inside.sink })
    (record { ledger = c.perform.new.self; spare = c.self.inside.spare; sink = c.self.inside.sink }) c.args.request
    c.in-Ok.response c.make_room.result c.make_room.ensures.exact (search rules)
    (subst (MakesRoom g.S.Sink.keeps c.args.self.now) (sym c.self.view_is) (c.make_room.ensures.made (search rules)))
    c.in-Ok.ensures.ok refl
