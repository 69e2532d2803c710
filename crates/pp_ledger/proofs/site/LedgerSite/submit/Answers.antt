use Rattle.std.proofs.Common.{rules, refl, sym, subst}
use Rattle.pp_ledger.specs.Sites.{MakesRoom}
use Rattle.pp_ledger.proofs.Handing.{submits_by, refuses_by}
use Rattle.pp_ledger.proofs.site.LedgerSite.submit.Goals as goal

pub returns-clause-ok : goal.returns-clause-ok
returns-clause-ok g c =
    submits_by g.S.Sink.keeps c.args.self.now
    (record { ledger = c.self.inside.ledger; spare = c.self.inside.spare; sink = c.self.inside.sink })
    (record { ledger = c.submit.new.self; spare = c.self.inside.spare; sink = c.self.inside.sink }) c.args.prepared
    (subst (MakesRoom g.S.Sink.keeps c.args.self.now) (sym c.self.view_is) (c.make_room.ensures.made (search rules)))
    refl c.submit.result c.submit.ensures.ok

pub returns-clause-error : goal.returns-clause-error
returns-clause-error g c =
    refuses_by g.S.Sink.keeps c.args.self.now
    (record { ledger = c.self.inside.ledger; spare = c.self.inside.spare; sink = c.self.inside.sink })
    (record { ledger = c.submit.new.self; spare = c.self.inside.spare; sink = c.self.inside.sink }) c.args.prepared
    (subst (MakesRoom g.S.Sink.keeps c.args.self.now) (sym c.self.view_is) (c.make_room.ensures.made (search rules)))
    refl c.submit.result c.submit.ensures.error c.submit.ensures.unchanged
