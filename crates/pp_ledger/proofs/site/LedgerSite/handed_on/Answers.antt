use Rattle.std.proofs.Common.{rules, subst}
use Rattle.pp_ledger.specs.Sites.{HandsOn}
use Rattle.pp_ledger.proofs.Handing.{hands_on}
use Rattle.pp_ledger.proofs.site.LedgerSite.handed_on.Goals as goal

pub returns-in-Ok-clause-handed : goal.returns-in-Ok-clause-handed
returns-in-Ok-clause-handed g c _ =
    subst (λ x. HandsOn g.S.Sink.keeps x c.new.result) c.self.view_is
    (hands_on g.S.Sink.keeps
    (record { ledger = c.self.inside.ledger; spare = c.self.inside.spare; sink = c.self.inside.sink })
    c.new.result c.take_segment.new.self c.in-Ok.full c.next-spare.result c.next-spare.new.self (search rules) c.in-Ok.ensures.segment
    c.in-Ok.ensures.goes_on c.in-Ok.ensures.chain c.next-spare.ensures.given c.new.ensures)
