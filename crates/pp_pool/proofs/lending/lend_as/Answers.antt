use Rattle.std.proofs.Common.{◌≡◌, ◌∙◌, inl, inr, sym, subst}
use Rattle.pp_pool.specs.Lent.{lent, writers_in}
use Rattle.pp_pool.proofs.TakenOut.{same_places}
use Rattle.pp_pool.proofs.lending.lend_as.Goals as goal

pub returns-clause-reworks : goal.returns-clause-reworks
returns-clause-reworks g c =
    let back = c.into.ensures.back c.args.guards.now c.out_of-held.ensures.out in
    let began : c.out_of-held.result ≡ writers_in c.args.guards.now = c.out_of-held.ensures.lent ∙ c.requires.loan in
    elim (c.rework.ensures.left) [
      | inl left ↦ inl (record {
        bodies = back.0;
        left =
            subst (λ ws. g.W.Work.rework_leaves c.args.work.now c.args.off (lent ws) (lent (writers_in c.into.new.guards))
            c.rework.new.self) began
            (subst (λ ws. g.W.Work.rework_leaves c.args.work.now c.args.off (lent c.out_of-held.result) (lent ws) c.rework.new.self)
            (sym back.1) left);
      })
      | inr still ↦ inr (
        still.0,
        same_places c.args.guards.now c.into.new.guards back.0 (back.1 ∙ still.1 ∙ began),
      )
    ]
