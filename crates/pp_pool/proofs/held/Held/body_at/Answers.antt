use Rattle.std.proofs.Common.{◌≡◌, List, [], length, sym, ap, subst, arith}
use Rattle.std.specs.Prelude.{slice_set}
use Rattle.std.proofs.lemmas.List.{get_or_read}
use Rattle.pp_vault.specs.declared.guards.WriteGuard.{WriteGuard}
use Rattle.pp_pool.specs.Lent.{AreOthers, guard_at, with_guard_body}
use Rattle.pp_pool.proofs.Bodies.{others_set}
use Rattle.pp_pool.proofs.held.Held.body_at.Goals as goal

pub invariant_of-self-lent : goal.invariant_of-self-lent
invariant_of-self-lent g c body =
    let guards : List WriteGuard = c.self.inside.guards.items in
    let long : length guards ≡ length c.args.self.now = ap length c.self.view_is in
    let read : c.index_mut-guard.result.now ≡ guard_at guards c.args.place
    = get_or_read guards c.args.place c.index_mut-guard.result.now (omega (arith, long, c.requires))
    c.index_mut-guard.ensures.value (guard_at [] 0) in
    record {
      others =
          subst (λ x. AreOthers g.L.Loan.began (slice_set guards c.args.place (with_guard_body x body))) (sym read)
          (others_set g.L.Loan.began guards c.args.place body c.self.invariant.others);
      places = c.self.invariant.places;
    }
