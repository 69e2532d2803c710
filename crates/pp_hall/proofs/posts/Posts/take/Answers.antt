use Rattle.std.proofs.Common.{◌≡◌, ◌∙◌, Some, sym, subst, vec_capacity, arith}
use Rattle.std.specs.Prelude.{IfSome}
use Rattle.pp_vault.specs.Stages.{stage_worker}
use Rattle.pp_hall.proofs.Places.{posts_taken, found_there}
use Rattle.pp_hall.proofs.posts.Posts.take.Goals as goal

pub invariant_of-self : goal.invariant_of-self
invariant_of-self g c =
    posts_taken c.self.inside.places.items c.self.inside.hands.workers c.self.inside.devices.items
    (vec_capacity c.self.inside.devices) c.args.chair c.take.new.self c.self.invariant c.take.ensures.after

pub returns-clause-of : goal.returns-clause-of
returns-clause-of g c =
    subst (λ o. IfSome o (λ post. stage_worker post.hand.stage ≡ Some c.args.chair))
    (sym (
    c.take.ensures.value
    ∙ found_there c.self.inside.places.items c.args.chair c.index_mut-place.result.now (omega arith)
    c.index_mut-place.ensures.value
    ))
    (c.self.invariant.own c.args.chair)
