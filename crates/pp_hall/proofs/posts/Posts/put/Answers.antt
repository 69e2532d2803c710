use Rattle.std.proofs.Common.{◌≡◌, Some, sym, subst, vec_capacity}
use Rattle.std.specs.Prelude.{IfSome}
use Rattle.pp_vault.specs.Stages.{stage_worker}
use Rattle.pp_hall.proofs.Places.{posts_set}
use Rattle.pp_hall.proofs.posts.Posts.put.Goals as goal

pub invariant_of-self-2 : goal.invariant_of-self-2
invariant_of-self-2 g c =
    posts_set c.self.inside.places.items c.self.inside.hands.workers c.self.inside.devices.items
    (vec_capacity c.self.inside.devices) c.args.chair c.replace.new.self c.self.invariant
    (subst (λ o. IfSome o (λ post. stage_worker post.hand.stage ≡ Some c.args.chair)) (sym c.replace.ensures.after) c.requires)
