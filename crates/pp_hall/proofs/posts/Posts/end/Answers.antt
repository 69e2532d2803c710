use Rattle.std.proofs.Common.{rules, ◌≡◌, ◌∙◌, Option, Some, length, vec_len, vec_capacity, ap, sym, subst}
use Rattle.std.specs.Prelude.{IfSome, sum_by, is_some}
use Rattle.pp_vault.specs.declared.stage.Hand.{Hand}
use Rattle.pp_vault.specs.Stages.{stage_worker, put_for}
use Rattle.pp_hall.specs.Posts.{one_if}
use Rattle.pp_hall.proofs.Filling.{IsEmptied, last_own, last_free, emptied_none, emptied_more, joins}
use Rattle.pp_hall.proofs.posts.Posts.end.Goals as goal

pub unreachable-requires : goal.unreachable-requires
unreachable-requires g c =
    let own =
    last_own (length c.args.self.there) (sum_by one_if c.args.self.there) c.loop-place.places.items
    c.loop-place.hands.workers (vec_len c.loop-place.devices) (vec_capacity c.loop-place.devices) c.pop.new.self.items
    c.in-Some.place c.loop-place.invariant c.in-Some.ensures.items in
    let free =
    last_free (length c.args.self.there) (sum_by one_if c.args.self.there) c.loop-place.places.items
    c.loop-place.hands.workers (vec_len c.loop-place.devices) (vec_capacity c.loop-place.devices) c.pop.new.self.items
    c.in-Some.place c.loop-place.invariant c.in-Some.ensures.items in
    joins c.loop-place.hands.workers (length c.pop.new.self.items) (stage_worker c.ended-device.result.1.stage)
    (ap (λ (h : Hand). stage_worker h.stage) c.ended-device.ensures
    ∙ subst (λ o. IfSome o (λ post. stage_worker post.hand.stage ≡ Some (length c.pop.new.self.items)))
    c.in-Some-place.is own)
    free c.in-Err.ensures.err

pub loop-place-preserved-in-Some-place : goal.loop-place-preserved-in-Some-place
loop-place-preserved-in-Some-place g c =
    let own =
    last_own (length c.args.self.there) (sum_by one_if c.args.self.there) c.loop-place.places.items
    c.loop-place.hands.workers (vec_len c.loop-place.devices) (vec_capacity c.loop-place.devices) c.pop.new.self.items
    c.in-Some.place c.loop-place.invariant c.in-Some.ensures.items in
    let of : stage_worker c.ended-device.result.1.stage ≡ Some (length c.pop.new.self.items) =
    ap (λ (h : Hand). stage_worker h.stage) c.ended-device.ensures
    ∙ subst (λ o. IfSome o (λ post. stage_worker post.hand.stage ≡ Some (length c.pop.new.self.items)))
    c.in-Some-place.is own in
    subst (λ k. IsEmptied (length c.args.self.there) (sum_by one_if c.args.self.there) c.pop.new.self.items
    c.join.new.self.workers (vec_len c.push_reserved.new.self) k) (sym c.push_reserved.ensures.capacity)
    (emptied_more (length c.args.self.there) (sum_by one_if c.args.self.there) c.loop-place.places.items
    c.loop-place.hands.workers (vec_len c.loop-place.devices) (vec_capacity c.loop-place.devices) c.pop.new.self.items
    c.in-Some.place c.loop-place.invariant c.in-Some.ensures.items (ap is_some c.in-Some-place.is)
    (Some c.ended-device.result.1) c.join.new.self.workers (vec_len c.push_reserved.new.self)
    (c.in-Ok.ensures.joined ∙ ap (put_for c.loop-place.hands.workers c.ended-device.result.1) of)
    c.push_reserved.ensures.len)

pub loop-place-preserved : goal.loop-place-preserved
loop-place-preserved g c =
    emptied_none (length c.args.self.there) (sum_by one_if c.args.self.there) c.loop-place.places.items
    c.loop-place.hands.workers (vec_len c.loop-place.devices) (vec_capacity c.loop-place.devices) c.pop.new.self.items
    c.in-Some.place c.loop-place.invariant c.in-Some.ensures.items (search rules)
