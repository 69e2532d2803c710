use Rattle.std.proofs.Common.{◌≡◌, ◌∙◌, ◌≤◌, ℕ, true, length, vec_len, vec_capacity, ap, arith}
use Rattle.std.specs.Prelude.{replicate}
use Rattle.pp_vault.specs.declared.stage.Hand.{Hand}
use Rattle.pp_vault.specs.Stages.{stage_worker}
use Rattle.pp_hall.proofs.Filling.{filled_more, nil}
use Rattle.pp_hall.proofs.posts.Posts.new.Goals as goal

pub loop-worker-preserved : goal.loop-worker-preserved
loop-worker-preserved g c = record {
  filled =
      filled_more c.args.settings.now.workers c.loop-worker.worker c.loop-worker.places.items c.loop-worker.hands.workers
      (vec_len c.loop-worker.devices) c.parked.result c.push_reserved.new.self.items c.part.new.self.workers
      (vec_len c.pop.new.self) c.loop-worker.invariant.filled (omega (arith, c.workers-workers.ensures.is))
      (ap (λ (h : Hand). stage_worker h.stage) c.parked.ensures ∙ c.in-Some-part.ensures.of) c.push_reserved.ensures.items
      c.in-Some-part.ensures.taken (omega (arith, c.in-Some.ensures.len));
  places = c.push_reserved.ensures.capacity ∙ c.loop-worker.invariant.places;
  devices = c.pop.ensures.capacity ∙ c.loop-worker.invariant.devices;
}

pub invariant_of-result : goal.invariant_of-result
invariant_of-result g c = record {
  own = c.loop-worker.invariant.filled.own;
  free = λ w less.
      c.loop-worker.invariant.filled.free w (omega (arith, less, c.loop-worker.invariant.filled.count));
  none = nil c.pop-2.new.self.items c.loop-worker.devices.items c.in-Some-pop.device c.in-Some-pop.ensures.items
      (omega (arith, c.loop-worker.invariant.filled.left, c.workers-workers.ensures.is));
  room = omega (
    arith,
    c.loop-worker.invariant.filled.count,
    c.pop-2.ensures.capacity,
    c.loop-worker.invariant.devices,
    c.requires.ends,
    c.workers-workers.ensures.is,
  );
}

pub returns-clause-there : goal.returns-clause-there
returns-clause-there g c =
    let all : c.loop-worker.worker ≡ c.args.settings.now.workers =
    omega (arith, c.loop-worker.invariant.filled.left, c.workers-workers.ensures.is) in
    c.loop-worker.invariant.filled.there ∙ ap (λ (n : ℕ). replicate n true) all
