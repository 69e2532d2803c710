use Rattle.std.proofs.Common.{refl, sym, subst, rules}
use Rattle.pp_pool.specs.Turns.{TurnIs}
use Rattle.pp_steps.specs.declared.named.Named.{Named}
use Rattle.pp_steps.specs.Devices.{host_device}
use Rattle.pp_steps.specs.Sites.{step_site}
use Rattle.pp_steps.specs.Works.{named_calls}
use Rattle.pp_steps.proofs.seated.Seated.turn.Goals as goal

pub returns-clause-turns : goal.returns-clause-turns
returns-clause-turns c = record {
  first = record c.begin.new.self.worker { site = c.lend.new.self };
  begins = record { rest = grind rules; log = c.begin.ensures.log };
  last = c.turn-turned.new.self;
  work = c.turn-turned.new.work;
  turn =
      subst (λ (w : Named). TurnIs step_site host_device named_calls
      (record c.begin.new.self.worker { site = c.lend.new.self }) w c.turn-turned.result c.turn-turned.new.self
      c.turn-turned.new.work) c.new-work.ensures c.turn-turned.ensures.turn;
  hall = c.take_back-hall.ensures.hall;
  told_is = sym c.take_back-hall.ensures.told;
  end_is = refl;
  rest = grind rules;
}
