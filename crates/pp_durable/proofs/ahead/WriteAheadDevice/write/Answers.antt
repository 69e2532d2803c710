use Rattle.std.proofs.Common.{rules, sym, ◌∙◌}
use Rattle.pp_durable.proofs.AheadLemmas.{once-held, once-handed}
use Rattle.pp_durable.proofs.ahead.WriteAheadDevice.write.Goals as goal

pub returns-then-is_err-clause-left : goal.returns-then-is_err-clause-left
returns-then-is_err-clause-left g c =
    record {
      told = c.force.result;
      forced = rw (← c.self.view_is, ← c.number_in-number.ensures) c.force.ensures.left;
      written =
          rw (← c.self.view_is)
          (once-held g.D.Device.write_leaves c.force.result (g.L.Log.number_in c.args.image.now) c.self.inside.newest
          c.self.inside.device c.args.page c.args.image.now (sym c.is_err.ensures.value ∙ c.if-is_err.true));
      ahead = search rules;
      counts = search rules;
    }

pub returns-then-is_err-2-clause-left : goal.returns-then-is_err-2-clause-left
returns-then-is_err-2-clause-left g c =
    record {
      told = c.force.result;
      forced = rw (← c.self.view_is, ← c.number_in-number.ensures) c.force.ensures.left;
      written =
          rw (← c.self.view_is, c.max-self-inside.ensures, c.number_in-number.ensures)
          (once-handed g.D.Device.write_leaves c.force.result (g.L.Log.number_in c.args.image.now) c.self.inside.newest
          c.self.inside.device c.hand_on-answer.new.device c.args.page c.args.image.now c.hand_on-answer.result
          (sym c.is_err.ensures.value ∙ c.if-is_err.false) c.hand_on-answer.ensures.left);
      ahead = search rules;
      counts = search rules;
    }

pub returns-else-is_err-2-clause-left : goal.returns-else-is_err-2-clause-left
returns-else-is_err-2-clause-left g c =
    record {
      told = c.force.result;
      forced = rw (← c.self.view_is, ← c.number_in-number.ensures) c.force.ensures.left;
      written =
          rw (← c.self.view_is, c.max-self-inside.ensures, c.number_in-number.ensures)
          (once-handed g.D.Device.write_leaves c.force.result (g.L.Log.number_in c.args.image.now) c.self.inside.newest
          c.self.inside.device c.hand_on-answer.new.device c.args.page c.args.image.now c.hand_on-answer.result
          (sym c.is_err.ensures.value ∙ c.if-is_err.false) c.hand_on-answer.ensures.left);
      ahead = search rules;
      counts = search rules;
    }
