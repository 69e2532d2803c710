use Rattle.pp_buffer_pool.proofs.Taking.{given_other, not_take}
use Rattle.pp_buffer_pool.proofs.site.ExecuteSiteSite.perform.Goals as goal

pub returns-in_default : goal.returns-in_default
returns-in_default g c = record {
  given =
      given_other c.args.self.now c.args.request c.perform_later.result c.perform_later.new.self
      (not_take c.args.request c.in_default.not-Take) c.perform_later.ensures.given c.perform_later.ensures.plan;
  fits = c.perform_later.ensures.given.0;
}
