use Rattle.std.proofs.Common.{◌≡◌, refl, subst}
use Rattle.pp_settings.specs.declared.span.Span.TheVariants.{Bounded}
use Rattle.pp_model.specs.Reached.{IsReached}
use Rattle.pp_run.specs.Rested.{Rested, opening_of}
use Rattle.pp_run.proofs.pool.Pool.known.Goals as goal

pub returns-clause-opens : goal.returns-clause-opens
returns-clause-opens c = subst (λ (p : Rested). IsReached (opening_of p)) c.self.view_is c.known.ensures.kept.opened

pub returns-clause-bounded : goal.returns-clause-bounded
returns-clause-bounded c = subst (λ (p : Rested). p.settings.span ≡ Bounded) c.self.view_is refl
