use Rattle.pp_vault.specs.Parts.{parts_of}
use Rattle.pp_vault.proofs.Renewed.{renews_by}
use Rattle.pp_vault.proofs.store.Store.renew.Goals as goal

pub returns-clause-ok : goal.returns-clause-ok
returns-clause-ok c = renews_by (parts_of c.args.self.now) c.renew.new.self c.renew.result c.renew.ensures.ok
