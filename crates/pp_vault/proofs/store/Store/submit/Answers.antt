use Rattle.pp_vault.specs.Parts.{parts_of}
use Rattle.pp_vault.proofs.Submitted.{takes_by}
use Rattle.pp_vault.proofs.store.Store.submit.Goals as goal

pub returns-clause-ok : goal.returns-clause-ok
returns-clause-ok c =
    takes_by (parts_of c.args.self.now) c.args.accepted c.submit.new.self c.submit.result c.submit.ensures.ok
