use Rattle.pp_vault.specs.Parts.{parts_of}
use Rattle.pp_vault.proofs.Submitted.{prepared_by}
use Rattle.pp_vault.proofs.store.Store.submit_prepared.Goals as goal

pub returns-clause-ok : goal.returns-clause-ok
returns-clause-ok c =
    prepared_by (parts_of c.args.self.now) c.args.prepared c.submit_prepared.new.self c.submit_prepared.result
    c.submit_prepared.ensures.ok
