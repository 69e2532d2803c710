use Rattle.std.proofs.Common.{◌∙◌, sym}
use Rattle.pp_vault.specs.Parts.{parts_of}
use Rattle.pp_vault.proofs.Looked.{can_see, shows}
use Rattle.pp_vault.proofs.store.Store.look.Goals as goal

pub show-requires-clause-there : goal.show-requires-clause-there
show-requires-clause-there c =
    can_see (parts_of c.args.self.now) c.args.guard.now
    (λ s st. sym (c.may_see.ensures s st) ∙ c.if-not-may_see.false) c.requires

pub returns-clause-shown : goal.returns-clause-shown
returns-clause-shown c =
    shows (parts_of c.args.self.now) c.args.guard.now
    (λ s st. sym (c.may_see.ensures s st) ∙ c.if-not-may_see.false) c.show.new.bytes c.show.ensures
