use Rattle.std.proofs.Common.{◌∙◌, sym}
use Rattle.pp_vault.specs.Parts.{parts_of}
use Rattle.pp_vault.proofs.Looked.{can_see, shows_body}
use Rattle.pp_vault.proofs.store.Store.see.Goals as goal

pub image_of-requires : goal.image_of-requires
image_of-requires c =
    can_see (parts_of c.args.self.now) c.args.guard.now
    (λ s st. sym (c.may_see.ensures s st) ∙ c.if-not-may_see.false) c.requires

pub returns-clause-shown : goal.returns-clause-shown
returns-clause-shown c =
    shows_body (parts_of c.args.self.now) c.args.guard.now
    (λ s st. sym (c.may_see.ensures s st) ∙ c.if-not-may_see.false)
    c.image_of.result.now c.image_of.ensures c.body.result.now c.body.ensures
