use Rattle.std.proofs.Common.{◌∙◌, sym, ap}
use Rattle.pp_pool.proofs.Looking.{shows_page}
use Rattle.pp_ledger.proofs.showing.show.Goals as goal

pub returns-in-Some-clause-shown : goal.returns-in-Some-clause-shown
returns-in-Some-clause-shown c s st =
    shows_page c.args.vault.now s c.args.guard.now c.in-Some.body.now c.args.bytes.now c.copy_front.new.bytes
    c.copy_front.result st (sym (c.in-Some.ensures.some s st)) c.in-Some.ensures.shown c.copy_front.ensures.result
    (λ yes. c.copy_front.ensures.head yes ∙ ap (λ p. (p, c.mark.result)) c.page.ensures
    ∙ ap (λ m. (c.args.guard.now.page, m)) c.mark.ensures)
    c.copy_front.ensures.body c.copy_front.ensures.long c.copy_front.ensures.unchanged c.copy_front.ensures.length
