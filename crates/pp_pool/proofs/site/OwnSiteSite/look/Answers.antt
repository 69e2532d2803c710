use Rattle.std.proofs.Common.{◌∙◌, sym, ap}
use Rattle.pp_pool.specs.Parts.{state_of}
use Rattle.pp_pool.proofs.Looking.{shows_page}
use Rattle.pp_pool.proofs.site.OwnSiteSite.look.Goals as goal

pub returns-in-Some-clause-given : goal.returns-in-Some-clause-given
returns-in-Some-clause-given c =
    shows_page c.args.self.now.book.vault (state_of c.args.self.now.book) c.args.guard.now c.in-Some.body.now
    c.args.bytes.now c.copy_front.new.bytes c.copy_front.result c.known.ensures.kept.stands (sym c.in-Some.ensures.some)
    c.in-Some.ensures.shown c.copy_front.ensures.result
    (λ yes. c.copy_front.ensures.head yes ∙ ap (λ p. (p, c.mark.result)) c.page.ensures
    ∙ ap (λ m. (c.args.guard.now.page, m)) c.mark.ensures)
    c.copy_front.ensures.body c.copy_front.ensures.long c.copy_front.ensures.unchanged c.copy_front.ensures.length
