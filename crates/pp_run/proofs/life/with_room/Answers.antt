use Rattle.std.proofs.Common.{ap, arith}
use Rattle.pp_model.specs.Pool.{Settings}
use Rattle.pp_run.proofs.Paged.{renews_pages}
use Rattle.pp_run.proofs.Ready.{fresh_room}
use Rattle.pp_run.proofs.life.with_room.Goals as goal

pub returns-in-Ok-clause-spare : goal.returns-in-Ok-clause-spare
returns-in-Ok-clause-spare c =
    let had = fresh_room c.args.book.now c.known.ensures.kept c.requires.fresh.0 in
    let same = ap (λ (k : Settings). k.flushes) c.in-Ok.ensures.fresh.2 in
    let told = c.in-Ok.ensures.spare in omega (arith, had, same, told)

pub returns-in-Ok-clause-page_bytes : goal.returns-in-Ok-clause-page_bytes
returns-in-Ok-clause-page_bytes c = renews_pages c.args.book.now.vault c.renew.new.self.vault c.in-Ok.ensures.vault
