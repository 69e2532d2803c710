use Rattle.std.proofs.Common.{ap, refl}
use Rattle.pp_run.specs.declared.desk.RunDesk.{RunDesk}
use Rattle.pp_run.proofs.Desks.{same_desk}
use Rattle.pp_run.proofs.Tried.{IsOfRun, read_kept, desk_reads, on_error}
use Rattle.pp_run.proofs.desk.RunDeskSite.read.Goals as goal

pub invariant_of-self : goal.invariant_of-self
invariant_of-self g c =
    let d = c.args.self.now in
    let k : IsOfRun g.N.Naming.settings g.N.Naming.plans g.N.Naming.outset g.N.Naming.page_bytes c.read.new.self.book
    = read_kept g.N.Naming.settings g.N.Naming.plans g.N.Naming.outset g.N.Naming.page_bytes d.site c.read.new.self c.args.session c.args.page
    c.read.result c.read.ensures.given c.read.ensures.same
    record { settings = d.settings; taken = d.plans; outset = d.outset; page_bytes = d.page_bytes; begun = d.begun; moving = d.moving } in
    record { settings = k.settings; plans = k.taken; outset = k.outset; page_bytes = k.page_bytes; begun = k.begun; moving = k.moving }

pub returns-clause-given : goal.returns-clause-given
returns-clause-given g c =
    let d = c.args.self.now in
    desk_reads (λ (t : RunDesk g.row.N.Denot g.N.Naming). t.site) g.N.Naming.settings g.N.Naming.plans g.N.Naming.outset g.N.Naming.page_bytes
    (λ s h. record d { site = s; settings = h.settings; plans = h.taken; outset = h.outset; page_bytes = h.page_bytes; begun = h.begun; moving = h.moving })
    (λ s h. refl) d _
    (record { settings = d.settings; taken = d.plans; outset = d.outset; page_bytes = d.page_bytes; begun = d.begun; moving = d.moving })
    c.args.session c.args.page c.read.result c.read.ensures.given

pub returns-clause-same : goal.returns-clause-same
returns-clause-same g c =
    let d = c.args.self.now in
    on_error c.read.result
    (λ same. same_desk g.row.N g.N.Naming _ d (ap (λ s. (s, (d.hands, (d.pages, (d.of, (d.finished, tt)))))) same))
    c.read.ensures.same
