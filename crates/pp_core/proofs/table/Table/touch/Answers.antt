-- What is left to show of Table::touch: where the page is cached, ARC was asked for it; else nothing changed.
use Rattle.std.proofs.Common.{ap, sym}
use Rattle.pp_arc.specs.FourLists.{FourLists}
use Rattle.pp_core.specs.Parts.{parts_of}
use Rattle.pp_core.specs.Busy.{is_busy_in, page_of}
use Rattle.pp_core.specs.Effects.{is_busy}
use Rattle.pp_core.proofs.table.Table.touch.Goals as goal

pub invariant_of-self-clause-knows : goal.invariant_of-self-clause-knows
invariant_of-self-clause-knows c =
    c.touch.ensures.knows (is_busy_in c.args.self.now.marks (page_of c.args.self.now.flush)) c.args.self.now.knows

pub returns-clause-answer : goal.returns-clause-answer
returns-clause-answer c is =
    ap (λ p. p.0) (c.touch.ensures.requests is (is_busy (parts_of c.args.self.now)))

pub returns-clause-parts : goal.returns-clause-parts
returns-clause-parts c is =
    let f = parts_of c.args.self.now in
    ap (λ (lists : FourLists). record f { lists = lists }) (sym (ap (λ p. p.1) (c.touch.ensures.requests is (is_busy f))))

pub returns-clause-unchanged : goal.returns-clause-unchanged
returns-clause-unchanged c is =
    ap (λ (lists : FourLists). record (parts_of c.args.self.now) { lists = lists }) (c.touch.ensures.unchanged is).0
