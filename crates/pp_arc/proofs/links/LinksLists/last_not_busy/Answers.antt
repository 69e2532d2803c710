-- What is left to show of Links::last_not_busy.
use Rattle.std.proofs.Common.{◌≡◌, ◌-◌, ◌+◌, get_or, arith, ap, sym, ◌∙◌}
use Rattle.pp_arc.specs.declared.links.Record.{Record}
use Rattle.pp_arc.specs.Table.{content_of, table_of, blank}
use Rattle.pp_arc.proofs.WriteLemmas.{read}
use Rattle.pp_arc.proofs.LinkLemmas.{tagged-in_range}
use Rattle.pp_arc.proofs.LookLemmas.{back_tagged, head_tagged, find_begins, find_none, find_busy, find_free}
use Rattle.pp_arc.proofs.links.LinksLists.last_not_busy.Goals as goal

pub loop-init : goal.loop-init
loop-init g c = record {
  tagged = head_tagged (content_of c.self.inside) c.args.list c.code_of-code.result c.self.invariant
      c.code_of-code.ensures.code;
  rest = find_begins (content_of c.self.inside) c.args.self.now c.args.list c.code_of-code.result
      (get_or c.self.inside.counts c.code_of-code.result 0 - 0) (g.B.Busy.busy c.args.busy.now) c.self.invariant
      c.self.view_is c.code_of-code.ensures.code (omega arith);
}

pub index-requires : goal.index-requires
index-requires g c = omega (
  arith,
  tagged-in_range c.self.inside.records.items c.loop.node c.args.list
      c.loop.invariant.tagged,
)

pub returns-then-not-is_busy : goal.returns-then-not-is_busy
returns-then-not-is_busy g c =
    let e : c.index.result.now ≡ get_or c.self.inside.records.items c.loop.node blank = read
    c.self.inside.records.items c.loop.node c.index.result.now
    (tagged-in_range c.self.inside.records.items c.loop.node c.args.list c.loop.invariant.tagged)
    c.index.ensures in
    sym (find_free (table_of c.self.inside.pages c.self.inside.records.items).before
    (get_or c.self.inside.counts c.code_of-code.result 0 - c.loop.counter) c.loop.node c.index.result.now.before
    (g.B.Busy.busy c.args.busy.now)
    (omega arith) (ap (λ (w : Record). w.before) e) (sym c.is_busy.ensures ∙ c.if-not-is_busy.true)) ∙
    c.loop.invariant.rest

pub loop-preserved : goal.loop-preserved
loop-preserved g c =
    let e : c.index.result.now ≡ get_or c.self.inside.records.items c.loop.node blank = read
    c.self.inside.records.items c.loop.node c.index.result.now
    (tagged-in_range c.self.inside.records.items c.loop.node c.args.list c.loop.invariant.tagged)
    c.index.ensures in
    record {
      tagged = rw e (back_tagged (content_of c.self.inside) c.args.list c.loop.node c.self.invariant
          c.loop.invariant.tagged);
      rest = sym (find_busy (table_of c.self.inside.pages c.self.inside.records.items).before
          (get_or c.self.inside.counts c.code_of-code.result 0 - c.loop.counter)
          (get_or c.self.inside.counts c.code_of-code.result 0 - (c.loop.counter + 1)) c.loop.node
          c.index.result.now.before (g.B.Busy.busy c.args.busy.now)
          (omega arith) (ap (λ (w : Record). w.before) e) (sym c.is_busy.ensures ∙ c.if-not-is_busy.false)) ∙
          c.loop.invariant.rest;
    }

pub returns : goal.returns
returns g c = sym (find_none (table_of c.self.inside.pages c.self.inside.records.items).before
    (get_or c.self.inside.counts c.code_of-code.result 0 - c.loop.counter) c.loop.node (g.B.Busy.busy c.args.busy.now)
    (omega arith)) ∙ c.loop.invariant.rest
