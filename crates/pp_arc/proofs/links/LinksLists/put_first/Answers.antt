-- What is left to show of Links::put_first.
use Rattle.std.proofs.Common.{arith}
use Rattle.pp_arc.specs.Table.{content_of}
use Rattle.pp_arc.proofs.LinkLemmas.{Holds-put, first_below, count_at}
use Rattle.pp_arc.proofs.links.LinksLists.put_first.Goals as goal

pub index_mut-requires-3 : goal.index_mut-requires-3
index_mut-requires-3 c = omega (
  arith,
  first_below (content_of c.self.inside) c.args.list c.code_of-code.result
      c.index.result.now c.self.invariant c.code_of-code.ensures.code c.index.ensures,
)

pub overflow_add-self : goal.overflow_add-self
overflow_add-self c = omega (
  arith,
  count_at (content_of c.self.inside) c.args.self.now c.args.list
      c.code_of-code.result c.self.view_is c.code_of-code.ensures.code,
  c.requires.short,
)

pub invariant_of-self : goal.invariant_of-self
invariant_of-self c = (Holds-put (content_of c.self.inside) c.args.self.now c.args.list c.args.page
    c.code_of-code.result c.index.result.now c.index_mut-2.result.now c.index_mut-3.result.now
    c.self.invariant c.self.view_is c.code_of-code.ensures.code c.requires.below c.requires.absent c.index.ensures
    c.index_mut-2.ensures.value c.index_mut-3.ensures.value (omega arith)).sound

pub returns : goal.returns
returns c = record {
  lists = (Holds-put (content_of c.self.inside) c.args.self.now c.args.list c.args.page c.code_of-code.result
      c.index.result.now c.index_mut-2.result.now c.index_mut-3.result.now
      c.self.invariant c.self.view_is c.code_of-code.ensures.code c.requires.below c.requires.absent c.index.ensures
      c.index_mut-2.ensures.value c.index_mut-3.ensures.value (omega arith)).is;
}
