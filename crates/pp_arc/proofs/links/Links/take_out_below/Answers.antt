-- Takes a page of the table out: three writes, and one count falls.
use Rattle.std.proofs.Common.{arith}
use Rattle.pp_arc.specs.Table.{content_of}
use Rattle.pp_arc.proofs.LinkLemmas.{Holds-take, reads_out, forget-none, gone-forget}
use Rattle.pp_arc.proofs.links.Links.take_out_below.Goals as goal

pub index_mut-requires : goal.index_mut-requires
index_mut-requires c =
    let o = c.index-record.result.now in
    omega (
      arith,
      (reads_out (content_of c.self.inside) c.args.self.now c.in-Some.list c.args.page o c.self.invariant
          c.self.view_is c.requires.below c.in-Some.is c.index-record.ensures).before,
    )

pub index_mut-requires-in-Some : goal.index_mut-requires-in-Some
index_mut-requires-in-Some c =
    let o = c.index-record.result.now in
    omega (
      arith,
      (reads_out (content_of c.self.inside) c.args.self.now c.in-Some.list c.args.page o c.self.invariant
          c.self.view_is c.requires.below c.in-Some.is c.index-record.ensures).after,
    )

pub overflow_sub-self : goal.overflow_sub-self
overflow_sub-self c =
    let o = c.index-record.result.now in
    omega (
      arith,
      (reads_out (content_of c.self.inside) c.args.self.now c.in-Some.list c.args.page o c.self.invariant
          c.self.view_is c.requires.below c.in-Some.is c.index-record.ensures).counted c.code_of.result
          c.code_of.ensures.code,
    )

pub invariant_of-self : goal.invariant_of-self
invariant_of-self c =
    let o = c.index-record.result.now in
    (Holds-take (content_of c.self.inside) c.args.self.now c.in-Some.list c.args.page c.code_of.result o
    c.index_mut.result.now c.index_mut-in-Some.result.now c.index_mut-in-Some-2.result.now c.self.invariant
    c.self.view_is c.code_of.ensures.code c.requires.below c.in-Some.is c.index-record.ensures
    c.index_mut.ensures.value c.index_mut-in-Some.ensures.value c.index_mut-in-Some-2.ensures.value
    (omega arith)).sound

pub returns-in-Some : goal.returns-in-Some
returns-in-Some c =
    let o = c.index-record.result.now in
    let done = Holds-take (content_of c.self.inside) c.args.self.now c.in-Some.list c.args.page c.code_of.result o
    c.index_mut.result.now c.index_mut-in-Some.result.now c.index_mut-in-Some-2.result.now c.self.invariant
    c.self.view_is c.code_of.ensures.code c.requires.below c.in-Some.is c.index-record.ensures
    c.index_mut.ensures.value c.index_mut-in-Some.ensures.value c.index_mut-in-Some-2.ensures.value (omega arith) in
    record { lists = done.is; gone = gone-forget c.args.self.now _ c.args.page done.is }

pub returns-in_default : goal.returns-in_default
returns-in_default c =
    let same = forget-none (content_of c.self.inside) c.args.self.now c.args.page c.index-record.result.now
    c.self.invariant c.self.view_is c.requires.below c.index-record.ensures c.in_default.is in
    record { lists = same; gone = gone-forget c.args.self.now c.args.self.now c.args.page same }
