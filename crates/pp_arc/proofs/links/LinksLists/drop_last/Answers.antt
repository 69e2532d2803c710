-- Drops the last page: what the head leads back to is taken out.
use Rattle.std.proofs.Common.{◌∙◌}
use Rattle.pp_arc.specs.Table.{content_of}
use Rattle.pp_arc.proofs.LookLemmas.{forget-last}
use Rattle.pp_arc.proofs.links.LinksLists.drop_last.Goals as goal

pub returns : goal.returns
returns c =
    let o = c.index.result.now in
    record {
      lists = c.take_out.ensures.lists ∙ forget-last (content_of c.self.inside) c.args.self.now c.args.list
          c.code_of.result o c.self.invariant c.self.view_is c.code_of.ensures.code c.index.ensures;
    }
