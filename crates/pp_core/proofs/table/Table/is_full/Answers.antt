use Rattle.std.proofs.Common.{◌≡◌, ◌∙◌, ◌+◌, sym, arith}
use Rattle.std.specs.Prelude.{◌==◌}
use Rattle.pp_arc.specs.FourLists.{cached_count}
use Rattle.pp_core.specs.Parts.{parts_of}
use Rattle.pp_core.proofs.RefusalTies.{size_is, few_cached, frames_few}
use Rattle.pp_core.proofs.table.Table.is_full.Goals as goal

pub overflow_add-result : goal.overflow_add-result
overflow_add-result c =
    let f = parts_of c.args.self.now in
    omega (
      arith,
      c.len.ensures.len,
      c.len-2.ensures.len,
      size_is f c.requires,
      few_cached f c.requires,
      frames_few f c.requires,
    )

pub returns : goal.returns
returns c =
    let f = parts_of c.args.self.now in
    let count : c.len.result + c.len-2.result ≡ cached_count f.lists =
    λ i. c.len.ensures.len i + c.len-2.ensures.len i in
    let size : c.frames.result ≡ f.lists.c = c.frames.ensures.is ∙ sym (size_is f c.requires) in
    λ i. count i == size i
