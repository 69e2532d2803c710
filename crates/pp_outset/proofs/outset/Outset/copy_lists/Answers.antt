-- What is left to show of Outset::copy_lists: there is room for each list, by ARC's bounds.
use Rattle.std.proofs.Common.{◌≡◌, ◌∙◌, ap, arith}
use Rattle.pp_outset.specs.Outsets.{Outset}
use Rattle.pp_outset.proofs.outset.Outset.copy_lists.Goals as goal

pub copy_pages-requires : goal.copy_pages-requires
copy_pages-requires c =
    let size : c.self.inside.frames ≡ c.args.directory.now.c
    = ap (λ (o : Outset). o.lists.c) c.self.view_is ∙ c.requires.frames in
    omega (arith, size, c.target-self-inside.ensures.bounds.cached, c.self.invariant.t1)

pub copy_pages-requires-2 : goal.copy_pages-requires-2
copy_pages-requires-2 c =
    let size : c.self.inside.frames ≡ c.args.directory.now.c
    = ap (λ (o : Outset). o.lists.c) c.self.view_is ∙ c.requires.frames in
    omega (arith, size, c.target-self-inside.ensures.bounds.cached, c.self.invariant.t2)

pub copy_pages-requires-3 : goal.copy_pages-requires-3
copy_pages-requires-3 c =
    let size : c.self.inside.frames ≡ c.args.directory.now.c
    = ap (λ (o : Outset). o.lists.c) c.self.view_is ∙ c.requires.frames in
    omega (arith, size, c.target-self-inside.ensures.bounds.recent, c.self.invariant.b1)

pub copy_pages-requires-4 : goal.copy_pages-requires-4
copy_pages-requires-4 c =
    let size : c.self.inside.frames ≡ c.args.directory.now.c
    = ap (λ (o : Outset). o.lists.c) c.self.view_is ∙ c.requires.frames in
    omega (arith, size, c.target-self-inside.ensures.bounds.total, c.self.invariant.b2)
