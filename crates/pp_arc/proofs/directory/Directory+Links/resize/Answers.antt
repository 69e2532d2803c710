-- What is left to show of Directory::<Links>::resize: the bounds of a cache of the new size hold, and it has room.
use Rattle.std.proofs.Common.{◌≡◌, ◌≤◌, min, ap, sym, subst, ◌∙◌, ℕ, inr, arith}
use Rattle.pp_arc.specs.FourLists.{FourLists, cached_count}
use Rattle.pp_arc.specs.Fields.{lists_with, IsSound}
use Rattle.pp_arc.specs.Sizes.{with_names}
use Rattle.pp_arc.proofs.MoveLemmas.{resized_sound, resized_lists, fits_c}
use Rattle.pp_arc.proofs.directory.Directory+Links.resize.Goals as goal

pub keep_first-requires : goal.keep_first-requires
keep_first-requires c = record {
  cached = fits_c c.self.inside.links c.args.self.now c.self.inside.c c.self.inside.target c.args.c c.self.view_is
      c.requires.cached;
}

pub invariant_of-self : goal.invariant_of-self
invariant_of-self c = resized_sound c.self.inside.links c.keep_first.new.links c.self.inside.c c.self.inside.target
    c.args.c c.min-self-inside.result c.self.invariant c.keep_first.ensures.lists c.requires.holds_a_page
    (fits_c c.self.inside.links c.args.self.now c.self.inside.c c.self.inside.target c.args.c c.self.view_is
    c.requires.cached) (omega (arith, c.min-self-inside.ensures)) (inr (omega (arith, c.pages-pages.ensures.room)))

pub returns-clause-bounds : goal.returns-clause-bounds
returns-clause-bounds c = (invariant_of-self c).bounds

pub returns-clause-lists : goal.returns-clause-lists
returns-clause-lists c =
    resized_lists c.self.inside.links c.keep_first.new.links c.args.self.now c.self.inside.c c.self.inside.target
    c.args.c c.min-self-inside.result c.keep_first.ensures.lists (omega (arith, c.min-self-inside.ensures))
    c.self.view_is
