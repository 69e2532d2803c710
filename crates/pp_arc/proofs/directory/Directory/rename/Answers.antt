-- What is left to show of Directory::rename: the bounds hold with the page under its new name.
use Rattle.std.proofs.Common.{◌≡◌, ℕ, ◌<◌, subst, sym, ap, ◌∙◌, arith, inl, inr}
use Rattle.pp_arc.specs.FourLists.{FourLists}
use Rattle.pp_arc.specs.Bounds.{IsWithinBounds}
use Rattle.pp_arc.specs.Laws.{CachesRenamed}
use Rattle.pp_arc.specs.Sizes.{renamed}
use Rattle.pp_arc.proofs.MoveLemmas.{room_renamed}
use Rattle.pp_arc.proofs.SizeLemmas.{bounds-renamed, renamed-sized}
use Rattle.pp_arc.proofs.RenameLemmas.{CachesRenamed-renamed}
use Rattle.pp_arc.proofs.SearchLemmas.{KeepsBut}
use Rattle.pp_arc.proofs.directory.Directory.rename.Goals as goal

-- the bounds of a directory with these links
bounds_after : (s links now : FourLists) (c target old new : ℕ) → record s { c = c; target = target } ≡ now
    → IsWithinBounds (record s { c = c; target = target }) → new < now.pages → links ≡ renamed s old new
    → IsWithinBounds (record links { c = c; target = target })
bounds_after s links now c target old new view h low e =
    subst IsWithinBounds
    (sym (ap (λ (w : FourLists). record w { c = c; target = target }) e ∙ renamed-sized s c target old new))
    (bounds-renamed (record s { c = c; target = target }) old new h
    (subst (λ (w : FourLists). new < w.pages) (sym view) low))

pub invariant_of-self : goal.invariant_of-self
invariant_of-self g c = record {
  bounds = bounds_after (g.L.Lists.lists c.self.inside.links) (g.L.Lists.lists c.rename.new.links) c.args.self.now
      c.self.inside.c c.self.inside.target c.args.old c.args.new c.self.view_is c.self.invariant.bounds
      c.requires.below c.rename.ensures.lists;
  room = room_renamed (g.L.Lists.lists c.self.inside.links) (g.L.Lists.lists c.rename.new.links) c.self.inside.c
      c.args.old c.args.new c.rename.ensures.lists c.self.invariant.room;
}

pub rename-requires-clause-short : goal.rename-requires-clause-short
rename-requires-clause-short g c = omega (arith, c.self.invariant.bounds.total, c.self.ranges.0.1)

pub rename-requires-clause-room : goal.rename-requires-clause-room
rename-requires-clause-room g c = elim c.self.invariant.room [
  | inl le ↦ inl (omega (arith, le, c.self.invariant.bounds.total))
  | inr all ↦ inr all
]

pub returns-clause-bounds : goal.returns-clause-bounds
returns-clause-bounds g c =
    bounds_after (g.L.Lists.lists c.self.inside.links) (g.L.Lists.lists c.rename.new.links) c.args.self.now
    c.self.inside.c c.self.inside.target c.args.old
    c.args.new c.self.view_is c.self.invariant.bounds c.requires.below c.rename.ensures.lists

-- the page is cached under its new name
caches_after : (s links now : FourLists) (c target old new : ℕ) → record s { c = c; target = target } ≡ now
    → links ≡ renamed s old new → CachesRenamed now (record links { c = c; target = target }) old new
caches_after s links now c target old new view e =
    subst (λ (w : FourLists). CachesRenamed w (record links { c = c; target = target }) old new) view
    (subst (λ (w : FourLists). CachesRenamed (record s { c = c; target = target }) w old new)
    (sym (ap (λ (w : FourLists). record w { c = c; target = target }) e ∙ renamed-sized s c target old new))
    (CachesRenamed-renamed (record s { c = c; target = target }) old new))

pub returns-clause-cache : goal.returns-clause-cache
returns-clause-cache g c =
    caches_after (g.L.Lists.lists c.self.inside.links) (g.L.Lists.lists c.rename.new.links) c.args.self.now
    c.self.inside.c c.self.inside.target c.args.old
    c.args.new c.self.view_is c.rename.ensures.lists

pub returns-clause-knows : goal.returns-clause-knows
returns-clause-knows g c =
    subst (λ (w : FourLists). KeepsBut w (record (g.L.Lists.lists c.rename.new.links) {
      c = c.self.inside.c;
      target =
          c.self.inside.target;
    })
    c.args.search.now c.rename.new.search c.args.old c.args.new) c.self.view_is c.rename.ensures.knows
