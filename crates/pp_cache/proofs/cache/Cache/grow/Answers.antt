-- What is left to show of Cache::grow: keys without a page change nothing else.
use Rattle.std.proofs.Common.{◌≡◌, ℕ, ◌≤◌, length, refl, subst, sym, ap, ◌∙◌, arith}
use Rattle.pp_arc.specs.FourLists.{FourLists}
use Rattle.pp_arc.specs.Bounds.{IsWithinBounds}
use Rattle.pp_arc.specs.Sizes.{with_pages, moved_into}
use Rattle.pp_cache.specs.Frames.{FrameMap, page_of, with_keys, is_pinned}
use Rattle.pp_cache.specs.Cache.{PageCache, SamePages, IsSound, grown}
use Rattle.pp_cache.proofs.CacheLemmas.{together-grow, one_to_one-keys, page-keys}
use Rattle.pp_cache.proofs.cache.Cache.grow.Goals as goal

-- what both fields are afterwards
sound_grown : (s : PageCache) (lists : FourLists) (table : FrameMap) (keys : ℕ) → IsSound s → length s.table.pages ≤ keys
    → IsWithinBounds lists → lists ≡ with_pages s.lists keys → table ≡ with_keys s.table keys
    → IsSound (record { lists = lists; table = table })
sound_grown s lists table keys h more bounds e f = record {
  bounds = bounds;
  frames = rw f (one_to_one-keys s.table keys h.frames);
  together = rw f (together-grow s lists keys h.together more e);
}

same_grown : (s : PageCache) (lists : FourLists) (table : FrameMap) (keys : ℕ)
    → lists ≡ with_pages s.lists keys → table ≡ with_keys s.table keys
    → SamePages s (record { lists = lists; table = table })
same_grown s lists table keys e f = record {
  lists = e ∙ ap (with_pages s.lists) (sym (ap (λ (w : FourLists). w.pages) e));
  pages = λ k. ap (λ (w : FrameMap). page_of w k) f ∙ page-keys s.table keys k;
}

-- the lists in a larger directory for a cache of the same size
same_lists : (s t larger : FourLists) (keys : ℕ) → t ≡ moved_into s larger → larger.c ≡ s.c → larger.pages ≡ keys
    → t ≡ with_pages s keys
same_lists s t larger keys e size pages =
    e ∙ ap (λ (n : ℕ). record s { c = n; pages = larger.pages }) size ∙ ap (with_pages s) pages

-- these lists and this table
abbrev both : FourLists → FrameMap → PageCache
both lists table = record { lists = lists; table = table }

-- what they are, by what contracts see
both_grown : (s v : PageCache) (lists : FourLists) (table : FrameMap) (keys : ℕ)
    → lists ≡ with_pages s.lists keys → table ≡ with_keys s.table keys → s ≡ v → both lists table ≡ grown v keys
both_grown s v lists table keys e f same =
    ap (λ (w : FourLists). both w table) e
    ∙ ap (λ (w : FrameMap). both (with_pages s.lists keys) w) f
    ∙ ap (λ (w : PageCache). grown w keys) same

-- the larger directory is for a cache of the same size
pub move_into-requires-clause-larger : goal.move_into-requires-clause-larger
move_into-requires-clause-larger c =
    omega (arith, ap (λ (w : FourLists). w.c) c.in_ok-larger.ensures.empty, c.size.ensures.size)

pub returns-clause-grown : goal.returns-clause-grown
returns-clause-grown c =
    let pages : c.in_ok-larger.larger.pages ≡ c.args.keys = ap (λ (w : FourLists). w.pages) c.in_ok-larger.ensures.empty
    in
    let size : c.in_ok-larger.larger.c ≡ c.self.inside.directory.c = ap (λ (w : FourLists). w.c)
    c.in_ok-larger.ensures.empty ∙ c.size.ensures.size in
    λ ok. both_grown (record { lists = c.self.inside.directory; table = c.self.inside.frames }) c.args.self.now
    c.move_into.new.self c.grow.new.self c.args.keys
    (same_lists c.self.inside.directory c.move_into.new.self c.in_ok-larger.larger c.args.keys
    c.move_into.ensures.lists size pages)
    (c.in_ok-grow.ensures.grown refl) c.self.view_is

pub returns-clause-same_pages : goal.returns-clause-same_pages
returns-clause-same_pages c =
    let pages : c.in_ok-larger.larger.pages ≡ c.args.keys = ap (λ (w : FourLists). w.pages) c.in_ok-larger.ensures.empty
    in
    let size : c.in_ok-larger.larger.c ≡ c.self.inside.directory.c = ap (λ (w : FourLists). w.c)
    c.in_ok-larger.ensures.empty ∙ c.size.ensures.size in
    subst (λ (w : PageCache). SamePages w (record { lists = c.move_into.new.self; table = c.grow.new.self }))
    c.self.view_is
    (same_grown (record { lists = c.self.inside.directory; table = c.self.inside.frames }) c.move_into.new.self
    c.grow.new.self c.args.keys
    (same_lists c.self.inside.directory c.move_into.new.self c.in_ok-larger.larger c.args.keys
    c.move_into.ensures.lists size pages)
    (c.in_ok-grow.ensures.grown refl))

pub returns-clause-sound : goal.returns-clause-sound
returns-clause-sound c =
    let pages : c.in_ok-larger.larger.pages ≡ c.args.keys = ap (λ (w : FourLists). w.pages) c.in_ok-larger.ensures.empty
    in
    let size : c.in_ok-larger.larger.c ≡ c.self.inside.directory.c = ap (λ (w : FourLists). w.c)
    c.in_ok-larger.ensures.empty ∙ c.size.ensures.size in
    let more : length c.self.inside.frames.pages ≤ c.args.keys =
    subst (λ (w : PageCache). length w.table.pages ≤ c.args.keys) (sym c.self.view_is) c.requires.more in
    sound_grown (record { lists = c.self.inside.directory; table = c.self.inside.frames }) c.move_into.new.self
    c.grow.new.self c.args.keys c.self.invariant.sound more c.move_into.ensures.bounds
    (same_lists c.self.inside.directory c.move_into.new.self c.in_ok-larger.larger c.args.keys
    c.move_into.ensures.lists size pages)
    (c.in_ok-grow.ensures.grown refl)

pub invariant_of-self-2 : goal.invariant_of-self-2
invariant_of-self-2 c =
    let pages : c.in_ok-larger.larger.pages ≡ c.args.keys = ap (λ (w : FourLists). w.pages) c.in_ok-larger.ensures.empty
    in
    let e : c.move_into.new.self.pages ≡ c.args.keys = ap (λ (w : FourLists). w.pages) c.move_into.ensures.lists ∙ pages in
    record {
      sound = returns-clause-sound c;
      knows = c.in_ok-search.ensures.knows c.move_into.new.self (is_pinned c.grow.new.self) (omega (arith, e));
    }
