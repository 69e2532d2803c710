-- What is left to show of Cache::drop_in: each page of the list is looked at in turn.
use Rattle.std.proofs.Common.{◌≡◌, length, subst, ap, sym, ◌∙◌, arith}
use Rattle.std.specs.Prelude.{Some, None, slice_get}
use Rattle.pp_arc.specs.FourLists.{list_of, after}
use Rattle.pp_cache.specs.Cache.{PageCache, IsSound, stays}
use Rattle.pp_cache.proofs.WalkLemmas.{walk-start, walk-next, walk-leaving, walk-end, none_past}
use Rattle.pp_cache.proofs.cache.Cache.drop_in.Goals as goal
use Rattle.pp_cache.proofs.cache.Cache.drop_in.Goals.{in-Some, in_default}

pub loop-init : goal.loop-init
loop-init c = record {
  keeps = walk-start (stays c.args.leaving c.args.self.now.table) (list_of c.args.self.now.lists c.args.list) c.args.self.now;
  at = c.front-at.ensures.front ∙ ap (λ (w : PageCache). slice_get (list_of w.lists c.args.list) 0) c.self.view_is;
  sound = subst IsSound c.self.view_is c.self.invariant.sound;
}

pub loop-preserved : goal.loop-preserved
loop-preserved c = elim c.match-at.branch [
  | in-Some w ↦
      let sound : IsSound c.args.self.now = subst IsSound c.self.view_is c.self.invariant.sound in
      let e : slice_get (list_of c.args.self.now.lists c.args.list) c.loop.counter ≡ Some w.in-Some.key =
      sym c.loop.invariant.at ∙ w.in-Some.is in
      rw (w.self-is, w.at-is) (record {
        keeps =
            walk-leaving c.args.leaving c.args.self.now c.loop.self w.drop_leaving.new.self c.args.list
            c.loop.counter w.in-Some.key c.loop.invariant.keeps sound e w.drop_leaving.ensures.exact;
        at = w.after-at.ensures.after ∙ ap (λ (v : PageCache). after v.lists w.in-Some.key) w.self-in-Some.view_is
            ∙ walk-next (stays c.args.leaving c.args.self.now.table) c.args.self.now c.loop.self c.args.list
            c.loop.counter w.in-Some.key c.loop.invariant.keeps sound c.loop.invariant.sound e;
        sound = w.drop_leaving.ensures.sound;
      })
  | in_default w ↦
      let none : slice_get (list_of c.args.self.now.lists c.args.list) c.loop.counter ≡ None =
      sym c.loop.invariant.at ∙ w.in_default.is in
      let length_is : c.len-end.result ≡ length (list_of c.args.self.now.lists c.args.list) =
      c.len-end.ensures.len ∙ ap (λ (v : PageCache). length (list_of v.lists c.args.list)) c.self.view_is in
      absurd (omega (
        arith,
        length_is,
        c.loop-test.true,
        none_past (list_of c.args.self.now.lists c.args.list) c.loop.counter none,
      ))
]

pub returns-clause-exact : goal.returns-clause-exact
returns-clause-exact c =
    let length_is : c.len-end.result ≡ length (list_of c.args.self.now.lists c.args.list) =
    c.len-end.ensures.len ∙ ap (λ (w : PageCache). length (list_of w.lists c.args.list)) c.self.view_is in
    walk-end (stays c.args.leaving c.args.self.now.table) c.args.self.now c.loop.self
    (list_of c.args.self.now.lists c.args.list) c.loop.counter c.loop.invariant.keeps
    (omega (arith, length_is, c.loop-test.false))
