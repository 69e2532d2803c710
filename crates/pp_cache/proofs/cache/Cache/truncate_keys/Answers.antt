-- What is left to show of Cache::truncate_keys: each key from the limit on is dropped in turn.
use Rattle.std.proofs.Common.{◌≡◌, ◌+◌, ◌≤◌, ltb, leb, length, subst, ap, arith}
use Rattle.std.specs.Prelude.{◌||◌}
use Rattle.std.proofs.lemmas.Bool.{le-ltb}
use Rattle.pp_cache.specs.Cache.{PageCache, IsSound}
use Rattle.pp_cache.proofs.CacheLemmas.{keeps_all, keeps_fewer, keeps_same, test_start, test_dropped, test_end}
use Rattle.pp_cache.proofs.cache.Cache.truncate_keys.Goals as goal

pub loop-key-init : goal.loop-key-init
loop-key-init c = record {
  keeps = keeps_all (λ k. ltb k c.args.limit || leb c.args.limit k) c.args.self.now (λ y. test_start c.args.limit y);
  sound = subst IsSound c.self.view_is c.self.invariant.sound;
}

pub loop-key-preserved : goal.loop-key-preserved
loop-key-preserved c = record {
  keeps =
      keeps_fewer (λ k. ltb k c.args.limit || leb c.loop-key.key k)
      (λ k. ltb k c.args.limit || leb (c.loop-key.key + 1) k) c.args.self.now c.loop-key.self c.drop_page.new.self
      c.loop-key.key c.loop-key.invariant.keeps c.drop_page.ensures.exact
      (λ y. test_dropped (ltb y c.args.limit) c.loop-key.key y
      (λ e. rw e (le-ltb c.loop-key.key c.args.limit c.loop-key.auto.key)));
  sound = c.drop_page.ensures.sound;
}

pub returns-clause-exact : goal.returns-clause-exact
returns-clause-exact c =
    let sound : IsSound c.args.self.now = subst IsSound c.self.view_is c.self.invariant.sound in
    let keys : length c.self.inside.frames.pages ≡ length c.args.self.now.table.pages =
    ap (λ (w : PageCache). length w.table.pages) c.self.view_is in
    let last : length c.args.self.now.table.pages ≤ c.loop-key.key =
    omega (arith, keys, c.keys-key-end.ensures.value, c.loop-key-test.false) in
    keeps_same (λ k. ltb k c.args.limit || leb c.loop-key.key k) (λ k. ltb k c.args.limit) c.args.self.now
    c.loop-key.self c.loop-key.invariant.keeps sound
    (λ y lt. test_end (ltb y c.args.limit) c.loop-key.key y (omega (arith, lt, last)))

pub returns-clause-sound : goal.returns-clause-sound
returns-clause-sound c = c.loop-key.invariant.sound
