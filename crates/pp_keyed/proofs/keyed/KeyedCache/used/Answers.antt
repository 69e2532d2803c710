-- What is left to show of KeyedCache::used.
use Rattle.std.proofs.Common.{◌≡◌, ◌≤◌, ◌+◌, length, arith, subst, ap, ◌∙◌}
use Rattle.pp_cache.specs.Frames.{resident_count}
use Rattle.pp_keyed.specs.Keyed.{Keyed}
use Rattle.pp_keyed.proofs.CountLemmas.{few-names}
use Rattle.pp_keyed.proofs.keyed.KeyedCache.used.Goals as goal

pub returns-clause-few : goal.returns-clause-few
returns-clause-few c =
    let few : c.args.self.now.used ≤ resident_count c.args.self.now.cache.table + length c.args.self.now.cache.lists.b1
    + length c.args.self.now.cache.lists.b2 =
    subst (λ (w : Keyed). w.used ≤ resident_count w.cache.table + length w.cache.lists.b1 + length w.cache.lists.b2)
    c.self.view_is (few-names c.self.inside.names c.self.inside.cache c.self.invariant) in
    let is : c.used.result ≡ c.args.self.now.used = c.used.ensures.value ∙ ap (λ (w : Keyed). w.used) c.self.view_is in
    omega (arith, few, is)
