-- What is left to show of KeyedCache::pages.
use Rattle.std.proofs.Common.{◌≡◌, ap, sym, ◌∙◌}
use Rattle.pp_cache.specs.Frames.{resident_count}
use Rattle.pp_cache.specs.Cache.{PageCache}
use Rattle.pp_keyed.specs.Keyed.{Keyed, by_keys}
use Rattle.pp_keyed.proofs.ByKeysLemmas.{named_of, resident-by_keys}
use Rattle.pp_keyed.proofs.keyed.KeyedCache.pages.Goals as goal

pub returns : goal.returns
returns c =
    let e : by_keys c.self.inside.names c.self.inside.cache ≡ c.args.self.now.cache = ap (λ (w : Keyed). w.cache) c.self.view_is in
    record {
      value = c.pages.ensures.value
          ∙ sym (resident-by_keys c.self.inside.names c.self.inside.cache (named_of c.self.inside.names c.self.inside.cache c.self.invariant))
          ∙ ap (λ (s : PageCache). resident_count s.table) e;
    }
