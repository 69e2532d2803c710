-- What is left to show of KeyedCache::pinned.
use Rattle.std.proofs.Common.{◌≡◌, ap, sym, ◌∙◌}
use Rattle.pp_cache.specs.Frames.{pinned_count}
use Rattle.pp_cache.specs.Cache.{PageCache}
use Rattle.pp_keyed.specs.Keyed.{Keyed, by_keys}
use Rattle.pp_keyed.proofs.ByKeysLemmas.{named_of, pinned-by_keys}
use Rattle.pp_keyed.proofs.keyed.KeyedCache.pinned.Goals as goal

pub returns : goal.returns
returns c =
    let e : by_keys c.self.inside.names c.self.inside.cache ≡ c.args.self.now.cache = ap (λ (w : Keyed). w.cache) c.self.view_is in
    record {
      value = c.pinned.ensures.value
          ∙ sym (pinned-by_keys c.self.inside.names c.self.inside.cache (named_of c.self.inside.names c.self.inside.cache c.self.invariant))
          ∙ ap (λ (s : PageCache). pinned_count s.table) e;
    }
