-- What is left to show of KeyedCache::may_bring_in.
use Rattle.std.proofs.Common.{◌≡◌, ap, sym, ◌∙◌}
use Rattle.pp_cache.specs.Cache.{PageCache, may_bring_in}
use Rattle.pp_keyed.specs.Keyed.{Keyed, by_keys}
use Rattle.pp_keyed.proofs.ByKeysLemmas.{named_of}
use Rattle.pp_keyed.proofs.AnswerLemmas.{may-by_keys}
use Rattle.pp_keyed.proofs.keyed.KeyedCache.may_bring_in.Goals as goal

pub returns : goal.returns
returns c =
    let e : by_keys c.self.inside.names c.self.inside.cache ≡ c.args.self.now.cache = ap (λ (w : Keyed). w.cache) c.self.view_is in
    record {
      value = c.may_bring_in.ensures
          ∙ sym (may-by_keys c.self.inside.names c.self.inside.cache c.args.create
          (named_of c.self.inside.names c.self.inside.cache c.self.invariant))
          ∙ ap (λ (s : PageCache). may_bring_in s c.args.create) e;
    }
