-- What is left to show of KeyedCache::fetch: where the page stood in no frame, nothing had changed before.
use Rattle.std.proofs.Common.{◌≡◌, ap, subst, ◌∙◌}
use Rattle.pp_cache.specs.Frames.{IsFree}
use Rattle.pp_cache.specs.Cache.{asked, after_bring_in, without_victim}
use Rattle.pp_keyed.specs.Keyed.{Keyed, with_frame}
use Rattle.pp_keyed.proofs.keyed.KeyedCache.fetch.Goals as goal

pub returns-clause-new : goal.returns-clause-new
returns-clause-new c = λ frame left is.
    let e : c.pin.new.self ≡ c.args.self.now = c.in_default.ensures.exact in
    c.fetch_new.ensures.new frame left is ∙ ap (λ (v : Keyed). after_bring_in (with_frame v.cache) c.args.key frame) e

pub returns-clause-new_is_free : goal.returns-clause-new_is_free
returns-clause-new_is_free c = λ frame left is.
    let e : c.pin.new.self ≡ c.args.self.now = c.in_default.ensures.exact in
    subst (λ (v : Keyed). IsFree (without_victim (with_frame v.cache).table (asked v.cache c.args.key).0) frame) e
    (c.fetch_new.ensures.new_is_free frame left is)
