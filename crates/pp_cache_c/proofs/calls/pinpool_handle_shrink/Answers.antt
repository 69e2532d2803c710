-- What is left to show of pinpool_handle_shrink: the cache of the handle keeps what the cache keeps.
use Rattle.std.proofs.Common.{sym, ap, ◌∙◌}
use Rattle.std.specs.Prelude.{Some, not}
use Rattle.pp_cache.specs.Cache.{KeepsOnly, is_idle}
use Rattle.pp_cache_c.proofs.CallLemmas.{goes}
use Rattle.pp_cache_c.proofs.calls.pinpool_handle_shrink.Goals as goal

pub returns-in-Some-clause-exact : goal.returns-in-Some-clause-exact
returns-in-Some-clause-exact c =
    goes (λ old new. KeepsOnly (λ key. not (is_idle old.cache.table key)) old.cache new.cache) c.args.handle.now.value
    c.put.new.handle.value c.deref_mut.result.now (record { cache = c.shrink.new.self })
    (c.in-Some.ensures.taken ∙ ap Some (sym c.deref_mut.ensures.value)) c.put.ensures c.shrink.ensures.exact
