-- What is left to show of pinpool_handle_truncate: the cache of the handle keeps what the cache keeps.
use Rattle.std.proofs.Common.{sym, ap, ◌∙◌}
use Rattle.std.specs.Prelude.{Some, nat_lt}
use Rattle.pp_cache.specs.Cache.{KeepsOnly}
use Rattle.pp_cache_c.proofs.CallLemmas.{goes}
use Rattle.pp_cache_c.proofs.calls.pinpool_handle_truncate.Goals as goal

pub returns-in-Some-clause-exact : goal.returns-in-Some-clause-exact
returns-in-Some-clause-exact c =
    goes (λ old new. KeepsOnly (λ key. nat_lt key c.args.limit) old.cache new.cache) c.args.handle.now.value c.put.new.handle.value
    c.deref_mut.result.now (record { cache = c.truncate.new.self })
    (c.in-Some.ensures.taken ∙ ap Some (sym c.deref_mut.ensures.value)) c.put.ensures c.truncate.ensures.exact
