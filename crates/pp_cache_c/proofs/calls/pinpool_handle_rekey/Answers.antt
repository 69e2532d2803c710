-- What is left to show of pinpool_handle_rekey: where it answers that it is done, the cache did it.
use Rattle.std.proofs.Common.{sym, ap, ◌∙◌, ◌≡◌}
use Rattle.std.specs.Prelude.{Some}
use Rattle.pp_cache.specs.Cache.{after_rekey}
use Rattle.pp_cache_c.proofs.CallLemmas.{goes, is_done}
use Rattle.pp_cache_c.proofs.calls.pinpool_handle_rekey.Goals as goal

pub returns-in-Some-clause-done : goal.returns-in-Some-clause-done
returns-in-Some-clause-done c =
    goes (λ before after. c.code-in-Some.result ≡ 0 → after.cache ≡ after_rekey before.cache c.args.old c.args.new)
    c.args.handle.now.value c.put.new.handle.value c.deref_mut.result.now (record { cache = c.rekey-status.new.kept })
    (c.in-Some.ensures.taken ∙ ap Some (sym c.deref_mut.ensures.value)) c.put.ensures
    (λ e. c.rekey-status.ensures.done (is_done c.rekey-status.result (sym c.code-in-Some.ensures.value ∙ e)))
