-- What is left to show of pinpool_handle_fetch: what it does where it answers that the page is in no frame.
use Rattle.std.proofs.Common.{sym, ap, ◌∙◌, ◌≡◌}
use Rattle.std.specs.Prelude.{Some, IsFalse}
use Rattle.std.specs.Option.{IfSome}
use Rattle.pp_cache.specs.Cache.{may_bring_in}
use Rattle.pp_cache_c.specs.Calls.{create_of}
use Rattle.pp_cache_c.proofs.CallLemmas.{goes, is_nothing, is_no_room}
use Rattle.pp_cache_c.proofs.calls.pinpool_handle_fetch.Goals as goal

pub returns-in-Some-clause-nothing : goal.returns-in-Some-clause-nothing
returns-in-Some-clause-nothing c =
    goes (λ old new. c.code-in-Some.result ≡ 3 → (new ≡ old)
    × IfSome (create_of c.args.create) (λ way. IsFalse (may_bring_in old.cache way))) c.args.handle.now.value
    c.put.new.handle.value c.deref_mut.result.now (record { cache = c.fetch-status.new.kept })
    (c.in-Some.ensures.taken ∙ ap Some (sym c.deref_mut.ensures.value)) c.put.ensures
    (λ e. c.fetch-status.ensures.nothing (is_nothing c.fetch-status.result (sym c.code-in-Some.ensures.value ∙ e)))

pub returns-in-Some-clause-no_room : goal.returns-in-Some-clause-no_room
returns-in-Some-clause-no_room c =
    goes (λ old new. c.code-in-Some.result ≡ 5 → (new.cache ≡ old.cache) × (new.used ≡ old.used)) c.args.handle.now.value c.put.new.handle.value
    c.deref_mut.result.now (record { cache = c.fetch-status.new.kept })
    (c.in-Some.ensures.taken ∙ ap Some (sym c.deref_mut.ensures.value)) c.put.ensures
    (λ e. c.fetch-status.ensures.no_room (is_no_room c.fetch-status.result (sym c.code-in-Some.ensures.value ∙ e)))
