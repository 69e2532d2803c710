-- What is left to show of KeyedCache::pin: a key's page is pinned as that of its name.
use Rattle.std.proofs.Common.{◌≡◌, ap, sym, subst, ◌∙◌, refl}
use Rattle.std.proofs.Common.{cond}
use Rattle.std.specs.Prelude.{is_some}
use Rattle.pp_cache.specs.Frames.{frame_of}
use Rattle.pp_cache.specs.Cache.{PageCache, IsSound, PinnedStay, after_pin}
use Rattle.pp_keyed.specs.Keyed.{Keyed, by_keys, keyed}
use Rattle.pp_keyed.proofs.ByKeysLemmas.{named_of}
use Rattle.pp_keyed.proofs.AnswerLemmas.{frame-none, frame-some, keyed-sound, IsPinned, pinned-key}
use Rattle.pp_keyed.proofs.keyed.KeyedCache.pin.Goals as goal

pub returns-in_err-name-clause-value : goal.returns-in_err-name-clause-value
returns-in_err-name-clause-value c =
    let e : by_keys c.self.inside.names c.self.inside.cache ≡ c.args.self.now.cache = ap (λ (w : Keyed). w.cache) c.self.view_is in
    c.from_residual.ensures
    ∙ sym (frame-none c.self.inside.names c.self.inside.cache c.args.key (c.in_err-name.ensures.none refl))
    ∙ ap (λ (s : PageCache). frame_of s.table c.args.key) e

pub returns-in_err-name-clause-sound : goal.returns-in_err-name-clause-sound
returns-in_err-name-clause-sound c =
    subst (λ (w : Keyed). IsSound w.cache) c.self.view_is (keyed-sound c.self.inside.names c.self.inside.cache c.self.invariant)

pub invariant_of-self : goal.invariant_of-self
invariant_of-self c =
    let w : IsPinned c.self.inside.names c.self.inside.cache c.pin.new.self c.args.key c.pin.result =
    pinned-key c.self.inside.names c.self.inside.cache c.pin.new.self c.in_ok-name.name c.args.key c.pin.result c.self.invariant
    c.pin.ensures.sound ((c.in_ok-name.ensures.exact c.in_ok-name.name).0 refl) c.pin.ensures.value c.pin.ensures.exact
    c.pin.ensures.pinned_stay in
    w.holds

pub returns-clause-value : goal.returns-clause-value
returns-clause-value c =
    let e : by_keys c.self.inside.names c.self.inside.cache ≡ c.args.self.now.cache = ap (λ (w : Keyed). w.cache) c.self.view_is in
    c.pin.ensures.value
    ∙ sym (frame-some c.self.inside.names c.self.inside.cache c.in_ok-name.name c.args.key
    (named_of c.self.inside.names c.self.inside.cache c.self.invariant)
    ((c.in_ok-name.ensures.exact c.in_ok-name.name).0 refl))
    ∙ ap (λ (s : PageCache). frame_of s.table c.args.key) e

pub returns-clause-exact : goal.returns-clause-exact
returns-clause-exact c =
    let w : IsPinned c.self.inside.names c.self.inside.cache c.pin.new.self c.args.key c.pin.result =
    pinned-key c.self.inside.names c.self.inside.cache c.pin.new.self c.in_ok-name.name c.args.key c.pin.result c.self.invariant
    c.pin.ensures.sound ((c.in_ok-name.ensures.exact c.in_ok-name.name).0 refl) c.pin.ensures.value c.pin.ensures.exact
    c.pin.ensures.pinned_stay in
    subst (λ (v : Keyed). keyed c.self.inside.names c.pin.new.self
    ≡ cond (is_some c.pin.result) (record v { cache = after_pin v.cache c.args.key }) v) c.self.view_is w.exact

pub returns-clause-pinned_stay : goal.returns-clause-pinned_stay
returns-clause-pinned_stay c =
    let w : IsPinned c.self.inside.names c.self.inside.cache c.pin.new.self c.args.key c.pin.result =
    pinned-key c.self.inside.names c.self.inside.cache c.pin.new.self c.in_ok-name.name c.args.key c.pin.result c.self.invariant
    c.pin.ensures.sound ((c.in_ok-name.ensures.exact c.in_ok-name.name).0 refl) c.pin.ensures.value c.pin.ensures.exact
    c.pin.ensures.pinned_stay in
    subst (λ (v : Keyed). PinnedStay v.cache.table (by_keys c.self.inside.names c.pin.new.self).table) c.self.view_is w.stay

pub returns-clause-sound : goal.returns-clause-sound
returns-clause-sound c =
    let w : IsPinned c.self.inside.names c.self.inside.cache c.pin.new.self c.args.key c.pin.result =
    pinned-key c.self.inside.names c.self.inside.cache c.pin.new.self c.in_ok-name.name c.args.key c.pin.result c.self.invariant
    c.pin.ensures.sound ((c.in_ok-name.ensures.exact c.in_ok-name.name).0 refl) c.pin.ensures.value c.pin.ensures.exact
    c.pin.ensures.pinned_stay in
    keyed-sound c.self.inside.names c.pin.new.self w.holds
