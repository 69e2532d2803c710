-- What is left to show of KeyedCache::frame: a key has a frame where its name has it.
use Rattle.std.proofs.Common.{◌≡◌, ap, sym, subst, ◌∙◌, refl, length}
use Rattle.pp_cache.specs.Frames.{frame_of}
use Rattle.pp_cache.specs.Cache.{PageCache, IsSound}
use Rattle.pp_keyed.specs.Keyed.{Keyed, by_keys, key_count, key_count-is}
use Rattle.pp_keyed.proofs.ByKeysLemmas.{named_of}
use Rattle.pp_keyed.proofs.PlacedLemmas.{length-placed}
use Rattle.pp_keyed.proofs.AnswerLemmas.{frame-none, frame-some, keyed-sound}
use Rattle.pp_keyed.proofs.keyed.KeyedCache.frame.Goals as goal

pub returns-in_err-name-clause-value : goal.returns-in_err-name-clause-value
returns-in_err-name-clause-value c =
    let e : by_keys c.self.inside.names c.self.inside.cache ≡ c.args.self.now.cache = ap (λ (w : Keyed). w.cache) c.self.view_is in
    c.from_residual.ensures
    ∙ sym (frame-none c.self.inside.names c.self.inside.cache c.args.key (c.in_err-name.ensures.none refl))
    ∙ ap (λ (s : PageCache). frame_of s.table c.args.key) e

pub returns-in_err-name-clause-sound : goal.returns-in_err-name-clause-sound
returns-in_err-name-clause-sound c =
    subst (λ (w : Keyed). IsSound w.cache) c.self.view_is (keyed-sound c.self.inside.names c.self.inside.cache c.self.invariant)

pub returns-clause-value : goal.returns-clause-value
returns-clause-value c =
    let e : by_keys c.self.inside.names c.self.inside.cache ≡ c.args.self.now.cache = ap (λ (w : Keyed). w.cache) c.self.view_is in
    c.frame.ensures.value
    ∙ sym (frame-some c.self.inside.names c.self.inside.cache c.in_ok-name.name c.args.key
    (named_of c.self.inside.names c.self.inside.cache c.self.invariant)
    ((c.in_ok-name.ensures.exact c.in_ok-name.name).0 refl))
    ∙ ap (λ (s : PageCache). frame_of s.table c.args.key) e

pub returns-clause-sound : goal.returns-clause-sound
returns-clause-sound c =
    subst (λ (w : Keyed). IsSound w.cache) c.self.view_is (keyed-sound c.self.inside.names c.self.inside.cache c.self.invariant)

pub returns-in_err-name-clause-keys : goal.returns-in_err-name-clause-keys
returns-in_err-name-clause-keys c =
    subst (λ (v : Keyed). length v.cache.table.pages ≡ 4294967292) c.self.view_is
    (length-placed key_count c.self.inside.names c.self.inside.cache.table.pages ∙ key_count-is)

pub returns-clause-keys : goal.returns-clause-keys
returns-clause-keys c =
    subst (λ (v : Keyed). length v.cache.table.pages ≡ 4294967292) c.self.view_is
    (length-placed key_count c.self.inside.names c.self.inside.cache.table.pages ∙ key_count-is)
