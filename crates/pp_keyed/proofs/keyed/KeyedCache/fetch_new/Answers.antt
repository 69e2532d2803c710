-- What is left to show of KeyedCache::fetch_new.
use Rattle.std.proofs.Common.{◌≡◌, ℕ, ap, sym, subst, ◌∙◌, refl}
use Rattle.pp_cache.specs.Frames.{IsFree}
use Rattle.pp_cache.specs.Cache.{PageCache, IsSound, asked, without_victim, left_of}
use Rattle.pp_keyed.specs.Keyed.{Keyed, with_frame}
use Rattle.pp_keyed.proofs.AnswerLemmas.{keyed-sound}
use Rattle.pp_keyed.proofs.keyed.KeyedCache.fetch_new.Goals as goal

pub returns-then-key-ge-MOST_KEYS-clause-sound : goal.returns-then-key-ge-MOST_KEYS-clause-sound
returns-then-key-ge-MOST_KEYS-clause-sound c =
    subst (λ (v : Keyed). IsSound v.cache) c.self.view_is (keyed-sound c.self.inside.names c.self.inside.cache c.self.invariant)

pub returns-in-Ok-clause-new_is_free : goal.returns-in-Ok-clause-new_is_free
returns-in-Ok-clause-new_is_free c = λ frame left is.
    let same : c.bring_in-frame.result.0 ≡ frame = cc in
    subst (λ (i : ℕ). IsFree (without_victim (with_frame c.args.self.now.cache).table (asked c.args.self.now.cache c.args.key).0) i)
    same (subst (λ (s : PageCache). IsFree (without_victim s.table (asked s c.args.key).0) c.bring_in-frame.result.0)
    (c.in-Ok.ensures.reserved refl) c.bring_in-frame.ensures.free)

pub returns-in-Ok-clause-left : goal.returns-in-Ok-clause-left
returns-in-Ok-clause-left c = λ frame left is.
    let same : c.bring_in-frame.result.1 ≡ left = cc in
    sym same ∙ c.bring_in-frame.ensures.left
    ∙ ap (λ (s : PageCache). left_of s.table (asked s c.args.key).0) (c.in-Ok.ensures.reserved refl)
