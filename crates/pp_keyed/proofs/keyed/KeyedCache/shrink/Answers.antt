-- What is left to show of KeyedCache::shrink: the names whose pages left lose their keys.
use Rattle.std.proofs.Common.{ap, sym, subst, ◌∙◌}
use Rattle.std.proofs.Common.{not, arith}
use Rattle.pp_cache.specs.Cache.{PageCache, KeepsOnly, is_idle}
use Rattle.pp_keyed.specs.Keyed.{Keyed, by_keys}
use Rattle.pp_keyed.proofs.ByKeysLemmas.{named_of}
use Rattle.pp_keyed.proofs.TakenLemmas.{count-taken}
use Rattle.pp_keyed.proofs.ManyLemmas.{IsPart, part-keeps, part-named, keeps-by_keys, idle-by_keys, IsSweptPart, swept}
use Rattle.pp_keyed.proofs.AnswerLemmas.{keyed-sound}
use Rattle.pp_keyed.proofs.keyed.KeyedCache.shrink.Goals as goal

pub invariant_of-self : goal.invariant_of-self
invariant_of-self c =
    let p : IsPart c.self.inside.cache c.shrink.new.self = part-keeps (λ x. not (is_idle c.self.inside.cache.table x)) c.self.inside.cache c.shrink.new.self
    c.self.invariant.sound c.shrink.ensures.sound c.shrink.ensures.exact in
    let w : IsSweptPart c.self.inside.names c.sweep.new.names c.shrink.new.self =
    swept c.self.inside.names c.sweep.new.names c.self.inside.cache c.shrink.new.self c.self.invariant p c.shrink.ensures.sound
    c.sweep.ensures.swept in
    w.keyed

pub returns-clause-exact : goal.returns-clause-exact
returns-clause-exact c =
    let p : IsPart c.self.inside.cache c.shrink.new.self = part-keeps (λ x. not (is_idle c.self.inside.cache.table x)) c.self.inside.cache c.shrink.new.self
    c.self.invariant.sound c.shrink.ensures.sound c.shrink.ensures.exact in
    let w : IsSweptPart c.self.inside.names c.sweep.new.names c.shrink.new.self =
    swept c.self.inside.names c.sweep.new.names c.self.inside.cache c.shrink.new.self c.self.invariant p c.shrink.ensures.sound
    c.sweep.ensures.swept in
    subst (λ (v : Keyed). KeepsOnly (λ key. not (is_idle v.cache.table key)) v.cache (by_keys c.sweep.new.names c.shrink.new.self))
    c.self.view_is
    (subst (λ (s : PageCache). KeepsOnly (λ key. not (is_idle (by_keys c.self.inside.names c.self.inside.cache).table key))
    (by_keys c.self.inside.names c.self.inside.cache) s) (sym w.same)
    (keeps-by_keys c.self.inside.names (λ x. not (is_idle c.self.inside.cache.table x))
    (λ key. not (is_idle (by_keys c.self.inside.names c.self.inside.cache).table key)) c.self.inside.cache c.shrink.new.self
    (named_of c.self.inside.names c.self.inside.cache c.self.invariant)
    (part-named c.self.inside.names c.self.inside.cache c.shrink.new.self
    (named_of c.self.inside.names c.self.inside.cache c.self.invariant) p)
    c.shrink.ensures.exact
    (λ x h. idle-by_keys c.self.inside.names c.self.inside.cache x
    (named_of c.self.inside.names c.self.inside.cache c.self.invariant))))

pub returns-clause-room : goal.returns-clause-room
returns-clause-room c = c.sweep.ensures.swept.size ∙ ap (λ (v : Keyed). v.room) c.self.view_is

pub returns-clause-used : goal.returns-clause-used
returns-clause-used c =
    let p : IsPart c.self.inside.cache c.shrink.new.self = part-keeps (λ x. not (is_idle c.self.inside.cache.table x)) c.self.inside.cache c.shrink.new.self
    c.self.invariant.sound c.shrink.ensures.sound c.shrink.ensures.exact in
    let w : IsSweptPart c.self.inside.names c.sweep.new.names c.shrink.new.self =
    swept c.self.inside.names c.sweep.new.names c.self.inside.cache c.shrink.new.self c.self.invariant p c.shrink.ensures.sound
    c.sweep.ensures.swept in
    omega (
      arith,
      count-taken c.self.inside.names c.sweep.new.names c.shrink.new.self w.taken,
      ap (λ (v : Keyed). v.used) c.self.view_is,
    )

pub returns-clause-sound : goal.returns-clause-sound
returns-clause-sound c =
    let p : IsPart c.self.inside.cache c.shrink.new.self = part-keeps (λ x. not (is_idle c.self.inside.cache.table x)) c.self.inside.cache c.shrink.new.self
    c.self.invariant.sound c.shrink.ensures.sound c.shrink.ensures.exact in
    let w : IsSweptPart c.self.inside.names c.sweep.new.names c.shrink.new.self =
    swept c.self.inside.names c.sweep.new.names c.self.inside.cache c.shrink.new.self c.self.invariant p c.shrink.ensures.sound
    c.sweep.ensures.swept in
    keyed-sound c.sweep.new.names c.shrink.new.self w.keyed
