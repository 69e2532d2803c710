-- What is left to show of KeyedCache::resize: the names whose pages left lose their keys.
use Rattle.std.proofs.Common.{ap, sym, subst, ◌∙◌, refl}
use Rattle.std.proofs.Common.{arith}
use Rattle.pp_cache.specs.Cache.{PageCache, PinnedStay, after_resize}
use Rattle.pp_keyed.specs.Keyed.{Keyed, by_keys}
use Rattle.pp_keyed.proofs.ByKeysLemmas.{named_of}
use Rattle.pp_keyed.proofs.TakenLemmas.{count-taken}
use Rattle.pp_keyed.proofs.ManyLemmas.{IsPart, part-resize, resize-by_keys, IsSweptPart, swept}
use Rattle.pp_keyed.proofs.BringLemmas.{stay-brought}
use Rattle.pp_keyed.proofs.AnswerLemmas.{keyed-sound}
use Rattle.pp_keyed.proofs.keyed.KeyedCache.resize.Goals as goal

pub invariant_of-self : goal.invariant_of-self
invariant_of-self c =
    let p : IsPart c.self.inside.cache c.resize.new.self =
    subst (λ (s : PageCache). IsPart c.self.inside.cache s) (sym c.resize.ensures.exact) (part-resize c.self.inside.cache c.args.size) in
    let w : IsSweptPart c.self.inside.names c.sweep.new.names c.resize.new.self =
    swept c.self.inside.names c.sweep.new.names c.self.inside.cache c.resize.new.self c.self.invariant p c.resize.ensures.sound
    c.sweep.ensures.swept in
    w.keyed

pub returns-clause-exact : goal.returns-clause-exact
returns-clause-exact c =
    let p : IsPart c.self.inside.cache c.resize.new.self =
    subst (λ (s : PageCache). IsPart c.self.inside.cache s) (sym c.resize.ensures.exact) (part-resize c.self.inside.cache c.args.size) in
    let w : IsSweptPart c.self.inside.names c.sweep.new.names c.resize.new.self =
    swept c.self.inside.names c.sweep.new.names c.self.inside.cache c.resize.new.self c.self.invariant p c.resize.ensures.sound
    c.sweep.ensures.swept in
    w.same ∙ ap (by_keys c.self.inside.names) c.resize.ensures.exact
    ∙ resize-by_keys c.self.inside.names c.self.inside.cache c.args.size
    (named_of c.self.inside.names c.self.inside.cache c.self.invariant)
    ∙ ap (λ (v : Keyed). after_resize v.cache c.args.size) c.self.view_is

pub returns-clause-pinned_stay : goal.returns-clause-pinned_stay
returns-clause-pinned_stay c =
    let p : IsPart c.self.inside.cache c.resize.new.self =
    subst (λ (s : PageCache). IsPart c.self.inside.cache s) (sym c.resize.ensures.exact) (part-resize c.self.inside.cache c.args.size) in
    let w : IsSweptPart c.self.inside.names c.sweep.new.names c.resize.new.self =
    swept c.self.inside.names c.sweep.new.names c.self.inside.cache c.resize.new.self c.self.invariant p c.resize.ensures.sound
    c.sweep.ensures.swept in
    subst (λ (v : Keyed). PinnedStay v.cache.table (by_keys c.sweep.new.names c.resize.new.self).table) c.self.view_is
    (stay-brought c.self.inside.names c.self.inside.names c.sweep.new.names c.self.inside.cache c.resize.new.self
    (named_of c.self.inside.names c.self.inside.cache c.self.invariant) w.keyed w.taken refl c.resize.ensures.pinned_stay)

pub returns-clause-room : goal.returns-clause-room
returns-clause-room c = c.sweep.ensures.swept.size ∙ ap (λ (v : Keyed). v.room) c.self.view_is

pub returns-clause-used : goal.returns-clause-used
returns-clause-used c =
    let p : IsPart c.self.inside.cache c.resize.new.self =
    subst (λ (s : PageCache). IsPart c.self.inside.cache s) (sym c.resize.ensures.exact) (part-resize c.self.inside.cache c.args.size) in
    let w : IsSweptPart c.self.inside.names c.sweep.new.names c.resize.new.self =
    swept c.self.inside.names c.sweep.new.names c.self.inside.cache c.resize.new.self c.self.invariant p c.resize.ensures.sound
    c.sweep.ensures.swept in
    omega (
      arith,
      count-taken c.self.inside.names c.sweep.new.names c.resize.new.self w.taken,
      ap (λ (v : Keyed). v.used) c.self.view_is,
    )

pub returns-clause-sound : goal.returns-clause-sound
returns-clause-sound c =
    let p : IsPart c.self.inside.cache c.resize.new.self =
    subst (λ (s : PageCache). IsPart c.self.inside.cache s) (sym c.resize.ensures.exact) (part-resize c.self.inside.cache c.args.size) in
    let w : IsSweptPart c.self.inside.names c.sweep.new.names c.resize.new.self =
    swept c.self.inside.names c.sweep.new.names c.self.inside.cache c.resize.new.self c.self.invariant p c.resize.ensures.sound
    c.sweep.ensures.swept in
    keyed-sound c.sweep.new.names c.resize.new.self w.keyed
