-- What is left to show of KeyedCache::move_page: the name of the page has the new key.
use Rattle.std.proofs.Common.{◌≡◌, ℕ, ap, sym, subst, ◌∙◌, refl}
use Rattle.std.proofs.Common.{◌<◌, List, length, arith}
use Rattle.std.specs.Prelude.{Option, Some, is_some}
use Rattle.pp_cache.specs.Cache.{PageCache, IsSound, moved_page}
use Rattle.pp_names.specs.Names.{key_of, named_count}
use Rattle.pp_names.proofs.TableLemmas.{low_if_some}
use Rattle.pp_keyed.specs.Keyed.{Keyed, by_keys, IsKeyed}
use Rattle.pp_keyed.proofs.RekeyLemmas.{NewKey, IsMoved, moved-key}
use Rattle.pp_keyed.proofs.AnswerLemmas.{keyed-sound, new-key, resident-unnamed}
use Rattle.pp_keyed.proofs.keyed.KeyedCache.move_page.Goals as goal

pub rename-requires-clause-unnamed : goal.rename-requires-clause-unnamed
rename-requires-clause-unnamed c =
    let e : by_keys c.self.inside.names c.self.inside.cache ≡ c.args.self.now.cache = ap (λ (w : Keyed). w.cache) c.self.view_is in
    let named : key_of c.self.inside.names c.in-Some.name ≡ Some c.args.old = (c.in-Some.ensures.exact c.in-Some.name).0 refl in
    let k : NewKey c.self.inside.names c.self.inside.cache c.in-Some.name c.args.old c.args.new =
    new-key c.self.inside.names c.self.inside.cache c.args.self.now.cache c.in-Some.name c.args.old c.args.new c.self.invariant e
    named c.requires.key c.requires.absent c.requires.unnamed in
    k.unnamed

pub move_first-requires : goal.move_first-requires
move_first-requires c =
    let named : key_of c.self.inside.names c.in-Some.name ≡ Some c.args.old = (c.in-Some.ensures.exact c.in-Some.name).0 refl in
    let low : c.in-Some.name < length c.self.inside.names = low_if_some c.self.inside.names c.in-Some.name (ap is_some named) in
    record { below = omega (arith, low, c.self.invariant.room) }

pub invariant_of-self : goal.invariant_of-self
invariant_of-self c =
    let e : by_keys c.self.inside.names c.self.inside.cache ≡ c.args.self.now.cache = ap (λ (w : Keyed). w.cache) c.self.view_is in
    let named : key_of c.self.inside.names c.in-Some.name ≡ Some c.args.old = (c.in-Some.ensures.exact c.in-Some.name).0 refl in
    let k : NewKey c.self.inside.names c.self.inside.cache c.in-Some.name c.args.old c.args.new =
    new-key c.self.inside.names c.self.inside.cache c.args.self.now.cache c.in-Some.name c.args.old c.args.new c.self.invariant e
    named c.requires.key c.requires.absent c.requires.unnamed in
    let w : IsMoved c.self.inside.names c.self.inside.cache c.move_first.new.self c.in-Some.name c.args.old c.args.new =
    moved-key c.self.inside.names c.self.inside.cache c.move_first.new.self c.in-Some.name c.args.old c.args.new k
    c.move_first.ensures.sound c.move_first.ensures.exact in
    subst (λ (v : List (Option ℕ)). IsKeyed v c.move_first.new.self) (sym c.rename.ensures.exact) w.keyed

pub returns-in-Some-clause-exact : goal.returns-in-Some-clause-exact
returns-in-Some-clause-exact c =
    let e : by_keys c.self.inside.names c.self.inside.cache ≡ c.args.self.now.cache = ap (λ (w : Keyed). w.cache) c.self.view_is in
    let named : key_of c.self.inside.names c.in-Some.name ≡ Some c.args.old = (c.in-Some.ensures.exact c.in-Some.name).0 refl in
    let k : NewKey c.self.inside.names c.self.inside.cache c.in-Some.name c.args.old c.args.new =
    new-key c.self.inside.names c.self.inside.cache c.args.self.now.cache c.in-Some.name c.args.old c.args.new c.self.invariant e
    named c.requires.key c.requires.absent c.requires.unnamed in
    let w : IsMoved c.self.inside.names c.self.inside.cache c.move_first.new.self c.in-Some.name c.args.old c.args.new =
    moved-key c.self.inside.names c.self.inside.cache c.move_first.new.self c.in-Some.name c.args.old c.args.new k
    c.move_first.ensures.sound c.move_first.ensures.exact in
    ap (λ (v : List (Option ℕ)). by_keys v c.move_first.new.self) c.rename.ensures.exact ∙ w.same
    ∙ ap (λ (s : PageCache). moved_page s c.args.old c.args.new) e

pub returns-in-Some-clause-sound : goal.returns-in-Some-clause-sound
returns-in-Some-clause-sound c =
    let e : by_keys c.self.inside.names c.self.inside.cache ≡ c.args.self.now.cache = ap (λ (w : Keyed). w.cache) c.self.view_is in
    let named : key_of c.self.inside.names c.in-Some.name ≡ Some c.args.old = (c.in-Some.ensures.exact c.in-Some.name).0 refl in
    let k : NewKey c.self.inside.names c.self.inside.cache c.in-Some.name c.args.old c.args.new =
    new-key c.self.inside.names c.self.inside.cache c.args.self.now.cache c.in-Some.name c.args.old c.args.new c.self.invariant e
    named c.requires.key c.requires.absent c.requires.unnamed in
    let w : IsMoved c.self.inside.names c.self.inside.cache c.move_first.new.self c.in-Some.name c.args.old c.args.new =
    moved-key c.self.inside.names c.self.inside.cache c.move_first.new.self c.in-Some.name c.args.old c.args.new k
    c.move_first.ensures.sound c.move_first.ensures.exact in
    subst (λ (v : List (Option ℕ)). IsSound (by_keys v c.move_first.new.self)) (sym c.rename.ensures.exact)
    (keyed-sound _ c.move_first.new.self w.keyed)

pub returns-in-Some-clause-used : goal.returns-in-Some-clause-used
returns-in-Some-clause-used c =
    let e : by_keys c.self.inside.names c.self.inside.cache ≡ c.args.self.now.cache = ap (λ (w : Keyed). w.cache) c.self.view_is in
    let named : key_of c.self.inside.names c.in-Some.name ≡ Some c.args.old = (c.in-Some.ensures.exact c.in-Some.name).0 refl in
    let k : NewKey c.self.inside.names c.self.inside.cache c.in-Some.name c.args.old c.args.new =
    new-key c.self.inside.names c.self.inside.cache c.args.self.now.cache c.in-Some.name c.args.old c.args.new c.self.invariant e
    named c.requires.key c.requires.absent c.requires.unnamed in
    let w : IsMoved c.self.inside.names c.self.inside.cache c.move_first.new.self c.in-Some.name c.args.old c.args.new =
    moved-key c.self.inside.names c.self.inside.cache c.move_first.new.self c.in-Some.name c.args.old c.args.new k
    c.move_first.ensures.sound c.move_first.ensures.exact in
    ap (λ (v : List (Option ℕ)). named_count v) c.rename.ensures.exact ∙ w.used ∙ ap (λ (v : Keyed). v.used) c.self.view_is

pub returns-in_default-clause-exact : goal.returns-in_default-clause-exact
returns-in_default-clause-exact c =
    absurd (resident-unnamed c.self.inside.names c.self.inside.cache c.args.self.now.cache c.args.old
    (ap (λ (w : Keyed). w.cache) c.self.view_is) c.requires.resident (c.name.ensures.none c.in_default.is))

pub returns-in_default-clause-sound : goal.returns-in_default-clause-sound
returns-in_default-clause-sound c =
    absurd (resident-unnamed c.self.inside.names c.self.inside.cache c.args.self.now.cache c.args.old
    (ap (λ (w : Keyed). w.cache) c.self.view_is) c.requires.resident (c.name.ensures.none c.in_default.is))
