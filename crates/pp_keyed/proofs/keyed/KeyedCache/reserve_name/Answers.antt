-- What is left to show of KeyedCache::reserve_name: names without a key change nothing else.
use Rattle.std.proofs.Common.{ℕ, ap, sym, subst, ◌∙◌, refl}
use Rattle.std.proofs.Common.{◌≤◌, ◌+◌, ◌*◌, ◌-◌, max, ◌++◌, length, replicate, arith}
use Rattle.std.specs.Prelude.{None}
use Rattle.pp_cache.specs.Cache.{PageCache, IsSound}
use Rattle.pp_keyed.specs.Keyed.{Keyed, by_keys}
use Rattle.pp_keyed.proofs.AnswerLemmas.{keyed-sound, IsRoomier, grown-names}
use Rattle.pp_keyed.proofs.keyed.KeyedCache.reserve_name.Goals as goal

pub returns-then-used-len-clause-sound : goal.returns-then-used-len-clause-sound
returns-then-used-len-clause-sound c =
    subst (λ (v : Keyed). IsSound v.cache) c.self.view_is (keyed-sound c.self.inside.names c.self.inside.cache c.self.invariant)

pub returns-in_err-reserve_key-clause-sound : goal.returns-in_err-reserve_key-clause-sound
returns-in_err-reserve_key-clause-sound c =
    subst (λ (s : PageCache). IsSound (by_keys c.self.inside.names s)) (sym (c.in_err-reserve_key.ensures.unchanged refl))
    (keyed-sound c.self.inside.names c.self.inside.cache c.self.invariant)

pub invariant_of-self-2 : goal.invariant_of-self-2
invariant_of-self-2 c =
    let w : IsRoomier c.self.inside.names c.grow.new.self c.self.inside.cache c.reserve_key.new.self =
    grown-names c.self.inside.names c.grow.new.self c.self.inside.cache c.reserve_key.new.self c.max.result c.grow.result
    c.self.invariant c.reserve_key.ensures.sound (c.in_ok-reserve_key.ensures.reserved refl) c.reserve_key.ensures.same_pages
    (omega (arith, c.max.ensures, c.len-2.ensures.value)) (λ ok. c.grow.ensures.grown ok ∙ ap (λ (n : ℕ). c.self.inside.names ++ replicate (n - length c.self.inside.names) None)
    c.keys.ensures.value) c.grow.ensures.unchanged in
    w.keyed

pub returns-clause-unchanged : goal.returns-clause-unchanged
returns-clause-unchanged c =
    let w : IsRoomier c.self.inside.names c.grow.new.self c.self.inside.cache c.reserve_key.new.self =
    grown-names c.self.inside.names c.grow.new.self c.self.inside.cache c.reserve_key.new.self c.max.result c.grow.result
    c.self.invariant c.reserve_key.ensures.sound (c.in_ok-reserve_key.ensures.reserved refl) c.reserve_key.ensures.same_pages
    (omega (arith, c.max.ensures, c.len-2.ensures.value)) (λ ok. c.grow.ensures.grown ok ∙ ap (λ (n : ℕ). c.self.inside.names ++ replicate (n - length c.self.inside.names) None)
    c.keys.ensures.value) c.grow.ensures.unchanged in
    w.same ∙ ap (λ (v : Keyed). v.cache) c.self.view_is

pub returns-clause-sound : goal.returns-clause-sound
returns-clause-sound c =
    let w : IsRoomier c.self.inside.names c.grow.new.self c.self.inside.cache c.reserve_key.new.self =
    grown-names c.self.inside.names c.grow.new.self c.self.inside.cache c.reserve_key.new.self c.max.result c.grow.result
    c.self.invariant c.reserve_key.ensures.sound (c.in_ok-reserve_key.ensures.reserved refl) c.reserve_key.ensures.same_pages
    (omega (arith, c.max.ensures, c.len-2.ensures.value)) (λ ok. c.grow.ensures.grown ok ∙ ap (λ (n : ℕ). c.self.inside.names ++ replicate (n - length c.self.inside.names) None)
    c.keys.ensures.value) c.grow.ensures.unchanged in
    keyed-sound c.grow.new.self c.reserve_key.new.self w.keyed

pub returns-clause-more : goal.returns-clause-more
returns-clause-more c =
    let w : IsRoomier c.self.inside.names c.grow.new.self c.self.inside.cache c.reserve_key.new.self =
    grown-names c.self.inside.names c.grow.new.self c.self.inside.cache c.reserve_key.new.self c.max.result c.grow.result
    c.self.invariant c.reserve_key.ensures.sound (c.in_ok-reserve_key.ensures.reserved refl) c.reserve_key.ensures.same_pages
    (omega (arith, c.max.ensures, c.len-2.ensures.value)) (λ ok. c.grow.ensures.grown ok ∙ ap (λ (n : ℕ). c.self.inside.names ++ replicate (n - length c.self.inside.names) None)
    c.keys.ensures.value) c.grow.ensures.unchanged in
    subst (λ (v : Keyed). v.room ≤ length c.grow.new.self) c.self.view_is w.more

pub returns-clause-bounded : goal.returns-clause-bounded
returns-clause-bounded c =
    let w : IsRoomier c.self.inside.names c.grow.new.self c.self.inside.cache c.reserve_key.new.self =
    grown-names c.self.inside.names c.grow.new.self c.self.inside.cache c.reserve_key.new.self c.max.result c.grow.result
    c.self.invariant c.reserve_key.ensures.sound (c.in_ok-reserve_key.ensures.reserved refl) c.reserve_key.ensures.same_pages
    (omega (arith, c.max.ensures, c.len-2.ensures.value)) (λ ok. c.grow.ensures.grown ok ∙ ap (λ (n : ℕ). c.self.inside.names ++ replicate (n - length c.self.inside.names) None)
    c.keys.ensures.value) c.grow.ensures.unchanged in
    subst (λ (v : Keyed). length c.grow.new.self ≤ max (2 * v.room) 16) c.self.view_is w.bounded
