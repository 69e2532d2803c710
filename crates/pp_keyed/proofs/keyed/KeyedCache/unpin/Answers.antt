-- What is left to show of KeyedCache::unpin: the name of the page loses its key where the page isn't remembered.
use Rattle.std.proofs.Common.{◌≡◌, ℕ, ap, sym, subst, ◌∙◌, refl}
use Rattle.std.proofs.Common.{false, List, length, arith}
use Rattle.std.specs.Prelude.{Option, Some, is_some}
use Rattle.pp_cache.specs.Frames.{page_of}
use Rattle.pp_cache.specs.Cache.{PageCache, IsSound, after_unpin}
use Rattle.pp_names.specs.Names.{key_of, named_count}
use Rattle.pp_keyed.specs.Keyed.{Keyed, by_keys, IsKeyed, unused_taken}
use Rattle.pp_keyed.proofs.ByKeysLemmas.{named_of, key-named, page-key, page-unnamed}
use Rattle.pp_keyed.proofs.TakenLemmas.{count-taken}
use Rattle.pp_keyed.proofs.CallLemmas.{OnlyOne, IsAfter, after-one, one-unpin, unpin-by_keys, named-one}
use Rattle.pp_keyed.proofs.AnswerLemmas.{keyed-sound, unpin-none, others-unpin}
use Rattle.pp_keyed.proofs.keyed.KeyedCache.unpin.Goals as goal

pub returns-in_default-clause-stays : goal.returns-in_default-clause-stays
returns-in_default-clause-stays c =
    subst (λ (v : Keyed). false ≡ is_some (page_of v.cache.table c.args.key)) c.self.view_is
    (sym (ap is_some (page-unnamed c.self.inside.names c.self.inside.cache c.args.key (c.name.ensures.none c.in_default.is))))

pub returns-in_default-clause-exact : goal.returns-in_default-clause-exact
returns-in_default-clause-exact c =
    subst (λ (v : Keyed). v.cache ≡ after_unpin v.cache c.args.key c.args.discard) c.self.view_is
    (unpin-none (by_keys c.self.inside.names c.self.inside.cache) c.args.key c.args.discard
    (page-unnamed c.self.inside.names c.self.inside.cache c.args.key (c.name.ensures.none c.in_default.is)))

pub returns-in_default-clause-sound : goal.returns-in_default-clause-sound
returns-in_default-clause-sound c =
    subst (λ (v : Keyed). IsSound v.cache) c.self.view_is (keyed-sound c.self.inside.names c.self.inside.cache c.self.invariant)

pub invariant_of-self : goal.invariant_of-self
invariant_of-self c =
    let named : key_of c.self.inside.names c.in-Some.name ≡ Some c.args.key = (c.in-Some.ensures.exact c.in-Some.name).0 refl in
    let w : IsAfter c.self.inside.names (unused_taken c.self.inside.names c.unpin-stays.new.self (Some c.in-Some.name)) c.unpin-stays.new.self =
    after-one c.self.inside.names c.self.inside.cache c.unpin-stays.new.self c.in-Some.name c.args.key c.self.invariant c.unpin-stays.ensures.sound
    named (subst (λ (s : PageCache). OnlyOne c.self.inside.cache s c.in-Some.name) (sym c.unpin-stays.ensures.exact)
    (one-unpin c.self.inside.cache c.in-Some.name c.args.discard)) in
    subst (λ (v : List (Option ℕ)). IsKeyed v c.unpin-stays.new.self) (sym c.take_left.ensures.exact) w.keyed

pub returns-clause-stays : goal.returns-clause-stays
returns-clause-stays c =
    let named : key_of c.self.inside.names c.in-Some.name ≡ Some c.args.key = (c.in-Some.ensures.exact c.in-Some.name).0 refl in
    let w : IsAfter c.self.inside.names (unused_taken c.self.inside.names c.unpin-stays.new.self (Some c.in-Some.name)) c.unpin-stays.new.self =
    after-one c.self.inside.names c.self.inside.cache c.unpin-stays.new.self c.in-Some.name c.args.key c.self.invariant c.unpin-stays.ensures.sound
    named (subst (λ (s : PageCache). OnlyOne c.self.inside.cache s c.in-Some.name) (sym c.unpin-stays.ensures.exact)
    (one-unpin c.self.inside.cache c.in-Some.name c.args.discard)) in
    c.unpin-stays.ensures.stays
    ∙ sym (ap is_some (page-key c.self.inside.names c.unpin-stays.new.self c.in-Some.name c.args.key
    (named-one c.self.inside.names c.self.inside.cache c.unpin-stays.new.self c.in-Some.name c.args.key c.self.invariant named
    (subst (λ (s : PageCache). OnlyOne c.self.inside.cache s c.in-Some.name) (sym c.unpin-stays.ensures.exact)
    (one-unpin c.self.inside.cache c.in-Some.name c.args.discard))) named))
    ∙ ap (λ (s : PageCache). is_some (page_of s.table c.args.key)) (sym (ap (λ (v : List (Option ℕ)). by_keys v c.unpin-stays.new.self)
    c.take_left.ensures.exact ∙ w.same))

pub returns-clause-exact : goal.returns-clause-exact
returns-clause-exact c =
    let named : key_of c.self.inside.names c.in-Some.name ≡ Some c.args.key = (c.in-Some.ensures.exact c.in-Some.name).0 refl in
    let w : IsAfter c.self.inside.names (unused_taken c.self.inside.names c.unpin-stays.new.self (Some c.in-Some.name)) c.unpin-stays.new.self =
    after-one c.self.inside.names c.self.inside.cache c.unpin-stays.new.self c.in-Some.name c.args.key c.self.invariant c.unpin-stays.ensures.sound
    named (subst (λ (s : PageCache). OnlyOne c.self.inside.cache s c.in-Some.name) (sym c.unpin-stays.ensures.exact)
    (one-unpin c.self.inside.cache c.in-Some.name c.args.discard)) in
    let e : by_keys c.self.inside.names c.self.inside.cache ≡ c.args.self.now.cache = ap (λ (v : Keyed). v.cache) c.self.view_is in
    let exact : by_keys c.take_left.new.names c.unpin-stays.new.self ≡ after_unpin c.args.self.now.cache c.args.key c.args.discard =
    ap (λ (v : List (Option ℕ)). by_keys v c.unpin-stays.new.self) c.take_left.ensures.exact ∙ w.same
    ∙ ap (by_keys c.self.inside.names) c.unpin-stays.ensures.exact
    ∙ unpin-by_keys c.self.inside.names c.self.inside.cache c.in-Some.name c.args.key c.args.discard
    (named_of c.self.inside.names c.self.inside.cache c.self.invariant) named
    ∙ ap (λ (i : ℕ). after_unpin (by_keys c.self.inside.names c.self.inside.cache) i c.args.discard)
    (key-named c.self.inside.names c.in-Some.name c.args.key named)
    ∙ ap (λ (s : PageCache). after_unpin s c.args.key c.args.discard) e in
    exact

pub returns-clause-others_stay : goal.returns-clause-others_stay
returns-clause-others_stay c = λ other ne.
    let named : key_of c.self.inside.names c.in-Some.name ≡ Some c.args.key = (c.in-Some.ensures.exact c.in-Some.name).0 refl in
    let w : IsAfter c.self.inside.names (unused_taken c.self.inside.names c.unpin-stays.new.self (Some c.in-Some.name)) c.unpin-stays.new.self =
    after-one c.self.inside.names c.self.inside.cache c.unpin-stays.new.self c.in-Some.name c.args.key c.self.invariant c.unpin-stays.ensures.sound
    named (subst (λ (s : PageCache). OnlyOne c.self.inside.cache s c.in-Some.name) (sym c.unpin-stays.ensures.exact)
    (one-unpin c.self.inside.cache c.in-Some.name c.args.discard)) in
    let e : by_keys c.self.inside.names c.self.inside.cache ≡ c.args.self.now.cache = ap (λ (v : Keyed). v.cache) c.self.view_is in
    let exact : by_keys c.take_left.new.names c.unpin-stays.new.self ≡ after_unpin c.args.self.now.cache c.args.key c.args.discard =
    ap (λ (v : List (Option ℕ)). by_keys v c.unpin-stays.new.self) c.take_left.ensures.exact ∙ w.same
    ∙ ap (by_keys c.self.inside.names) c.unpin-stays.ensures.exact
    ∙ unpin-by_keys c.self.inside.names c.self.inside.cache c.in-Some.name c.args.key c.args.discard
    (named_of c.self.inside.names c.self.inside.cache c.self.invariant) named
    ∙ ap (λ (i : ℕ). after_unpin (by_keys c.self.inside.names c.self.inside.cache) i c.args.discard)
    (key-named c.self.inside.names c.in-Some.name c.args.key named)
    ∙ ap (λ (s : PageCache). after_unpin s c.args.key c.args.discard) e in
    ap (λ (s : PageCache). page_of s.table other) exact
    ∙ others-unpin c.args.self.now.cache c.args.key other c.args.discard ne

pub returns-clause-room : goal.returns-clause-room
returns-clause-room c =
    let named : key_of c.self.inside.names c.in-Some.name ≡ Some c.args.key = (c.in-Some.ensures.exact c.in-Some.name).0 refl in
    let w : IsAfter c.self.inside.names (unused_taken c.self.inside.names c.unpin-stays.new.self (Some c.in-Some.name)) c.unpin-stays.new.self =
    after-one c.self.inside.names c.self.inside.cache c.unpin-stays.new.self c.in-Some.name c.args.key c.self.invariant c.unpin-stays.ensures.sound
    named (subst (λ (s : PageCache). OnlyOne c.self.inside.cache s c.in-Some.name) (sym c.unpin-stays.ensures.exact)
    (one-unpin c.self.inside.cache c.in-Some.name c.args.discard)) in
    ap length c.take_left.ensures.exact ∙ w.taken.size ∙ ap (λ (v : Keyed). v.room) c.self.view_is

pub returns-clause-used : goal.returns-clause-used
returns-clause-used c =
    let named : key_of c.self.inside.names c.in-Some.name ≡ Some c.args.key = (c.in-Some.ensures.exact c.in-Some.name).0 refl in
    let w : IsAfter c.self.inside.names (unused_taken c.self.inside.names c.unpin-stays.new.self (Some c.in-Some.name)) c.unpin-stays.new.self =
    after-one c.self.inside.names c.self.inside.cache c.unpin-stays.new.self c.in-Some.name c.args.key c.self.invariant c.unpin-stays.ensures.sound
    named (subst (λ (s : PageCache). OnlyOne c.self.inside.cache s c.in-Some.name) (sym c.unpin-stays.ensures.exact)
    (one-unpin c.self.inside.cache c.in-Some.name c.args.discard)) in
    omega (
      arith,
      ap named_count c.take_left.ensures.exact,
      count-taken c.self.inside.names (unused_taken c.self.inside.names c.unpin-stays.new.self (Some c.in-Some.name))
          c.unpin-stays.new.self w.taken,
      ap (λ (v : Keyed). v.used) c.self.view_is,
    )

pub returns-clause-sound : goal.returns-clause-sound
returns-clause-sound c =
    let named : key_of c.self.inside.names c.in-Some.name ≡ Some c.args.key = (c.in-Some.ensures.exact c.in-Some.name).0 refl in
    let w : IsAfter c.self.inside.names (unused_taken c.self.inside.names c.unpin-stays.new.self (Some c.in-Some.name)) c.unpin-stays.new.self =
    after-one c.self.inside.names c.self.inside.cache c.unpin-stays.new.self c.in-Some.name c.args.key c.self.invariant c.unpin-stays.ensures.sound
    named (subst (λ (s : PageCache). OnlyOne c.self.inside.cache s c.in-Some.name) (sym c.unpin-stays.ensures.exact)
    (one-unpin c.self.inside.cache c.in-Some.name c.args.discard)) in
    subst (λ (v : List (Option ℕ)). IsSound (by_keys v c.unpin-stays.new.self)) (sym c.take_left.ensures.exact)
    (keyed-sound _ c.unpin-stays.new.self w.keyed)
