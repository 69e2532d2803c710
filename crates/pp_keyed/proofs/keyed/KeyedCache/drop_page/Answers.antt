-- What is left to show of KeyedCache::drop_page: the name of the page loses its key.
use Rattle.std.proofs.Common.{◌≡◌, ℕ, ap, sym, subst, ◌∙◌, refl}
use Rattle.std.proofs.Common.{List, length, arith}
use Rattle.std.specs.Prelude.{Option, Some}
use Rattle.pp_cache.specs.Frames.{page_of}
use Rattle.pp_cache.specs.Cache.{PageCache, IsSound, dropped}
use Rattle.pp_names.specs.Names.{key_of, named_count}
use Rattle.pp_keyed.specs.Keyed.{Keyed, by_keys, IsKeyed, unused_taken}
use Rattle.pp_keyed.proofs.ByKeysLemmas.{named_of, key-named}
use Rattle.pp_keyed.proofs.TakenLemmas.{count-taken}
use Rattle.pp_keyed.proofs.CallLemmas.{OnlyOne, IsAfter, after-one, one-dropped, dropped-by_keys}
use Rattle.pp_keyed.proofs.AnswerLemmas.{keyed-sound, dropped-none, others-dropped}
use Rattle.pp_keyed.proofs.keyed.KeyedCache.drop_page.Goals as goal

pub invariant_of-self : goal.invariant_of-self
invariant_of-self c =
    let named : key_of c.self.inside.names c.in-Some.name ≡ Some c.args.key = (c.in-Some.ensures.exact c.in-Some.name).0 refl in
    let w : IsAfter c.self.inside.names (unused_taken c.self.inside.names c.drop_page.new.self (Some c.in-Some.name)) c.drop_page.new.self =
    after-one c.self.inside.names c.self.inside.cache c.drop_page.new.self c.in-Some.name c.args.key c.self.invariant c.drop_page.ensures.sound
    named (subst (λ (s : PageCache). OnlyOne c.self.inside.cache s c.in-Some.name) (sym c.drop_page.ensures.exact)
    (one-dropped c.self.inside.cache c.in-Some.name)) in
    subst (λ (v : List (Option ℕ)). IsKeyed v c.drop_page.new.self) (sym c.take_unused.ensures.exact) w.keyed

pub returns-in-Some-clause-exact : goal.returns-in-Some-clause-exact
returns-in-Some-clause-exact c =
    let named : key_of c.self.inside.names c.in-Some.name ≡ Some c.args.key = (c.in-Some.ensures.exact c.in-Some.name).0 refl in
    let w : IsAfter c.self.inside.names (unused_taken c.self.inside.names c.drop_page.new.self (Some c.in-Some.name)) c.drop_page.new.self =
    after-one c.self.inside.names c.self.inside.cache c.drop_page.new.self c.in-Some.name c.args.key c.self.invariant c.drop_page.ensures.sound
    named (subst (λ (s : PageCache). OnlyOne c.self.inside.cache s c.in-Some.name) (sym c.drop_page.ensures.exact)
    (one-dropped c.self.inside.cache c.in-Some.name)) in
    let e : by_keys c.self.inside.names c.self.inside.cache ≡ c.args.self.now.cache = ap (λ (v : Keyed). v.cache) c.self.view_is in
    let exact : by_keys c.take_unused.new.names c.drop_page.new.self ≡ dropped c.args.self.now.cache c.args.key =
    ap (λ (v : List (Option ℕ)). by_keys v c.drop_page.new.self) c.take_unused.ensures.exact ∙ w.same
    ∙ ap (by_keys c.self.inside.names) c.drop_page.ensures.exact
    ∙ dropped-by_keys c.self.inside.names c.self.inside.cache c.in-Some.name
    (named_of c.self.inside.names c.self.inside.cache c.self.invariant)
    ∙ ap (dropped (by_keys c.self.inside.names c.self.inside.cache)) (key-named c.self.inside.names c.in-Some.name c.args.key named)
    ∙ ap (λ (s : PageCache). dropped s c.args.key) e in
    exact

pub returns-in-Some-clause-others_stay : goal.returns-in-Some-clause-others_stay
returns-in-Some-clause-others_stay c = λ other ne.
    let named : key_of c.self.inside.names c.in-Some.name ≡ Some c.args.key = (c.in-Some.ensures.exact c.in-Some.name).0 refl in
    let w : IsAfter c.self.inside.names (unused_taken c.self.inside.names c.drop_page.new.self (Some c.in-Some.name)) c.drop_page.new.self =
    after-one c.self.inside.names c.self.inside.cache c.drop_page.new.self c.in-Some.name c.args.key c.self.invariant c.drop_page.ensures.sound
    named (subst (λ (s : PageCache). OnlyOne c.self.inside.cache s c.in-Some.name) (sym c.drop_page.ensures.exact)
    (one-dropped c.self.inside.cache c.in-Some.name)) in
    let e : by_keys c.self.inside.names c.self.inside.cache ≡ c.args.self.now.cache = ap (λ (v : Keyed). v.cache) c.self.view_is in
    let exact : by_keys c.take_unused.new.names c.drop_page.new.self ≡ dropped c.args.self.now.cache c.args.key =
    ap (λ (v : List (Option ℕ)). by_keys v c.drop_page.new.self) c.take_unused.ensures.exact ∙ w.same
    ∙ ap (by_keys c.self.inside.names) c.drop_page.ensures.exact
    ∙ dropped-by_keys c.self.inside.names c.self.inside.cache c.in-Some.name
    (named_of c.self.inside.names c.self.inside.cache c.self.invariant)
    ∙ ap (dropped (by_keys c.self.inside.names c.self.inside.cache)) (key-named c.self.inside.names c.in-Some.name c.args.key named)
    ∙ ap (λ (s : PageCache). dropped s c.args.key) e in
    ap (λ (s : PageCache). page_of s.table other) exact ∙ others-dropped c.args.self.now.cache c.args.key other ne

pub returns-in-Some-clause-room : goal.returns-in-Some-clause-room
returns-in-Some-clause-room c =
    let named : key_of c.self.inside.names c.in-Some.name ≡ Some c.args.key = (c.in-Some.ensures.exact c.in-Some.name).0 refl in
    let w : IsAfter c.self.inside.names (unused_taken c.self.inside.names c.drop_page.new.self (Some c.in-Some.name)) c.drop_page.new.self =
    after-one c.self.inside.names c.self.inside.cache c.drop_page.new.self c.in-Some.name c.args.key c.self.invariant c.drop_page.ensures.sound
    named (subst (λ (s : PageCache). OnlyOne c.self.inside.cache s c.in-Some.name) (sym c.drop_page.ensures.exact)
    (one-dropped c.self.inside.cache c.in-Some.name)) in
    ap length c.take_unused.ensures.exact ∙ w.taken.size ∙ ap (λ (v : Keyed). v.room) c.self.view_is

pub returns-in-Some-clause-used : goal.returns-in-Some-clause-used
returns-in-Some-clause-used c =
    let named : key_of c.self.inside.names c.in-Some.name ≡ Some c.args.key = (c.in-Some.ensures.exact c.in-Some.name).0 refl in
    let w : IsAfter c.self.inside.names (unused_taken c.self.inside.names c.drop_page.new.self (Some c.in-Some.name)) c.drop_page.new.self =
    after-one c.self.inside.names c.self.inside.cache c.drop_page.new.self c.in-Some.name c.args.key c.self.invariant c.drop_page.ensures.sound
    named (subst (λ (s : PageCache). OnlyOne c.self.inside.cache s c.in-Some.name) (sym c.drop_page.ensures.exact)
    (one-dropped c.self.inside.cache c.in-Some.name)) in
    omega (
      arith,
      ap named_count c.take_unused.ensures.exact,
      count-taken c.self.inside.names (unused_taken c.self.inside.names c.drop_page.new.self (Some c.in-Some.name))
          c.drop_page.new.self w.taken,
      ap (λ (v : Keyed). v.used) c.self.view_is,
    )

pub returns-in-Some-clause-sound : goal.returns-in-Some-clause-sound
returns-in-Some-clause-sound c =
    let named : key_of c.self.inside.names c.in-Some.name ≡ Some c.args.key = (c.in-Some.ensures.exact c.in-Some.name).0 refl in
    let w : IsAfter c.self.inside.names (unused_taken c.self.inside.names c.drop_page.new.self (Some c.in-Some.name)) c.drop_page.new.self =
    after-one c.self.inside.names c.self.inside.cache c.drop_page.new.self c.in-Some.name c.args.key c.self.invariant c.drop_page.ensures.sound
    named (subst (λ (s : PageCache). OnlyOne c.self.inside.cache s c.in-Some.name) (sym c.drop_page.ensures.exact)
    (one-dropped c.self.inside.cache c.in-Some.name)) in
    subst (λ (v : List (Option ℕ)). IsSound (by_keys v c.drop_page.new.self)) (sym c.take_unused.ensures.exact)
    (keyed-sound _ c.drop_page.new.self w.keyed)

pub returns-in_default-clause-exact : goal.returns-in_default-clause-exact
returns-in_default-clause-exact c =
    subst (λ (v : Keyed). v.cache ≡ dropped v.cache c.args.key) c.self.view_is
    (dropped-none c.self.inside.names c.self.inside.cache c.args.key
    (named_of c.self.inside.names c.self.inside.cache c.self.invariant) (c.name.ensures.none c.in_default.is))

pub returns-in_default-clause-sound : goal.returns-in_default-clause-sound
returns-in_default-clause-sound c =
    subst (λ (v : Keyed). IsSound v.cache) c.self.view_is (keyed-sound c.self.inside.names c.self.inside.cache c.self.invariant)
