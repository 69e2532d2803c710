-- What is left to show of KeyedCache::bring_in: the page comes in under its key's name, and who left loses its key.
use Rattle.std.proofs.Common.{◌≡◌, ℕ, ap, sym, subst, ◌∙◌}
use Rattle.std.proofs.Common.{◌<◌, List, arith}
use Rattle.std.specs.Prelude.{Option, None}
use Rattle.pp_cache.specs.Frames.{page_of, resident_count, IsFree}
use Rattle.pp_cache.specs.Cache.{PageCache, PinnedStay, asked, after_bring_in, without_victim, left_of}
use Rattle.pp_keyed.specs.Keyed.{Keyed, by_keys, IsKeyed, unused_taken, key_of_left}
use Rattle.pp_keyed.proofs.ByKeysLemmas.{named_of, page-key, resident-by_keys}
use Rattle.pp_keyed.proofs.TakenLemmas.{IsReady, ready, count-taken, count-given}
use Rattle.pp_keyed.proofs.BringLemmas.{IsBrought, brought, left-by_keys, free-by_keys, stay-brought}
use Rattle.pp_keyed.proofs.AnswerLemmas.{keyed-sound, low-key}
use Rattle.pp_keyed.proofs.keyed.KeyedCache.bring_in.Goals as goal

pub bring_in-frame-requires-clause-absent : goal.bring_in-frame-requires-clause-absent
bring_in-frame-requires-clause-absent c =
    let k : IsKeyed c.self.inside.names c.self.inside.cache = c.self.invariant in
    let r : IsReady c.self.inside.names c.give-name.new.names c.self.inside.cache c.args.key c.give-name.result =
    ready c.self.inside.names c.give-name.new.names c.self.inside.cache c.args.key c.give-name.result k
    (low-key c.args.key c.requires.key) c.give-name.ensures.given in
    let e : by_keys c.self.inside.names c.self.inside.cache ≡ c.args.self.now.cache = ap (λ (v : Keyed). v.cache) c.self.view_is in
    let absent : page_of (by_keys c.self.inside.names c.self.inside.cache).table c.args.key ≡ None =
    subst (λ (v : Keyed). page_of v.cache.table c.args.key ≡ None) (sym c.self.view_is) c.requires.absent in
    sym (page-key c.give-name.new.names c.self.inside.cache c.give-name.result c.args.key r.named c.give-name.ensures.given.named)
    ∙ ap (λ (s : PageCache). page_of s.table c.args.key) r.same ∙ absent

pub bring_in-frame-requires-clause-room : goal.bring_in-frame-requires-clause-room
bring_in-frame-requires-clause-room c =
    let less : resident_count (by_keys c.self.inside.names c.self.inside.cache).table < c.self.inside.cache.table.frames =
    subst (λ (v : Keyed). resident_count v.cache.table < v.cache.table.frames) (sym c.self.view_is) c.requires.frame in
    omega (
      arith,
      less,
      resident-by_keys c.self.inside.names c.self.inside.cache
          (named_of c.self.inside.names c.self.inside.cache c.self.invariant),
    )

pub invariant_of-self : goal.invariant_of-self
invariant_of-self c =
    let k : IsKeyed c.self.inside.names c.self.inside.cache = c.self.invariant in
    let r : IsReady c.self.inside.names c.give-name.new.names c.self.inside.cache c.args.key c.give-name.result =
    ready c.self.inside.names c.give-name.new.names c.self.inside.cache c.args.key c.give-name.result k
    (low-key c.args.key c.requires.key) c.give-name.ensures.given in
    let w : IsBrought c.self.inside.names c.give-name.new.names c.take_unused-2.new.names c.self.inside.cache
    c.bring_in-frame.new.self c.give-name.result c.args.key c.bring_in-frame.result.0 =
    subst (λ (v : List (Option ℕ)). IsBrought c.self.inside.names c.give-name.new.names v c.self.inside.cache
    c.bring_in-frame.new.self c.give-name.result c.args.key c.bring_in-frame.result.0)
    (sym (c.take_unused-2.ensures.exact
    ∙ ap (λ (v : List (Option ℕ)). unused_taken v c.bring_in-frame.new.self c.name_of.result) c.take_unused.ensures.exact
    ∙ ap (unused_taken (unused_taken c.give-name.new.names c.bring_in-frame.new.self c.dropped_key-dropped.result)
    c.bring_in-frame.new.self) c.name_of.ensures.value))
    (brought c.self.inside.names c.give-name.new.names c.self.inside.cache c.bring_in-frame.new.self c.give-name.result c.args.key
    c.bring_in-frame.result.0 c.dropped_key-dropped.result c.bring_in-frame.result.1 k r c.give-name.ensures.given.named
    (omega (arith, c.give-name.ensures.given.low, k.room)) c.bring_in-frame.ensures.sound c.bring_in-frame.ensures.exact
    c.dropped_key-dropped.ensures.value c.bring_in-frame.ensures.left) in
    w.keyed

pub returns-clause-exact : goal.returns-clause-exact
returns-clause-exact c =
    let k : IsKeyed c.self.inside.names c.self.inside.cache = c.self.invariant in
    let r : IsReady c.self.inside.names c.give-name.new.names c.self.inside.cache c.args.key c.give-name.result =
    ready c.self.inside.names c.give-name.new.names c.self.inside.cache c.args.key c.give-name.result k
    (low-key c.args.key c.requires.key) c.give-name.ensures.given in
    let w : IsBrought c.self.inside.names c.give-name.new.names c.take_unused-2.new.names c.self.inside.cache
    c.bring_in-frame.new.self c.give-name.result c.args.key c.bring_in-frame.result.0 =
    subst (λ (v : List (Option ℕ)). IsBrought c.self.inside.names c.give-name.new.names v c.self.inside.cache
    c.bring_in-frame.new.self c.give-name.result c.args.key c.bring_in-frame.result.0)
    (sym (c.take_unused-2.ensures.exact
    ∙ ap (λ (v : List (Option ℕ)). unused_taken v c.bring_in-frame.new.self c.name_of.result) c.take_unused.ensures.exact
    ∙ ap (unused_taken (unused_taken c.give-name.new.names c.bring_in-frame.new.self c.dropped_key-dropped.result)
    c.bring_in-frame.new.self) c.name_of.ensures.value))
    (brought c.self.inside.names c.give-name.new.names c.self.inside.cache c.bring_in-frame.new.self c.give-name.result c.args.key
    c.bring_in-frame.result.0 c.dropped_key-dropped.result c.bring_in-frame.result.1 k r c.give-name.ensures.given.named
    (omega (arith, c.give-name.ensures.given.low, k.room)) c.bring_in-frame.ensures.sound c.bring_in-frame.ensures.exact
    c.dropped_key-dropped.ensures.value c.bring_in-frame.ensures.left) in
    w.same ∙ ap (λ (v : Keyed). after_bring_in v.cache c.args.key c.bring_in-frame.result.0) c.self.view_is

pub returns-clause-free : goal.returns-clause-free
returns-clause-free c =
    let k : IsKeyed c.self.inside.names c.self.inside.cache = c.self.invariant in
    let r : IsReady c.self.inside.names c.give-name.new.names c.self.inside.cache c.args.key c.give-name.result =
    ready c.self.inside.names c.give-name.new.names c.self.inside.cache c.args.key c.give-name.result k
    (low-key c.args.key c.requires.key) c.give-name.ensures.given in
    subst (λ (s : PageCache). IsFree (without_victim s.table (asked s c.args.key).0) c.bring_in-frame.result.0)
    (r.same ∙ ap (λ (v : Keyed). v.cache) c.self.view_is)
    (free-by_keys c.give-name.new.names c.self.inside.cache c.give-name.result c.args.key c.bring_in-frame.result.0 r.named
    c.give-name.ensures.given.named c.bring_in-frame.ensures.free)

pub returns-clause-left : goal.returns-clause-left
returns-clause-left c =
    let k : IsKeyed c.self.inside.names c.self.inside.cache = c.self.invariant in
    let r : IsReady c.self.inside.names c.give-name.new.names c.self.inside.cache c.args.key c.give-name.result =
    ready c.self.inside.names c.give-name.new.names c.self.inside.cache c.args.key c.give-name.result k
    (low-key c.args.key c.requires.key) c.give-name.ensures.given in
    c.left_by_key-left_by_key.ensures.value
    ∙ ap (key_of_left c.give-name.new.names) c.bring_in-frame.ensures.left
    ∙ left-by_keys c.give-name.new.names c.self.inside.cache c.give-name.result c.args.key k.sound r.named
    c.give-name.ensures.given.named
    ∙ ap (λ (s : PageCache). left_of s.table (asked s c.args.key).0) (r.same ∙ ap (λ (v : Keyed). v.cache) c.self.view_is)

pub returns-clause-pinned_stay : goal.returns-clause-pinned_stay
returns-clause-pinned_stay c =
    let k : IsKeyed c.self.inside.names c.self.inside.cache = c.self.invariant in
    let r : IsReady c.self.inside.names c.give-name.new.names c.self.inside.cache c.args.key c.give-name.result =
    ready c.self.inside.names c.give-name.new.names c.self.inside.cache c.args.key c.give-name.result k
    (low-key c.args.key c.requires.key) c.give-name.ensures.given in
    let w : IsBrought c.self.inside.names c.give-name.new.names c.take_unused-2.new.names c.self.inside.cache
    c.bring_in-frame.new.self c.give-name.result c.args.key c.bring_in-frame.result.0 =
    subst (λ (v : List (Option ℕ)). IsBrought c.self.inside.names c.give-name.new.names v c.self.inside.cache
    c.bring_in-frame.new.self c.give-name.result c.args.key c.bring_in-frame.result.0)
    (sym (c.take_unused-2.ensures.exact
    ∙ ap (λ (v : List (Option ℕ)). unused_taken v c.bring_in-frame.new.self c.name_of.result) c.take_unused.ensures.exact
    ∙ ap (unused_taken (unused_taken c.give-name.new.names c.bring_in-frame.new.self c.dropped_key-dropped.result)
    c.bring_in-frame.new.self) c.name_of.ensures.value))
    (brought c.self.inside.names c.give-name.new.names c.self.inside.cache c.bring_in-frame.new.self c.give-name.result c.args.key
    c.bring_in-frame.result.0 c.dropped_key-dropped.result c.bring_in-frame.result.1 k r c.give-name.ensures.given.named
    (omega (arith, c.give-name.ensures.given.low, k.room)) c.bring_in-frame.ensures.sound c.bring_in-frame.ensures.exact
    c.dropped_key-dropped.ensures.value c.bring_in-frame.ensures.left) in
    subst (λ (v : Keyed). PinnedStay v.cache.table (by_keys c.take_unused-2.new.names c.bring_in-frame.new.self).table) c.self.view_is
    (stay-brought c.self.inside.names c.give-name.new.names c.take_unused-2.new.names c.self.inside.cache
    c.bring_in-frame.new.self r.named w.keyed w.taken r.same c.bring_in-frame.ensures.pinned_stay)

pub returns-clause-sound : goal.returns-clause-sound
returns-clause-sound c =
    let k : IsKeyed c.self.inside.names c.self.inside.cache = c.self.invariant in
    let r : IsReady c.self.inside.names c.give-name.new.names c.self.inside.cache c.args.key c.give-name.result =
    ready c.self.inside.names c.give-name.new.names c.self.inside.cache c.args.key c.give-name.result k
    (low-key c.args.key c.requires.key) c.give-name.ensures.given in
    let w : IsBrought c.self.inside.names c.give-name.new.names c.take_unused-2.new.names c.self.inside.cache
    c.bring_in-frame.new.self c.give-name.result c.args.key c.bring_in-frame.result.0 =
    subst (λ (v : List (Option ℕ)). IsBrought c.self.inside.names c.give-name.new.names v c.self.inside.cache
    c.bring_in-frame.new.self c.give-name.result c.args.key c.bring_in-frame.result.0)
    (sym (c.take_unused-2.ensures.exact
    ∙ ap (λ (v : List (Option ℕ)). unused_taken v c.bring_in-frame.new.self c.name_of.result) c.take_unused.ensures.exact
    ∙ ap (unused_taken (unused_taken c.give-name.new.names c.bring_in-frame.new.self c.dropped_key-dropped.result)
    c.bring_in-frame.new.self) c.name_of.ensures.value))
    (brought c.self.inside.names c.give-name.new.names c.self.inside.cache c.bring_in-frame.new.self c.give-name.result c.args.key
    c.bring_in-frame.result.0 c.dropped_key-dropped.result c.bring_in-frame.result.1 k r c.give-name.ensures.given.named
    (omega (arith, c.give-name.ensures.given.low, k.room)) c.bring_in-frame.ensures.sound c.bring_in-frame.ensures.exact
    c.dropped_key-dropped.ensures.value c.bring_in-frame.ensures.left) in
    keyed-sound c.take_unused-2.new.names c.bring_in-frame.new.self w.keyed

pub returns-clause-room : goal.returns-clause-room
returns-clause-room c =
    let k : IsKeyed c.self.inside.names c.self.inside.cache = c.self.invariant in
    let r : IsReady c.self.inside.names c.give-name.new.names c.self.inside.cache c.args.key c.give-name.result =
    ready c.self.inside.names c.give-name.new.names c.self.inside.cache c.args.key c.give-name.result k
    (low-key c.args.key c.requires.key) c.give-name.ensures.given in
    let w : IsBrought c.self.inside.names c.give-name.new.names c.take_unused-2.new.names c.self.inside.cache
    c.bring_in-frame.new.self c.give-name.result c.args.key c.bring_in-frame.result.0 =
    subst (λ (v : List (Option ℕ)). IsBrought c.self.inside.names c.give-name.new.names v c.self.inside.cache
    c.bring_in-frame.new.self c.give-name.result c.args.key c.bring_in-frame.result.0)
    (sym (c.take_unused-2.ensures.exact
    ∙ ap (λ (v : List (Option ℕ)). unused_taken v c.bring_in-frame.new.self c.name_of.result) c.take_unused.ensures.exact
    ∙ ap (unused_taken (unused_taken c.give-name.new.names c.bring_in-frame.new.self c.dropped_key-dropped.result)
    c.bring_in-frame.new.self) c.name_of.ensures.value))
    (brought c.self.inside.names c.give-name.new.names c.self.inside.cache c.bring_in-frame.new.self c.give-name.result c.args.key
    c.bring_in-frame.result.0 c.dropped_key-dropped.result c.bring_in-frame.result.1 k r c.give-name.ensures.given.named
    (omega (arith, c.give-name.ensures.given.low, k.room)) c.bring_in-frame.ensures.sound c.bring_in-frame.ensures.exact
    c.dropped_key-dropped.ensures.value c.bring_in-frame.ensures.left) in
    w.size ∙ ap (λ (v : Keyed). v.room) c.self.view_is

pub returns-clause-used : goal.returns-clause-used
returns-clause-used c =
    let k : IsKeyed c.self.inside.names c.self.inside.cache = c.self.invariant in
    let r : IsReady c.self.inside.names c.give-name.new.names c.self.inside.cache c.args.key c.give-name.result =
    ready c.self.inside.names c.give-name.new.names c.self.inside.cache c.args.key c.give-name.result k
    (low-key c.args.key c.requires.key) c.give-name.ensures.given in
    let w : IsBrought c.self.inside.names c.give-name.new.names c.take_unused-2.new.names c.self.inside.cache
    c.bring_in-frame.new.self c.give-name.result c.args.key c.bring_in-frame.result.0 =
    subst (λ (v : List (Option ℕ)). IsBrought c.self.inside.names c.give-name.new.names v c.self.inside.cache
    c.bring_in-frame.new.self c.give-name.result c.args.key c.bring_in-frame.result.0)
    (sym (c.take_unused-2.ensures.exact
    ∙ ap (λ (v : List (Option ℕ)). unused_taken v c.bring_in-frame.new.self c.name_of.result) c.take_unused.ensures.exact
    ∙ ap (unused_taken (unused_taken c.give-name.new.names c.bring_in-frame.new.self c.dropped_key-dropped.result)
    c.bring_in-frame.new.self) c.name_of.ensures.value))
    (brought c.self.inside.names c.give-name.new.names c.self.inside.cache c.bring_in-frame.new.self c.give-name.result c.args.key
    c.bring_in-frame.result.0 c.dropped_key-dropped.result c.bring_in-frame.result.1 k r c.give-name.ensures.given.named
    (omega (arith, c.give-name.ensures.given.low, k.room)) c.bring_in-frame.ensures.sound c.bring_in-frame.ensures.exact
    c.dropped_key-dropped.ensures.value c.bring_in-frame.ensures.left) in
    omega (
      arith,
      count-taken c.give-name.new.names c.take_unused-2.new.names c.bring_in-frame.new.self w.taken,
      count-given c.self.inside.names c.give-name.new.names c.args.key c.give-name.result c.give-name.ensures.given,
      ap (λ (v : Keyed). v.used) c.self.view_is,
    )
