-- What is left to show of KeyedCache::reserve_frame.
use Rattle.std.proofs.Common.{◌≡◌, ap, sym, subst, ◌∙◌}
use Rattle.std.proofs.Common.{◌<◌, arith}
use Rattle.pp_cache.specs.Frames.{resident_count}
use Rattle.pp_cache.specs.Cache.{PageCache}
use Rattle.pp_keyed.specs.Keyed.{Keyed, by_keys, keyed, IsKeyed, with_frame}
use Rattle.pp_keyed.proofs.ByKeysLemmas.{named_of, resident-by_keys}
use Rattle.pp_keyed.proofs.AnswerLemmas.{keyed-sound, frame-by_keys, reserved-keyed}
use Rattle.pp_keyed.proofs.keyed.KeyedCache.reserve_frame.Goals as goal

pub returns-clause-reserved : goal.returns-clause-reserved
returns-clause-reserved c = λ ok.
    subst (λ (v : Keyed). keyed c.self.inside.names c.reserve_frame.new.self ≡ (record v { cache = with_frame v.cache }))
    c.self.view_is
    (ap (λ (s : PageCache). keyed c.self.inside.names s) (c.reserve_frame.ensures.reserved ok)
    ∙ ap (λ (s : PageCache). record (keyed c.self.inside.names c.self.inside.cache) { cache = s })
    (frame-by_keys c.self.inside.names c.self.inside.cache (named_of c.self.inside.names c.self.inside.cache c.self.invariant)))

pub returns-clause-frame : goal.returns-clause-frame
returns-clause-frame c = λ ok.
    let k : IsKeyed c.self.inside.names c.reserve_frame.new.self =
    reserved-keyed c.self.inside.names c.self.inside.cache c.reserve_frame.new.self c.reserve_frame.result c.self.invariant
    c.reserve_frame.ensures.sound c.reserve_frame.ensures.reserved c.reserve_frame.ensures.unchanged in
    let room : resident_count c.reserve_frame.new.self.table < c.reserve_frame.new.self.table.frames =
    c.reserve_frame.ensures.room ok in
    omega (
      arith,
      room,
      resident-by_keys c.self.inside.names c.reserve_frame.new.self
          (named_of c.self.inside.names c.reserve_frame.new.self k),
    )

pub returns-clause-succeeds : goal.returns-clause-succeeds
returns-clause-succeeds c = λ less.
    let less' : resident_count (by_keys c.self.inside.names c.self.inside.cache).table < c.self.inside.cache.table.frames =
    subst (λ (v : Keyed). resident_count v.cache.table < v.cache.table.frames) (sym c.self.view_is) less in
    c.reserve_frame.ensures.succeeds (omega (
      arith,
      less',
      resident-by_keys c.self.inside.names c.self.inside.cache
          (named_of c.self.inside.names c.self.inside.cache c.self.invariant),
    ))

pub returns-clause-sound : goal.returns-clause-sound
returns-clause-sound c = keyed-sound c.self.inside.names c.reserve_frame.new.self
    (reserved-keyed c.self.inside.names c.self.inside.cache c.reserve_frame.new.self c.reserve_frame.result c.self.invariant
    c.reserve_frame.ensures.sound c.reserve_frame.ensures.reserved c.reserve_frame.ensures.unchanged)
