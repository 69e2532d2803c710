-- What is left to show of Cache::pin_again: the request of a cached page is a hit.
use Rattle.std.proofs.Common.{◌≡◌, ◌∙◌, true, false, ap, sym, subst}
use Rattle.std.specs.Prelude.{is_some}
use Rattle.pp_arc.specs.declared.answer.Answer.TheVariants.{Hit}
use Rattle.pp_cache.specs.Frames.{FrameMap, page_of, is_pinned, pinned_to}
use Rattle.pp_cache.specs.Cache.{PageCache, IsSound, PinnedStay, asked, after_pin}
use Rattle.pp_cache.proofs.CacheLemmas.{stay-pin}
use Rattle.pp_cache.proofs.TouchLemmas.{pin-touched, together-touched}
use Rattle.pp_cache.proofs.SearchTies.{Knows-page, still_pinned}
use Rattle.pp_cache.proofs.cache.Cache.pin_again.Goals as goal

pub invariant_of-self : goal.invariant_of-self
invariant_of-self c =
    let s : PageCache = record { lists = c.self.inside.directory; table = c.self.inside.frames } in
    let free : is_pinned s.table c.args.key ≡ false =
    subst (λ (w : PageCache). is_pinned w.table c.args.key ≡ false) (sym c.self.view_is) c.requires.unpinned in
    let some : is_some (page_of s.table c.args.key) ≡ true =
    subst (λ (w : PageCache). is_some (page_of w.table c.args.key) ≡ true) (sym c.self.view_is) c.requires.resident in
    let hit : asked s c.args.key ≡ (Hit, c.touch.new.self) =
    c.touch.ensures.requests
    (c.touch.ensures.cached ∙ c.self.invariant.sound.together.unpinned_is_cached c.args.key some free) (is_pinned s.table) in
    let sound : IsSound (record { lists = c.touch.new.self; table = c.set_pinned.new.self }) =
    record {
      bounds = c.touch.ensures.bounds;
      frames = c.set_pinned.ensures.one_to_one;
      together = rw c.set_pinned.ensures.exact (together-touched s c.args.key c.touch.new.self
          c.self.invariant.sound.together c.self.invariant.sound.bounds some hit);
    } in
    record {
      sound = sound;
      knows = Knows-page c.touch.new.self c.touch.new.search s.table c.set_pinned.new.self c.args.key
          (pinned_to true (page_of s.table c.args.key)) c.set_pinned.ensures.exact (still_pinned (page_of s.table c.args.key))
          (c.touch.ensures.knows (is_pinned s.table) c.self.invariant.knows);
    }

pub returns-clause-exact : goal.returns-clause-exact
returns-clause-exact c =
    let s : PageCache = record { lists = c.self.inside.directory; table = c.self.inside.frames } in
    let free : is_pinned s.table c.args.key ≡ false =
    subst (λ (w : PageCache). is_pinned w.table c.args.key ≡ false) (sym c.self.view_is) c.requires.unpinned in
    let some : is_some (page_of s.table c.args.key) ≡ true =
    subst (λ (w : PageCache). is_some (page_of w.table c.args.key) ≡ true) (sym c.self.view_is) c.requires.resident in
    let hit : asked s c.args.key ≡ (Hit, c.touch.new.self) =
    c.touch.ensures.requests
    (c.touch.ensures.cached ∙ c.self.invariant.sound.together.unpinned_is_cached c.args.key some free) (is_pinned s.table) in
    ap (λ (m : FrameMap). record { lists = c.touch.new.self; table = m }) c.set_pinned.ensures.exact
    ∙ pin-touched s c.args.key c.touch.new.self free hit ∙ ap (λ (w : PageCache). after_pin w c.args.key) c.self.view_is

pub returns-clause-pinned_stay : goal.returns-clause-pinned_stay
returns-clause-pinned_stay c =
    let s : PageCache = record { lists = c.self.inside.directory; table = c.self.inside.frames } in
    let free : is_pinned s.table c.args.key ≡ false =
    subst (λ (w : PageCache). is_pinned w.table c.args.key ≡ false) (sym c.self.view_is) c.requires.unpinned in
    let some : is_some (page_of s.table c.args.key) ≡ true =
    subst (λ (w : PageCache). is_some (page_of w.table c.args.key) ≡ true) (sym c.self.view_is) c.requires.resident in
    let hit : asked s c.args.key ≡ (Hit, c.touch.new.self) =
    c.touch.ensures.requests
    (c.touch.ensures.cached ∙ c.self.invariant.sound.together.unpinned_is_cached c.args.key some free) (is_pinned s.table) in
    subst (λ (w : PageCache). PinnedStay w.table c.set_pinned.new.self) c.self.view_is
    (subst (λ (m : FrameMap). PinnedStay s.table m) (sym c.set_pinned.ensures.exact) (stay-pin s.table c.args.key free))

pub returns-clause-sound : goal.returns-clause-sound
returns-clause-sound c =
    let s : PageCache = record { lists = c.self.inside.directory; table = c.self.inside.frames } in
    let free : is_pinned s.table c.args.key ≡ false =
    subst (λ (w : PageCache). is_pinned w.table c.args.key ≡ false) (sym c.self.view_is) c.requires.unpinned in
    let some : is_some (page_of s.table c.args.key) ≡ true =
    subst (λ (w : PageCache). is_some (page_of w.table c.args.key) ≡ true) (sym c.self.view_is) c.requires.resident in
    let hit : asked s c.args.key ≡ (Hit, c.touch.new.self) =
    c.touch.ensures.requests
    (c.touch.ensures.cached ∙ c.self.invariant.sound.together.unpinned_is_cached c.args.key some free) (is_pinned s.table) in
    let sound : IsSound (record { lists = c.touch.new.self; table = c.set_pinned.new.self }) =
    record {
      bounds = c.touch.ensures.bounds;
      frames = c.set_pinned.ensures.one_to_one;
      together = rw c.set_pinned.ensures.exact (together-touched s c.args.key c.touch.new.self
          c.self.invariant.sound.together c.self.invariant.sound.bounds some hit);
    } in
    sound
