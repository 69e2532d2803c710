-- What is left to show of Cache::fix.
use Rattle.std.proofs.Common.{◌≡◌, ◌≢◌, ◌+◌, ◌<◌, ℕ, Some, sym, subst, ap, ◌∙◌, refl, arith}
use Rattle.std.specs.Prelude.{None, nat_lt}
use Rattle.pp_arc.specs.Search.{KnowsBusy}
use Rattle.pp_arc.proofs.SearchLemmas.{KnowsBusy-more}
use Rattle.pp_frames.specs.Marks.{with_frame, with_pins}
use Rattle.pp_frames.specs.Marks.{PageMap, pins_of, frame_of, all_pins}
use Rattle.pp_arc.specs.declared.answer.Answer.{Answer}
use Rattle.pp_arc.specs.declared.answer.Answer.TheVariants.{Hit, Free, Evict}
use Rattle.pp_callers.specs.Cache.{AreOfOneCache, is_pinned}
use Rattle.pp_callers.proofs.CacheLemmas.{after_pins, after_hit, after_free, after_evict, pins_framed, pinned_still}
use Rattle.pp_callers.proofs.CacheLemmas.{stays, all_pins_framed, frame_pinned, pinned_away, pinned_other}
use Rattle.pp_callers.proofs.cache.Cache.fix.Goals as goal
use Rattle.pp_callers.proofs.cache.Cache.fix.Goals.{in-Hit, in-Free+in_ok-frame-in-Free, in-Evict+in_ok-frame-in-Evict}

pub place-requires-in-Evict-clause-free : goal.place-requires-in-Evict-clause-free
place-requires-in-Evict-clause-free c =
    c.clear.ensures.freed c.in_ok-frame-in-Evict.frame
    (sym c.frame_of.ensures.value ∙ c.in_ok-frame-in-Evict.was)

pub returns-clause-sound : goal.returns-clause-sound
returns-clause-sound c =
    let loaded : AreOfOneCache c.match-request.self.directory c.match-request.self.marks =
    elim c.match-request.branch [
      | in-Hit w ↦ rw w.self-is
          (after_hit c.args.self.now.directory c.request.new.self c.args.self.now.marks c.args.page
          c.requires.sound (w.in-Hit.ensures.cache (λ e. cc)) w.in-Hit.ensures.fixed.1)
      | in-Free+in_ok-frame-in-Free w ↦ rw (w.self-is, w.place.ensures.exact)
          (after_free c.args.self.now.directory c.request.new.self c.args.self.now.marks c.args.page
          (Some w.in_ok-frame-in-Free.frame) c.requires.sound (w.in-Free.ensures.cache (λ e. cc))
          w.in-Free.ensures.fixed.1)
      | in-Evict+in_ok-frame-in-Evict w ↦ rw (w.self-is, w.place-in-Evict.ensures.exact, w.clear.ensures.exact)
          (after_evict c.args.self.now.directory c.request.new.self c.args.self.now.marks c.args.page
          w.in-Evict.victim (Some w.in_ok-frame-in-Evict.frame) c.requires.sound (w.in-Evict.ensures.cache (λ e. cc))
          w.in-Evict.ensures.fixed.1)
    ] in
    subst (λ (m : PageMap). AreOfOneCache c.match-request.self.directory m) (sym c.pin.ensures.exact)
    (after_pins c.match-request.self.directory c.match-request.self.marks c.args.page
    (pins_of c.match-request.self.marks c.args.page + 1) loaded)

pub returns-clause-knows : goal.returns-clause-knows
returns-clause-knows c =
    let m : PageMap = c.args.self.now.marks in
    let known : KnowsBusy c.match-request.self.directory c.match-request.self.search
    (is_pinned c.match-request.self.marks) =
    elim c.match-request.branch [
      | in-Hit w ↦ rw w.self-is c.request.ensures.knows
      | in-Free+in_ok-frame-in-Free w ↦ rw (w.self-is, w.place.ensures.exact)
          (KnowsBusy-more c.request.new.self c.request.new.search (is_pinned m)
          (is_pinned (with_frame m c.args.page (Some w.in_ok-frame-in-Free.frame)))
          (λ y held. ap (nat_lt 0) (pins_framed m c.args.page y (Some w.in_ok-frame-in-Free.frame)) ∙ held)
          c.request.ensures.knows)
      | in-Evict+in_ok-frame-in-Evict w ↦ rw (w.self-is, w.place-in-Evict.ensures.exact, w.clear.ensures.exact)
          (KnowsBusy-more c.request.new.self c.request.new.search (is_pinned m)
          (is_pinned (with_frame (with_frame m w.in-Evict.victim None) c.args.page (Some w.in_ok-frame-in-Evict.frame)))
          (λ y held. ap (nat_lt 0)
          (pins_framed (with_frame m w.in-Evict.victim None) c.args.page y (Some w.in_ok-frame-in-Evict.frame)
          ∙ pins_framed m w.in-Evict.victim y None) ∙ held)
          c.request.ensures.knows)
    ] in
    subst (λ (n : PageMap). KnowsBusy c.match-request.self.directory c.match-request.self.search (is_pinned n))
    (sym c.pin.ensures.exact)
    (KnowsBusy-more c.match-request.self.directory c.match-request.self.search (is_pinned c.match-request.self.marks)
    (is_pinned (with_pins c.match-request.self.marks c.args.page (pins_of c.match-request.self.marks c.args.page + 1)))
    (λ y held. pinned_still c.match-request.self.marks c.args.page y held) known)

pub place-requires-in-Evict-clause-frame : goal.place-requires-in-Evict-clause-frame
place-requires-in-Evict-clause-frame c =
    subst (λ (n : PageMap). c.in_ok-frame-in-Evict.frame < n.frames) (sym c.clear.ensures.exact)
    (c.frame_of.ensures.sound.in_range c.in-Evict.victim c.in_ok-frame-in-Evict.frame
    (sym c.frame_of.ensures.value ∙ c.in_ok-frame-in-Evict.was))

pub pin-requires-clause-room : goal.pin-requires-clause-room
pin-requires-clause-room c =
    let m : PageMap = c.args.self.now.marks in
    let same : (all_pins c.match-request.self.marks ≡ all_pins m) × (c.match-request.self.marks.frames ≡ m.frames) =
    elim c.match-request.branch [
      | in-Hit w ↦ rw w.self-is (refl, refl)
      | in-Free+in_ok-frame-in-Free w ↦ rw (w.self-is, w.place.ensures.exact)
          (all_pins_framed m c.args.page (Some w.in_ok-frame-in-Free.frame), refl)
      | in-Evict+in_ok-frame-in-Evict w ↦ rw (w.self-is, w.place-in-Evict.ensures.exact, w.clear.ensures.exact) (
        all_pins_framed (with_frame m w.in-Evict.victim None) c.args.page (Some w.in_ok-frame-in-Evict.frame)
            ∙ all_pins_framed m w.in-Evict.victim None,
        refl,
      )
    ] in
    omega (
      arith,
      same.0,
      same.1,
      c.requires.sound.frames,
      c.all_pins.ensures.value,
      c.all_pins.ensures.sound.pins_fit,
      c.if-all_pins-eq-FRAMES.false,
    )

pub returns-clause-stays : goal.returns-clause-stays
returns-clause-stays c = λ q held.
    let m : PageMap = c.args.self.now.marks in
    let loaded : frame_of c.match-request.self.marks q ≡ frame_of m q =
    elim c.match-request.branch [
      | in-Hit w ↦ rw w.self-is refl
      | in-Free+in_ok-frame-in-Free w ↦ rw (w.self-is, w.place.ensures.exact)
          (stays m c.args.page (Some w.in_ok-frame-in-Free.frame) q
          (pinned_away c.args.self.now.directory m c.args.page q c.all_pins.ensures.sound c.requires.sound
          (λ there. let e : ◌≡◌ {A = Answer} Free Hit = w.in-Free.ensures.hit.1 there in cc) held))
      | in-Evict+in_ok-frame-in-Evict w ↦ rw (w.self-is, w.place-in-Evict.ensures.exact, w.clear.ensures.exact)
          (stays (with_frame m w.in-Evict.victim None) c.args.page (Some w.in_ok-frame-in-Evict.frame) q
          (pinned_away c.args.self.now.directory m c.args.page q c.all_pins.ensures.sound c.requires.sound
          (λ there. let e : ◌≡◌ {A = Answer} (Evict w.in-Evict.victim) Hit = w.in-Evict.ensures.hit.1 there in cc) held)
          ∙ stays m w.in-Evict.victim None q
          (pinned_other m w.in-Evict.victim q (w.in-Evict.ensures.victim_is_not_busy w.in-Evict.victim refl) held))
    ] in
    subst (λ (n : PageMap). frame_of n q ≡ frame_of m q) (sym c.pin.ensures.exact)
    (frame_pinned c.match-request.self.marks c.args.page (pins_of c.match-request.self.marks c.args.page + 1) q ∙ loaded)
