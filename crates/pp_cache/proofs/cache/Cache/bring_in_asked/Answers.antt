-- What is left to show of Cache::bring_in_asked: the lists and the frames speak of the same pages.
use Rattle.std.proofs.Common.{◌≡◌, ◌≢◌, ◌<◌, ◌∙◌, ℕ, true, false, length, refl, ap, subst, sym, get_or-set_other}
use Rattle.pp_arc.specs.declared.answer.Answer.{Answer}
use Rattle.pp_arc.specs.declared.answer.Answer.TheVariants.{Hit, Free, Evict, AllBusy}
use Rattle.pp_cache.specs.declared.resident.Resident.{Resident}
use Rattle.pp_cache.specs.Frames.{FrameMap, page_of, is_held, is_pinned, with_page}
use Rattle.pp_cache.specs.Cache.{PageCache, PinnedStay, without_victim}
use Rattle.pp_cache.proofs.FrameLemmas.{new_page}
use Rattle.pp_cache.proofs.CacheLemmas.{answered, together-bring_in}
use Rattle.std.specs.Prelude.{Option, Some, None}
use Rattle.pp_cache.proofs.SearchTies.{Knows-brought}
use Rattle.pp_cache.proofs.cache.Cache.bring_in_asked.Goals as goal

pub returns-clause-sound : goal.returns-clause-sound
returns-clause-sound c =
    let s : PageCache = record { lists = c.self.inside.directory; table = c.self.inside.frames } in
    let low : c.args.key < length c.self.inside.frames.pages =
    subst (λ (w : PageCache). c.args.key < length w.table.pages) (sym c.self.view_is) c.requires.key in
    record {
      bounds = c.request-answer.ensures.bounds;
      frames = c.take.ensures.one_to_one;
      together =
          rw (c.take.ensures.exact, c.make_way-left.ensures.exact) (together-bring_in s c.request-answer.new.self
          c.request-answer.result c.args.key (new_page c.take.result) c.self.invariant.sound.together low refl
          c.request-answer.ensures.fixed.1
          (answered c.self.inside.directory c.request-answer.new.self c.args.key c.request-answer.result
          c.request-answer.ensures.unchanged c.request-answer.ensures.cache));
    }

pub invariant_of-self : goal.invariant_of-self
invariant_of-self c = record {
  sound = returns-clause-sound c;
  knows = Knows-brought c.request-answer.new.self c.request-answer.new.search c.self.inside.frames c.make_way-left.new.frames
      c.take.new.self c.args.key (Some (new_page c.take.result)) c.request-answer.result c.make_way-left.ensures.exact
      c.request-answer.ensures.victim_is_not_busy c.take.ensures.exact refl c.request-answer.ensures.knows;
}

-- a page comes in where none stood, and a victim that wasn't pinned may have left
stay-brought : (m u o : FrameMap) (key : ℕ) (p : Option Resident) (answer : Answer) → u ≡ without_victim m answer
    → ((v : ℕ) → answer ≡ Evict v → is_pinned m v ≡ false) → o ≡ with_page u key p → page_of m key ≡ None
    → PinnedStay m o
stay-brought m u o key p answer e free f none y held =
    subst (λ (w : FrameMap). page_of w y ≡ page_of m y) (sym f)
    (get_or-set_other u.pages key y p None away
    ∙ subst (λ (w : FrameMap). page_of w y ≡ page_of m y) (sym e) (go answer free))
  where
    away : y ≢ key
    away same =
        let h : is_held (page_of m key) ≡ true = subst (λ (i : ℕ). is_pinned m i ≡ true) same held in
        let n : is_held (page_of m key) ≡ false = ap is_held none in
        absurd (cc)

    go : (a : Answer) → ((v : ℕ) → a ≡ Evict v → is_pinned m v ≡ false)
        → page_of (without_victim m a) y ≡ page_of m y
    go Hit w = refl
    go Free w = refl
    go AllBusy w = refl
    go (Evict v) w = get_or-set_other m.pages v y None None (λ same.
        let h : is_pinned m v ≡ true = subst (λ (i : ℕ). is_pinned m i ≡ true) same held in
        let n : is_pinned m v ≡ false = w v refl in
        absurd (cc))

pub returns-clause-pinned_stay : goal.returns-clause-pinned_stay
returns-clause-pinned_stay c =
    let none : page_of c.self.inside.frames c.args.key ≡ None = subst (λ (w : PageCache).
    page_of w.table c.args.key ≡ None) (sym c.self.view_is) c.requires.absent in
    subst (λ (w : PageCache). PinnedStay w.table c.take.new.self) c.self.view_is
    (stay-brought c.self.inside.frames c.make_way-left.new.frames c.take.new.self c.args.key
    (Some (new_page c.take.result)) c.request-answer.result c.make_way-left.ensures.exact
    c.request-answer.ensures.victim_is_not_busy c.take.ensures.exact none)
