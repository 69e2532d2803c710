-- What the search for a page that isn't pinned knows, as pages are pinned, let go, and leave their frames.
use Rattle.std.proofs.Common.{◌≡◌, ◌≢◌, ℕ, ◌<◌, true, false, length, refl, sym, ap, subst, ◌∙◌, inl, inr, is_some, arith}
use Rattle.std.proofs.Common.{get_or-set_same, get_or-set_other}
use Rattle.std.specs.Prelude.{Option, Some, None}
use Rattle.std.specs.Option.{option_map}
use Rattle.std.proofs.lemmas.Bool.Decides.{eqb_tells}
use Rattle.pp_arc.specs.declared.answer.Answer.{Answer}
use Rattle.pp_arc.specs.declared.answer.Answer.TheVariants.{Hit, Free, Evict, AllBusy}
use Rattle.pp_arc.specs.FourLists.{FourLists, empty_lists}
use Rattle.pp_arc.specs.Bounds.{IsWithinBounds}
use Rattle.pp_arc.specs.Search.{SearchMarks, KnowsBusy}
use Rattle.pp_arc.proofs.SearchLemmas.{KnowsBusy-more, Keeps, KeepsBut}
use Rattle.pp_cache.specs.declared.resident.Resident.{Resident}
use Rattle.pp_cache.specs.Frames.{FrameMap, no_frames, page_of, frame_of, is_held, is_pinned, with_page, pinned_to, moved}
use Rattle.pp_cache.specs.Cache.{IsSound, empty_cache, without_victim}
use Rattle.std.proofs.lemmas.List.{get_or_past}
use Rattle.pp_cache.proofs.FrameLemmas.{below_pages}

-- another page stays as it is
pub pinned_other : (m : FrameMap) (key : ℕ) (p : Option Resident) (q : ℕ) → q ≢ key
    → is_pinned (with_page m key p) q ≡ is_pinned m q
pinned_other m key p q ne = ap is_held (get_or-set_other m.pages key q p None ne)

-- a pinned page stands in the map
held_below : (m : FrameMap) (key : ℕ) → is_pinned m key ≡ true → key < length m.pages
held_below m key h = go (page_of m key) refl h
  where
    go : (o : Option Resident) → page_of m key ≡ o → is_held o ≡ true → key < length m.pages
    go None e f = absurd (cc)
    go (Some r) e f = below_pages m.pages key r e

-- what is pinned stays pinned where the page of one key does
pub pinned_more : (m : FrameMap) (key : ℕ) (p : Option Resident) → (is_pinned m key ≡ true → is_held p ≡ true)
    → (y : ℕ) → is_pinned m y ≡ true → is_pinned (with_page m key p) y ≡ true
pinned_more m key p more y h = elim (eqb_tells y key) [
  | inl t ↦ let h' : is_pinned m key ≡ true = subst (λ (i : ℕ). is_pinned m i ≡ true) t.1 h in
      subst (λ (i : ℕ). is_pinned (with_page m key p) i ≡ true) (sym t.1)
      (ap is_held (get_or-set_same m.pages key p None (held_below m key h')) ∙ more h')
  | inr t ↦ pinned_other m key p y t.1 ∙ h
]

pub still_pinned : (o : Option Resident) → is_held o ≡ true → is_held (pinned_to true o) ≡ true
still_pinned None h = h
still_pinned (Some r) h = refl

-- the page of a key becomes another, and stays pinned where it was
pub Knows-page : (s : FourLists) (k : SearchMarks) (m n : FrameMap) (key : ℕ) (p : Option Resident)
    → n ≡ with_page m key p → (is_pinned m key ≡ true → is_held p ≡ true)
    → KnowsBusy s k (is_pinned m) → KnowsBusy s k (is_pinned n)
Knows-page s k m n key p e more h = subst (λ (w : FrameMap). KnowsBusy s k (is_pinned w)) (sym e)
    (KnowsBusy-more s k (is_pinned m) (is_pinned (with_page m key p)) (pinned_more m key p more) h)

-- the page of a key becomes another, and the search was told
pub Knows-told : (s t : FourLists) (k l : SearchMarks) (m n : FrameMap) (key : ℕ) (p : Option Resident)
    → n ≡ with_page m key p → Keeps s t k l key → KnowsBusy s k (is_pinned m) → KnowsBusy t l (is_pinned n)
Knows-told s t k l m n key p e keeps h = subst (λ (w : FrameMap). KnowsBusy t l (is_pinned w)) (sym e)
    (keeps (is_pinned m) (is_pinned (with_page m key p)) h (λ y ne b. pinned_other m key p y ne ∙ b))

-- a page gets another key
pub Knows-moved : (s t : FourLists) (k l : SearchMarks) (m n o : FrameMap) (old new : ℕ) → n ≡ with_page m new None
    → o ≡ moved n old new → KeepsBut s t k l old new → KnowsBusy s k (is_pinned m) → KnowsBusy t l (is_pinned o)
Knows-moved s t k l m n o old new e f keeps h =
    subst (λ (w : FrameMap). KnowsBusy t l (is_pinned w)) (sym (f ∙ ap (λ (w : FrameMap). moved w old new) e))
    (keeps (is_pinned m) (is_pinned (moved (with_page m new None) old new)) h (λ y no nn b.
    pinned_other (with_page (with_page m new None) old None) new (page_of (with_page m new None) old) y nn
    ∙ pinned_other (with_page m new None) old None y no
    ∙ pinned_other m new None y nn ∙ b))

-- a page comes in, pinned, where a victim that wasn't pinned may have left
pub Knows-brought : (s : FourLists) (k : SearchMarks) (m n o : FrameMap) (key : ℕ) (p : Option Resident) (answer : Answer)
    → n ≡ without_victim m answer → ((v : ℕ) → answer ≡ Evict v → is_pinned m v ≡ false) → o ≡ with_page n key p
    → is_held p ≡ true → KnowsBusy s k (is_pinned m) → KnowsBusy s k (is_pinned o)
Knows-brought s k m n o key p answer e free f held h =
    Knows-page s k n o key p f (λ was. held) (subst (λ (w : FrameMap). KnowsBusy s k (is_pinned w)) (sym e) (go answer free))
  where
    go : (a : Answer) → ((v : ℕ) → a ≡ Evict v → is_pinned m v ≡ false) → KnowsBusy s k (is_pinned (without_victim m a))
    go Hit w = h
    go Free w = h
    go AllBusy w = h
    go (Evict v) w = Knows-page s k m (with_page m v None) v None refl
        (λ was. let is : is_pinned m v ≡ false = w v refl in absurd (cc)) h

-- a cache of no pages
pub sound-empty : (size : ℕ) → IsWithinBounds (empty_lists size 0) → IsSound (empty_cache size)
sound-empty size bounds = record {
  bounds = bounds;
  frames = record {
    in_range = λ key frame e. absurd (nowhere key frame e);
    no_frame_twice = λ p q frame e f. absurd (nowhere p frame e);
  };
  together = record {
    keys = refl;
    cached_has_frame = λ key h. let n : false ≡ true = h in absurd (cc);
    unpinned_is_cached = λ key h free. let n : false ≡ true = sym (ap is_some (away key)) ∙ h in absurd (cc);
  };
}
  where
    away : (key : ℕ) → page_of no_frames key ≡ None
    away key = get_or_past no_frames.pages key None (omega arith)

    nowhere : (key frame : ℕ) → frame_of no_frames key ≡ Some frame → ⊥
    nowhere key frame e =
        let n : None ≡ Some frame = sym (ap (option_map (λ (page : Resident). page.frame)) (away key)) ∙ e in cc
