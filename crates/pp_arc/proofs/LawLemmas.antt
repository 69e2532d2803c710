-- Lemmas on the figure as a whole: which answer comes when, and what is cached afterwards.
use Rattle.std.proofs.Common.{◌≡◌, ◌≢◌, ◌⊎◌, ℕ, ◌*◌, ◌<◌, ◌≤◌, Bool, true, false, cond, eqb, ltb, List, [], ◌∷◌, length}
use Rattle.std.proofs.Common.{refl, arith, inl, inr}
use Rattle.std.specs.Prelude.{IsTrue, IsFalse, Option, Some, None, ◌↔◌}
use Rattle.std.proofs.lemmas.Bool.{eqb-true, eqb-false, ltb-false}
use Rattle.pp_arc.specs.declared.answer.Answer.{Answer}
use Rattle.pp_arc.specs.declared.answer.Answer.TheVariants.{Hit, Free, Evict, AllBusy}
use Rattle.pp_arc.specs.declared.list.List.{List as ListName}
use Rattle.pp_arc.specs.declared.list.List.TheVariants.{T1, T2, B1, B2}
use Rattle.pp_arc.specs.Pages.{contains, last_not_busy}
use Rattle.pp_arc.specs.FourLists.{FourLists, cached_count, recent_count, total_count, is_cached, place}
use Rattle.pp_arc.specs.Bounds.{IsWithinBounds}
use Rattle.pp_arc.specs.Figure.{victim, evict_or_all_busy, replacement, replace, replace_in_t1, without_last_of_b1}
use Rattle.pp_arc.specs.Figure.{without_last_of_b2, room_for_new, cases, request, raised_target, lowered_target}
use Rattle.pp_arc.specs.Laws.{AllCachedAreBusy}
use Rattle.pp_arc.proofs.VictimLemmas.{busy-last_not_busy, all_busy-last_not_busy, is_cached-either, victim-either}
use Rattle.pp_arc.proofs.VictimLemmas.{victim-none}
use Rattle.pp_arc.proofs.StepLemmas.{StandsIn, StandsIn-place}

-- what the answer to a request for a page that isn't cached says of the cache
pub record Answers (s : FourLists) (busy : ℕ → Bool) (answer : Answer) : Type 0 where
  pub no_hit : answer ≢ Hit
  pub free : (answer ≡ Free) ↔ (cached_count s < s.c)
  pub all_busy : (answer ≡ AllBusy) ↔ ((cached_count s ≡ s.c) × AllCachedAreBusy s busy)
  pub cached : (v : ℕ) → answer ≡ Evict v → IsTrue (is_cached s v)
  pub not_busy : (v : ℕ) → answer ≡ Evict v → IsFalse (busy v)

-- where both searches find nothing, each cached page is busy
pub AllCachedAreBusy-none : (s : FourLists) (busy : ℕ → Bool) → last_not_busy s.t1 busy ≡ None
    → last_not_busy s.t2 busy ≡ None → AllCachedAreBusy s busy
AllCachedAreBusy-none s busy e f x here = go (contains s.t1 x) refl
  where
    go : (b : Bool) → contains s.t1 x ≡ b → busy x ≡ true
    go true k = all_busy-last_not_busy s.t1 busy x e k
    go false k = let there : contains s.t2 x ≡ true = rw k at here in all_busy-last_not_busy s.t2 busy x f there

pub busy-either : (s : FourLists) (busy : ℕ → Bool) (v : ℕ)
    → (last_not_busy s.t1 busy ≡ Some v) ⊎ (last_not_busy s.t2 busy ≡ Some v) → busy v ≡ false
busy-either s busy v (inl h) = busy-last_not_busy s.t1 busy v h
busy-either s busy v (inr h) = busy-last_not_busy s.t2 busy v h

-- the answer of a search in a full cache
pub Answers-search : (s : FourLists) (busy : ℕ → Bool) (found : Option ℕ) → cached_count s ≡ s.c
    → ((v : ℕ) → found ≡ Some v → (last_not_busy s.t1 busy ≡ Some v) ⊎ (last_not_busy s.t2 busy ≡ Some v))
    → (found ≡ None → (last_not_busy s.t1 busy ≡ None) × (last_not_busy s.t2 busy ≡ None))
    → Answers s busy (evict_or_all_busy found)
Answers-search s busy None full some none = record {
  no_hit = λ e. cc;
  free = (λ e. absurd (cc), λ less. absurd (omega arith));
  all_busy = (λ e. (full, AllCachedAreBusy-none s busy (none refl).0 (none refl).1), λ k. refl);
  cached = λ v e. absurd (cc);
  not_busy = λ v e. absurd (cc);
}
Answers-search s busy (Some w) full some none =
    let here : is_cached s w ≡ true = is_cached-either s busy w (some w refl) in
    let free_to_go : busy w ≡ false = busy-either s busy w (some w refl) in
    record {
      no_hit = λ e. cc;
      free = (λ e. absurd (cc), λ less. absurd (omega arith));
      all_busy = (λ e. absurd (cc), λ k. let no : busy w ≡ true = k.1 w here in absurd (cc));
      cached = λ v e. let same : w ≡ v = cc in rw (← same) here;
      not_busy = λ v e. let same : w ≡ v = cc in rw (← same) free_to_go;
    }

pub Answers-free : (s : FourLists) (busy : ℕ → Bool) → cached_count s < s.c → Answers s busy Free
Answers-free s busy less = record {
  no_hit = λ e. cc;
  free = (λ e. less, λ k. refl);
  all_busy = (λ e. absurd (cc), λ k. absurd (omega (arith, k.0)));
  cached = λ v e. absurd (cc);
  not_busy = λ v e. absurd (cc);
}

-- REPLACE's answer
pub Answers-replacement : (s : FourLists) (in_b2 : Bool) (busy : ℕ → Bool) → cached_count s ≤ s.c
    → Answers s busy (replacement s in_b2 busy)
Answers-replacement s in_b2 busy h = go (eqb (cached_count s) s.c) refl
  where
    go : (b : Bool) → eqb (cached_count s) s.c ≡ b
        → Answers s busy (cond b (evict_or_all_busy (victim s in_b2 busy)) Free)
    go true e = Answers-search s busy (victim s in_b2 busy) (eqb-true (cached_count s) s.c e)
        (victim-either s in_b2 busy) (victim-none s in_b2 busy)
    go false e = Answers-free s busy (let ne : cached_count s ≢ s.c = eqb-false (cached_count s) s.c e in omega
        (arith, h))

nothing_in_t2 : (xs : List ℕ) (busy : ℕ → Bool) → length xs ≡ 0 → last_not_busy xs busy ≡ None
nothing_in_t2 [] busy e = refl
nothing_in_t2 (x ∷ xs) busy e = absurd (omega arith)

-- where T1 is all of the cache
pub Answers-replace_in_t1 : (s : FourLists) (busy : ℕ → Bool) → IsWithinBounds s → length s.t1 ≡ s.c
    → Answers s busy (replace_in_t1 s busy).0
Answers-replace_in_t1 s busy h full =
    let none : length s.t2 ≡ 0 = omega (arith, h.cached) in
    Answers-search s busy (last_not_busy s.t1 busy) (omega arith) (λ v e. inl e)
    (λ e. (e, nothing_in_t2 s.t2 busy none))

-- case IV
pub Answers-room_for_new : (s : FourLists) (busy : ℕ → Bool) → IsWithinBounds s → Answers s busy (room_for_new s busy).0
Answers-room_for_new s busy h = go (eqb (recent_count s) s.c) (ltb (length s.t1) s.c) (eqb (total_count s) (2 * s.c))
    refl
  where
    go : (a b d : Bool) → ltb (length s.t1) s.c ≡ b
        → Answers s busy (cond a (cond b (replace (without_last_of_b1 s) false busy) (replace_in_t1 s busy))
        (replace (cond d (without_last_of_b2 s) s) false busy)).0
    go true true d e = Answers-replacement s false busy h.cached
    go true false d e = Answers-replace_in_t1 s busy h
        (let le : s.c ≤ length s.t1 = ltb-false (length s.t1) s.c e in omega (arith, h.cached, le))
    go false b true e = Answers-replacement s false busy h.cached
    go false b false e = Answers-replacement s false busy h.cached

at_target : (s : FourLists) (target : ℕ) (busy : ℕ → Bool) (answer : Answer)
    → Answers (record s { target = target }) busy answer → Answers s busy answer
at_target s target busy answer a = record {
  no_hit = a.no_hit;
  free = a.free;
  all_busy = a.all_busy;
  cached = a.cached;
  not_busy = a.not_busy;
}

-- what the answer to any request says of the cache
pub record RequestAnswers (s : FourLists) (x : ℕ) (busy : ℕ → Bool) (answer : Answer) : Type 0 where
  pub hit : (answer ≡ Hit) ↔ IsTrue (is_cached s x)
  pub free : (answer ≡ Free) ↔ (IsFalse (is_cached s x) × (cached_count s < s.c))
  pub all_busy : (answer ≡ AllBusy) ↔ (IsFalse (is_cached s x) × (cached_count s ≡ s.c) × AllCachedAreBusy s busy)
  pub cached : (v : ℕ) → answer ≡ Evict v → IsTrue (is_cached s v)
  pub not_busy : (v : ℕ) → answer ≡ Evict v → IsFalse (busy v)

hits : (s : FourLists) (x : ℕ) (busy : ℕ → Bool) → is_cached s x ≡ true → RequestAnswers s x busy Hit
hits s x busy here = record {
  hit = (λ e. here, λ k. refl);
  free = (λ e. absurd (cc), λ k. let no : is_cached s x ≡ false = k.0 in absurd (cc));
  all_busy = (λ e. absurd (cc), λ k. let no : is_cached s x ≡ false = k.0 in absurd (cc));
  cached = λ v e. absurd (cc);
  not_busy = λ v e. absurd (cc);
}

misses : (s : FourLists) (x : ℕ) (busy : ℕ → Bool) (answer : Answer) → is_cached s x ≡ false → Answers s busy answer
    → RequestAnswers s x busy answer
misses s x busy answer gone a = record {
  hit = (λ e. absurd (a.no_hit e), λ k. let yes' : is_cached s x ≡ true = k in absurd (cc));
  free = (λ e. (gone, a.free.0 e), λ k. a.free.1 k.1);
  all_busy = (λ e. (gone, (a.all_busy.0 e).0, (a.all_busy.0 e).1), λ k. a.all_busy.1 (k.1, k.2));
  cached = a.cached;
  not_busy = a.not_busy;
}

RequestAnswers-cases : (list : Option ListName) (s : FourLists) (x : ℕ) (busy : ℕ → Bool) → IsWithinBounds s
    → StandsIn list s x → RequestAnswers s x busy (cases list s x busy).0
RequestAnswers-cases (Some T1) s x busy h here = hits s x busy here
RequestAnswers-cases (Some T2) s x busy h here = hits s x busy here
RequestAnswers-cases (Some B1) s x busy h here =
    misses s x busy (replacement (record s { target = raised_target s }) false busy) here.0
    (at_target s (raised_target s) busy (replacement (record s { target = raised_target s }) false busy)
    (Answers-replacement (record s { target = raised_target s }) false busy h.cached))
RequestAnswers-cases (Some B2) s x busy h here =
    misses s x busy (replacement (record s { target = lowered_target s }) true busy) here.0
    (at_target s (lowered_target s) busy (replacement (record s { target = lowered_target s }) true busy)
    (Answers-replacement (record s { target = lowered_target s }) true busy h.cached))
RequestAnswers-cases None s x busy h here = misses s x busy (room_for_new s busy).0 here.0
    (Answers-room_for_new s busy h)

pub RequestAnswers-request : (s : FourLists) (x : ℕ) (busy : ℕ → Bool) → IsWithinBounds s
    → RequestAnswers s x busy (request s x busy).0
RequestAnswers-request s x busy h = RequestAnswers-cases (place s x) s x busy h (StandsIn-place s x)
