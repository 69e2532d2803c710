-- What ARC's answer to a fix says of the cache before and after it.
use Rattle.std.proofs.Common.{◌≡◌, ◌≢◌, ◌⊎◌, ℕ, Bool, true, false, cond, eqb, Option, Some, None, refl, sym}
use Rattle.std.proofs.Common.{ap, subst, inl, inr, arith}
use Rattle.std.proofs.lemmas.Bool.Decides.{nat_tests}
use Rattle.pp_arc.specs.declared.answer.Answer.{Answer}
use Rattle.pp_arc.specs.declared.answer.Answer.TheVariants.{Hit, Evict, AllBusy}
use Rattle.pp_arc.specs.declared.list.List.{List as ListName}
use Rattle.pp_arc.specs.declared.list.List.TheVariants.{T1, T2, B1, B2}
use Rattle.pp_arc.specs.FourLists.{FourLists, is_cached, place}
use Rattle.pp_arc.specs.Bounds.{IsWithinBounds}
use Rattle.pp_arc.specs.Figure.{raised_target, lowered_target, cases, request}
use Rattle.pp_arc.proofs.StepLemmas.{StandsIn, StandsIn-place}
use Rattle.pp_arc.proofs.LawLemmas.{Answers-replacement, Answers-room_for_new, RequestAnswers-request}
use Rattle.pp_arc.proofs.CacheLemmas.{CachesInstead-request}

-- ---- two pages, the same or not

pub data Which (p q : ℕ) : Type 0 where
  same : p ≡ q → ◌≡◌ {A = ℕ} (cond (eqb p q) 1 0) 1 → Which p q
  other : p ≢ q → ◌≡◌ {A = ℕ} (cond (eqb p q) 1 0) 0 → Which p q

pub which : (p q : ℕ) → Which p q
which p q = go (eqb p q) refl
  where
    go : (b : Bool) → eqb p q ≡ b → Which p q
    go true e = same (grind (arith, nat_tests)) (ap {B = ℕ} (λ b. cond b 1 0) e)
    go false e = other (grind (arith, nat_tests)) (ap {B = ℕ} (λ b. cond b 1 0) e)

pub cached_or_not : (b : Bool) → (b ≡ true) ⊎ (b ≡ false)
cached_or_not true = inl refl
cached_or_not false = inr refl

-- ---- hits and others

hit_case : (o : Option ListName) (s : FourLists) (x : ℕ) (busy : ℕ → Bool) → IsWithinBounds s → StandsIn o s x
    → (cases o s x busy).0 ≡ Hit → is_cached s x ≡ true
hit_case (Some T1) s x busy h here e = here
hit_case (Some T2) s x busy h here e = here
hit_case (Some B1) s x busy h here e =
    let l : FourLists = record s { target = raised_target s } in
    absurd ((Answers-replacement l false busy h.cached).no_hit e)
hit_case (Some B2) s x busy h here e =
    let l : FourLists = record s { target = lowered_target s } in
    absurd ((Answers-replacement l true busy h.cached).no_hit e)
hit_case None s x busy h here e = absurd ((Answers-room_for_new s busy h).no_hit e)

miss_case : (o : Option ListName) (s : FourLists) (x : ℕ) (busy : ℕ → Bool) → StandsIn o s x
    → (cases o s x busy).0 ≢ Hit → is_cached s x ≡ false
miss_case (Some T1) s x busy here isnt = absurd (isnt refl)
miss_case (Some T2) s x busy here isnt = absurd (isnt refl)
miss_case (Some B1) s x busy here isnt = here.0
miss_case (Some B2) s x busy here isnt = here.0
miss_case None s x busy here isnt = here.0

pub hit_cached : (s : FourLists) (x : ℕ) (busy : ℕ → Bool) → IsWithinBounds s → (request s x busy).0 ≡ Hit
    → is_cached s x ≡ true
hit_cached s x busy h e = hit_case (place s x) s x busy h (StandsIn-place s x) e

pub miss_uncached : (s : FourLists) (x : ℕ) (busy : ℕ → Bool) → (request s x busy).0 ≢ Hit → is_cached s x ≡ false
miss_uncached s x busy isnt = miss_case (place s x) s x busy (StandsIn-place s x) isnt

-- ---- the cache afterwards

pub caches : (s : FourLists) (x : ℕ) (busy : ℕ → Bool) (a : Answer) (q : ℕ) → IsWithinBounds s
    → (request s x busy).0 ≡ a
    → a ≢ AllBusy → is_cached s q ≡ true → a ≢ Evict q → is_cached (request s x busy).1 q ≡ true
caches s x busy a q h e ok here stays =
    let none : (request s x busy).0 ≢ AllBusy = λ f. ok (cc) in
    let kept : (request s x busy).0 ≢ Evict q = λ f. stays (cc) in
    (CachesInstead-request s x busy h none q).1 (inr (here, kept))

pub caches_it : (s : FourLists) (x : ℕ) (busy : ℕ → Bool) (a : Answer) → IsWithinBounds s → (request s x busy).0 ≡ a
    → a ≢ AllBusy → is_cached (request s x busy).1 x ≡ true
caches_it s x busy a h e ok =
    let none : (request s x busy).0 ≢ AllBusy = λ f. ok (cc) in
    (CachesInstead-request s x busy h none x).1 (inl refl)

uncached : (b : Bool) → (b ≡ true → ⊥) → b ≡ false
uncached true isnt = absurd (isnt refl)
uncached false isnt = refl

-- What isn't cached afterwards: a page that wasn't before, but the one asked for; and the victim.
pub still_away : (s : FourLists) (x : ℕ) (busy : ℕ → Bool) (a : Answer) (q : ℕ) → IsWithinBounds s
    → (request s x busy).0 ≡ a
    → a ≢ AllBusy → q ≢ x → is_cached s q ≡ false → is_cached (request s x busy).1 q ≡ false
still_away s x busy a q h e ok ne gone =
    let none : (request s x busy).0 ≢ AllBusy = λ f. ok (cc) in
    uncached (is_cached (request s x busy).1 q) (λ here.
    elim ((CachesInstead-request s x busy h none q).0 here)
    [ inl f ↦ ne f | inr f ↦ let no : is_cached s q ≡ true = f.0 in absurd (cc) ])

pub victim_away : (s : FourLists) (x : ℕ) (busy : ℕ → Bool) (v : ℕ) → IsWithinBounds s → (request s x busy).0 ≡ Evict v
    → v ≢ x → is_cached (request s x busy).1 v ≡ false
victim_away s x busy v h e ne =
    let none : (request s x busy).0 ≢ AllBusy = λ f. absurd (cc) in
    uncached (is_cached (request s x busy).1 v) (λ here.
    elim ((CachesInstead-request s x busy h none v).0 here) [ inl f ↦ ne f | inr f ↦ f.1 e ])

-- The victim was cached, and it wasn't busy; it isn't the page that is asked for.
pub record IsVictim (s : FourLists) (x : ℕ) (busy : ℕ → Bool) (v : ℕ) : Type 0 where
  pub was_cached : is_cached s v ≡ true
  pub not_busy : busy v ≡ false
  pub ne : v ≢ x

pub is_victim : (s : FourLists) (x : ℕ) (busy : ℕ → Bool) (v : ℕ) → IsWithinBounds s → (request s x busy).0 ≡ Evict v
    → IsVictim s x busy v
is_victim s x busy v h e =
    let a = RequestAnswers-request s x busy h in
    let was : is_cached s v ≡ true = a.cached v e in
    let free : busy v ≡ false = a.not_busy v e in
    let away = miss_uncached s x busy (λ f. absurd (cc)) in
    record {
      was_cached = was;
      not_busy = free;
      ne = λ f. let no : is_cached s v ≡ false = subst
          (λ p. is_cached s p ≡ false) (sym f) away in absurd (cc);
    }
