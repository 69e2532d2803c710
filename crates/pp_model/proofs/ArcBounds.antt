-- ARC's bounds hold of the lists after a request, as they do of the lists before it.
use Rattle.std.proofs.Common.{◌≡◌, ◌≢◌, ◌∙◌, ℕ, ◌*◌, ◌<◌, ◌≤◌, Bool, true, false, eqb, ltb, cond, Option}
use Rattle.std.proofs.Common.{Some, None, refl, length, arith}
use Rattle.std.proofs.lemmas.Bool.Decides.{nat_tests}
use Rattle.pp_arc.specs.declared.answer.Answer.{Answer}
use Rattle.pp_arc.specs.declared.answer.Answer.TheVariants.{Hit, Free, Evict, AllBusy}
use Rattle.pp_arc.specs.declared.list.List.{List as ListName}
use Rattle.pp_arc.specs.declared.list.List.TheVariants.{T1, T2, B1, B2}
use Rattle.pp_arc.specs.Pages.{contains, last_not_busy}
use Rattle.pp_arc.specs.FourLists.{FourLists, cached_count, recent_count, total_count, times_named, is_cached, place}
use Rattle.pp_arc.specs.Bounds.{IsWithinBounds}
use Rattle.pp_arc.specs.Figure.{forget, with_front_of_t1, with_front_of_t2, raised_target, lowered_target, replacement}
use Rattle.pp_arc.specs.Figure.{after_replace, replace}
use Rattle.pp_arc.specs.Figure.{evict_or_all_busy, after_replace_in_t1, replace_in_t1, without_last_of_b1}
use Rattle.pp_arc.specs.Figure.{without_last_of_b2, room_for_new}
use Rattle.pp_arc.specs.Figure.{cases, unchanged_if_all_busy, request, bring_back}
use Rattle.pp_arc.proofs.PageLemmas.{length-without_last}
use Rattle.pp_arc.proofs.VictimLemmas.{contains-last_not_busy}
use Rattle.pp_arc.proofs.BoundLemmas.{cached_count-forget, total_count-forget, times_named-forget_same, bounds-forget}
use Rattle.pp_arc.proofs.BoundLemmas.{bounds-put_in_t2, bounds-with_front_of_t1, from_t1, from_t2, bounds-from_t1}
use Rattle.pp_arc.proofs.BoundLemmas.{bounds-from_t2, once_in_t1, once_in_t2, bounds-without_last_of_b1}
use Rattle.pp_arc.proofs.BoundLemmas.{bounds-without_last_of_b2, times_named-without_last_of_b1}
use Rattle.pp_arc.proofs.BoundLemmas.{times_named-without_last_of_b2}
use Rattle.pp_arc.proofs.StepLemmas.{MakesRoom, HasMadeRoom-after_replace, room-forget}
use Rattle.pp_arc.proofs.StepLemmas.{HasRoomForNew-forget, room-after_replace, StandsIn, StandsIn-place}
use Rattle.pp_arc.proofs.StepLemmas.{bounds-at_target}
use Rattle.pp_arc.proofs.LawLemmas.{Answers, Answers-replacement}

-- ---- REPLACE

remembered : (l : FourLists) (v : ℕ) → IsWithinBounds l → is_cached l v ≡ true
    → IsWithinBounds (after_replace l (Evict v))
remembered l v h here = go (contains l.t1 v) refl
  where
    go : (b : Bool) → contains l.t1 v ≡ b → IsWithinBounds (cond b (from_t1 l v) (from_t2 l v))
    go true e = bounds-from_t1 l v h (once_in_t1 l v h e)
    go false e = let there : contains l.t2 v ≡ true = rw e at here in bounds-from_t2 l v h (once_in_t2 l v h there)

replaced : (l : FourLists) (x : Answer) → IsWithinBounds l → MakesRoom l x → IsWithinBounds (after_replace l x)
replaced l Hit h m = h
replaced l Free h m = h
replaced l AllBusy h m = h
replaced l (Evict v) h m = remembered l v h (m.victim v refl)

makes_room : (l : FourLists) (busy : ℕ → Bool) (x : Answer) → Answers l busy x → x ≢ AllBusy → MakesRoom l x
makes_room l busy x a some = record { free = λ e. a.free.0 e; victim = a.cached; no_hit = a.no_hit; not_busy = some }

-- ---- the cases

in_front : (l : FourLists) (x : ℕ) → IsWithinBounds l → x < l.pages → cached_count (forget l x) < l.c
    → total_count (forget l x) < 2 * l.c → IsWithinBounds (with_front_of_t2 l x)
in_front l x h low room all = bounds-put_in_t2 (forget l x) x (bounds-forget l x h) low
    (times_named-forget_same l x) room all

hit : (s : FourLists) (x : ℕ) → IsWithinBounds s → x < s.pages → is_cached s x ≡ true
    → IsWithinBounds (with_front_of_t2 s x)
hit s x h low here = let room = room-forget s x h here in in_front s x h low room.0 room.1

-- A page of B1 or B2, with the target as it was moved.
named : (l : FourLists) (x : ℕ) (in_b2 : Bool) (busy : ℕ → Bool) → IsWithinBounds l → x < l.pages → 1 ≤ times_named l x
    → replacement l in_b2 busy ≢ AllBusy → IsWithinBounds (with_front_of_t2 (replace l in_b2 busy).1 x)
named l x in_b2 busy h low some ok =
    let answer = replacement l in_b2 busy in
    let m = makes_room l busy answer (Answers-replacement l in_b2 busy h.cached) ok in
    let d = HasMadeRoom-after_replace l answer h m in
    let room = room-after_replace l answer x h m some in
    in_front (after_replace l answer) x (replaced l answer h m) (rw d.same_pages low) (rw d.same_c room.0)
    (rw d.same_c room.1)

-- A page that stands nowhere, once a name was dropped.
fresh : (l : FourLists) (x : ℕ) (busy : ℕ → Bool) → IsWithinBounds l → x < l.pages → times_named l x ≡ 0
    → recent_count l < l.c → total_count l < 2 * l.c → replacement l false busy ≢ AllBusy
    → IsWithinBounds (with_front_of_t1 (replace l false busy).1 x)
fresh l x busy h low none recent all ok =
    let answer = replacement l false busy in
    let m = makes_room l busy answer (Answers-replacement l false busy h.cached) ok in
    let d = HasMadeRoom-after_replace l answer h m in
    bounds-with_front_of_t1 (after_replace l answer) x (replaced l answer h m) (rw d.same_pages low) (d.times x ∙ none)
    (rw d.same_c d.cached) (omega (arith, d.recent, d.same_c, recent)) (omega (arith, d.total, d.same_c, all))

in_t1 : (s : FourLists) (x : ℕ) (busy : ℕ → Bool) → IsWithinBounds s → x < s.pages → times_named s x ≡ 0
    → (replace_in_t1 s busy).0 ≢ AllBusy → IsWithinBounds (with_front_of_t1 (replace_in_t1 s busy).1 x)
in_t1 s x busy h low none ok = go (last_not_busy s.t1 busy) refl ok
  where
    go : (o : Option ℕ) → last_not_busy s.t1 busy ≡ o → evict_or_all_busy o ≢ AllBusy
        → IsWithinBounds (with_front_of_t1 (after_replace_in_t1 s (evict_or_all_busy o)) x)
    go None e f = absurd (f refl)
    go (Some v) e f =
        let r = HasRoomForNew-forget s v x h none (contains-last_not_busy s.t1 busy v e) in
        bounds-with_front_of_t1 (forget s v) x
        (bounds-forget s v h) low r.absent r.cached_room r.recent_room r.total_room

new : (s : FourLists) (x : ℕ) (busy : ℕ → Bool) → IsWithinBounds s → x < s.pages → times_named s x ≡ 0
    → (room_for_new s busy).0 ≢ AllBusy → IsWithinBounds (with_front_of_t1 (room_for_new s busy).1 x)
new s x busy h low none ok =
    go (eqb (recent_count s) s.c) (ltb (length s.t1) s.c) (eqb (total_count s) (2 * s.c)) refl refl refl ok
  where
    go : (a b d : Bool) → eqb (recent_count s) s.c ≡ a → ltb (length s.t1) s.c ≡ b → eqb (total_count s) (2 * s.c) ≡ d
        → (cond a (cond b (replace (without_last_of_b1 s) false busy) (replace_in_t1 s busy))
        (replace (cond d (without_last_of_b2 s) s) false busy)).0 ≢ AllBusy
        → IsWithinBounds (with_front_of_t1 (cond a
        (cond b (replace (without_last_of_b1 s) false busy) (replace_in_t1 s busy))
        (replace (cond d (without_last_of_b2 s) s) false busy)).1 x)
    go true true d e f g ok =
        let full : recent_count s ≡ s.c = grind (arith, nat_tests) in
        let fewer : length s.t1 < s.c = grind (arith, nat_tests) in
        let dropped = length-without_last s.b1 in
        fresh (without_last_of_b1 s) x busy (bounds-without_last_of_b1 s h) low
        (omega (arith, times_named-without_last_of_b1 s x, none)) (omega (arith, dropped, full, fewer))
        (omega (arith, dropped, full, fewer, h.total)) ok
    go true false d e f g ok = in_t1 s x busy h low none ok
    go false b true e f g ok =
        let few : recent_count s ≢ s.c = grind (arith, nat_tests) in
        let all : total_count s ≡ 2 * s.c = grind (arith, nat_tests) in
        let dropped = length-without_last s.b2 in
        fresh (without_last_of_b2 s) x busy (bounds-without_last_of_b2 s h) low
        (omega (arith, times_named-without_last_of_b2 s x, none)) (omega (arith, few, h.recent))
        (omega (arith, dropped, few, all, h.cached, h.recent)) ok
    go false b false e f g ok =
        let few : recent_count s ≢ s.c = grind (arith, nat_tests) in
        let less : total_count s ≢ 2 * s.c = grind (arith, nat_tests) in
        fresh s x busy h low none (omega (arith, few, h.recent)) (omega (arith, less, h.total)) ok

raised_fits : (s : FourLists) → raised_target s ≤ s.c
raised_fits s = omega arith

lowered_fits : (s : FourLists) → IsWithinBounds s → lowered_target s ≤ s.c
lowered_fits s h = omega (arith, h.aimed)

by_case : (o : Option ListName) (s : FourLists) (x : ℕ) (busy : ℕ → Bool) → IsWithinBounds s → x < s.pages
    → StandsIn o s x
    → (cases o s x busy).0 ≢ AllBusy → IsWithinBounds (cases o s x busy).1
by_case (Some T1) s x busy h low here ok = hit s x h low here
by_case (Some T2) s x busy h low here ok = hit s x h low here
by_case (Some B1) s x busy h low here ok =
    let l : FourLists = record s { target = raised_target s } in
    named l x false busy (bounds-at_target s (raised_target s) h (raised_fits s)) low (omega (arith, here.1)) ok
by_case (Some B2) s x busy h low here ok =
    let l : FourLists = record s { target = lowered_target s } in
    named l x true busy (bounds-at_target s (lowered_target s) h (lowered_fits s h)) low (omega (arith, here.1)) ok
by_case None s x busy h low here ok = new s x busy h low here.1 ok

unless_busy : (s : FourLists) (done : Answer × FourLists) → IsWithinBounds s
    → (done.0 ≢ AllBusy → IsWithinBounds done.1)
    → IsWithinBounds (unchanged_if_all_busy s done).1
unless_busy s (Hit, l) h k = k (λ e. absurd (cc))
unless_busy s (Free, l) h k = k (λ e. absurd (cc))
unless_busy s (Evict v, l) h k = k (λ e. absurd (cc))
unless_busy s (AllBusy, l) h k = h

pub bounds-request : (s : FourLists) (x : ℕ) (busy : ℕ → Bool) → IsWithinBounds s → x < s.pages
    → IsWithinBounds (request s x busy).1
bounds-request s x busy h low =
    unless_busy s (cases (place s x) s x busy) h (λ ok. by_case (place s x) s x busy h low (StandsIn-place s x) ok)

-- A victim comes back, and the page that was to have its frame goes.
pub bounds-bring_back : (s : FourLists) (x v : ℕ) → IsWithinBounds s → is_cached s x ≡ true → v < s.pages
    → IsWithinBounds (bring_back s x v)
bounds-bring_back s x v h here low =
    let room = room-forget s x h here in
    in_front (forget s x) v (bounds-forget s x h) low (omega (arith, room.0, cached_count-forget (forget s x) v))
    (omega (arith, room.1, total_count-forget (forget s x) v))
