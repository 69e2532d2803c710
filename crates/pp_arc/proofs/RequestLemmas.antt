-- Lemmas on a request of lists, whoever keeps them: the bounds hold after it, and it looks at cached pages alone.
use Rattle.std.proofs.Common.{◌≡◌, ◌≢◌, ℕ, ◌*◌, ◌<◌, ◌≤◌, Bool, true, false, cond, eqb, ltb, List, [], ◌∷◌, length}
use Rattle.std.proofs.Common.{refl, arith, ap, sym, ◌∙◌, eq-eqb}
use Rattle.std.specs.Prelude.{IsTrue, IsFalse, Option, Some, None, slice_get, is_none}
use Rattle.std.proofs.lemmas.Bool.{eqb-true, eqb-false, ltb-true}
use Rattle.pp_arc.specs.declared.answer.Answer.{Answer}
use Rattle.pp_arc.specs.declared.answer.Answer.TheVariants.{Hit, Free, Evict, AllBusy}
use Rattle.pp_arc.specs.declared.list.List.{List as ListName}
use Rattle.pp_arc.specs.declared.list.List.TheVariants.{T1, T2, B1, B2}
use Rattle.pp_arc.specs.Pages.{contains, last_not_busy}
use Rattle.pp_arc.specs.FourLists.{FourLists, cached_count, recent_count, total_count, times_named, is_cached, place}
use Rattle.pp_arc.specs.Bounds.{IsWithinBounds}
use Rattle.pp_arc.specs.Figure.{forget, with_front_of_t1, with_front_of_t2, bring_back, raised_target, lowered_target}
use Rattle.pp_arc.specs.Figure.{victim, evict_or_all_busy, replacement, after_replace, replace, after_replace_in_t1}
use Rattle.pp_arc.specs.Figure.{replace_in_t1, without_last_of_b1, without_last_of_b2, room_for_new, then_put, cases}
use Rattle.pp_arc.specs.Figure.{is_all_busy, unchanged_if_all_busy, request}
use Rattle.pp_arc.proofs.PageLemmas.{length-without_last}
use Rattle.pp_arc.proofs.BoundLemmas.{bounds-forget, bounds-with_front_of_t1, cached_count-forget, total_count-forget}
use Rattle.pp_arc.proofs.BoundLemmas.{bounds-without_last_of_b1, bounds-without_last_of_b2}
use Rattle.pp_arc.proofs.BoundLemmas.{times_named-without_last_of_b1, times_named-without_last_of_b2}
use Rattle.pp_arc.proofs.VictimLemmas.{last_not_busy-cons, or_right, contains-last_not_busy, is_cached-t1, is_cached-t2}
use Rattle.pp_arc.proofs.StepLemmas.{MakesRoom, HasMadeRoom, HasMadeRoom-after_replace, room-after_replace, room-forget}
use Rattle.pp_arc.proofs.StepLemmas.{bounds-moved_to_t2, bounds-at_target, bounds-with_remembered, HasRoomForNew}
use Rattle.pp_arc.proofs.StepLemmas.{HasRoomForNew-forget, StandsIn, StandsIn-place}
use Rattle.pp_arc.proofs.LawLemmas.{Answers, Answers-replacement}

-- REPLACE's answer makes room, and what it does keeps the bounds
makes_room : (s : FourLists) (in_b2 : Bool) (busy : ℕ → Bool) → IsWithinBounds s
    → replacement s in_b2 busy ≢ AllBusy → MakesRoom s (replacement s in_b2 busy)
makes_room s in_b2 busy h ne =
    let a : Answers s busy (replacement s in_b2 busy) = Answers-replacement s in_b2 busy h.cached in
    record { free = a.free.0; victim = a.cached; no_hit = a.no_hit; not_busy = ne }

bounds-after_replace : (s : FourLists) (answer : Answer) → IsWithinBounds s → MakesRoom s answer
    → IsWithinBounds (after_replace s answer)
bounds-after_replace s Hit h m = h
bounds-after_replace s Free h m = h
bounds-after_replace s AllBusy h m = h
bounds-after_replace s (Evict v) h m = bounds-with_remembered s v h (m.victim v refl)

-- a page that is remembered comes back
bounds-remembered : (s : FourLists) (x : ℕ) (in_b2 : Bool) (busy : ℕ → Bool) → IsWithinBounds s → x < s.pages
    → 1 ≤ times_named s x → replacement s in_b2 busy ≢ AllBusy
    → IsWithinBounds (with_front_of_t2 (after_replace s (replacement s in_b2 busy)) x)
bounds-remembered s x in_b2 busy h low named ne =
    let answer : Answer = replacement s in_b2 busy in
    let t : FourLists = after_replace s answer in
    let m : MakesRoom s answer = makes_room s in_b2 busy h ne in
    let d : HasMadeRoom s t = HasMadeRoom-after_replace s answer h m in
    bounds-moved_to_t2 t t x refl (bounds-after_replace s answer h m) (rw d.same_pages low)
    (rw d.same_c (room-after_replace s answer x h m named).0)
    (rw d.same_c (room-after_replace s answer x h m named).1)

-- a new page comes in by REPLACE, once a name was dropped where the lists were full
bounds-new : (s : FourLists) (x : ℕ) (busy : ℕ → Bool) → IsWithinBounds s → x < s.pages → times_named s x ≡ 0
    → recent_count s < s.c → total_count s < 2 * s.c → replacement s false busy ≢ AllBusy
    → IsWithinBounds (with_front_of_t1 (after_replace s (replacement s false busy)) x)
bounds-new s x busy h low absent recent total ne =
    let answer : Answer = replacement s false busy in
    let t : FourLists = after_replace s answer in
    let m : MakesRoom s answer = makes_room s false busy h ne in
    let d : HasMadeRoom s t = HasMadeRoom-after_replace s answer h m in
    bounds-with_front_of_t1 t x (bounds-after_replace s answer h m) (rw d.same_pages low) (d.times x ∙ absent)
    (rw d.same_c d.cached) (rw (d.same_c, d.recent) recent) (rw (d.same_c, d.total) total)

-- a new page comes in where T1 is all of the cache
bounds-in_t1 : (s : FourLists) (x : ℕ) (found : Option ℕ) → IsWithinBounds s → x < s.pages → times_named s x ≡ 0
    → ((v : ℕ) → found ≡ Some v → contains s.t1 v ≡ true) → evict_or_all_busy found ≢ AllBusy
    → IsWithinBounds (with_front_of_t1 (after_replace_in_t1 s (evict_or_all_busy found)) x)
bounds-in_t1 s x None h low absent here ne = absurd (ne refl)
bounds-in_t1 s x (Some v) h low absent here ne =
    let r : HasRoomForNew (forget s v) s.c x = HasRoomForNew-forget s v x h absent (here v refl) in
    bounds-with_front_of_t1 (forget s v) x (bounds-forget s v h) low r.absent r.cached_room r.recent_room r.total_room

-- the room for a new page, by what the three tests say
abbrev room : FourLists → (ℕ → Bool) → Bool → Bool → Bool → Answer × FourLists
room s busy a b d =
    cond a (cond b (replace (without_last_of_b1 s) false busy) (replace_in_t1 s busy))
    (replace (cond d (without_last_of_b2 s) s) false busy)

bounds-room : (s : FourLists) (x : ℕ) (busy : ℕ → Bool) → IsWithinBounds s → x < s.pages → times_named s x ≡ 0
    → (room_for_new s busy).0 ≢ AllBusy → IsWithinBounds (with_front_of_t1 (room_for_new s busy).1 x)
bounds-room s x busy h low absent =
    go (eqb (recent_count s) s.c) (ltb (length s.t1) s.c) (eqb (total_count s) (2 * s.c)) refl refl refl
  where
    go : (a b d : Bool) → eqb (recent_count s) s.c ≡ a → ltb (length s.t1) s.c ≡ b
        → eqb (total_count s) (2 * s.c) ≡ d → (room s busy a b d).0 ≢ AllBusy
        → IsWithinBounds (with_front_of_t1 (room s busy a b d).1 x)
    go true true d ea eb ed ne =
        let full : recent_count s ≡ s.c = eqb-true (recent_count s) s.c ea in
        let less : length s.t1 < s.c = ltb-true (length s.t1) s.c eb in
        bounds-new (without_last_of_b1 s) x busy (bounds-without_last_of_b1 s h) low
        (omega (arith, times_named-without_last_of_b1 s x)) (omega (arith, length-without_last s.b1))
        (omega (arith, length-without_last s.b1, h.total, h.cached, h.recent)) ne
    go true false d ea eb ed ne =
        bounds-in_t1 s x (last_not_busy s.t1 busy) h low absent (contains-last_not_busy s.t1 busy) ne
    go false b true ea eb ed ne =
        let other : recent_count s ≢ s.c = eqb-false (recent_count s) s.c ea in
        let full : total_count s ≡ 2 * s.c = eqb-true (total_count s) (2 * s.c) ed in
        let less : recent_count s < s.c = omega (arith, h.recent) in
        bounds-new (without_last_of_b2 s) x busy (bounds-without_last_of_b2 s h) low
        (omega (arith, times_named-without_last_of_b2 s x)) less
        (omega (arith, length-without_last s.b2, h.cached)) ne
    go false b false ea eb ed ne =
        let other : recent_count s ≢ s.c = eqb-false (recent_count s) s.c ea in
        let room_left : total_count s ≢ 2 * s.c = eqb-false (total_count s) (2 * s.c) ed in
        bounds-new s x busy h low absent (omega (arith, h.recent)) (omega (arith, h.total)) ne

bounds-cases : (list : Option ListName) (s : FourLists) (x : ℕ) (busy : ℕ → Bool) → IsWithinBounds s → x < s.pages
    → StandsIn list s x → (cases list s x busy).0 ≢ AllBusy → IsWithinBounds (cases list s x busy).1
bounds-cases (Some T1) s x busy h low here ne =
    bounds-moved_to_t2 s s x refl h low (room-forget s x h here).0 (room-forget s x h here).1
bounds-cases (Some T2) s x busy h low here ne =
    bounds-moved_to_t2 s s x refl h low (room-forget s x h here).0 (room-forget s x h here).1
bounds-cases (Some B1) s x busy h low here ne =
    let t : FourLists = record s { target = raised_target s } in
    bounds-remembered t x false busy (bounds-at_target s (raised_target s) h (omega arith)) low
    (omega (arith, here.1)) ne
bounds-cases (Some B2) s x busy h low here ne =
    let t : FourLists = record s { target = lowered_target s } in
    bounds-remembered t x true busy (bounds-at_target s (lowered_target s) h (omega (arith, h.aimed))) low
    (omega (arith, here.1)) ne
bounds-cases None s x busy h low here ne = bounds-room s x busy h low here.1 ne

-- each answer is AllBusy or not
bounds-unless : (s : FourLists) (done : Answer × FourLists) → IsWithinBounds s
    → (done.0 ≢ AllBusy → IsWithinBounds done.1) → IsWithinBounds (unchanged_if_all_busy s done).1
bounds-unless s done h after = go done.0 refl
  where
    go : (answer : Answer) → done.0 ≡ answer → IsWithinBounds (cond (is_all_busy answer) s done.1)
    go Hit e = after (λ w. cc)
    go Free e = after (λ w. cc)
    go (Evict v) e = after (λ w. cc)
    go AllBusy e = h

pub bounds-request : (s : FourLists) (x : ℕ) (busy : ℕ → Bool) → IsWithinBounds s → x < s.pages
    → IsWithinBounds (request s x busy).1
bounds-request s x busy h low =
    bounds-unless s (cases (place s x) s x busy) h (bounds-cases (place s x) s x busy h low (StandsIn-place s x))

pub bounds-bring_back : (s : FourLists) (x v : ℕ) → IsWithinBounds s → IsTrue (is_cached s x) → IsFalse (is_cached s v)
    → v < s.pages → IsWithinBounds (bring_back s x v)
bounds-bring_back s x v h here gone low =
    bounds-moved_to_t2 (forget s x) (forget s x) v refl (bounds-forget s x h) low
    (omega (arith, cached_count-forget (forget s x) v, (room-forget s x h here).0))
    (omega (arith, total_count-forget (forget s x) v, (room-forget s x h here).1))

-- the search looks at the pages of its list alone
last_not_busy-agrees : (xs : List ℕ) (busy other : ℕ → Bool)
    → ((y : ℕ) → contains xs y ≡ true → busy y ≡ other y) → last_not_busy xs busy ≡ last_not_busy xs other
last_not_busy-agrees [] busy other same = refl
last_not_busy-agrees (x ∷ xs) busy other same =
    let here : busy x ≡ other x = same x (rw (eq-eqb x x refl) refl) in
    let rest : last_not_busy xs busy ≡ last_not_busy xs other =
    last_not_busy-agrees xs busy other (λ y k. same y (or_right (eqb x y) (contains xs y) k)) in
    last_not_busy-cons x xs busy ∙ rw (rest, here) (sym (last_not_busy-cons x xs other))

-- two ways to be busy that the searches of T1 and T2 don't tell apart
record Agree (t1 t2 : List ℕ) (busy other : ℕ → Bool) : Type 0 where
  first : last_not_busy t1 busy ≡ last_not_busy t1 other
  second : last_not_busy t2 busy ≡ last_not_busy t2 other

victim-agrees : (s : FourLists) (in_b2 : Bool) (busy other : ℕ → Bool) → Agree s.t1 s.t2 busy other
    → victim s in_b2 busy ≡ victim s in_b2 other
victim-agrees s in_b2 busy other e = rw (e.first, e.second) refl

replace-agrees : (s : FourLists) (in_b2 : Bool) (busy other : ℕ → Bool) → Agree s.t1 s.t2 busy other
    → replace s in_b2 busy ≡ replace s in_b2 other
replace-agrees s in_b2 busy other e =
    ap (λ (found : Option ℕ).
    let answer : Answer = cond (eqb (cached_count s) s.c) (evict_or_all_busy found) Free in
    (answer, after_replace s answer))
    (victim-agrees s in_b2 busy other e)

replace_in_t1-agrees : (s : FourLists) (busy other : ℕ → Bool) → Agree s.t1 s.t2 busy other
    → replace_in_t1 s busy ≡ replace_in_t1 s other
replace_in_t1-agrees s busy other e =
    ap (λ (found : Option ℕ). (evict_or_all_busy found, after_replace_in_t1 s (evict_or_all_busy found))) e.first

room_for_new-agrees : (s : FourLists) (busy other : ℕ → Bool) → Agree s.t1 s.t2 busy other
    → room_for_new s busy ≡ room_for_new s other
room_for_new-agrees s busy other e =
    go (eqb (recent_count s) s.c) (ltb (length s.t1) s.c) (eqb (total_count s) (2 * s.c))
  where
    go : (a b d : Bool) → room s busy a b d ≡ room s other a b d
    go true true d = replace-agrees (without_last_of_b1 s) false busy other e
    go true false d = replace_in_t1-agrees s busy other e
    go false b true = replace-agrees (without_last_of_b2 s) false busy other e
    go false b false = replace-agrees s false busy other e

cases-agrees : (list : Option ListName) (s : FourLists) (x : ℕ) (busy other : ℕ → Bool) → Agree s.t1 s.t2 busy other
    → cases list s x busy ≡ cases list s x other
cases-agrees (Some T1) s x busy other e = refl
cases-agrees (Some T2) s x busy other e = refl
cases-agrees (Some B1) s x busy other e =
    ap (then_put with_front_of_t2 x) (replace-agrees (record s { target = raised_target s }) false busy other e)
cases-agrees (Some B2) s x busy other e =
    ap (then_put with_front_of_t2 x) (replace-agrees (record s { target = lowered_target s }) true busy other e)
cases-agrees None s x busy other e = ap (then_put with_front_of_t1 x) (room_for_new-agrees s busy other e)

pub request-agrees : (s : FourLists) (x : ℕ) (busy other : ℕ → Bool)
    → ((y : ℕ) → IsTrue (is_cached s y) → busy y ≡ other y) → request s x busy ≡ request s x other
request-agrees s x busy other same =
    ap (unchanged_if_all_busy s) (cases-agrees (place s x) s x busy other record {
      first = last_not_busy-agrees s.t1 busy other (λ y k. same y (is_cached-t1 s y k));
      second = last_not_busy-agrees s.t2 busy other (λ y k. same y (is_cached-t2 s y k));
    })

-- AllBusy changes nothing
pub unchanged-request : (s : FourLists) (x : ℕ) (busy : ℕ → Bool) → (request s x busy).0 ≡ AllBusy
    → (request s x busy).1 ≡ s
unchanged-request s x busy e = rw e refl

-- the page stands at the front afterwards
front-cases : (list : Option ListName) (s : FourLists) (x : ℕ) (busy : ℕ → Bool)
    → slice_get (cond (is_none list) (cases list s x busy).1.t1 (cases list s x busy).1.t2) 0 ≡ Some x
front-cases (Some T1) s x busy = refl
front-cases (Some T2) s x busy = refl
front-cases (Some B1) s x busy = refl
front-cases (Some B2) s x busy = refl
front-cases None s x busy = refl

front-unless : (s : FourLists) (done : Answer × FourLists) (x : ℕ) (new : Bool) → done.0 ≢ AllBusy
    → slice_get (cond new done.1.t1 done.1.t2) 0 ≡ Some x
    → slice_get (cond new (unchanged_if_all_busy s done).1.t1 (unchanged_if_all_busy s done).1.t2) 0 ≡ Some x
front-unless s done x new ne first = go done.0 refl
  where
    go : (answer : Answer) → done.0 ≡ answer
        → slice_get (cond new (cond (is_all_busy answer) s done.1).t1 (cond (is_all_busy answer) s done.1).t2) 0 ≡ Some
        x
    go Hit e = first
    go Free e = first
    go (Evict v) e = first
    go AllBusy e = absurd (ne e)

pub front-request : (s : FourLists) (x : ℕ) (busy : ℕ → Bool) → (request s x busy).0 ≢ AllBusy
    → slice_get (cond (is_none (place s x)) (request s x busy).1.t1 (request s x busy).1.t2) 0 ≡ Some x
front-request s x busy ne =
    front-unless s (cases (place s x) s x busy) x (is_none (place s x)) ne (front-cases (place s x) s x busy)
