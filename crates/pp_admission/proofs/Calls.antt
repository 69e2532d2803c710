-- What each call leaves, of a whole queue.
use Rattle.std.proofs.Common.{◌≡◌, ◌≢◌, ℕ, ◌+◌, ◌^◌, ◌<◌, Bool, true, false, List, [], ◌∷◌, ◌++◌, length, map}
use Rattle.std.proofs.Common.{refl, sym, ap, subst, ◌∙◌, inl, inr, arith}
use Rattle.std.specs.Prelude.{◌⊎◌, Option, Some, None, option_map}
use Rattle.std.specs.List.{remove}
use Rattle.std.proofs.lemmas.List.{length-map, length_push}
use Rattle.pp_admission.specs.declared.waiting.Waiting.{Waiting}
use Rattle.pp_admission.specs.Queues.{Parts, holder, next_among, next_in, waiting_at, is_waiting, is_asleep}
use Rattle.pp_admission.specs.Queues.{is_asleep_at, NextIsAwake, IsSound, with_waiting, empty_queue, entered, newcomer}
use Rattle.pp_admission.specs.Queues.{left, overtaken, started, without, set_asleep, put_to_sleep, woken, all_woken}
use Rattle.pp_admission.specs.Queues.{overtaken_by, marked, awakened}
use Rattle.pp_admission.specs.Places.{IsPlaceOf, AreOvertakenBelow}
use Rattle.pp_admission.proofs.Lines.{some_same, rising_push, rising_map, rising_without, fewer, removed, holder_ticket}
use Rattle.pp_admission.proofs.Lines.{within_push, within_map, within_without, within_overtaken, passed, below_without}
use Rattle.pp_admission.proofs.Lines.{below_wider, next_map, next_stays, next_new, overtaken_ticket, marked_ticket}
use Rattle.pp_admission.proofs.Lines.{marked_peak, marked_overtaken, marked_others, holder_map, holder_gone}
use Rattle.pp_admission.proofs.Lines.{holder_other, holder_past, push_same, push_other, without_none, is_none}
use Rattle.pp_admission.proofs.Lines.{asleep_push, asleep_same, awake_same, awake_all}

-- ---- from what a call did to the fields

-- the same list, in other words
pub sound_as : (q : Parts) (ws vs : List Waiting) → IsSound (with_waiting q ws) → vs ≡ ws → IsSound (with_waiting q vs)
sound_as q ws vs s e = subst (λ (xs : List Waiting). IsSound (with_waiting q xs)) (sym e) s

pub mapped_by : (f : ℕ → Waiting → Waiting) (n t : ℕ) (now items new : List Waiting) → n ≡ t → now ≡ items
    → new ≡ map (f n) now → new ≡ map (f t) items
mapped_by f n t now items new s w is = is ∙ ap (λ m. map (f m) now) s ∙ ap (map (f t)) w

pub may_by : (q now : Parts) (n t : ℕ) (ws : List Waiting) → q ≡ now → n ≡ t → ws ≡ q.waiting → q.bypass < 2 ^ 32
    → AreOvertakenBelow now.bypass t now.waiting → AreOvertakenBelow 4294967295 n ws
may_by q now n t ws e s w lt h =
    let a : AreOvertakenBelow q.bypass t q.waiting =
    subst (λ (x : Parts). AreOvertakenBelow x.bypass t x.waiting) (sym e) h in
    let b : AreOvertakenBelow 4294967295 t q.waiting =
    below_wider q.bypass 4294967295 t q.waiting (omega (arith, lt)) a in
    subst (λ (m : ℕ). AreOvertakenBelow 4294967295 m ws) (sym s)
    (subst (λ (xs : List Waiting). AreOvertakenBelow 4294967295 t xs) (sym w) b)

pub removed_by : (q : Parts) (n t place : ℕ) (now new : List Waiting) → IsSound q → n ≡ t → now ≡ q.waiting
    → IsPlaceOf n now place → new ≡ remove q.waiting place → new ≡ without t q.waiting
removed_by q n t place now new s e w at is =
    let here : IsPlaceOf t q.waiting place =
    subst (λ (m : ℕ). IsPlaceOf m q.waiting place) e (subst (λ (xs : List Waiting). IsPlaceOf n xs place) w at) in
    is ∙ removed t 0 q.next q.waiting place here.one s.rising here.there (holder_ticket t q.waiting here.one here.holds)

pub none_by : (q now : Parts) (n t : ℕ) (ws : List Waiting) → q ≡ now → n ≡ t → ws ≡ q.waiting → holder n ws ≡ None
    → now ≡ left now t
none_by q now n t ws e s w is =
    let h : holder t q.waiting ≡ None = ap (λ m. holder m q.waiting) (sym s) ∙ ap (holder n) (sym w) ∙ is in
    subst (λ (x : Parts). x ≡ left x t) e (sym (ap (with_waiting q) (without_none t q.waiting h)))

pub next_by : (q now : Parts) (room t n : ℕ) (ws : List Waiting) (o : Option ℕ) → q ≡ now → ws ≡ q.waiting
    → o ≡ next_among q.bypass room ws → o ≡ Some t → n ≡ t → next_in now room ≡ Some n
next_by q now room t n ws o e w is was s =
    ap (λ x. next_in x room) (sym e) ∙ ap (next_among q.bypass room) (sym w) ∙ sym is ∙ was ∙ ap Some (sym s)

-- one came
abbrev pub with_one_more : Parts → List Waiting → Parts
with_one_more q ws = record (with_waiting q ws) { next = q.next + 1 }

pub entered_by : (q now : Parts) (peak : ℕ) (items : List Waiting) → q ≡ now
    → items ≡ q.waiting ++ newcomer q.next peak ∷ [] → with_one_more q items ≡ entered now peak
entered_by q now peak items e is = ap (with_one_more q) is ∙ ap (λ x. entered x peak) e

-- ---- a new one

pub sound_empty : (most bypass : ℕ) → IsSound (empty_queue most bypass)
sound_empty most bypass = record { rising = omega arith; few = omega arith; within = tt }

-- ---- one comes

pub sound_entered : (q : Parts) (peak : ℕ) → IsSound q → length q.waiting ≢ q.most → IsSound (entered q peak)
sound_entered q peak s d = record {
  rising = rising_push 0 q.next q.waiting (newcomer q.next peak) s.rising refl;
  few = omega (arith, length_push q.waiting (newcomer q.next peak), s.few, d);
  within = within_push q.bypass q.waiting (newcomer q.next peak) s.within (omega arith);
}

pub entered_next : (q : Parts) (peak room t : ℕ) → next_in (entered q peak) room ≡ Some t
    → (next_in q room ≡ Some t) ⊎ ((next_in q room ≡ None) × (t ≡ q.next))
entered_next q peak room t e = next_new q.bypass room t q.waiting (newcomer q.next peak) e

pub entered_stays : (q : Parts) (peak room t : ℕ) → next_in q room ≡ Some t → next_in (entered q peak) room ≡ Some t
entered_stays q peak room t e = next_stays q.bypass room t q.waiting (newcomer q.next peak) e

pub entered_next_by : (now new : Parts) (peak n : ℕ) → new ≡ entered now peak → n ≡ now.next → (room t : ℕ)
    → next_in new room ≡ Some t → (next_in now room ≡ Some t) ⊎ ((next_in now room ≡ None) × (t ≡ n))
entered_next_by now new peak n e s room t h =
    elim (entered_next now peak room t (ap (λ q. next_in q room) (sym e) ∙ h)) [
      | inl old ↦ inl old
      | inr one ↦ inr (one.0, one.1 ∙ sym s)
    ]

pub entered_waits : (q : Parts) (peak : ℕ) → IsSound q
    → waiting_at (entered q peak) q.next ≡ Some (newcomer q.next peak)
entered_waits q peak s =
    push_same q.waiting (newcomer q.next peak) (holder_past q.next 0 q.next q.waiting s.rising (omega arith))

pub entered_others : (q : Parts) (peak t : ℕ) → t ≢ q.next → waiting_at (entered q peak) t ≡ waiting_at q t
entered_others q peak t d = push_other t q.waiting (newcomer q.next peak) (λ e. d (sym e))

pub entered_awake : (q : Parts) (peak room : ℕ) → IsSound q → NextIsAwake q room → NextIsAwake (entered q peak) room
entered_awake q peak room s h = λ t e.
    asleep_push t q.waiting (newcomer q.next peak) refl ∙ elim (entered_next q peak room t e) [
      | inl old ↦ h t old
      | inr new ↦ ap is_asleep (holder_past t 0 q.next q.waiting s.rising (omega (arith, new.1)))
    ]

-- ---- one is asleep or awake

pub sound_marked : (q : Parts) (t : ℕ) (b : Bool) → IsSound q → IsSound (set_asleep q t b)
sound_marked q t b s = record {
  rising = rising_map (marked t b) (marked_ticket t b) 0 q.next q.waiting s.rising;
  few = omega (arith, length-map q.waiting (marked t b), s.few);
  within = within_map (marked t b) (marked_overtaken t b) q.bypass q.waiting s.within;
}

pub marked_next : (q : Parts) (t : ℕ) (b : Bool) (room : ℕ) → next_in (set_asleep q t b) room ≡ next_in q room
marked_next q t b room =
    next_map (marked t b) (marked_ticket t b) (marked_peak t b) (marked_overtaken t b) q.bypass room
    q.waiting

pub marked_rest : (q : Parts) (t : ℕ) (b : Bool) (u : ℕ) → u ≢ t → waiting_at (set_asleep q t b) u ≡ waiting_at q u
marked_rest q t b u d = marked_others t u b q.waiting d

pub slept_same : (q : Parts) (t : ℕ) → is_asleep_at (put_to_sleep q t) t ≡ is_waiting q t
slept_same q t = asleep_same t q.waiting

-- one that may not start is put to sleep, and whoever may start is not
pub slept_awake : (q : Parts) (t room : ℕ) → (next_in q room ≡ Some t → ⊥) → NextIsAwake q room
    → NextIsAwake (put_to_sleep q t) room
slept_awake q t room refused h = λ u e.
    let e' : next_in q room ≡ Some u = sym (marked_next q t true room) ∙ e in
    ap is_asleep (marked_rest q t true u (λ s. refused (e' ∙ ap Some s))) ∙ h u e'

pub woken_awake : (q : Parts) (t room : ℕ) → next_in q room ≡ Some t → NextIsAwake (woken q t) room
woken_awake q t room is = λ u e.
    let s : t ≡ u = some_same t u (sym is ∙ sym (marked_next q t false room) ∙ e) in
    subst (λ (v : ℕ). is_asleep_at (woken q t) v ≡ false) s (awake_same t q.waiting)

pub sound_all_woken : (q : Parts) → IsSound q → IsSound (all_woken q)
sound_all_woken q s = record {
  rising = rising_map awakened (λ w. refl) 0 q.next q.waiting s.rising;
  few = omega (arith, length-map q.waiting awakened, s.few);
  within = within_map awakened (λ w. refl) q.bypass q.waiting s.within;
}

pub all_woken_next : (q : Parts) (room : ℕ) → next_in (all_woken q) room ≡ next_in q room
all_woken_next q room = next_map awakened (λ w. refl) (λ w. refl) (λ w. refl) q.bypass room q.waiting

pub all_woken_awake : (q : Parts) (t : ℕ) → is_asleep_at (all_woken q) t ≡ false
all_woken_awake q t = awake_all t q.waiting

-- ---- one leaves

pub sound_left : (q : Parts) (t : ℕ) → IsSound q → IsSound (left q t)
sound_left q t s = record {
  rising = rising_without t 0 q.next q.waiting s.rising;
  few = omega (arith, fewer t q.waiting, s.few);
  within = within_without t q.bypass q.waiting s.within;
}

pub left_gone : (q : Parts) (t : ℕ) → waiting_at (left q t) t ≡ None
left_gone q t = holder_gone t q.waiting

pub left_others : (q : Parts) (t u : ℕ) → u ≢ t → waiting_at (left q t) u ≡ waiting_at q u
left_others q t u d = holder_other t u q.waiting d

pub left_unchanged : (q : Parts) (t : ℕ) → is_waiting q t ≡ false → left q t ≡ q
left_unchanged q t e = ap (with_waiting q) (without_none t q.waiting (is_none (waiting_at q t) e))

-- ---- one starts

pub sound_overtaken : (q : Parts) (t : ℕ) → IsSound q → AreOvertakenBelow q.bypass t q.waiting
    → IsSound (overtaken q t)
sound_overtaken q t s h = record {
  rising = rising_map (overtaken_by t) (overtaken_ticket t) 0 q.next q.waiting s.rising;
  few = omega (arith, length-map q.waiting (overtaken_by t), s.few);
  within = within_overtaken q.bypass t q.waiting s.within h;
}

pub may_overtake : (q : Parts) (room t : ℕ) → IsSound q → next_in q room ≡ Some t
    → AreOvertakenBelow q.bypass t (left q t).waiting
may_overtake q room t s e =
    below_without q.bypass t t q.waiting (passed q.bypass room t 0 q.next q.waiting s.rising e)

pub started_gone : (q : Parts) (t : ℕ) → waiting_at (started q t) t ≡ None
started_gone q t = holder_map (overtaken_by t) (overtaken_ticket t) t (without t q.waiting)
    ∙ ap (option_map (overtaken_by t)) (holder_gone t q.waiting)
