-- What calls keep of those that wait.
use Rattle.std.proofs.Common.{◌≡◌, ◌≢◌, ◌∙◌, ℕ, ◌+◌, ◌≤◌, max, Bool, true, false, not, eqb, Result, Ok, Err, List, []}
use Rattle.std.proofs.Common.{◌∷◌, Option, Some, None, refl, sym, ap, subst}
use Rattle.std.proofs.Common.{inl, inr, arith}
use Rattle.std.specs.Prelude.{◌↔◌, ◌==◌, IfSome, IfOk, OnErr, option_map, length}
use Rattle.std.proofs.lemmas.Bool.{cases_eq}
use Rattle.std.proofs.lemmas.Bool.Decides.{nat_tests}
use Rattle.std.proofs.lemmas.List.{nil_from_length}
use Rattle.std.proofs.lemmas.Option.{none-some}
use Rattle.pp_admission.specs.declared.waiting.Waiting.{Waiting}
use Rattle.pp_admission.specs.Queues as admission
use Rattle.pp_admission.specs.Queues.{IsSound, NextIsAwake, next_among, next_in, waiting_at, peak_at, is_asleep, is_asleep_at, marked}
use Rattle.pp_admission.specs.Queues.{overtaken_by, newcomer}
use Rattle.pp_admission.specs.Queues.{without, entered, started, left, put_to_sleep, woken, all_woken, awakened}
use Rattle.pp_wants.specs.declared.sleepers.Sleeper.{Sleeper}
use Rattle.pp_hall.specs.Waiters.{Parts, AreCounted, IsWaiters, IsAllAwake, woken_by, with_queue, with_place, stopped}
use Rattle.pp_hall.proofs.Queues.{counted_more, counted_map, counted_filter, counted_holder, marked_peak}
use Rattle.pp_hall.proofs.Queues.{overtaken_peak, found}

true_false : {A : Type 0} (b : Bool) → b ≡ true → b ≡ false → A
true_false b e f = cc

-- ---- whom the queue tells

pub woken_is : (q r : admission.Parts) (next : Option ℕ) → IfSome next (λ t. r ≡ woken q t) → (next ≡ None → r ≡ q)
    → r ≡ woken_by next q
woken_is q r None some none = none refl
woken_is q r (Some t) some none = some

counted_woken : (next : Option ℕ) (q : admission.Parts) → AreCounted q.waiting → AreCounted (woken_by next q).waiting
counted_woken None q h = h
counted_woken (Some t) q h = counted_map (marked t false) (marked_peak t false) q.waiting h

-- Where nobody waits, nobody is next.
nobody_among : (bypass room : ℕ) (ws : List Waiting) → (length ws == 0) ≡ true → next_among bypass room ws ≡ None
nobody_among bypass room ws e = ap (next_among bypass room) (nil_from_length ws (grind (arith, nat_tests)))

nobody_next : (q : admission.Parts) (room : ℕ) (b : Bool) → b ≡ (length q.waiting == 0) → b ≡ true → next_in q room ≡ None
nobody_next q room b e is = nobody_among q.bypass room q.waiting (sym e ∙ is)

pub nobody_told : (q : admission.Parts) (room : ℕ) (b : Bool) → b ≡ (length q.waiting == 0) → b ≡ true → (t : ℕ)
    → (◌≡◌ {A = Option ℕ} None (Some t)) ↔ ((next_in q room ≡ Some t) × (is_asleep_at q t ≡ true))
nobody_told q room b e is t =
    ((λ n. absurd (none-some t n)), (λ h. absurd (none-some t (sym (nobody_next q room b e is) ∙ h.0))))

pub nobody_asleep : (q : admission.Parts) (room : ℕ) (b : Bool) → b ≡ (length q.waiting == 0) → b ≡ true → NextIsAwake q room
nobody_asleep q room b e is = λ t h. absurd (none-some t (sym (nobody_next q room b e is) ∙ h))

-- Where everybody is awake, nobody is told.
none_told : (q : admission.Parts) (room : ℕ) (next : Option ℕ)
    → ((t : ℕ) → (next ≡ Some t) ↔ ((next_in q room ≡ Some t) × (is_asleep_at q t ≡ true)))
    → ((t : ℕ) → is_asleep_at q t ≡ false) → next ≡ None
none_told q room None told awake = refl
none_told q room (Some t) told awake = true_false (is_asleep_at q t) ((told t).0 refl).1 (awake t)

pub settled_waiters : (w : Parts) → IsWaiters w → (q : admission.Parts) (room : ℕ) (next : Option ℕ)
    (sleepers : List (Option Sleeper)) (asleep : Bool)
    → ((t : ℕ) → (next ≡ Some t) ↔ ((next_in w.queue room ≡ Some t) × (is_asleep_at w.queue t ≡ true)))
    → IfSome next (λ t. q ≡ woken w.queue t) → (next ≡ None → q ≡ w.queue) → (w.is_flusher_asleep ≡ false → asleep ≡ false)
    → IsWaiters (record { queue = q; sleepers = sleepers; is_flusher_asleep = asleep; is_stopped = w.is_stopped })
settled_waiters w h q room next sleepers asleep told some none only = record {
  counted =
      subst (λ (r : admission.Parts). AreCounted r.waiting) (sym (woken_is w.queue q next some none))
      (counted_woken next w.queue h.counted);
  awake = λ e.
      let all = h.awake e in
      let same : q ≡ w.queue = none (none_told w.queue room next told all.queue) in
      record {
        queue = λ t. ap (λ (r : admission.Parts). is_asleep_at r t) same ∙ all.queue t;
        flusher = only all.flusher;
      };
}

-- ---- the queue

going : {A : Type 0} (w : Parts) → w.is_stopped ≡ false → w.is_stopped ≡ true → A
going w e f = true_false w.is_stopped f e

pub entered_waiters : {E : Type 0} (w : Parts) → IsWaiters w → (peak least : ℕ) (result : Result ℕ E) (q : admission.Parts)
    → least ≡ max peak 1 → IfOk result (λ t. q ≡ entered w.queue least) → OnErr result (q ≡ w.queue) → w.is_stopped ≡ false
    → IsWaiters (with_queue w q)
entered_waiters w h peak least (Ok t) q same ok err e = record {
  counted =
      subst (λ (r : admission.Parts). AreCounted r.waiting) (sym ok)
      (counted_more w.queue.waiting (newcomer w.queue.next least) h.counted (omega arith));
  awake = going w e;
}
entered_waiters w h peak least (Err f) q same ok err e = record {
  counted = subst (λ (r : admission.Parts). AreCounted r.waiting) (sym err) h.counted;
  awake = going w e;
}

pub started_waiters : (w : Parts) → IsWaiters w → (ticket : ℕ) (q : admission.Parts) → q ≡ started w.queue ticket
    → w.is_stopped ≡ false → IsWaiters (with_queue w q)
started_waiters w h ticket q same e = record {
  counted =
      subst (λ (r : admission.Parts). AreCounted r.waiting) (sym same)
      (counted_map (overtaken_by ticket) (overtaken_peak ticket) (without ticket w.queue.waiting)
      (counted_filter (λ (v : Waiting). not (eqb v.ticket ticket)) w.queue.waiting h.counted));
  awake = going w e;
}

pub asleep_waiters : (w : Parts) → IsWaiters w → (ticket : ℕ) (q : admission.Parts) → q ≡ put_to_sleep w.queue ticket
    → w.is_stopped ≡ false → IsWaiters (with_queue w q)
asleep_waiters w h ticket q same e = record {
  counted =
      subst (λ (r : admission.Parts). AreCounted r.waiting) (sym same)
      (counted_map (marked ticket true) (marked_peak ticket true) w.queue.waiting h.counted);
  awake = going w e;
}

pub left_waiters : (w : Parts) → IsWaiters w → (ticket : ℕ) (q : admission.Parts) → q ≡ left w.queue ticket
    → waiting_at q ticket ≡ None → ((t : ℕ) → t ≢ ticket → waiting_at q t ≡ waiting_at w.queue t)
    → IsWaiters (with_queue w q)
left_waiters w h ticket q same gone others = record {
  counted =
      subst (λ (r : admission.Parts). AreCounted r.waiting) (sym same)
      (counted_filter (λ (v : Waiting). not (eqb v.ticket ticket)) w.queue.waiting h.counted);
  awake = λ e.
      let all = h.awake e in
      record {
        queue = λ t. elim (cases_eq t ticket) [
          | inl here ↦ ap (λ (n : ℕ). is_asleep_at q n) here ∙ ap is_asleep gone
          | inr other ↦ ap is_asleep (others t other) ∙ all.queue t
        ];
        flusher = all.flusher;
      };
}

pub stopped_waiters : (w : Parts) → IsWaiters w → (q : admission.Parts) → q ≡ all_woken w.queue
    → ((t : ℕ) → is_asleep_at q t ≡ false)
    → IsWaiters (record w { queue = q; is_flusher_asleep = false; is_stopped = true })
stopped_waiters w h q same awake = record {
  counted =
      subst (λ (r : admission.Parts). AreCounted r.waiting) (sym same)
      (counted_map awakened (λ v. refl) w.queue.waiting h.counted);
  awake = λ e. record { queue = awake; flusher = refl };
}

-- ---- workers

pub placed_waiters : (w : Parts) → IsWaiters w → (worker : Option ℕ) (place : Option Sleeper)
    → IsWaiters (with_place w worker place)
placed_waiters w h None place = h
placed_waiters w h (Some worker) place = record {
  counted = h.counted;
  awake = λ e. let all = h.awake e in record { queue = all.queue; flusher = all.flusher };
}

-- ---- whoever starts

-- Its peak is a page at least, and at most the room.
pub record HasPeak (q : admission.Parts) (room ticket : ℕ) : Type 0 where
  pub peak : ℕ
  pub waits : peak_at q ticket ≡ Some peak
  pub fits : peak ≤ room
  pub large : 1 ≤ peak

pub has_peak : (q : admission.Parts) (room ticket : ℕ) → IsSound q → AreCounted q.waiting → next_in q room ≡ Some ticket
    → HasPeak q room ticket
has_peak q room ticket sound counted e =
    let f = found q.bypass room 0 q.next ticket q.waiting sound.rising e in
    record {
      peak = f.waiting.peak;
      waits = ap (option_map (λ (v : Waiting). v.peak)) f.there;
      fits = f.fits;
      large = counted_holder ticket q.waiting f.waiting counted f.there;
    }

pub large : (q : admission.Parts) (room ticket peak : ℕ) → IsSound q → AreCounted q.waiting → next_in q room ≡ Some ticket
    → peak_at q ticket ≡ Some peak → 1 ≤ peak
large q room ticket peak sound counted e waits =
    let h = has_peak q room ticket sound counted e in
    let waits_too : peak_at q ticket ≡ Some h.peak = h.waits in
    let same : h.peak ≡ peak = cc in
    omega (arith, h.large)
