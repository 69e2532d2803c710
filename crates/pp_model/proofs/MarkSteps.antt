-- For each way in which a move is done: the marks of the next state are those of this one after a few writes, and what
-- these writes need holds.
use Rattle.std.proofs.Common.{◌≡◌, ◌≢◌, ◌∙◌, ℕ, ◌+◌, ◌-◌, ◌<◌, ◌≤◌, Bool, true, false, cond, Option, Some, None, List}
use Rattle.std.proofs.Common.{[], ◌∷◌, length, refl, sym, ap, subst, ◌⊎◌, inl, inr, arith}
use Rattle.std.specs.Prelude.{sum_by, unwrap_or, option_map, nat_lt, slice_set, IsSome}
use Rattle.std.proofs.lemmas.Bool.{false≢true}
use Rattle.std.proofs.lemmas.Bool.Decides.{nat_tests}
use Rattle.pp_plan.specs.declared.mode.Mode.{Mode}
use Rattle.pp_plan.specs.declared.mode.Mode.TheVariants as mode
use Rattle.pp_plan.specs.declared.action.Action.TheVariants as action
use Rattle.pp_cert.specs.declared.note.Held.{Held}
use Rattle.pp_cert.specs.declared.note.Held.TheVariants.{Free, S, X}
use Rattle.pp_cert.specs.Held.{Holding, Holdings, holding_slot, holding_at, is_latched, held_in as held_for}
use Rattle.pp_cert.proofs.Slots.{slot_all}
use Rattle.pp_cert.specs.Accepted.{Acceptance}
use Rattle.pp_arc.specs.FourLists.{FourLists, is_cached}
use Rattle.pp_arc.specs.declared.answer.Answer.{Answer}
use Rattle.pp_arc.specs.declared.answer.Answer.TheVariants as answer
use Rattle.pp_arc.specs.Figure.{forget, bring_back}
use Rattle.pp_arc.proofs.LawLemmas.{RequestAnswers-request}
use Rattle.pp_frames.specs.declared.mode.Mode.{Mode as LatchMode}
use Rattle.pp_frames.specs.declared.mode.Mode.TheVariants as latch_mode
use Rattle.pp_frames.specs.Marks as map
use Rattle.pp_frames.specs.Marks.{PageMarks, PageMap, Latches, Shared, Exclusive}
use Rattle.pp_model.specs.declared.reply.Ending.{Ending}
use Rattle.pp_model.specs.declared.reply.Ending.TheVariants.{Done, Gone}
use Rattle.pp_model.specs.Pool.{Stage, acting, writing, reading, leaving, Running, Flush, State, mark_at, note_of}
use Rattle.pp_model.specs.Pool.{frame_of, frame_at}
use Rattle.pp_model.specs.Holders.{times, holdings, loading, page_in, held_in, is_shared, is_exclusive, latches_at}
use Rattle.pp_model.specs.Holders.{pins_of, readers_of, writers_of, latches_of, given_back, is_busy, takes, latched_by}
use Rattle.pp_model.specs.Outcome.{did, with_stage, with_lists, with_dirty, with_mark, released, having_done, at_stage}
use Rattle.pp_model.specs.Outcome.{with_frame}
use Rattle.pp_model.specs.Taking.{began}
use Rattle.pp_model.specs.Fixing.{free_frame, with_frame_moved, fixes}
use Rattle.pp_model.specs.Answers.{brought_back}
use Rattle.pp_model.specs.Using.{goes_with, unlatched}
use Rattle.pp_model.specs.Leaving.{ended}
use Rattle.pp_model.specs.Flushing.{flush_begun, flush_over}
use Rattle.pp_model.specs.Moves.{seat_of, asked_by}
use Rattle.pp_model.specs.Reached.{IsReached}
use Rattle.pp_model.specs.Marks.{marks}
use Rattle.pp_model.proofs.Sums.{sum_by-term, times-cons}
use Rattle.pp_model.proofs.Changes.{IsAt, IsAsked, IsAnswered}
use Rattle.pp_model.proofs.Seats.{good}
use Rattle.pp_model.proofs.Swaps.{as_held, Handles, new_page}
use Rattle.pp_model.proofs.KeptSlots.{found_in}
use Rattle.pp_model.proofs.Requests.{Which, same, other, which, hit_cached, miss_uncached, IsVictim, is_victim}
use Rattle.pp_model.proofs.Totals.{weight, on_page, latched_on, readers_are, writers_are, Totals, loads_of, victims_of}
use Rattle.pp_model.proofs.Totals.{sent_in, seat_loads, seat_victims, pins_are}
use Rattle.pp_model.proofs.Sound.{uncached_free, not_busy}
use Rattle.pp_model.proofs.Soundness.{asked_low, sound}
use Rattle.pp_model.proofs.ChangeTotals as totals
use Rattle.pp_model.proofs.LatchLaws.{no_writer, nobody, latches_agree}
use Rattle.pp_model.proofs.MarkChanges.{listed_other, notes_stay, frame_noted, alone, on_its_page, on_other_page}
use Rattle.pp_model.proofs.MarkChanges.{listed_once, is_free, split_all, Counted, counted, SameCounts, same_counts}
use Rattle.pp_model.proofs.MarkChanges.{from_seats, mark_noted, held_counts, dirty_noted, raise_noted, seats_same}
use Rattle.pp_model.proofs.MarkChanges.{seat_pins, seat_latches, count_told, pins_told, latches_told, latches_fit}
use Rattle.pp_model.proofs.MarkChanges.{latches_spare, as_latch, on_page_once, seat_both, pins_last, edited, edit_here}
use Rattle.pp_model.proofs.MarkChanges.{edit_there, edit_count}
use Rattle.pp_model.proofs.FreeFrames.{HasFree, frame_is}
use Rattle.pp_model.proofs.Framed.{framed, free_frame_of, some_of, cached_low, pages_are, taken_low, victim_low}
use Rattle.pp_model.proofs.Framed.{flushed_low}

-- ---- fixes

module _ (s : State) (h : IsReached s) (w : ℕ) (r : Running) where
  pub fixed_low : (slot page : ℕ) → IsAsked s w r (fixes (asked_by r) slot page) → page < length s.notes
  fixed_low slot page asked =
      omega (arith, asked_low s w r slot page s.lists (good s h) (sound s h) asked, pages_are s h)

  -- A hit pins the page once more.
  pub hit_marks : (slot page : ℕ) (l : FourLists) → IsAsked s w r (fixes (asked_by r) slot page)
      → marks (did (with_lists s l) w r (fixes (asked_by r) slot page))
      ≡ map.with_pins (marks s) page (map.pins_of (marks s) page + 1)
  hit_marks slot page l asked =
      let t = did (with_lists s l) w r (fixes (asked_by r) slot page) in
      let x : Holding = new_page (asked_by r) slot page in
      let low = fixed_low slot page asked in
      let d = totals.hit_totals s t w r (good s h) slot page asked refl in
      let c = counted s t [] (x ∷ []) [] [] [] [] page d in
      let readers : readers_of t page ≡ readers_of s page =
      omega (arith, c.readers, as_latch is_shared page x false refl) in
      let writers : writers_of t page ≡ writers_of s page =
      omega (arith, c.writers, as_latch is_exclusive page x false refl) in
      seat_pins s t page (map.pins_of (marks s) page + 1) (record { settings = refl; notes = refl }) low
      (λ q ne. same_counts s t [] (x ∷ []) [] [] [] [] q d refl (on_other_page q x (λ e. ne (sym e))) refl)
      (omega (arith, c.pins, on_its_page page x refl, pins_told s page low)) (λ i. latches_at (readers i) (writers i))

-- ---- what a slot holds

-- The page and the latch of a slot are those of its holding.
found_page : (r : Running) (slot : ℕ) (x : Holding) → holding_at (holdings r) slot ≡ Some x → page_in r slot ≡ x.page
found_page r slot x e = ap (λ o. unwrap_or (option_map (λ k. k.page) o) 0) e

found_held : (r : Running) (slot : ℕ) (x : Holding) → holding_at (holdings r) slot ≡ Some x → held_in r slot ≡ x.held
found_held r slot x e = ap (λ o. unwrap_or (option_map (λ k. k.held) o) Free) e

module _ (s : State) (h : IsReached s) (w : ℕ) (r : Running) (slot : ℕ) (x : Holding)
    (seat : seat_of s w ≡ Some (Some r)) (found : holding_at (holdings r) slot ≡ Some x) where
  pub held_low : x.page < length s.notes
  held_low =
      taken_low s h x.page
      (omega (arith, held_counts s w r slot x (on_page x.page) seat found, on_page_once x.page x refl))

  -- It counts as a latch of its kind.
  held_is : (is : Held → Bool) → is x.held ≡ true → 0 < weight s (latched_on is x.page)
  held_is is e =
      let one : latched_on is x.page x ≡ on_page x.page x = ap (λ b. cond b (on_page x.page x) 0) e in
      omega (arith, held_counts s w r slot x (latched_on is x.page) seat found, one, on_page_once x.page x refl)

  -- Where the slot isn't latched, the page has fewer latches than pins.
  pub free_spares : x.held ≡ Free
      → map.latch_count (map.latches_of (marks s) x.page) < map.pins_of (marks s) x.page
  free_spares e =
      latches_spare s x.page held_low (omega (arith, held_is is_free (ap is_free e)))

  -- Where it is latched, one latch of that mode stands on the page, with others of its kind at most.
  shared_stands : x.held ≡ S → writers_of s x.page ≡ 0
  shared_stands e = go (latches_agree s h x.page)
    where
      go : (writers_of s x.page ≡ 0) ⊎ ((writers_of s x.page ≡ 1) × (readers_of s x.page ≡ 0)) → writers_of s x.page ≡ 0
      go (inl a) = a
      go (inr a) = absurd (omega (arith, a.1, readers_are s x.page, held_is is_shared (ap is_shared e)))

  exclusive_stands : x.held ≡ X → (writers_of s x.page ≡ 1) × (readers_of s x.page ≡ 0)
  exclusive_stands e = go (latches_agree s h x.page)
    where
      go : (writers_of s x.page ≡ 0) ⊎ ((writers_of s x.page ≡ 1) × (readers_of s x.page ≡ 0))
          → (writers_of s x.page ≡ 1) × (readers_of s x.page ≡ 0)
      go (inl a) = absurd (omega (arith, a, writers_are s x.page, held_is is_exclusive (ap is_exclusive e)))
      go (inr a) = a

  pub shared_latched : x.held ≡ S → map.has_latch latch_mode.S (map.latches_of (marks s) x.page) ≡ true
  shared_latched e =
      let some : 0 < readers_of s x.page =
      omega (arith, readers_are s x.page, held_is is_shared (ap is_shared e)) in
      ap (map.has_latch latch_mode.S) (latches_told s x.page held_low
      ∙ (λ i. latches_at (readers_of s x.page) (shared_stands e i)))
      ∙ positive (readers_of s x.page) some
    where
      positive : (n : ℕ) → 0 < n → nat_lt 0 n ≡ true
      positive n lt = grind (arith, nat_tests)

  pub exclusive_latched : x.held ≡ X → map.has_latch latch_mode.X (map.latches_of (marks s) x.page) ≡ true
  exclusive_latched e =
      ap (map.has_latch latch_mode.X) (latches_told s x.page held_low
      ∙ (λ i. latches_at (readers_of s x.page) ((exclusive_stands e).0 i)))

  -- One latch less, by the kind of latch that goes.
  one_less : (readers writers : ℕ) → is_free x.held ≡ false
      → readers + cond (is_shared x.held) 1 0 ≡ readers_of s x.page
      → writers + cond (is_exclusive x.held) 1 0 ≡ writers_of s x.page
      → latches_at readers writers ≡ map.without_latch (map.latches_of (marks s) x.page)
  one_less readers writers latched a b = go x.held refl latched
    where
      go : (k : Held) → x.held ≡ k → is_free k ≡ false
          → latches_at readers writers ≡ map.without_latch (map.latches_of (marks s) x.page)
      go Free e f = cc
      go S e f =
          let none = shared_stands e in
          let r' : readers ≡ readers_of s x.page - 1 = omega (arith, a, ap {B = ℕ} (λ k. cond (is_shared k) 1 0) e) in
          let w' : writers ≡ 0 = omega (arith, b, none, ap {B = ℕ} (λ k. cond (is_exclusive k) 1 0) e) in
          (λ i. latches_at (r' i) (w' i))
          ∙ sym (ap map.without_latch (latches_told s x.page held_low
          ∙ (λ i. latches_at (readers_of s x.page) (none i))))
      go X e f =
          let one = exclusive_stands e in
          let r' : readers ≡ 0 = omega (arith, a, one.1, ap {B = ℕ} (λ k. cond (is_shared k) 1 0) e) in
          let w' : writers ≡ 0 = omega (arith, b, one.0, ap {B = ℕ} (λ k. cond (is_exclusive k) 1 0) e) in
          (λ i. latches_at (r' i) (w' i))
          ∙ sym (ap map.without_latch (latches_told s x.page held_low
          ∙ (λ i. latches_at (readers_of s x.page) (one.0 i))))

-- ---- actions of a worker that needs no device

module _ (s : State) (h : IsReached s) (w : ℕ) (r : Running) (slot : ℕ) where
  -- An unfix takes a pin off, and there is one more than there are latches.
  pub unfix_spares : IsAsked s w r (action.Unfix slot)
      → map.latch_count (map.latches_of (marks s) (page_in r slot)) < map.pins_of (marks s) (page_in r slot)
  unfix_spares asked =
      let does = totals.asked_does s s w r (good s h) (action.Unfix slot) asked in
      subst (λ p. map.latch_count (map.latches_of (marks s) p) < map.pins_of (marks s) p)
      (sym (found_page r slot does.0 does.1)) (free_spares s h w r slot does.0 asked.at.seat does.1 does.2)

  pub unfix_marks : IsAsked s w r (action.Unfix slot)
      → marks (did s w r (action.Unfix slot))
      ≡ map.with_pins (marks s) (page_in r slot) (map.pins_of (marks s) (page_in r slot) - 1)
  unfix_marks asked =
      let t = did s w r (action.Unfix slot) in
      let does = totals.asked_does s t w r (good s h) (action.Unfix slot) asked in
      let x = does.0 in
      let p = x.page in
      let low = held_low s h w r slot x asked.at.seat does.1 in
      let d = totals.own_totals s t w r (good s h) slot asked refl in
      let c = counted s t (x ∷ []) [] [] [] [] [] p d in
      let readers : readers_of t p ≡ readers_of s p =
      omega (arith, c.readers, as_latch is_shared p x false (ap is_shared does.2)) in
      let writers : writers_of t p ≡ writers_of s p =
      omega (arith, c.writers, as_latch is_exclusive p x false (ap is_exclusive does.2)) in
      subst (λ q. marks t ≡ map.with_pins (marks s) q (map.pins_of (marks s) q - 1))
      (sym (found_page r slot x does.1))
      (seat_pins s t p (map.pins_of (marks s) p - 1) (record { settings = refl; notes = refl }) low
      (λ q ne. same_counts s t (x ∷ []) [] [] [] [] [] q d (on_other_page q x (λ e. ne (sym e))) refl refl)
      (omega (arith, c.pins, on_its_page p x refl, pins_told s p low)) (λ i. latches_at (readers i) (writers i)))

  -- A slot that asks a latch isn't latched.
  pub latch_spares : (m : Mode) → IsAsked s w r (action.Latch slot m)
      → map.latch_count (map.latches_of (marks s) (page_in r slot)) < map.pins_of (marks s) (page_in r slot)
  latch_spares m asked =
      let does = totals.asked_does s s w r (good s h) (action.Latch slot m) asked in
      subst (λ p. map.latch_count (map.latches_of (marks s) p) < map.pins_of (marks s) p)
      (sym (found_page r slot does.0 does.1)) (free_spares s h w r slot does.0 asked.at.seat does.1 does.2)

-- A mode of a plan as a mode of the map.
abbrev pub latch_mode_of : Mode → LatchMode
latch_mode_of mode.S = latch_mode.S
latch_mode_of mode.X = latch_mode.X

-- A latch that goes with those that stand is one more of them.
one_more : (s t : State) (p : ℕ) (x : Holding) (m : Mode) → p < length s.notes → x.page ≡ p → x.held ≡ Free
    → goes_with s m p ≡ true
    → readers_of t p + sum_by (latched_on is_shared p) (x ∷ [])
    ≡ readers_of s p + sum_by (latched_on is_shared p) (as_held (held_for m) x ∷ [])
    → writers_of t p + sum_by (latched_on is_exclusive p) (x ∷ [])
    ≡ writers_of s p + sum_by (latched_on is_exclusive p) (as_held (held_for m) x ∷ [])
    → latches_of t p ≡ map.with_latch (latch_mode_of m) (map.latches_of (marks s) p)
one_more s t p x mode.S low at free goes a b =
    let none = no_writer (readers_of s p) (writers_of s p) (nat_lt 0 (writers_of s p)) refl goes in
    let readers : readers_of t p ≡ readers_of s p + 1 =
    omega (
      arith,
      a,
      as_latch is_shared p x false (ap is_shared free),
      as_latch is_shared p (as_held S x) true refl,
      on_page_once p (as_held S x) at,
    ) in
    let writers : writers_of t p ≡ 0 =
    omega (
      arith,
      b,
      none,
      as_latch is_exclusive p x false (ap is_exclusive free),
      as_latch is_exclusive p (as_held S x) false refl,
    ) in
    (λ i. latches_at (readers i) (writers i))
    ∙ sym (ap (map.with_latch latch_mode.S) (latches_told s p low ∙ (λ i. latches_at (readers_of s p) (none i))))
one_more s t p x mode.X low at free goes a b =
    let none = nobody (readers_of s p) (writers_of s p) (nat_lt 0 (writers_of s p)) refl goes in
    let writers : writers_of t p ≡ 1 =
    omega (
      arith,
      b,
      none.0,
      as_latch is_exclusive p x false (ap is_exclusive free),
      as_latch is_exclusive p (as_held X x) true refl,
      on_page_once p (as_held X x) at,
    ) in
    λ i. latches_at (readers_of t p) (writers i)

module _ (s : State) (h : IsReached s) (w : ℕ) (r : Running) (slot : ℕ) where
  pub latch_marks : (m : Mode) → IsAsked s w r (action.Latch slot m) → goes_with s m (page_in r slot) ≡ true
      → marks (did s w r (action.Latch slot m))
      ≡ map.with_latches (marks s) (page_in r slot)
      (map.with_latch (latch_mode_of m) (map.latches_of (marks s) (page_in r slot)))
  latch_marks m asked goes =
      let t = did s w r (action.Latch slot m) in
      let does = totals.asked_does s t w r (good s h) (action.Latch slot m) asked in
      let x = does.0 in
      let y = as_held (held_for m) x in
      let p = x.page in
      let at = found_page r slot x does.1 in
      let low = held_low s h w r slot x asked.at.seat does.1 in
      let d = totals.latch_totals s t w r (good s h) slot m asked refl in
      let c = counted s t (x ∷ []) (y ∷ []) [] [] [] [] p d in
      subst
      (λ q. marks t ≡ map.with_latches (marks s) q (map.with_latch (latch_mode_of m) (map.latches_of (marks s) q)))
      (sym at)
      (seat_latches s t p (map.with_latch (latch_mode_of m) (map.latches_of (marks s) p))
      (record { settings = refl; notes = refl }) low
      (λ q ne. same_counts s t (x ∷ []) (y ∷ []) [] [] [] [] q d (on_other_page q x (λ e. ne (sym e)))
      (on_other_page q y (λ e. ne (sym e))) refl)
      (omega (arith, c.pins, on_its_page p x refl, on_its_page p y refl))
      (one_more s t p x m low refl does.2 (subst (λ q. goes_with s m q ≡ true) at goes) c.readers c.writers))

  -- The choice of a branch changes no mark.
  pub choose_marks : (i : ℕ) → IsAsked s w r (action.Choose i) → marks (did s w r (action.Choose i)) ≡ marks s
  choose_marks i asked =
      let t = did s w r (action.Choose i) in
      let d = totals.choose_totals s t w r (good s h) i asked refl in
      seats_same s t (record { settings = refl; notes = refl })
      (λ q. same_counts s t [] [] [] [] [] [] q d refl refl refl)

-- ---- the end of a latch

latched_isnt_free : (k : Held) → is_latched k ≡ true → is_free k ≡ false
latched_isnt_free Free e = cc
latched_isnt_free S e = refl
latched_isnt_free X e = refl

module _ (s : State) (h : IsReached s) (w : ℕ) (r : Running) (slot : ℕ)
    (asked : IsAsked s w r (action.Unlatch slot)) where
  does : Handles (holdings r) (holdings (having_done r (action.Unlatch slot))) (action.Unlatch slot)
  does = totals.asked_does s s w r (good s h) (action.Unlatch slot) asked

  -- The slot is latched, and its page is one of the pool's.
  pub unlatch_not_free : held_in r slot ≡ Free → ⊥
  unlatch_not_free e =
      let isnt = latched_isnt_free does.0.held does.2 in
      let is : is_free does.0.held ≡ true = ap is_free (sym (found_held r slot does.0 does.1) ∙ e) in
      absurd (cc)

  pub unlatch_low : page_in r slot < map.page_count (marks s)
  unlatch_low =
      omega (arith, found_page r slot does.0 does.1, held_low s h w r slot does.0 asked.at.seat does.1, count_told s)

  pub unlatch_shared : held_in r slot ≡ S
      → map.has_latch latch_mode.S (map.latches_of (marks s) (page_in r slot)) ≡ true
  unlatch_shared e =
      subst (λ p. map.has_latch latch_mode.S (map.latches_of (marks s) p) ≡ true)
      (sym (found_page r slot does.0 does.1))
      (shared_latched s h w r slot does.0 asked.at.seat does.1 (sym (found_held r slot does.0 does.1) ∙ e))

  pub unlatch_exclusive : held_in r slot ≡ X
      → map.has_latch latch_mode.X (map.latches_of (marks s) (page_in r slot)) ≡ true
  unlatch_exclusive e =
      subst (λ p. map.has_latch latch_mode.X (map.latches_of (marks s) p) ≡ true)
      (sym (found_page r slot does.0 does.1))
      (exclusive_latched s h w r slot does.0 asked.at.seat does.1 (sym (found_held r slot does.0 does.1) ∙ e))

  -- The latch is gone, and the notes are as before.
  gone_marks : marks (did s w r (action.Unlatch slot))
      ≡ map.with_latches (marks s) (page_in r slot) (map.without_latch (map.latches_of (marks s) (page_in r slot)))
  gone_marks =
      let t = did s w r (action.Unlatch slot) in
      let d0 = totals.asked_does s t w r (good s h) (action.Unlatch slot) asked in
      let x = d0.0 in
      let y = as_held Free x in
      let p = x.page in
      let seat = asked.at.seat in
      let low = held_low s h w r slot x seat d0.1 in
      let d = totals.unlatch_totals s t w r (good s h) slot asked refl in
      let c = counted s t (x ∷ []) (y ∷ []) [] [] [] [] p d in
      let readers : readers_of t p + cond (is_shared x.held) 1 0 ≡ readers_of s p =
      omega (
        arith,
        c.readers,
        alone (latched_on is_shared p) x,
        as_latch is_shared p y false refl,
        ap (λ n. cond (is_shared x.held) n 0) (on_page_once p x refl),
      ) in
      let writers : writers_of t p + cond (is_exclusive x.held) 1 0 ≡ writers_of s p =
      omega (
        arith,
        c.writers,
        alone (latched_on is_exclusive p) x,
        as_latch is_exclusive p y false refl,
        ap (λ n. cond (is_exclusive x.held) n 0) (on_page_once p x refl),
      ) in
      subst (λ q. marks t ≡ map.with_latches (marks s) q (map.without_latch (map.latches_of (marks s) q)))
      (sym (found_page r slot x d0.1))
      (seat_latches s t p (map.without_latch (map.latches_of (marks s) p))
      (record { settings = refl; notes = refl }) low
      (λ q ne. same_counts s t (x ∷ []) (y ∷ []) [] [] [] [] q d (on_other_page q x (λ e. ne (sym e)))
      (on_other_page q y (λ e. ne (sym e))) refl)
      (omega (arith, c.pins, on_its_page p x refl, on_its_page p y refl))
      (one_less s h w r slot x seat d0.1 (readers_of t p) (writers_of t p) (latched_isnt_free x.held d0.2) readers
      writers))

  pub unlatch_shared_marks : held_in r slot ≡ S
      → marks (did (unlatched s r slot) w r (action.Unlatch slot))
      ≡ map.with_latches (marks s) (page_in r slot) (map.without_latch (map.latches_of (marks s) (page_in r slot)))
  unlatch_shared_marks e =
      ap (λ k. marks (did (released s k (page_in r slot)) w r (action.Unlatch slot))) e ∙ gone_marks

  -- A page whose X latch ends is dirty, and its mark is one more.
  pub unlatch_exclusive_marks : held_in r slot ≡ X
      → marks (did (unlatched s r slot) w r (action.Unlatch slot))
      ≡ (let u = map.with_latches (marks s) (page_in r slot)
      (map.without_latch (map.latches_of (marks s) (page_in r slot))) in
      map.with_stamp (map.with_dirty u (page_in r slot) true) (page_in r slot) (Some (mark_at s (page_in r slot) + 1)))
  unlatch_exclusive_marks e =
      let t = did s w r (action.Unlatch slot) in
      ap (λ k. marks (did (released s k (page_in r slot)) w r (action.Unlatch slot))) e
      ∙ raise_noted t (page_in r slot) (omega (arith, unlatch_low, count_told s))
      ∙ ap (λ m. map.with_stamp (map.with_dirty m (page_in r slot) true) (page_in r slot)
      (Some (mark_at s (page_in r slot) + 1))) gone_marks

-- ---- plans that begin and end, and flushes

module _ (s : State) (h : IsReached s) where
  -- A plan that is taken changes no mark.
  pub take_marks : (w : ℕ) (a : Acceptance) → seat_of s w ≡ Some None → marks (began s w a) ≡ marks s
  take_marks w a idle =
      let t = began s w a in
      let d = totals.taken_totals s t w a idle refl in
      seats_same s t (record { settings = refl; notes = refl })
      (λ q. same_counts s t [] [] [] [] [] [] q d refl refl refl)

  -- Nor does the end of a plan that holds nothing.
  idle_marks : (w : ℕ) (r : Running) (g : Stage) (ending : Ending) → loading g ≡ [] → sent_in g ≡ [] → IsAt s w r g
      → holdings r ≡ [] → marks (ended s w r ending).state ≡ marks s
  idle_marks w r g ending none nobody at empty =
      let t = (ended s w r ending).state in
      let d = totals.idle_totals s t w r (good s h) g none nobody at refl in
      seats_same s t (record { settings = refl; notes = refl })
      (λ q. same_counts s t (holdings r) [] [] [] [] [] q d (ap (sum_by (on_page q)) empty) refl refl)

  pub end_marks : (w : ℕ) (r : Running) → IsAt s w r acting → holdings r ≡ []
      → marks (ended s w r Done).state ≡ marks s
  end_marks w r at empty = idle_marks w r acting Done refl refl at empty

  pub leave_marks : (w : ℕ) (r : Running) (given : List ℕ) → IsAt s w r (leaving given) → holdings r ≡ []
      → marks (ended s w r Gone).state ≡ marks s
  leave_marks w r given at empty = idle_marks w r (leaving given) Gone refl refl at empty

  -- A flush changes none as it begins or is over.
  pub flush_begun_marks : (page : ℕ) → marks (flush_begun s page) ≡ marks s
  flush_begun_marks page = refl

  pub flush_over_marks : marks (flush_over s) ≡ marks s
  flush_over_marks = refl

  -- A page that was flushed, and not changed meanwhile, is clean.
  pub clean_low : (f : Flush) → s.flush ≡ Some f → f.page < map.page_count (marks s)
  clean_low f e = omega (arith, flushed_low s h f e, count_told s)

  pub clean_marks : (f : Flush) → s.flush ≡ Some f
      → marks (with_dirty (flush_over s) f.page false) ≡ map.with_dirty (marks s) f.page false
  clean_marks f e = dirty_noted (flush_over s) f.page false (flushed_low s h f e)

-- ---- what a device was asked for

module _ (s : State) (h : IsReached s) (w : ℕ) (r : Running) (g : Stage) (at : IsAt s w r g) where
  -- The page that is loaded and the victim that is written back are pages of the pool.
  pub loading_counts : (p : ℕ) → times p (loading g) ≤ loads_of s p
  loading_counts p =
      omega (
        arith,
        sum_by-term (λ x. times p (seat_loads x)) s.seats w (Some r) at.seat,
        ap (λ k. times p (loading k)) at.stage,
      )

  pub sent_counts : (p : ℕ) → times p (sent_in g) ≤ victims_of s p
  sent_counts p =
      omega (
        arith,
        sum_by-term (λ x. times p (seat_victims x)) s.seats w (Some r) at.seat,
        ap (λ k. times p (sent_in k)) at.stage,
      )

  pub loading_low : (p : ℕ) → loading g ≡ p ∷ [] → p < length s.notes
  loading_low p e =
      taken_low s h p (omega (arith, loading_counts p, ap (times p) e, listed_once p))

  pub sent_low : (p : ℕ) → sent_in g ≡ p ∷ [] → p < length s.notes
  sent_low p e = victim_low s h p (omega (arith, sent_counts p, ap (times p) e, listed_once p))

  -- The page that is loaded has one pin and no latch.
  pub loading_pins : (p : ℕ) → loading g ≡ p ∷ [] → (pins_of s p ≡ 1) × (readers_of s p ≡ 0) × (writers_of s p ≡ 0)
  loading_pins p e =
      let some : 0 < loads_of s p = omega (arith, loading_counts p, ap (times p) e, listed_once p) in
      let none = (sound s h).fresh p some in (
        omega (arith, pins_are s p, none, some, (sound s h).alone p),
        omega (arith, readers_are s p, split_all s p, none),
        omega (arith, writers_are s p, split_all s p, none),
      )

  pub loading_spares : (p : ℕ) → loading g ≡ p ∷ []
      → map.latch_count (map.latches_of (marks s) p) < map.pins_of (marks s) p
  loading_spares p e =
      latches_spare s p (loading_low p e) (omega (arith, loading_counts p, ap (times p) e, listed_once p))

module _ (s : State) (h : IsReached s) (w : ℕ) (r : Running) (slot page : ℕ) where
  -- A page that was read has its stamp; its pin was there since the fix was asked.
  pub load_low : IsAt s w r (reading slot page) → page < map.page_count (marks s)
  load_low at = omega (arith, loading_low s h w r (reading slot page) at page refl, count_told s)

  pub load_marks : (stamp : ℕ) → IsAt s w r (reading slot page)
      → marks (did (with_mark s page stamp) w r (fixes (asked_by r) slot page)) ≡ map.with_stamp (marks s) page (Some stamp)
  load_marks stamp at =
      let u = with_mark s page stamp in
      let t = did u w r (fixes (asked_by r) slot page) in
      let x : Holding = new_page (asked_by r) slot page in
      let d = totals.loaded_totals s t w r (good s h) slot page at refl in
      seats_same u t (record { settings = refl; notes = refl })
      (λ q.
      let c = counted s t [] (x ∷ []) (page ∷ []) [] [] [] q d in
      let e : SameCounts s t q = record {
        pins = omega (arith, c.pins, alone (on_page q) x, times-cons q page []);
        readers = omega (arith, c.readers, as_latch is_shared q x false refl);
        writers = omega (arith, c.writers, as_latch is_exclusive q x false refl);
      } in
      from_seats s u t q refl e)
      ∙ mark_noted s page stamp (loading_low s h w r (reading slot page) at page refl)

  -- A victim that was written is clean.
  pub write_low : (v : ℕ) → IsAt s w r (writing slot page v) → v < map.page_count (marks s)
  write_low v at = omega (arith, sent_low s h w r (writing slot page v) at v refl, count_told s)

  pub write_marks : (v : ℕ) → IsAt s w r (writing slot page v)
      → marks (with_stage (with_dirty s v false) w r (reading slot page)) ≡ map.with_dirty (marks s) v false
  write_marks v at =
      let u = with_dirty s v false in
      let t = with_stage u w r (reading slot page) in
      let d = totals.written_totals s t w r (good s h) slot page v at refl in
      seats_same u t (record { settings = refl; notes = refl })
      (λ q. from_seats s u t q refl (same_counts s t [] [] [] [] (v ∷ []) [] q d refl refl refl))
      ∙ dirty_noted s v false (sent_low s h w r (writing slot page v) at v refl)

-- ---- a worker that leaves gives a page back, the only one of its slot

module _ (s : State) (h : IsReached s) (w : ℕ) (r : Running) (slot : ℕ) (given : List ℕ) (k : Holding)
    (at : IsAt s w r (leaving given)) (lone : slot_all holding_slot slot (holdings r) ≡ k ∷ []) where
  found : holding_at (holdings r) slot ≡ Some k
  found = found_in (holdings r) slot (k ∷ []) lone

  pub unwind_low : k.page < map.page_count (marks s)
  unwind_low = omega (arith, held_low s h w r slot k at.seat found, count_told s)

  -- A slot that isn't latched: a pin goes.
  pub unwind_free_spares : k.held ≡ Free
      → map.latch_count (map.latches_of (marks s) k.page) < map.pins_of (marks s) k.page
  unwind_free_spares e = free_spares s h w r slot k at.seat found e

  -- The next state but for the notes of a page that was latched X.
  abbrev given_more : State
  given_more = with_stage s w r (leaving (slot ∷ given))

  given_totals : Totals s given_more (k ∷ []) [] [] [] [] []
  given_totals =
      subst (λ (hs : Holdings). Totals s given_more hs [] [] [] [] []) lone
      (totals.unwound_totals s given_more w r (good s h) slot given at refl)

  given_others : (q : ℕ) → q ≢ k.page → SameCounts s given_more q
  given_others q ne =
      same_counts s given_more (k ∷ []) [] [] [] [] [] q given_totals (on_other_page q k (λ e. ne (sym e))) refl refl

  given_counted : Counted s given_more (k ∷ []) [] [] [] k.page
  given_counted = counted s given_more (k ∷ []) [] [] [] [] [] k.page given_totals

  pub unwind_free_marks : k.held ≡ Free
      → marks (with_stage (released s k.held k.page) w r (leaving (slot ∷ given)))
      ≡ map.with_pins (marks s) k.page (map.pins_of (marks s) k.page - 1)
  unwind_free_marks e =
      let p = k.page in
      let low = held_low s h w r slot k at.seat found in
      let readers : readers_of given_more p ≡ readers_of s p =
      omega (arith, given_counted.readers, as_latch is_shared p k false (ap is_shared e)) in
      let writers : writers_of given_more p ≡ writers_of s p =
      omega (arith, given_counted.writers, as_latch is_exclusive p k false (ap is_exclusive e)) in
      ap (λ x. marks (with_stage (released s x p) w r (leaving (slot ∷ given)))) e
      ∙ seat_pins s given_more p (map.pins_of (marks s) p - 1) (record { settings = refl; notes = refl }) low
      given_others
      (omega (arith, given_counted.pins, on_its_page p k refl, pins_told s p low))
      (λ i. latches_at (readers i) (writers i))

  -- The map without the slot's latch.
  abbrev pub unlatched_map : PageMap
  unlatched_map = map.with_latches (marks s) k.page (map.without_latch (map.latches_of (marks s) k.page))

  unlatched_here : map.marks_of unlatched_map k.page
      ≡ record (map.marks_of (marks s) k.page) { latches = map.without_latch (map.latches_of (marks s) k.page) }
  unlatched_here =
      edit_here (marks s) k.page (λ y. record y { latches = map.without_latch y.latches }) unwind_low

  -- A latched slot: its latch goes, and then its pin.
  latched_marks : is_free k.held ≡ false
      → marks given_more ≡ map.with_pins unlatched_map k.page (map.pins_of unlatched_map k.page - 1)
  latched_marks e =
      let p = k.page in
      let low = held_low s h w r slot k at.seat found in
      let readers : readers_of given_more p + cond (is_shared k.held) 1 0 ≡ readers_of s p =
      omega (
        arith,
        given_counted.readers,
        alone (latched_on is_shared p) k,
        ap (λ n. cond (is_shared k.held) n 0) (on_page_once p k refl),
      ) in
      let writers : writers_of given_more p + cond (is_exclusive k.held) 1 0 ≡ writers_of s p =
      omega (
        arith,
        given_counted.writers,
        alone (latched_on is_exclusive p) k,
        ap (λ n. cond (is_exclusive k.held) n 0) (on_page_once p k refl),
      ) in
      seat_both s given_more p (map.pins_of unlatched_map p - 1) (map.without_latch (map.latches_of (marks s) p))
      (record { settings = refl; notes = refl }) low given_others
      (omega (
        arith,
        given_counted.pins,
        on_its_page p k refl,
        pins_told s p low,
        ap (λ (y : PageMarks). y.pins) unlatched_here,
      ))
      (one_less s h w r slot k at.seat found (readers_of given_more p) (writers_of given_more p) e readers writers)

  latched_spares : map.latch_count (map.latches_of unlatched_map k.page) < map.pins_of unlatched_map k.page
  latched_spares =
      let low = held_low s h w r slot k at.seat found in
      omega (
        arith,
        latches_fit s k.page low,
        pins_told s k.page low,
        pins_are s k.page,
        held_counts s w r slot k (on_page k.page) at.seat found,
        on_page_once k.page k refl,
        ap (λ (y : PageMarks). y.pins) unlatched_here,
        ap (λ (y : PageMarks). map.latch_count y.latches) unlatched_here,
      )

  pub unwind_shared : k.held ≡ S → map.has_latch latch_mode.S (map.latches_of (marks s) k.page) ≡ true
  unwind_shared e = shared_latched s h w r slot k at.seat found e

  pub unwind_shared_spares : k.held ≡ S
      → map.latch_count (map.latches_of unlatched_map k.page) < map.pins_of unlatched_map k.page
  unwind_shared_spares e = latched_spares

  pub unwind_shared_marks : k.held ≡ S
      → marks (with_stage (released s k.held k.page) w r (leaving (slot ∷ given)))
      ≡ map.with_pins unlatched_map k.page (map.pins_of unlatched_map k.page - 1)
  unwind_shared_marks e =
      ap (λ x. marks (with_stage (released s x k.page) w r (leaving (slot ∷ given)))) e
      ∙ latched_marks (ap is_free e)

  pub unwind_exclusive : k.held ≡ X → map.has_latch latch_mode.X (map.latches_of (marks s) k.page) ≡ true
  unwind_exclusive e = exclusive_latched s h w r slot k at.seat found e

  -- The map without the slot's X latch: the page is dirty, and its mark is one more.
  abbrev pub changed_map : PageMap
  changed_map = map.with_stamp (map.with_dirty unlatched_map k.page true) k.page (Some (mark_at s k.page + 1))

  changed_here : map.marks_of changed_map k.page
      ≡ record (map.marks_of unlatched_map k.page) { dirty = true; stamp = Some (mark_at s k.page + 1) }
  changed_here =
      let dirty : PageMarks → PageMarks = λ y. record y { dirty = true } in
      let stamp : PageMarks → PageMarks = λ y. record y { stamp = Some (mark_at s k.page + 1) } in
      let low : k.page < map.page_count unlatched_map =
      omega (
        arith,
        unwind_low,
        edit_count (marks s) k.page
            (λ y. record y { latches = map.without_latch y.latches }),
      ) in
      edit_here (edited unlatched_map k.page dirty) k.page stamp
      (omega (arith, low, edit_count unlatched_map k.page dirty))
      ∙ ap stamp (edit_here unlatched_map k.page dirty low)

  pub unwind_exclusive_spares : k.held ≡ X
      → map.latch_count (map.latches_of changed_map k.page) < map.pins_of changed_map k.page
  unwind_exclusive_spares e =
      omega (
        arith,
        latched_spares,
        ap (λ (y : PageMarks). y.pins) changed_here,
        ap (λ (y : PageMarks). map.latch_count y.latches) changed_here,
      )

  pub unwind_exclusive_marks : k.held ≡ X
      → marks (with_stage (released s k.held k.page) w r (leaving (slot ∷ given)))
      ≡ map.with_pins changed_map k.page (map.pins_of changed_map k.page - 1)
  unwind_exclusive_marks e =
      let p = k.page in
      let low : p < map.page_count unlatched_map =
      omega (arith, unwind_low, edit_count (marks s) p (λ y. record y { latches = map.without_latch y.latches })) in
      let n = map.pins_of unlatched_map p - 1 in
      ap (λ x. marks (with_stage (released s x p) w r (leaving (slot ∷ given)))) e
      ∙ raise_noted given_more p (held_low s h w r slot k at.seat found)
      ∙ ap (λ m. map.with_stamp (map.with_dirty m p true) p (Some (mark_at s p + 1))) (latched_marks (ap is_free e))
      ∙ pins_last unlatched_map p n (Some (mark_at s p + 1)) low
      ∙ ap (λ (y : PageMarks). map.with_pins changed_map p (y.pins - 1)) (sym changed_here)

-- ---- a cached page is fixed

module _ (s : State) (h : IsReached s) (w : ℕ) (r : Running) (slot page : ℕ) (l : FourLists)
    (asked : IsAsked s w r (fixes (asked_by r) slot page)) where
  -- A page that is hit stands in a frame.
  pub hit_placed : IsAnswered s page l answer.Hit → IsSome (map.frame_of (marks s) page)
  hit_placed is =
      let here = hit_cached s.lists page (is_busy s) (sound s h).bounds is.is in
      subst (λ (o : Option ℕ). IsSome o) (sym (frame_is s page)) ((framed s h).placed page here)

  -- ---- another page is read into a frame

  -- It has no pin before.
  missed_pins : (a : Answer) → a ≢ answer.Hit → IsAnswered s page l a → pins_of s page ≡ 0
  missed_pins a not_hit is =
      let away = miss_uncached s.lists page (is_busy s) (λ f. not_hit (sym is.is ∙ f)) in
      omega (arith, pins_are s page, uncached_free s page (sound s h) away)

  -- An errand goes out for it, and it has one.
  sent_marks : (u : State) (g : Stage) → given_back g ≡ [] → loading g ≡ page ∷ [] → u.settings ≡ s.settings
      → u.seats ≡ s.seats → length u.notes ≡ length s.notes
      → marks (with_stage u w r g) ≡ map.with_pins (marks u) page (map.pins_of (marks u) page + 1)
  sent_marks u g none one k seats n =
      let t = with_stage u w r g in
      let e : t.seats ≡ slice_set s.seats w (Some (at_stage r g)) =
      ap (λ x. slice_set x w (Some (at_stage r g))) seats in
      let d = totals.sent_totals s t w r (good s h) g none asked.at e in
      let low : page < length u.notes = omega (arith, fixed_low s h w r slot page asked, n) in
      let each : (q : ℕ) → times q (loading g) ≡ 0 → SameCounts u t q = λ q away.
      from_seats s u t q seats (same_counts s t [] [] [] (loading g) [] (sent_in g) q d refl refl
      (omega (arith, away))) in
      let c = counted s t [] [] [] (loading g) [] (sent_in g) page d in
      let was : pins_of u page ≡ pins_of s page = ap (λ x. sum_by (λ y. times page (takes y)) x) seats in
      let pins : pins_of t page ≡ map.pins_of (marks u) page + 1 =
      omega (arith, c.pins, was, pins_told u page low, ap (times page) one, listed_once page) in
      let readers : readers_of t page ≡ readers_of u page =
      omega (arith, c.readers, ap (λ x. sum_by (λ y. times page (latched_by is_shared y)) x) seats) in
      let writers : writers_of t page ≡ writers_of u page =
      omega (arith, c.writers, ap (λ x. sum_by (λ y. times page (latched_by is_exclusive y)) x) seats) in
      seat_pins u t page (map.pins_of (marks u) page + 1) (record { settings = refl; notes = refl }) low
      (λ q ne. each q (ap (times q) one ∙ listed_other page q (λ f. ne (sym f)))) pins
      (λ i. latches_at (readers i) (writers i))

  pub fill_low : page < map.page_count (marks s)
  fill_low = omega (arith, fixed_low s h w r slot page asked, count_told s)

  pub fill_pins : IsAnswered s page l answer.Free → map.pins_of (marks s) page ≡ 0
  fill_pins is =
      omega (arith, pins_told s page (fixed_low s h w r slot page asked), missed_pins answer.Free (λ f. absurd (cc)) is)

  -- The least free frame is there.
  pub fill_free : IsAnswered s page l answer.Free → HasFree s
  fill_free is =
      free_frame_of s h ((RequestAnswers-request s.lists page (is_busy s) (sound s h).bounds).free.0 is.is).1

  pub fill_placed : IsSome (map.frame_of (map.with_frame (marks s) page (Some (free_frame s))) page)
  fill_placed =
      subst (λ (o : Option ℕ). IsSome o)
      (sym (ap (λ (y : PageMarks). y.frame)
      (edit_here (marks s) page (λ y. record y { frame = Some (free_frame s) }) fill_low))) refl

  pub fill_marks : marks (with_stage (with_frame (with_lists s l) page (Some (free_frame s))) w r (reading slot page))
      ≡ (let u = map.with_frame (marks s) page (Some (free_frame s)) in
      map.with_pins u page (map.pins_of u page + 1))
  fill_marks =
      let low = fixed_low s h w r slot page asked in
      let u = with_frame (with_lists s l) page (Some (free_frame s)) in
      sent_marks u (reading slot page) refl refl refl refl
      (notes_stay (with_lists s l) page (record (note_of s page) { frame = Some (free_frame s) }))
      ∙ ap (λ m. map.with_pins m page (map.pins_of m page + 1))
      (frame_noted (with_lists s l) page (Some (free_frame s)) low)

-- ---- a victim's frame becomes another page's

module _ (s : State) (h : IsReached s) (w : ℕ) (r : Running) (slot page v : ℕ) (l : FourLists)
    (asked : IsAsked s w r (fixes (asked_by r) slot page)) (is : IsAnswered s page l (answer.Evict v)) where
  the_victim : IsVictim s.lists page (is_busy s) v
  the_victim = is_victim s.lists page (is_busy s) v (sound s h).bounds is.is

  pub evict_apart : v ≢ page
  evict_apart = the_victim.ne

  pub evict_low : page < map.page_count (marks s)
  evict_low = fill_low s h w r slot page l asked

  victim_has_note : v < length s.notes
  victim_has_note = cached_low s h v the_victim.was_cached

  pub victim_counted : v < map.page_count (marks s)
  victim_counted = omega (arith, victim_has_note, count_told s)

  -- The victim stands in a frame, and has no pin; nor has the page.
  pub evict_frame : map.frame_of (marks s) v ≡ Some (frame_at s v)
  evict_frame = frame_is s v ∙ some_of (frame_of s v) ((framed s h).placed v the_victim.was_cached)

  pub evict_frame_low : frame_at s v < (marks s).frames
  evict_frame_low =
      (framed s h).in_range v (frame_at s v) (some_of (frame_of s v) ((framed s h).placed v the_victim.was_cached))

  pub evict_victim_pins : map.pins_of (marks s) v ≡ 0
  evict_victim_pins =
      omega (arith, pins_told s v victim_has_note, pins_are s v, (not_busy s v the_victim.not_busy).0)

  pub evict_pins : map.pins_of (marks s) page ≡ 0
  evict_pins =
      omega (
        arith,
        pins_told s page (fixed_low s h w r slot page asked),
        missed_pins s h w r slot page l asked (answer.Evict v) (λ f. absurd (cc)) is,
      )

  -- The map in which the victim is out of its frame.
  abbrev pub cleared_map : PageMap
  cleared_map = map.with_frame (marks s) v None

  pub cleared_low : page < map.page_count cleared_map
  cleared_low = omega (arith, evict_low, edit_count (marks s) v (λ y. record y { frame = None }))

  pub cleared_pins : map.pins_of cleared_map page ≡ 0
  cleared_pins =
      ap (λ (y : PageMarks). y.pins) (edit_there (marks s) v page (λ y. record y { frame = None })
      (λ f. evict_apart (sym f)))
      ∙ evict_pins

  pub cleared_free : map.IsFree cleared_map (frame_at s v)
  cleared_free q e = go (which q v)
    where
      go : Which q v → ⊥
      go (same d f) =
          let none : map.frame_of cleared_map q ≡ None =
          ap (map.frame_of cleared_map) d
          ∙ ap (λ (y : PageMarks). y.frame) (edit_here (marks s) v (λ y. record y { frame = None }) victim_counted) in
          let no : ◌≡◌ {A = Option ℕ} None (Some (frame_at s v)) = sym none ∙ e in
          absurd (cc)
      go (other d f) =
          let was : frame_of s q ≡ Some (frame_at s v) =
          sym (frame_is s q)
          ∙ sym (ap (λ (y : PageMarks). y.frame) (edit_there (marks s) v q (λ y. record y { frame = None }) d)) ∙ e in
          d ((framed s h).no_frame_twice q v (frame_at s v) was (sym (frame_is s v) ∙ evict_frame))

  -- The map in which the page is there.
  abbrev pub moved_map : PageMap
  moved_map = map.with_frame cleared_map page (Some (frame_at s v))

  pub moved_placed : IsSome (map.frame_of moved_map page)
  moved_placed =
      subst (λ (o : Option ℕ). IsSome o)
      (sym (ap (λ (y : PageMarks). y.frame)
      (edit_here cleared_map page (λ y. record y { frame = Some (frame_at s v) }) cleared_low))) refl

  moved_marks : (g : Stage) → given_back g ≡ [] → loading g ≡ page ∷ []
      → marks (with_stage (with_frame_moved (with_lists s l) page v) w r g)
      ≡ map.with_pins moved_map page (map.pins_of moved_map page + 1)
  moved_marks g none one =
      let u = with_lists s l in
      let n1 = record (note_of u v) { frame = None } in
      let u1 = with_frame u v None in
      let n2 = record (note_of u1 page) { frame = Some (frame_at s v) } in
      let low = fixed_low s h w r slot page asked in
      let low1 : page < length u1.notes = omega (arith, low, notes_stay u v n1) in
      sent_marks s h w r slot page l asked (with_frame_moved u page v) g none one refl refl
      (notes_stay u1 page n2 ∙ notes_stay u v n1)
      ∙ ap (λ m. map.with_pins m page (map.pins_of m page + 1))
      (frame_noted u1 page (Some (frame_at s v)) low1
      ∙ ap (λ m. map.with_frame m page (Some (frame_at s v))) (frame_noted u v None victim_has_note))

  pub evict_read_marks : marks (with_stage (with_frame_moved (with_lists s l) page v) w r (reading slot page))
      ≡ map.with_pins moved_map page (map.pins_of moved_map page + 1)
  evict_read_marks = moved_marks (reading slot page) refl refl

  pub evict_write_marks : marks (with_stage (with_frame_moved (with_lists s l) page v) w r (writing slot page v))
      ≡ map.with_pins moved_map page (map.pins_of moved_map page + 1)
  evict_write_marks = moved_marks (writing slot page v) refl refl

-- ---- a page that was not read, and a victim that was not written

module _ (s : State) (h : IsReached s) (w : ℕ) (r : Running) (g : Stage) (page : ℕ) (at : IsAt s w r g)
    (one : loading g ≡ page ∷ []) (none : given_back g ≡ []) where
  some_loaded : 0 < loads_of s page
  some_loaded = omega (arith, loading_counts s h w r g at page, ap (times page) one, listed_once page)

  -- The page that was asked for is cached, in its frame, and has a pin more than latches.
  pub lost_cached : is_cached s.lists page ≡ true
  lost_cached = (sound s h).cached page (omega (arith, some_loaded))

  pub lost_low : page < map.page_count (marks s)
  lost_low = omega (arith, loading_low s h w r g at page one, count_told s)

  pub lost_frame : map.frame_of (marks s) page ≡ Some (frame_at s page)
  lost_frame = frame_is s page ∙ some_of (frame_of s page) ((framed s h).placed page lost_cached)

  pub lost_spares : map.latch_count (map.latches_of (marks s) page) < map.pins_of (marks s) page
  lost_spares = loading_spares s h w r g at page one

  -- The map without that pin.
  abbrev pub unpinned_map : PageMap
  unpinned_map = map.with_pins (marks s) page (map.pins_of (marks s) page - 1)

  unpinned_here : map.marks_of unpinned_map page
      ≡ record (map.marks_of (marks s) page) { pins = map.pins_of (marks s) page - 1 }
  unpinned_here = edit_here (marks s) page (λ y. record y { pins = map.pins_of (marks s) page - 1 }) lost_low

  pub unpinned_pins : map.pins_of unpinned_map page ≡ 0
  unpinned_pins =
      omega (
        arith,
        ap (λ (y : PageMarks). y.pins) unpinned_here,
        pins_told s page (loading_low s h w r g at page one),
        (loading_pins s h w r g at page one).0,
      )

  pub unpinned_frame : map.frame_of unpinned_map page ≡ Some (frame_at s page)
  unpinned_frame = ap (λ (y : PageMarks). y.frame) unpinned_here ∙ lost_frame

  -- The worker leaves, whatever the lists are now.
  lost_marks : (l : FourLists) → marks (with_stage (with_lists s l) w r (leaving [])) ≡ unpinned_map
  lost_marks l =
      let t = with_stage (with_lists s l) w r (leaving []) in
      let low = loading_low s h w r g at page one in
      let d = totals.lost_totals s t w r (good s h) g none at refl in
      let c = counted s t [] [] (loading g) [] (sent_in g) [] page d in
      let readers : readers_of t page ≡ readers_of s page = omega (arith, c.readers) in
      let writers : writers_of t page ≡ writers_of s page = omega (arith, c.writers) in
      seat_pins s t page (map.pins_of (marks s) page - 1) (record { settings = refl; notes = refl }) low
      (λ q ne. same_counts s t [] [] (loading g) [] (sent_in g) [] q d refl refl
      (ap (times q) one ∙ listed_other page q (λ f. ne (sym f))))
      (omega (arith, c.pins, ap (times page) one, listed_once page, pins_told s page low))
      (λ i. latches_at (readers i) (writers i))

  -- The map in which the page is out of its frame.
  abbrev pub emptied_map : PageMap
  emptied_map = map.with_frame unpinned_map page None

  emptied_marks : (l : FourLists)
      → marks (with_stage (with_frame (with_lists s l) page None) w r (leaving [])) ≡ emptied_map
  emptied_marks l =
      frame_noted (with_stage (with_lists s l) w r (leaving [])) page None (loading_low s h w r g at page one)
      ∙ ap (λ m. map.with_frame m page None) (lost_marks l)

module _ (s : State) (h : IsReached s) (w : ℕ) (r : Running) (slot page : ℕ) where
  pub forget_cached : IsAt s w r (reading slot page) → is_cached s.lists page ≡ true
  forget_cached at = lost_cached s h w r (reading slot page) page at refl refl

  pub forget_spares : IsAt s w r (reading slot page)
      → map.latch_count (map.latches_of (marks s) page) < map.pins_of (marks s) page
  forget_spares at = lost_spares s h w r (reading slot page) page at refl refl

  pub forget_pins : IsAt s w r (reading slot page)
      → map.pins_of (map.with_pins (marks s) page (map.pins_of (marks s) page - 1)) page ≡ 0
  forget_pins at = unpinned_pins s h w r (reading slot page) page at refl refl

  pub forget_marks : IsAt s w r (reading slot page)
      → marks (with_stage (with_frame (with_lists s (forget s.lists page)) page None) w r (leaving []))
      ≡ map.with_frame (map.with_pins (marks s) page (map.pins_of (marks s) page - 1)) page None
  forget_marks at = emptied_marks s h w r (reading slot page) page at refl refl (forget s.lists page)

module _ (s : State) (h : IsReached s) (w : ℕ) (r : Running) (slot page v : ℕ) (at : IsAt s w r (writing slot page v))
  where
    some_sent : 0 < victims_of s v
    some_sent = omega (arith, sent_counts s h w r (writing slot page v) at v, listed_once v)

    -- What ARC asks before it brings a victim back.
    pub bring_cached : is_cached s.lists page ≡ true
    bring_cached = lost_cached s h w r (writing slot page v) page at refl refl

    pub bring_away : is_cached s.lists v ≡ false
    bring_away = ((sound s h).away v some_sent).0

    pub bring_low : v < s.lists.pages
    bring_low = ((sound s h).away v some_sent).1

    bring_apart : v ≢ page
    bring_apart e =
        let no : is_cached s.lists v ≡ true = ap (is_cached s.lists) e ∙ bring_cached in
        false≢true (sym bring_away ∙ no)

    -- The page is in the victim's old frame, and has a pin more than latches.
    pub bring_frame : map.frame_of (marks s) page ≡ Some (frame_at s page)
    bring_frame = lost_frame s h w r (writing slot page v) page at refl refl

    pub bring_frame_low : frame_at s page < (marks s).frames
    bring_frame_low = (framed s h).in_range page (frame_at s page) (sym (frame_is s page) ∙ bring_frame)

    pub bring_spares : map.latch_count (map.latches_of (marks s) page) < map.pins_of (marks s) page
    bring_spares = lost_spares s h w r (writing slot page v) page at refl refl

    -- The map without that pin, and the one in which the page is out of its frame.
    abbrev pub bring_unpinned : PageMap
    bring_unpinned = map.with_pins (marks s) page (map.pins_of (marks s) page - 1)

    pub bring_unpinned_pins : map.pins_of bring_unpinned page ≡ 0
    bring_unpinned_pins = unpinned_pins s h w r (writing slot page v) page at refl refl

    pub bring_unpinned_frame : map.frame_of bring_unpinned page ≡ Some (frame_at s page)
    bring_unpinned_frame = unpinned_frame s h w r (writing slot page v) page at refl refl

    abbrev pub bring_emptied : PageMap
    bring_emptied = map.with_frame bring_unpinned page None

    -- The victim has no pin there, and its old frame is free.
    pub bring_victim_pins : map.pins_of bring_emptied v ≡ 0
    bring_victim_pins =
        let vlow = victim_low s h v some_sent in
        omega (
          arith,
          pins_told s v vlow,
          pins_are s v,
          uncached_free s v (sound s h) bring_away,
          ap (λ (y : PageMarks). y.pins)
              (edit_there bring_unpinned page v (λ y. record y { frame = None }) bring_apart),
          ap (λ (y : PageMarks). y.pins)
              (edit_there (marks s) page v (λ y. record y { pins = map.pins_of (marks s) page - 1 }) bring_apart),
        )

    unpinned_count : map.page_count bring_unpinned ≡ length s.notes
    unpinned_count =
        edit_count (marks s) page (λ y. record y { pins = map.pins_of (marks s) page - 1 }) ∙ count_told s

    pub bring_victim_low : v < map.page_count bring_emptied
    bring_victim_low =
        omega (
          arith,
          victim_low s h v some_sent,
          unpinned_count,
          edit_count bring_unpinned page (λ y. record y { frame = None }),
        )

    pub bring_free : map.IsFree bring_emptied (frame_at s page)
    bring_free q e = go (which q page)
      where
        go : Which q page → ⊥
        go (same d f) =
            let low : page < map.page_count bring_unpinned =
            omega (arith, loading_low s h w r (writing slot page v) at page refl, unpinned_count) in
            let none : map.frame_of bring_emptied q ≡ None =
            ap (map.frame_of bring_emptied) d
            ∙ ap (λ (y : PageMarks). y.frame) (edit_here bring_unpinned page (λ y. record y { frame = None }) low) in
            let no : ◌≡◌ {A = Option ℕ} None (Some (frame_at s page)) = sym none ∙ e in
            absurd (cc)
        go (other d f) =
            let was : frame_of s q ≡ Some (frame_at s page) =
            sym (frame_is s q)
            ∙ sym (ap (λ (y : PageMarks). y.frame)
            (edit_there (marks s) page q (λ y. record y { pins = map.pins_of (marks s) page - 1 }) d))
            ∙ sym (ap (λ (y : PageMarks). y.frame)
            (edit_there bring_unpinned page q (λ y. record y { frame = None }) d))
            ∙ e in
            d ((framed s h).no_frame_twice q page (frame_at s page) was (sym (frame_is s page) ∙ bring_frame))

    -- Then it is there again.
    pub bring_marks : marks (with_stage (brought_back s page v) w r (leaving []))
        ≡ map.with_frame bring_emptied v (Some (frame_at s page))
    bring_marks =
        let l = bring_back s.lists page v in
        let u = with_stage (with_frame (with_lists s l) page None) w r (leaving []) in
        let vlow : v < length u.notes =
        omega (arith, victim_low s h v some_sent, notes_stay s page (record (note_of s page) { frame = None })) in
        frame_noted u v (frame_of s page) vlow
        ∙ ap (λ x. map.with_frame (marks u) v x) (sym (frame_is s page) ∙ bring_frame)
        ∙ ap (λ m. map.with_frame m v (Some (frame_at s page)))
        (emptied_marks s h w r (writing slot page v) page at refl refl l)
