-- The latches of a page are all S or a single X, and no worker asks a latch against the order of the classes.
use Rattle.std.proofs.Common.{◌≡◌, ◌∙◌, ◌⊎◌, ℕ, ◌+◌, ◌≤◌, Bool, true, false, eqb, cond, Some}
use Rattle.std.proofs.Common.{List, [], ◌∷◌, ◌++◌, refl, sym, ap, subst, inl, inr, arith}
use Rattle.std.specs.Prelude.{slice_set, sum_by, nat_lt, unwrap_or, option_map}
use Rattle.std.proofs.lemmas.Bool.Decides.{nat_tests}
use Rattle.std.proofs.lemmas.List.Sums.{sum_by-cons}
use Rattle.pp_plan.specs.declared.mode.Mode.{Mode}
use Rattle.pp_plan.specs.declared.mode.Mode.TheVariants as mode
use Rattle.pp_plan.specs.declared.action.Action.TheVariants as action
use Rattle.pp_cert.specs.declared.note.Held.{Held}
use Rattle.pp_cert.specs.declared.note.Held.TheVariants.{Free, S, X}
use Rattle.pp_cert.specs.Held.{Holding, Holdings, held_in as held_for, IsAboveLatched}
use Rattle.pp_frames.specs.declared.mode.Mode.TheVariants as latch_mode
use Rattle.pp_frames.specs.Marks.{Shared, Exclusive, is_compatible}
use Rattle.pp_model.specs.Pool.{acting, writing, reading, leaving, State}
use Rattle.pp_model.specs.Holders.{given_back, holdings, page_in, held_in, is_shared, is_exclusive}
use Rattle.pp_model.specs.Holders.{readers_of, writers_of}
use Rattle.pp_model.specs.Outcome.{at_stage, having_done}
use Rattle.pp_model.specs.Using.{goes_with}
use Rattle.pp_model.specs.Reached.{IsReached}
use Rattle.pp_model.specs.Laws.{InOrder, LatchesAgree}
use Rattle.pp_model.specs.Moves.{asked_by}
use Rattle.pp_model.proofs.Changes as change
use Rattle.pp_model.proofs.Changes.{Change}
use Rattle.pp_model.proofs.Reaching.{IsKeptUnder, both, holds}
use Rattle.pp_model.proofs.Seats.{IsSeat, begins_more, good, GoodSeats, good_kept}
use Rattle.pp_model.proofs.Swaps.{as_held, new_page}
use Rattle.pp_model.proofs.Requests.{Which, same, other, which}
use Rattle.pp_model.proofs.Effects.{all_held, has_held}
use Rattle.pp_model.proofs.Totals.{weight, latched_on, readers_are, writers_are, Totals, no_totals}
use Rattle.pp_model.proofs.ChangeTotals as totals
use Rattle.pp_model.proofs.Soundness.{idle_weight}

-- ---- against the order

pub in_order : (s : State) → IsReached s → InOrder s
in_order s h w slot m r act asks =
    let g = s.settings.layout in
    let seat : IsSeat g r = (good s h).seats w (Some r) act.seat in
    let before = has_held g r seat in
    let a = action.Latch slot m in
    let above = seat.accepted.orderly (r.done ++ a ∷ [])
    (begins_more r a asks) r.done [] slot m refl before.0 before.1 in
    subst (λ l. IsAboveLatched l (holdings r) slot) (sym seat.layout)
    (subst (λ hs. IsAboveLatched r.accepted.plan.layout hs slot)
    (sym (all_held r before.0 (ap given_back act.stage) before.1)) above)

-- ---- all S, or a single X

-- In counts of readers and of writers: none writes, or one writes and none reads.
abbrev Agree : (readers writers : ℕ) → Type 0
Agree readers writers = (writers ≡ 0) ⊎ ((writers ≡ 1) × (readers ≡ 0))

abbrev Agrees : State → Type 0
Agrees s = (q : ℕ) → Agree (weight s (latched_on is_shared q)) (weight s (latched_on is_exclusive q))

fewer : (r w r' w' : ℕ) → Agree r w → r' ≤ r → w' ≤ w → Agree r' w'
fewer r w r' w' (inl e) le le' = inl (omega (arith, e, le'))
fewer r w r' w' (inr e) le le' = go (nat_lt 0 w') refl
  where
    go : (b : Bool) → nat_lt 0 w' ≡ b → Agree r' w'
    go true f = inr (grind (arith, nat_tests), omega (arith, e.1, le))
    go false f = inl (grind (arith, nat_tests))

-- No latch comes in.
released_agrees : (s t : State) (out into : Holdings) (lo li vo vi : List ℕ) → Totals s t out into lo li vo vi
    → ((q : ℕ) → sum_by (latched_on is_shared q) into ≡ 0) → ((q : ℕ) → sum_by (latched_on is_exclusive q) into ≡ 0)
    → Agrees s → Agrees t
released_agrees s t out into lo li vo vi d shared exclusive h q =
    fewer _ _ _ _ (h q) (omega (arith, d.holds (latched_on is_shared q), shared q))
    (omega (arith, d.holds (latched_on is_exclusive q), exclusive q))

alone : (f : Holding → ℕ) (x : Holding) → sum_by f (x ∷ []) ≡ f x
alone f x = omega (arith, sum_by-cons f x [])

free_one : (is : Held → Bool) (q : ℕ) (h : Holding) → is Free ≡ false
    → sum_by (latched_on is q) (as_held Free h ∷ []) ≡ 0
free_one is q h e = alone (latched_on is q) (as_held Free h) ∙ ap {B = ℕ} (λ b. cond b (cond (eqb h.page q) 1 0) 0) e

-- The readers and writers that a latch finds, by the test that it passed.
pub no_writer : (readers writers : ℕ) (b : Bool) → nat_lt 0 writers ≡ b
    → is_compatible latch_mode.S (cond b Exclusive (Shared readers)) ≡ true → writers ≡ 0
no_writer readers writers true e f = cc
no_writer readers writers false e f = grind (arith, nat_tests)

pub nobody : (readers writers : ℕ) (b : Bool) → nat_lt 0 writers ≡ b
    → is_compatible latch_mode.X (cond b Exclusive (Shared readers)) ≡ true → (writers ≡ 0) × (readers ≡ 0)
nobody readers writers true e f = cc
nobody readers writers false e f = (grind (arith, nat_tests), grind (arith, nat_tests))

-- A latch that goes with those that stand comes in.
module _ (s t : State) (h : Holding) (free : h.held ≡ Free) where
  unlatched_before : (is : Held → Bool) (q : ℕ) → is Free ≡ false → sum_by (latched_on is q) (h ∷ []) ≡ 0
  unlatched_before is q e =
      alone (latched_on is q) h
      ∙ ap {B = ℕ} (λ x. cond (is x) (cond (eqb h.page q) 1 0) 0) free
      ∙ ap {B = ℕ} (λ b. cond b (cond (eqb h.page q) 1 0) 0) e

  latched_agrees : (m : Mode) → goes_with s m h.page ≡ true
      → Totals s t (h ∷ []) (as_held (held_for m) h ∷ []) [] [] [] [] → Agrees s → Agrees t
  latched_agrees mode.S goes d all q =
      let r = d.holds (latched_on is_shared q) in
      let w = d.holds (latched_on is_exclusive q) in
      let rb = unlatched_before is_shared q refl in
      let wb = unlatched_before is_exclusive q refl in
      let ra = alone (latched_on is_shared q) (as_held S h) in
      let wa = alone (latched_on is_exclusive q) (as_held S h) in
      go (which h.page q) r w rb wb ra wa
    where
      go : Which h.page q
          → weight t (latched_on is_shared q) + sum_by (latched_on is_shared q) (h ∷ []) ≡ weight s
          (latched_on is_shared q) + sum_by (latched_on is_shared q) (as_held S h ∷ [])
          → weight t (latched_on is_exclusive q) + sum_by (latched_on is_exclusive q) (h ∷ []) ≡ weight s
          (latched_on is_exclusive q) + sum_by (latched_on is_exclusive q) (as_held S h ∷ [])
          → sum_by (latched_on is_shared q) (h ∷ []) ≡ 0 → sum_by (latched_on is_exclusive q) (h ∷ []) ≡ 0
          → sum_by (latched_on is_shared q) (as_held S h ∷ []) ≡ cond (eqb h.page q) 1 0
          → sum_by (latched_on is_exclusive q) (as_held S h ∷ []) ≡ 0
          → Agree (weight t (latched_on is_shared q)) (weight t (latched_on is_exclusive q))
      go (same e f) r w rb wb ra wa =
          let none = no_writer (readers_of s h.page) (writers_of s h.page) (nat_lt 0 (writers_of s h.page)) refl goes in
          let here : writers_of s q ≡ 0 = subst (λ p. writers_of s p ≡ 0) e none in
          inl (omega (arith, here, writers_are s q, w, wb, wa))
      go (other e f) r w rb wb ra wa =
          fewer (weight s (latched_on is_shared q)) (weight s (latched_on is_exclusive q))
          (weight t (latched_on is_shared q)) (weight t (latched_on is_exclusive q))
          (all q) (omega (arith, r, rb, ra, f)) (omega (arith, w, wb, wa))
  latched_agrees mode.X goes d all q =
      let r = d.holds (latched_on is_shared q) in
      let w = d.holds (latched_on is_exclusive q) in
      let rb = unlatched_before is_shared q refl in
      let wb = unlatched_before is_exclusive q refl in
      let ra = alone (latched_on is_shared q) (as_held X h) in
      let wa = alone (latched_on is_exclusive q) (as_held X h) in
      go (which h.page q) r w rb wb ra wa
    where
      go : Which h.page q
          → weight t (latched_on is_shared q) + sum_by (latched_on is_shared q) (h ∷ []) ≡ weight s
          (latched_on is_shared q) + sum_by (latched_on is_shared q) (as_held X h ∷ [])
          → weight t (latched_on is_exclusive q) + sum_by (latched_on is_exclusive q) (h ∷ []) ≡ weight s
          (latched_on is_exclusive q) + sum_by (latched_on is_exclusive q) (as_held X h ∷ [])
          → sum_by (latched_on is_shared q) (h ∷ []) ≡ 0 → sum_by (latched_on is_exclusive q) (h ∷ []) ≡ 0
          → sum_by (latched_on is_shared q) (as_held X h ∷ []) ≡ 0
          → sum_by (latched_on is_exclusive q) (as_held X h ∷ []) ≡ cond (eqb h.page q) 1 0
          → Agree (weight t (latched_on is_shared q)) (weight t (latched_on is_exclusive q))
      go (same e f) r w rb wb ra wa =
          let none = nobody (readers_of s h.page) (writers_of s h.page) (nat_lt 0 (writers_of s h.page)) refl goes in
          let writers : writers_of s q ≡ 0 = subst (λ p. writers_of s p ≡ 0) e none.0 in
          let readers : readers_of s q ≡ 0 = subst (λ p. readers_of s p ≡ 0) e none.1 in
          inr (
            omega (arith, writers, writers_are s q, w, wb, wa, f),
            omega
                (arith, readers, readers_are s q, r, rb, ra),
          )
      go (other e f) r w rb wb ra wa =
          fewer (weight s (latched_on is_shared q)) (weight s (latched_on is_exclusive q))
          (weight t (latched_on is_shared q)) (weight t (latched_on is_exclusive q))
          (all q) (omega (arith, r, rb, ra)) (omega (arith, w, wb, wa, f))

-- A fix comes in unlatched, and an unlatch takes the latch away.
into_free : (s t : State) (out : Holdings) (x : Holding) (lo li vo vi : List ℕ)
    → Totals s t out (as_held Free x ∷ []) lo li vo vi
    → Agrees s → Agrees t
into_free s t out x lo li vo vi d h =
    released_agrees s t out (as_held Free x ∷ []) lo li vo vi d (λ q. free_one is_shared q x refl)
    (λ q. free_one is_exclusive q x refl) h

out_alone : (s t : State) (out : Holdings) (lo li vo vi : List ℕ) → Totals s t out [] lo li vo vi → Agrees s → Agrees t
out_alone s t out lo li vo vi d h = released_agrees s t out [] lo li vo vi d (λ q. refl) (λ q. refl) h

moves : (s t : State) → Change s t → GoodSeats s → Agrees s → Agrees t
moves s t (change.stays e) good h = subst Agrees (sym e) h
moves s t (change.takes w a idle next fits e) good h =
    out_alone s t [] [] [] [] [] (totals.taken_totals s t w a idle (ap (λ x. x.seats) e)) h
moves s t (change.hits w r slot page l asked is e) good h =
    into_free s t [] (new_page (asked_by r) slot page) [] [] [] []
    (totals.hit_totals s t w r good slot page asked (ap (λ x. x.seats) e)) h
moves s t (change.fills w r slot page l asked is e) good h =
    out_alone s t [] [] (page ∷ []) [] [] (totals.sent_totals s t w r good (reading slot page) refl asked.at
    (ap (λ x. x.seats) e)) h
moves s t (change.evicts w r slot page v l asked is clean e) good h =
    out_alone s t [] [] (page ∷ []) [] [] (totals.sent_totals s t w r good (reading slot page) refl asked.at
    (ap (λ x. x.seats) e)) h
moves s t (change.sends w r slot page v l asked is dirty e) good h =
    out_alone s t [] [] (page ∷ []) [] (v ∷ [])
    (totals.sent_totals s t w r good (writing slot page v) refl asked.at (ap (λ x. x.seats) e)) h
moves s t (change.writes w r slot page v at e) good h =
    out_alone s t [] [] [] (v ∷ []) [] (totals.written_totals s t w r good slot page v at (ap (λ x. x.seats) e)) h
moves s t (change.brings w r slot page v at e) good h =
    out_alone s t [] (page ∷ []) [] (v ∷ []) []
    (totals.lost_totals s t w r good (writing slot page v) refl at (ap (λ x. x.seats) e)) h
moves s t (change.forgets w r slot page at e) good h =
    out_alone s t [] (page ∷ []) [] [] [] (totals.lost_totals s t w r good (reading slot page) refl at
    (ap (λ x. x.seats) e)) h
moves s t (change.loads w r slot page stamp at known e) good h =
    into_free s t [] (new_page (asked_by r) slot page) (page ∷ []) [] [] []
    (totals.loaded_totals s t w r good slot page at (ap (λ x. x.seats) e)) h
moves s t (change.unfixes w r slot a back asked e) good h =
    let d = totals.unfix_totals s t w r good slot a back asked (ap (λ x. x.seats) e) in
    out_alone s t d.0 [] [] [] [] d.2 h
moves s t (change.latches w r slot m asked goes e) good h =
    let does = totals.asked_does s t w r good (action.Latch slot m) asked in
    let page : page_in r slot ≡ does.0.page = ap (λ o. unwrap_or (option_map (λ k. k.page) o) 0) does.1 in
    latched_agrees s t does.0 does.2 m (subst (λ p. goes_with s m p ≡ true) page goes)
    (totals.latch_totals s t w r good slot m asked (ap (λ x. x.seats) e)) h
moves s t (change.unlatches w r slot asked e) good h =
    let does = totals.asked_does s t w r good (action.Unlatch slot) asked in
    let seats = ap (λ x. x.seats) e ∙ ap (λ x. slice_set x w (Some (having_done r (action.Unlatch slot))))
    (totals.released_seats s (held_in r slot) (page_in r slot)) in
    into_free s t (does.0 ∷ []) does.0 [] [] [] [] (totals.unlatch_totals s t w r good slot asked seats) h
moves s t (change.chooses w r i asked e) good h =
    out_alone s t [] [] [] [] [] (totals.choose_totals s t w r good i asked (ap (λ x. x.seats) e)) h
moves s t (change.unwinds w r slot given k at found e) good h =
    let seats = ap (λ x. x.seats) e ∙ ap (λ x. slice_set x w (Some (at_stage r (leaving (slot ∷ given)))))
    (totals.released_seats s k.held k.page) in
    out_alone s t _ [] [] [] [] (totals.unwound_totals s t w r good slot given at seats) h
moves s t (change.ends w r at asked e) good h =
    out_alone s t (holdings r) [] [] [] [] (totals.idle_totals s t w r good acting refl refl at (ap (λ x. x.seats) e)) h
moves s t (change.leaves w r given at none e) good h =
    out_alone s t (holdings r) [] [] [] [] (totals.idle_totals s t w r good (leaving given) refl refl at
    (ap (λ x. x.seats) e)) h
moves s t (change.flushes page can e) good h = out_alone s t [] [] [] [] [] (no_totals s t (ap (λ x. x.seats) e)) h
moves s t (change.cleans f is e) good h = out_alone s t [] [] [] [] [] (no_totals s t (ap (λ x. x.seats) e)) h
moves s t (change.drops f is e) good h = out_alone s t [] [] [] [] [] (no_totals s t (ap (λ x. x.seats) e)) h

agrees_under : IsKeptUnder GoodSeats Agrees
agrees_under = record {
  opens = λ k ok q. inl (idle_weight (latched_on is_exclusive q) k.workers);
  moves = moves;
  submits = λ s a ok e good h. h;
  renews = λ s ok e good h. h;
}

told : (r w r' w' : ℕ) → r' ≡ r → w' ≡ w → Agree r w → Agree r' w'
told r w r' w' e f (inl h) = inl (f ∙ h)
told r w r' w' e f (inr h) = inr (f ∙ h.0, e ∙ h.1)

pub latches_agree : (s : State) → IsReached s → LatchesAgree s
latches_agree s h q =
    let all = (holds (λ x. GoodSeats x × Agrees x) s (both GoodSeats Agrees good_kept agrees_under) h).1 q in
    told (weight s (latched_on is_shared q)) (weight s (latched_on is_exclusive q)) (readers_of s q) (writers_of s q)
    (readers_are s q) (writers_are s q) all
