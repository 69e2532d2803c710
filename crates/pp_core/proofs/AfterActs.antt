-- What a worker has after what it does without the device: an unfix, a latch, an unlatch, a choice, the giving back of
-- a slot, and the end of its plan.
use Rattle.std.proofs.Common.{◌≡◌, ◌∙◌, ◌<◌, ℕ, Bool, true, false, Option, Some, None, List, [], ◌∷◌}
use Rattle.std.proofs.Common.{refl, sym, ap, subst, arith}
use Rattle.std.specs.Prelude.{slice_index_or}
use Rattle.pp_plan.specs.declared.mode.Mode.{Mode}
use Rattle.pp_plan.specs.declared.action.Action.{Action}
use Rattle.pp_plan.specs.declared.action.Action.TheVariants as action
use Rattle.pp_plan.specs.declared.action.Ask.{Ask}
use Rattle.pp_plan.specs.declared.action.Ask.TheVariants as ask
use Rattle.pp_cert.specs.declared.note.Held.{Held}
use Rattle.pp_cert.specs.declared.note.Held.TheVariants.{Free, S, X}
use Rattle.pp_cert.specs.Held.{Holding, holding_at, held_in as held_for}
use Rattle.pp_model.specs.declared.reply.Ending.{Ending}
use Rattle.pp_model.specs.declared.reply.Ending.TheVariants as ending
use Rattle.pp_model.specs.declared.reply.Reply.TheVariants as reply
use Rattle.pp_model.specs.Pool.{leaving, Running, State, untouched, known_mark, mark_at}
use Rattle.pp_model.specs.Holders.{given_back, holdings, page_in, held_in}
use Rattle.pp_model.specs.Outcome.{Outcome, at_stage, having_done, did, released}
use Rattle.pp_model.specs.Using.{latch_where, unlatched, unlatch_asked}
use Rattle.pp_model.specs.Leaving.{unwound, unwind_where, ended}
use Rattle.pp_model.specs.Moves.{seat_of, is_refusal}
use Rattle.pp_model.specs.Reached.{IsReached}
use Rattle.pp_model.proofs.Changes.{IsAt, IsAsked}
use Rattle.pp_model.proofs.Framed.{some_of, held_one, taken_low}
use Rattle.pp_model.proofs.HoldingSteps as slots
use Rattle.pp_model.proofs.KeptSlots.{filled_at}
use Rattle.pp_model.proofs.KnownMarks.{held_is_known}
use Rattle.pp_model.proofs.Swaps.{as_held}
use Rattle.pp_core.specs.Queries.{ask_of, own_of, held_of, held_by, gathered_of, idle_by}
use Rattle.pp_core.specs.AfterMoves.{HasUnfixed, UnfixEmpties, HasScattered, ScatterEmpties, NowHeld, HasLatched, LatchHolds}
use Rattle.pp_core.specs.AfterMoves.{UnlatchFrees, HasUnwoundBundle, UnwindScatters}
use Rattle.pp_core.specs.AfterMoves.{HasChosen, ChooseActs, IsUnwindReply, HasUnwound, UnwindEmpties, EndsBy, HasFinished}
use Rattle.pp_core.specs.AfterMoves.{FinishIdles}
use Rattle.pp_core.proofs.MoveWays.{IsAsking, named, of_unfix, of_latch, of_unlatch, of_choose, of_unwind}
use Rattle.pp_core.proofs.MoveWays.{of_finish}
use Rattle.pp_core.proofs.Crew.{set_at}
use Rattle.pp_core.proofs.AfterSeats.{asked_at, acts_at, leaving_at, held_at, held_found, bundle_at, bundle_by, some_same}
use Rattle.pp_core.proofs.AfterSeats.{one_slot, same_slots, bundle_slots, same_bundles, bundle_here, other_bundles, own_is, own_unless}
use Rattle.pp_core.proofs.AfterSeats.{released_known, released_seat, same_page}
use Rattle.pp_core.proofs.AfterFixes.{Told, no_refusal}
use Rattle.pp_core.proofs.Gathered.{Gathered, asks_gathers, nothing_held, unwound_own, unwound_bundle}
use Rattle.pp_core.proofs.SlotKinds.{lone, gathered_bundle, bundle_free, scatter_some}

-- ---- equal parts of equal asks and replies

same_unfix : (a b : ℕ) → ◌≡◌ {A = Option Ask} (Some (ask.Unfix a)) (Some (ask.Unfix b)) → a ≡ b
same_unfix a b e = cc

same_scatter : (a b : ℕ) → ◌≡◌ {A = Option Ask} (Some (ask.Scatter a)) (Some (ask.Scatter b)) → a ≡ b
same_scatter a b e = cc

same_latch : (a b : ℕ) (m n : Mode) → ◌≡◌ {A = Option Ask} (Some (ask.Latch a m)) (Some (ask.Latch b n))
    → (a ≡ b) × (m ≡ n)
same_latch a b m n e = (cc, cc)

same_unlatch : (a b : ℕ) → ◌≡◌ {A = Option Ask} (Some (ask.Unlatch a)) (Some (ask.Unlatch b)) → a ≡ b
same_unlatch a b e = cc

same_latched : (a b : ℕ) → reply.Latched a ≡ reply.Latched b → a ≡ b
same_latched a b e = cc

same_unlatched : (a b : ℕ) → reply.Unlatched a ≡ reply.Unlatched b → a ≡ b
same_unlatched a b e = cc

same_ending : (a b : Ending) → reply.Finished a ≡ reply.Finished b → a ≡ b
same_ending a b e = cc

-- ---- pages that slots hold

module _ (s : State) (h : IsReached s) (w : ℕ) (r : Running) (slot : ℕ) (x : Holding)
    (seat : seat_of s w ≡ Some (Some r)) (found : holding_at (holdings r) slot ≡ Some x) where
  -- A page that a slot holds has a known mark, before and after a latch goes off it.
  pub held_known : known_mark s x.page ≡ Some (mark_at s x.page)
  held_known = some_of (known_mark s x.page) (held_is_known s h x.page (held_one s w r slot x seat found))

  freed_known : (k : Held) → known_mark (released s k x.page) x.page ≡ Some (mark_at (released s k x.page) x.page)
  freed_known k =
      let on = held_one s w r slot x seat found in
      some_of (known_mark (released s k x.page) x.page)
      (released_known s k x.page (taken_low s h x.page (omega (arith, on))) (held_is_known s h x.page on))

  -- A page that is told is the slot's own.
  told_plain : (page : ℕ) (how : Held) → held_of s w slot ≡ Some (page, how) → x.bundled ≡ false
  told_plain page how told = go x.bundled refl (sym (held_at s w r slot seat ∙ ap own_of found) ∙ told)
    where
      go : (b : Bool) → x.bundled ≡ b → own_unless b x ≡ Some (page, how) → x.bundled ≡ false
      go true is so = cc
      go false is so = is

  -- It is the page that is told.
  told_page : (page : ℕ) (how : Held) → held_of s w slot ≡ Some (page, how) → x.page ≡ page
  told_page page how told =
      same_page x.page page x.held how (sym (held_found s w r slot x seat found (told_plain page how told)) ∙ told)

module _ (s : State) (h : IsReached s) where
  -- What an action that is asked does to bundles.
  asked_gathers : (w : ℕ) (r : Running) (a : Action) → IsAsked s w r a → Gathered r (having_done r a) a
  asked_gathers w r a asked =
      asks_gathers s h w r a asked.at.seat (ap given_back asked.at.stage) (slots.asks_it s h w r a asked)

  -- ---- Unfix

  pub unfix_empties : UnfixEmpties s
  unfix_empties w slot =
      of_unfix s (Told reply.Did (λ t. ask_of s w ≡ Some (ask.Unfix slot) → HasUnfixed s t w slot))
      (no_refusal s _ _ (λ d e. cc) (λ c e. cc)) w
      (λ r k asking e told.
      let y = having_done r (action.Unfix k) in
      let t = did s w r (action.Unfix k) in
      let before = asking.at.seat in
      let after : seat_of t w ≡ Some (Some y) = set_at s.seats w (Some r) (Some y) before in
      let asked = named s w r (ask.Unfix k) (action.Unfix k) asking refl in
      let one = one_slot s t w r y before after k None
      (filled_at k [] (holdings r) (holdings y) (slots.unfix_holds s h w r k asked)) in
      let acts = acts_at t w y (record { seat = after; stage = refl }) in
      let same = same_unfix k slot (sym (asked_at s w r (ask.Unfix k) asking) ∙ told) in
      let so : HasUnfixed s t w k = record {
        empty = one.here;
        acts = acts;
        others = one.others;
        bundles = same_bundles s t w r y before after (asked_gathers w r (action.Unfix k) asked);
      } in
      subst (λ n. HasUnfixed s t w n) same so)
      (λ r k asking e told.
      let differ : ask.Scatter k ≡ ask.Unfix slot =
      some_same (ask.Scatter k) (ask.Unfix slot) (sym (asked_at s w r (ask.Scatter k) asking) ∙ told) in
      absurd (cc))

  pub scatter_empties : ScatterEmpties s
  scatter_empties w slot =
      of_unfix s (Told reply.Did (λ t. ask_of s w ≡ Some (ask.Scatter slot) → HasScattered s t w slot))
      (no_refusal s _ _ (λ d e. cc) (λ c e. cc)) w
      (λ r k asking e told.
      let differ : ask.Unfix k ≡ ask.Scatter slot =
      some_same (ask.Unfix k) (ask.Scatter slot) (sym (asked_at s w r (ask.Unfix k) asking) ∙ told) in
      absurd (cc))
      (λ r k asking e told.
      let y = having_done r (action.Scatter k) in
      let t = did s w r (action.Scatter k) in
      let before = asking.at.seat in
      let after : seat_of t w ≡ Some (Some y) = set_at s.seats w (Some r) (Some y) before in
      let asked = named s w r (ask.Scatter k) (action.Scatter k) asking refl in
      let found = slots.scatter_finds s h w r k asked in
      let goes = asked_gathers w r (action.Scatter k) asked in
      let same = same_scatter k slot (sym (asked_at s w r (ask.Scatter k) asking) ∙ told) in
      let so : HasScattered s t w k = record {
        some = scatter_some s w r k before found.0 found.1;
        none = bundle_here s t w r y before after k [] goes;
        acts = acts_at t w y (record { seat = after; stage = refl });
        slots = bundle_slots s t w r y before after k [] found.1 tt (slots.scatter_holds s h w r k asked);
        others = other_bundles s t w r y before after k [] goes;
      } in
      subst (λ n. HasScattered s t w n) same so)

  -- ---- Latch

  module _ (w slot page mark : ℕ) (mode : Mode) where
    latches : (r : Running) (k : ℕ) (m : Mode) → IsAsking s w r (ask.Latch k m)
        → Told (reply.Latched mark)
        (λ t. ask_of s w ≡ Some (ask.Latch slot mode) → held_of s w slot ≡ Some (page, Free)
        → HasLatched s t w slot page mark mode) (latch_where s w r k m true)
    latches r k m asking e told holds =
        let y = having_done r (action.Latch k m) in
        let t = did s w r (action.Latch k m) in
        let before = asking.at.seat in
        let after : seat_of t w ≡ Some (Some y) = set_at s.seats w (Some r) (Some y) before in
        let asked = named s w r (ask.Latch k m) (action.Latch k m) asking (refl, refl) in
        let x = slots.latch_finds s h w r k m asked in
        let one = one_slot s t w r y before after k _ (slots.latch_holds s h w r k m asked x.0 x.1.found) in
        let same = same_latch k slot m mode (sym (asked_at s w r (ask.Latch k m) asking) ∙ told) in
        let holds_k : held_of s w k ≡ Some (page, Free) = ap (held_of s w) same.0 ∙ holds in
        let p : x.0.page ≡ page = told_page s h w r k x.0 before x.1.found page Free holds_k in
        let is : mark_at s x.0.page ≡ mark =
        ap (mark_at s) (sym x.1.page_is) ∙ same_latched (mark_at s (page_in r k)) mark e in
        let known : known_mark s x.0.page ≡ Some mark =
        held_known s h w r k x.0 before x.1.found ∙ ap Some is in
        let plain = told_plain s h w r k x.0 before x.1.found page Free holds_k in
        let now : NowHeld s t w k x.0.page mark (held_for m) = record {
          held = one.here ∙ own_is (as_held (held_for m) x.0) plain;
          known = known;
          acts = acts_at t w y (record { seat = after; stage = refl });
          others = one.others;
          bundles = same_bundles s t w r y before after (asked_gathers w r (action.Latch k m) asked);
        } in
        let so : HasLatched s t w k x.0.page mark m = record { now = now; known = known } in
        subst (λ n. HasLatched s t w n page mark mode) same.0
        (subst (λ n. HasLatched s t w k n mark mode) p (subst (λ n. HasLatched s t w k x.0.page mark n) same.1 so))

  pub latch_holds : LatchHolds s
  latch_holds w slot page mark mode =
      of_latch s
      (Told (reply.Latched mark)
      (λ t. ask_of s w ≡ Some (ask.Latch slot mode) → held_of s w slot ≡ Some (page, Free)
      → HasLatched s t w slot page mark mode))
      (no_refusal s _ _ (λ d e. cc) (λ c e. cc)) w (λ r k m asking. latches w slot page mark mode r k m asking)

  -- ---- Unlatch

  module _ (w slot page mark : ℕ) (how : Held) where
    unlatches : (r : Running) (k : ℕ) → IsAsking s w r (ask.Unlatch k)
        → Told (reply.Unlatched mark)
        (λ t. ask_of s w ≡ Some (ask.Unlatch slot) → held_of s w slot ≡ Some (page, how)
        → NowHeld s t w slot page mark Free) (unlatch_asked s w r (ask.Unlatch k))
    unlatches r k asking e told holds =
        let y = having_done r (action.Unlatch k) in
        let u = held_in r k in
        let t = did (unlatched s r k) w r (action.Unlatch k) in
        let before = asking.at.seat in
        let after : seat_of t w ≡ Some (Some y) = released_seat s u (page_in r k) w (Some r) (Some y) before in
        let asked = named s w r (ask.Unlatch k) (action.Unlatch k) asking refl in
        let x = slots.unlatch_finds s h w r k asked in
        let one = one_slot s t w r y before after k _ (slots.unlatch_holds s h w r k asked x.0 x.1.found) in
        let same = same_unlatch k slot (sym (asked_at s w r (ask.Unlatch k) asking) ∙ told) in
        let holds_k : held_of s w k ≡ Some (page, how) = ap (held_of s w) same ∙ holds in
        let p : x.0.page ≡ page = told_page s h w r k x.0 before x.1.found page how holds_k in
        let freed : known_mark (released s u (page_in r k)) (page_in r k) ≡ Some mark =
        subst (λ n. known_mark (released s u n) n ≡ Some (mark_at (released s u n) n)) (sym x.1.page_is)
        (freed_known s h w r k x.0 before x.1.found u)
        ∙ ap Some (same_unlatched (mark_at (unlatched s r k) (page_in r k)) mark e) in
        let known : known_mark t x.0.page ≡ Some mark = subst (λ n. known_mark t n ≡ Some mark) x.1.page_is freed in
        let plain = told_plain s h w r k x.0 before x.1.found page how holds_k in
        let now : NowHeld s t w k x.0.page mark Free = record {
          held = one.here ∙ own_is (as_held Free x.0) plain;
          known = known;
          acts = acts_at t w y (record { seat = after; stage = refl });
          others = one.others;
          bundles = same_bundles s t w r y before after (asked_gathers w r (action.Unlatch k) asked);
        } in
        subst (λ n. NowHeld s t w n page mark Free) same (subst (λ n. NowHeld s t w k n mark Free) p now)

  pub unlatch_frees : UnlatchFrees s
  unlatch_frees w slot page mark how =
      of_unlatch s
      (Told (reply.Unlatched mark)
      (λ t. ask_of s w ≡ Some (ask.Unlatch slot) → held_of s w slot ≡ Some (page, how)
      → NowHeld s t w slot page mark Free))
      (no_refusal s _ _ (λ d e. cc) (λ c e. cc)) w (λ r k asking. unlatches w slot page mark how r k asking)

  -- ---- Choose

  pub choose_acts : ChooseActs s
  choose_acts w i =
      of_choose s (Told reply.Did (λ t. HasChosen s t w)) (no_refusal s _ _ (λ d e. cc) (λ c e. cc)) w i
      (λ r n asking lt e.
      let y = having_done r (action.Choose i) in
      let t = did s w r (action.Choose i) in
      let after : seat_of t w ≡ Some (Some y) = set_at s.seats w (Some r) (Some y) asking.at.seat in
      let asked = named s w r (ask.Choose n) (action.Choose i) asking lt in
      record {
        acts = acts_at t w y (record { seat = after; stage = refl });
        slots = same_slots s t w r y asking.at.seat after (slots.choose_holds s h w r i asked);
        bundles = same_bundles s t w r y asking.at.seat after (asked_gathers w r (action.Choose i) asked);
      })

  -- ---- Unwind

  module _ (w slot page : ℕ) (how : Held) where
    -- How it is answered, by how the slot holds its page.
    unwind_told : (r : Running) (x : Holding) → seat_of s w ≡ Some (Some r)
        → holding_at (holdings r) slot ≡ Some x → (k : Held) (t : State) → t.notes ≡ (released s k x.page).notes
        → IsUnwindReply t x.page k (unwound k (mark_at (released s k x.page) x.page))
    unwind_told r x seat found Free t notes = refl
    unwind_told r x seat found S t notes = refl
    unwind_told r x seat found X t notes = (
      mark_at (released s X x.page) x.page,
      refl,
      ap (λ ns. (slice_index_or ns x.page untouched).mark) notes ∙ freed_known s h w r slot x seat found X,
    )

    unwinds : (r : Running) (given : List ℕ) (x : Holding) → IsAt s w r (leaving given)
        → holding_at (holdings r) slot ≡ Some x
        → (o : Outcome) → o ≡ unwind_where s w r slot given (Some x) → held_of s w slot ≡ Some (page, how)
        → HasUnwound s o.state w slot page how o.reply
    unwinds r given x at found o is holds =
        let y = at_stage r (leaving (slot ∷ given)) in
        let u = unwind_where s w r slot given (Some x) in
        let t = u.state in
        let after : seat_of t w ≡ Some (Some y) = released_seat s x.held x.page w (Some r) (Some y) at.seat in
        let one = one_slot s t w r y at.seat after slot None
        (filled_at slot [] (holdings r) (holdings y) (slots.unwind_holds s h w r slot given at)) in
        let plain = told_plain s h w r slot x at.seat found page how holds in
        let same = some_same (x.page, x.held) (page, how) (sym (held_found s w r slot x at.seat found plain) ∙ holds) in
        let so : HasUnwound s t w slot x.page x.held u.reply = record {
          leaving = leaving_at t w y (slot ∷ given) (record { seat = after; stage = refl });
          empty = one.here;
          others = one.others;
          bundles = same_bundles s t w r y at.seat after
              (unwound_own r slot given x at.stage (lone s h w r at.seat slot x found plain) plain);
          told = unwind_told r x at.seat found x.held t refl;
        } in
        subst (λ (z : Outcome). HasUnwound s z.state w slot page how z.reply) (sym is)
        (subst (λ z. HasUnwound s t w slot z.0 z.1 u.reply) same so)

  pub unwind_empties : UnwindEmpties s
  unwind_empties w slot page how =
      of_unwind s
      (λ o. is_refusal o.reply ≡ false → held_of s w slot ≡ Some (page, how)
      → HasUnwound s o.state w slot page how o.reply)
      (record { delay = λ d e. absurd (cc); fault = λ c e. absurd (cc) }) w slot
      (λ r given x at found e. unwinds w slot page how r given x at found _ refl)

  -- A bundle.
  unwinds_bundle : (w slot : ℕ) (r : Running) (given : List ℕ) (x : Holding) → IsAt s w r (leaving given)
      → holding_at (holdings r) slot ≡ Some x → 0 < gathered_of s w slot
      → HasUnwoundBundle s (unwind_where s w r slot given (Some x)).state w slot
      (unwind_where s w r slot given (Some x)).reply
  unwinds_bundle w slot r given x at found some =
      let y = at_stage r (leaving (slot ∷ given)) in
      let u = unwind_where s w r slot given (Some x) in
      let t = u.state in
      let after : seat_of t w ≡ Some (Some y) = released_seat s x.held x.page w (Some r) (Some y) at.seat in
      let all = gathered_bundle s h w r slot at.seat some in
      let goes = unwound_bundle r slot given at.stage all in
      let free : x.held ≡ Free = bundle_free (holdings r) slot x found all in
      record {
        leaving = leaving_at t w y (slot ∷ given) (record { seat = after; stage = refl });
        none = bundle_here s t w r y at.seat after slot [] goes;
        slots = bundle_slots s t w r y at.seat after slot [] all tt (slots.unwind_holds s h w r slot given at);
        others = other_bundles s t w r y at.seat after slot [] goes;
        told = ap (λ k. unwound k (mark_at (released s k x.page) x.page)) free;
      }

  pub unwind_scatters : UnwindScatters s
  unwind_scatters w slot =
      of_unwind s
      (λ o. is_refusal o.reply ≡ false → 0 < gathered_of s w slot → HasUnwoundBundle s o.state w slot o.reply)
      (record { delay = λ d e. absurd (cc); fault = λ c e. absurd (cc) }) w slot
      (λ r given x at found e some. unwinds_bundle w slot r given x at found some)

  -- ---- Finish

  has_finished : (w : ℕ) (r : Running) (by : Ending) → seat_of s w ≡ Some (Some r) → holdings r ≡ [] → EndsBy s w by
      → HasFinished s (ended s w r by).state w by
  has_finished w r by seat empty ends =
      let t = (ended s w r by).state in
      let after : seat_of t w ≡ Some None = set_at s.seats w (Some r) None seat in
      record {
        idle = ap idle_by after;
        ends = ends;
        empty = λ slot. held_at s w r slot seat ∙ ap (λ hs. own_of (holding_at hs slot)) empty;
        no_bundle = λ slot. bundle_at s w r slot seat ∙ sym ((nothing_held r empty).each slot);
        after = λ slot. ap (λ o. held_by o slot) after;
        no_bundle_after = λ slot. ap (bundle_by slot) after;
      }

  pub finish_idles : FinishIdles s
  finish_idles w by =
      of_finish s (Told (reply.Finished by) (λ t. HasFinished s t w by)) (no_refusal s _ _ (λ d e. cc) (λ c e. cc)) w
      (record {
        ends = λ r asking e. subst (λ b. HasFinished s (ended s w r ending.Done).state w b)
            (same_ending ending.Done by e)
            (has_finished w r ending.Done asking.at.seat (slots.ends_empty s h w r asking.at asking.asks)
            (asked_at s w r ask.End asking));
        leaves = λ r given at empty e. subst (λ b. HasFinished s (ended s w r ending.Gone).state w b)
            (same_ending ending.Gone by e)
            (has_finished w r ending.Gone at.seat empty (leaving_at s w r given at));
      })
