-- What a worker has after a plan is taken, after a fix, and after what the device gave for it.
use Rattle.std.proofs.Common.{◌≡◌, ◌∙◌, ℕ, Bool, true, false, Option, Some, None, [], ◌∷◌, refl, sym, ap}
use Rattle.std.proofs.Common.{subst, arith}
use Rattle.std.specs.Prelude.{option_and_then, nat_lt}
use Rattle.std.proofs.lemmas.Bool.Decides.{nat_tests}
use Rattle.pp_settings.specs.Layout.{Geometry}
use Rattle.pp_plan.specs.declared.action.Action.TheVariants as action
use Rattle.pp_plan.specs.declared.action.Ask.{Ask}
use Rattle.pp_plan.specs.declared.action.Ask.TheVariants as ask
use Rattle.pp_cursor.specs.Cursor.{NamesAction}
use Rattle.pp_cursor.proofs.Asking.{asks_named}
use Rattle.pp_cert.specs.Held.{holding_slot, holding_at}
use Rattle.pp_cert.proofs.Slots.{slot_all}
use Rattle.pp_arc.specs.declared.answer.Answer.TheVariants as answer
use Rattle.pp_arc.specs.FourLists.{FourLists}
use Rattle.pp_model.specs.Fixing.{fixes}
use Rattle.pp_model.specs.declared.moves.Came.{Came}
use Rattle.pp_model.specs.declared.moves.Came.TheVariants.{Image}
use Rattle.pp_model.specs.declared.reply.Failure.{Failure}
use Rattle.pp_model.specs.declared.reply.Reply.{Reply}
use Rattle.pp_model.specs.declared.reply.Reply.TheVariants as reply
use Rattle.pp_model.specs.Pool.{Stage, acting, writing, reading, leaving, Running, Note, State, known_mark, mark_at}
use Rattle.pp_model.specs.Pool.{note_of, frame_at}
use Rattle.pp_model.specs.Holders.{given_back, is_busy, errands_of, holdings}
use Rattle.pp_model.specs.Outcome.{Outcome, at_stage, having_done, did, with_lists, with_stage, with_dirty, with_mark}
use Rattle.pp_model.specs.Taking.{beginning, began}
use Rattle.pp_model.specs.Answers.{write_where, read_where}
use Rattle.pp_model.specs.Moves.{seat_of, asked_by}
use Rattle.pp_model.specs.Reached.{IsReached}
use Rattle.pp_model.proofs.Changes.{IsAt, IsAnswered}
use Rattle.pp_model.proofs.Framed.{some_of, loads_one, taken_low}
use Rattle.pp_model.proofs.HoldingSteps as slots
use Rattle.pp_model.proofs.HoldingSteps.{CanHold}
use Rattle.pp_model.proofs.KeptSlots.{Fills, filled_at}
use Rattle.pp_model.proofs.Swaps.{gathers, new_page, by_fix}
use Rattle.pp_model.proofs.KnownMarks.{loaded_is_known}
use Rattle.pp_model.proofs.MarkChanges.{note_here}
use Rattle.pp_model.proofs.Requests.{hit_cached}
use Rattle.pp_model.proofs.Soundness.{sound}
use Rattle.pp_model.proofs.Totals.{errands_are, loads_of}
use Rattle.pp_core.specs.Fixing.{wanted}
use Rattle.pp_core.specs.Gathered.{bundle_in}
use Rattle.pp_core.specs.Queries.{ask_of, leaves, pending_of, own_of, held_of, bundle_of, errand_in, errand_of}
use Rattle.pp_core.specs.AfterMoves.{Acts, wanted_of, SlotsStay, BundlesStay, HasBegun, TakenActs, HasFixed, HasGathered}
use Rattle.pp_core.specs.AfterMoves.{IsSent, HasLost, HitFixes, HitGathers}
use Rattle.pp_core.specs.AfterMoves.{FixSends, FixSendsVictim, WrittenReads, WriteFails, HasLoaded, ReadLoads, ReadFails}
use Rattle.pp_core.proofs.Gathered.{Gathers, SameBundles, Gathered, bundled_pages, bundle_is, same_holdings, nothing_held}
use Rattle.pp_core.proofs.Gathered.{asks_gathers}
use Rattle.pp_core.proofs.MoveWays.{OfRefusals, AsksPage, of_take, of_fix, of_write, of_read}
use Rattle.pp_core.proofs.Crew.{set_at}
use Rattle.pp_core.proofs.AfterSeats.{ask_at, acts_at, leaving_at, errand_at, held_at, bundle_at, pending_at, wanted_at}
use Rattle.pp_core.proofs.AfterSeats.{some_same, own_is, none_of_its_own, one_slot, same_slots, bundle_slots, same_bundles}
use Rattle.pp_core.proofs.AfterSeats.{bundle_here, other_bundles}

-- ---- replies

-- What follows from a reply, said of an outcome.
abbrev pub Told : Reply → (State → Type 0) → Outcome → Type 0
Told r Q o = o.reply ≡ r → Q o.state

-- A reply that isn't a refusal is told of no refusal.
pub no_refusal : (s : State) (r : Reply) (Q : State → Type 0)
    → ((d : _) → reply.NotNow d ≡ r → ⊥) → ((c : _) → reply.OffPlan c ≡ r → ⊥) → OfRefusals s (Told r Q)
no_refusal s r Q not_now off_plan = record {
  delay = λ d e. absurd (not_now d e);
  fault = λ c e. absurd (off_plan c e);
}

-- ---- a worker's seat before and after

-- The action by which a page goes into a slot.
fixes_plain : (k : Ask) (slot page : ℕ) → gathers k ≡ false → fixes k slot page ≡ action.Fix slot page
fixes_plain k slot page = by_fix (λ a b. b ≡ false → a ≡ action.Fix slot page) k slot page (λ e. refl) (λ e. absurd (cc))

fixes_gather : (k : Ask) (slot page : ℕ) → gathers k ≡ true → fixes k slot page ≡ action.Gather slot page
fixes_gather k slot page = by_fix (λ a b. b ≡ true → a ≡ action.Gather slot page) k slot page (λ e. absurd (cc)) (λ e. refl)

-- A page that goes into a slot is wanted for it.
names_wanted : (g : Geometry) (x : Ask) (slot page : ℕ) → NamesAction g x (fixes x slot page)
    → (region : ℕ) × (wanted x ≡ Some (slot, region))
names_wanted g (ask.Fix k region) slot page n = (region, ap {B = Option (ℕ × ℕ)} (λ z. Some (z, region)) n.0)
names_wanted g (ask.Gather k region) slot page n = (region, ap {B = Option (ℕ × ℕ)} (λ z. Some (z, region)) n.0)
names_wanted g (ask.Unfix k) slot page n = absurd n
names_wanted g (ask.Latch k m) slot page n = absurd n
names_wanted g (ask.Unlatch k) slot page n = absurd n
names_wanted g (ask.Scatter k) slot page n = absurd n
names_wanted g (ask.Choose k) slot page n = absurd n
names_wanted g ask.End slot page n = absurd n

-- A slot into which a page is fixed is no bundle.
no_bundle_there : (s : State) (w : ℕ) (r : Running) (slot page : ℕ) → seat_of s w ≡ Some (Some r) → CanHold s r slot page
    → gathers (asked_by r) ≡ false → bundle_of s w slot ≡ []
no_bundle_there s w r slot page seat can plain =
    bundle_at s w r slot seat ∙ bundle_is r slot ∙ ap bundled_pages (can.empty plain)

module _ (s t : State) (w : ℕ) (r : Running) where
  -- The worker goes on to another stage, and has given the same slots back.
  pub stays_holding : (g : Stage) → seat_of s w ≡ Some (Some r) → seat_of t w ≡ Some (Some (at_stage r g))
      → given_back g ≡ given_back r.stage → SlotsStay s t w
  stays_holding g before after same = same_slots s t w r (at_stage r g) before after (slots.stage_holds r g same)

  -- So each bundle has the pins that it had.
  stays_gathered : (g : Stage) → seat_of s w ≡ Some (Some r) → seat_of t w ≡ Some (Some (at_stage r g))
      → given_back g ≡ given_back r.stage → BundlesStay s t w
  stays_gathered g before after same =
      same_bundles s t w r (at_stage r g) before after (same_holdings r (at_stage r g) (slots.stage_holds r g same))

  -- An errand is out for a page that goes into an empty slot, or into a bundle.
  is_sent : (g : Stage) (slot page : ℕ) (victim : Option ℕ) → seat_of s w ≡ Some (Some r)
      → seat_of t w ≡ Some (Some (at_stage r g)) → given_back g ≡ given_back r.stage
      → errand_in g ≡ Some (slot, page, victim) → CanHold s r slot page → leaves r.stage ≡ false → leaves g ≡ false
      → IsSent s t w slot page victim
  is_sent g slot page victim before after same errand can stays goes = record {
    errand = errand_at t w (at_stage r g) g (record { seat = after; stage = refl }) ∙ errand;
    empty = held_at s w r slot before ∙ none_of_its_own (holdings r) slot can.bundled;
    no_bundle = λ region told. no_bundle_there s w r slot page before can
        (ap gathers (some_same (asked_by r) (ask.Fix slot region) (sym (pending_at s w r before stays) ∙ told)));
    pending = pending_at t w (at_stage r g) after goes ∙ sym (pending_at s w r before stays);
    slots = stays_holding g before after same;
    bundles = stays_gathered g before after same;
  }

  -- The worker leaves its plan.
  has_lost : seat_of s w ≡ Some (Some r) → seat_of t w ≡ Some (Some (at_stage r (leaving [])))
      → given_back r.stage ≡ [] → HasLost s t w
  has_lost before after none = record {
    leaving = leaving_at t w (at_stage r (leaving [])) [] (record { seat = after; stage = refl });
    slots = stays_holding (leaving []) before after (sym none);
    bundles = stays_gathered (leaving []) before after (sym none);
  }

  -- A page is in the slot: one of its own, where the plan asked a fix, and else one more of the bundle.
  module _ (slot page mark : ℕ) (before : seat_of s w ≡ Some (Some r))
      (after : seat_of t w ≡ Some (Some (having_done r (fixes (asked_by r) slot page))))
      (can : CanHold s r slot page)
      (fills : Fills slot (new_page (asked_by r) slot page ∷ slot_all holding_slot slot (holdings r)) (holdings r)
      (holdings (having_done r (fixes (asked_by r) slot page))))
      (changes : Gathered r (having_done r (fixes (asked_by r) slot page)) (fixes (asked_by r) slot page))
      (known : known_mark t page ≡ Some mark) where
    abbrev next : Running
    next = having_done r (fixes (asked_by r) slot page)

    acts_next : Acts t w
    acts_next = acts_at t w next (record { seat = after; stage = refl })

    none_there : held_of s w slot ≡ None
    none_there = held_at s w r slot before ∙ none_of_its_own (holdings r) slot can.bundled

    has_fixed : gathers (asked_by r) ≡ false → HasFixed s t w slot page mark
    has_fixed plain =
        let x = new_page (asked_by r) slot page in
        let one = one_slot s t w r next before after slot (Some x)
        (filled_at slot (x ∷ slot_all holding_slot slot (holdings r)) (holdings r) (holdings next) fills) in
        let same : SameBundles (Some r) (Some next) = subst (Gathered r next) (fixes_plain (asked_by r) slot page plain) changes in
        record {
          empty = none_there;
          no_bundle = no_bundle_there s w r slot page before can plain;
          held = one.here ∙ own_is x plain;
          known = known;
          acts = acts_next;
          others = one.others;
          bundles = same_bundles s t w r next before after same;
        }

    has_gathered : gathers (asked_by r) ≡ true → HasGathered s t w slot page mark
    has_gathered gather =
        let x = new_page (asked_by r) slot page in
        let more : Gathers (Some r) (Some next) slot (page ∷ bundle_in (Some r) slot) =
        subst (Gathered r next) (fixes_gather (asked_by r) slot page gather) changes in
        let here = bundle_here s t w r next before after slot (page ∷ bundle_in (Some r) slot) more in
        record {
          no_page = none_there;
          more = here ∙ ap (λ ps. page ∷ ps) (sym (bundle_at s w r slot before));
          known = known;
          acts = acts_next;
          slots = bundle_slots s t w r next before after slot (x ∷ slot_all holding_slot slot (holdings r)) can.bundled
              (record { bundled = gather; free = refl }, can.bundled) fills;
          others = other_bundles s t w r next before after slot (page ∷ bundle_in (Some r) slot) more;
        }

-- ---- equal parts of equal asks and replies

-- A plan that is told to ask this asks it.
told_ask : (s : State) (w : ℕ) (r : Running) (x : Ask) → IsAt s w r acting → ask_of s w ≡ Some x → asked_by r ≡ x
told_ask s w r x at told = some_same (asked_by r) x (sym (ask_at s w r at) ∙ told)

same_mark : (a b c d : ℕ) → reply.Hit a b ≡ reply.Hit c d → b ≡ d
same_mark a b c d e = cc

pub same_loaded : (a b : ℕ) → reply.Loaded a ≡ reply.Loaded b → a ≡ b
same_loaded a b e = cc

same_victim : (a b c d : ℕ) → reply.MustWrite a b ≡ reply.MustWrite c d → b ≡ d
same_victim a b c d e = cc

-- A page that was cached, and isn't in flight, has a known mark.
hit_known : (s : State) (page : ℕ) (l : FourLists) → IsReached s → IsAnswered s page l answer.Hit
    → known_mark s page ≡ Some (mark_at s page)
hit_known s page l h is =
    let here = hit_cached s.lists page (is_busy s) (sound s h).bounds is.is in
    let none : errands_of s page ≡ 0 = not_any (errands_of s page) is.grounded in
    let away : loads_of s page ≡ 0 = omega (arith, none, errands_are s page) in
    some_of (known_mark s page) (loaded_is_known s h page here away)
  where
    not_any : (n : ℕ) → nat_lt 0 n ≡ false → n ≡ 0
    not_any n e = grind (arith, nat_tests)

module _ (s : State) (h : IsReached s) where
  -- ---- Take

  pub taken_acts : TakenActs s
  taken_acts w plan =
      of_take s (Told (reply.Taken plan) (λ t. HasBegun t w)) (no_refusal s _ _ (λ d e. cc) (λ c e. cc)) w
      (λ a idle e.
      let t = began s w a in
      let y = beginning s a in
      let after : seat_of t w ≡ Some (Some y) = set_at s.seats w None (Some y) idle in
      record {
        acts = acts_at t w y (record { seat = after; stage = refl });
        empty = λ slot. held_at t w y slot after ∙ ap (λ hs. own_of (holding_at hs slot)) (slots.beginning_holds s a);
        no_bundle = λ slot. bundle_at t w y slot after
            ∙ sym ((nothing_held y (slots.beginning_holds s a)).each slot);
      })

  -- ---- Fix

  module _ (w page : ℕ) where
    -- The slot is the one for which the plan was told to ask a page.
    its_slot : (r : Running) (k j slot region : ℕ) → AsksPage s w r k j page → wanted_of s w ≡ Some (slot, region)
        → k ≡ slot
    its_slot r k j slot region asks told =
        ap (λ p. p.0) (some_same (k, j) (slot, region) (sym asks.into ∙ sym (wanted_at s w r asks.asked.at) ∙ told))

    fix_sent : (t : State) (r : Running) (g : Stage) (k j slot region : ℕ) (victim : Option ℕ)
        → AsksPage s w r k j page → wanted_of s w ≡ Some (slot, region)
        → seat_of t w ≡ Some (Some (at_stage r g)) → given_back g ≡ [] → errand_in g ≡ Some (k, page, victim)
        → leaves g ≡ false → IsSent s t w slot page victim
    fix_sent t r g k j slot region victim asks told after none errand goes =
        let at = asks.asked.at in
        subst (λ n. IsSent s t w n page victim) (its_slot r k j slot region asks told)
        (is_sent s t w r g k page victim at.seat after (none ∙ sym (ap given_back at.stage)) errand
        (slots.fix_finds s h w r k page asks.asked) (ap leaves at.stage) goes)

    -- A page that was cached is in the slot.
    module _ (mark frame : ℕ) (r : Running) (k j : ℕ) (l : FourLists) (asks : AsksPage s w r k j page)
        (is : IsAnswered s page l answer.Hit) (e : reply.Hit (frame_at s page) (mark_at s page) ≡ reply.Hit frame mark) where
      abbrev hit_state : State
      hit_state = did (with_lists s l) w r (fixes (asked_by r) k page)

      abbrev hit_seat : seat_of hit_state w ≡ Some (Some (having_done r (fixes (asked_by r) k page)))
      hit_seat = set_at s.seats w (Some r) (Some (having_done r (fixes (asked_by r) k page))) asks.asked.at.seat

      hit_changes : Gathered r (having_done r (fixes (asked_by r) k page)) (fixes (asked_by r) k page)
      hit_changes =
          asks_gathers s h w r (fixes (asked_by r) k page) asks.asked.at.seat (ap given_back asks.asked.at.stage)
          (slots.asks_it s h w r (fixes (asked_by r) k page) asks.asked)

      hit_mark : known_mark s page ≡ Some mark
      hit_mark = hit_known s page l h is ∙ ap Some (same_mark (frame_at s page) (mark_at s page) frame mark e)

      hit_fixed : gathers (asked_by r) ≡ false → HasFixed s hit_state w k page mark
      hit_fixed plain =
          has_fixed s hit_state w r k page mark asks.asked.at.seat hit_seat (slots.fix_finds s h w r k page asks.asked)
          (slots.fix_holds s h w r k page asks.asked) hit_changes hit_mark plain

      hit_gathered : gathers (asked_by r) ≡ true → HasGathered s hit_state w k page mark
      hit_gathered gather =
          has_gathered s hit_state w r k page mark asks.asked.at.seat hit_seat
          (slots.fix_finds s h w r k page asks.asked) (slots.fix_holds s h w r k page asks.asked) hit_changes hit_mark
          gather

  pub hit_fixes : HitFixes s
  hit_fixes w page slot region frame mark =
      of_fix s
      (Told (reply.Hit frame mark) (λ t. ask_of s w ≡ Some (ask.Fix slot region) → HasFixed s t w slot page mark))
      (no_refusal s _ _ (λ d e. cc) (λ c e. cc)) w page (record {
        hits = λ r k j l asks is e told. subst
            (λ n. HasFixed s (did (with_lists s l) w r (fixes (asked_by r) k page)) w n page mark)
            (its_slot w page r k j slot region asks (ap (option_and_then wanted) told))
            (hit_fixed w page mark frame r k j l asks is e
            (ap gathers (told_ask s w r (ask.Fix slot region) asks.asked.at told)));
        fills = λ r k j l asks e. absurd (cc);
        evicts = λ r k j v l asks e. absurd (cc);
        sends = λ r k j v l asks e. absurd (cc);
      })

  pub hit_gathers : HitGathers s
  hit_gathers w page slot region frame mark =
      of_fix s
      (Told (reply.Hit frame mark) (λ t. ask_of s w ≡ Some (ask.Gather slot region) → HasGathered s t w slot page mark))
      (no_refusal s _ _ (λ d e. cc) (λ c e. cc)) w page (record {
        hits = λ r k j l asks is e told. subst
            (λ n. HasGathered s (did (with_lists s l) w r (fixes (asked_by r) k page)) w n page mark)
            (its_slot w page r k j slot region asks (ap (option_and_then wanted) told))
            (hit_gathered w page mark frame r k j l asks is e
            (ap gathers (told_ask s w r (ask.Gather slot region) asks.asked.at told)));
        fills = λ r k j l asks e. absurd (cc);
        evicts = λ r k j v l asks e. absurd (cc);
        sends = λ r k j v l asks e. absurd (cc);
      })

  pub fix_sends : FixSends s
  fix_sends w page slot region frame =
      of_fix s
      (Told (reply.MustRead frame) (λ t. wanted_of s w ≡ Some (slot, region) → IsSent s t w slot page None))
      (no_refusal s _ _ (λ d e. cc) (λ c e. cc)) w page (record {
        hits = λ r k j l asks is e. absurd (cc);
        fills = λ r k j l asks e told. fix_sent w page _ r (reading k page) k j slot region None asks told
            (set_at s.seats w (Some r) (Some (at_stage r (reading k page))) asks.asked.at.seat) refl refl refl;
        evicts = λ r k j v l asks e told. fix_sent w page _ r (reading k page) k j slot region None asks told
            (set_at s.seats w (Some r) (Some (at_stage r (reading k page))) asks.asked.at.seat) refl refl refl;
        sends = λ r k j v l asks e. absurd (cc);
      })

  pub fix_sends_victim : FixSendsVictim s
  fix_sends_victim w page slot region frame victim =
      of_fix s
      (Told (reply.MustWrite frame victim)
      (λ t. wanted_of s w ≡ Some (slot, region) → IsSent s t w slot page (Some victim)))
      (no_refusal s _ _ (λ d e. cc) (λ c e. cc)) w page (record {
        hits = λ r k j l asks is e. absurd (cc);
        fills = λ r k j l asks e. absurd (cc);
        evicts = λ r k j v l asks e. absurd (cc);
        sends = λ r k j v l asks e told. fix_sent w page _ r (writing k page v) k j slot region (Some victim) asks told
            (set_at s.seats w (Some r) (Some (at_stage r (writing k page v))) asks.asked.at.seat) refl
            (ap (λ n. Some (k, page, Some n)) (same_victim _ v frame victim e)) refl;
      })

  -- ---- WriteDone

  same_reading : (a b slot page : ℕ) (v : Option ℕ) (victim : ℕ)
      → ◌≡◌ {A = Option (ℕ × ℕ × Option ℕ)} (Some (a, b, v)) (Some (slot, page, Some victim))
      → ◌≡◌ {A = Option (ℕ × ℕ × Option ℕ)} (Some (a, b, None)) (Some (slot, page, None))
  same_reading a b slot page v victim e =
      let same = some_same (a, b, v) (slot, page, Some victim) e in ap (λ x. Some (x.0, x.1, None)) same

  module _ (w : ℕ) where
    read_next : (ok : Bool) (r : Running) (k p v slot page victim frame : ℕ) → IsAt s w r (writing k p v)
        → Told (reply.MustRead frame)
        (λ t. errand_of s w ≡ Some (slot, page, Some victim) → IsSent s t w slot page None)
        (write_where s w r k p v ok)
    read_next true r k p v slot page victim frame at e told =
        let t = with_stage (with_dirty s v false) w r (reading k p) in
        let after = set_at s.seats w (Some r) (Some (at_stage r (reading k p))) at.seat in
        let same = same_reading k p slot page (Some v) victim (sym (errand_at s w r (writing k p v) at) ∙ told) in
        subst (λ (z : ℕ × ℕ × Option ℕ). IsSent s t w z.0 z.1 z.2) (some_same (k, p, None) (slot, page, None) same)
        (is_sent s t w r (reading k p) k p None at.seat after (sym (ap given_back at.stage)) refl
        (slots.writing_finds s h w r k p v at) (ap leaves at.stage) refl)
    read_next false r k p v slot page victim frame at e told = absurd (cc)

    lost_writing : (ok : Bool) (failure : Failure) (r : Running) (k p v : ℕ) → IsAt s w r (writing k p v)
        → Told (reply.Failed failure) (λ t. HasLost s t w) (write_where s w r k p v ok)
    lost_writing true failure r k p v at e = absurd (cc)
    lost_writing false failure r k p v at e =
        has_lost s _ w r at.seat (set_at s.seats w (Some r) (Some (at_stage r (leaving []))) at.seat)
        (ap given_back at.stage)

  pub written_reads : WrittenReads s
  written_reads w ok slot page victim frame =
      of_write s
      (Told (reply.MustRead frame)
      (λ t. errand_of s w ≡ Some (slot, page, Some victim) → IsSent s t w slot page None))
      (no_refusal s _ _ (λ d e. cc) (λ c e. cc)) w ok
      (λ r k p v at. read_next w ok r k p v slot page victim frame at)

  pub write_fails : WriteFails s
  write_fails w ok failure =
      of_write s (Told (reply.Failed failure) (λ t. HasLost s t w)) (no_refusal s _ _ (λ d e. cc) (λ c e. cc)) w ok
      (λ r k p v at. lost_writing w ok failure r k p v at)

  -- ---- ReadDone

  module _ (w : ℕ) (r : Running) (k p stamp : ℕ) (at : IsAt s w r (reading k p)) where
    abbrev pub loaded_state : State
    loaded_state = did (with_mark s p stamp) w r (fixes (asked_by r) k p)

    loaded_changes : Gathered r (having_done r (fixes (asked_by r) k p)) (fixes (asked_by r) k p)
    loaded_changes =
        asks_gathers s h w r (fixes (asked_by r) k p) at.seat (ap given_back at.stage)
        (slots.reading_asks s h w r k p at)

    abbrev loaded_seat : seat_of loaded_state w ≡ Some (Some (having_done r (fixes (asked_by r) k p)))
    loaded_seat = set_at s.seats w (Some r) (Some (having_done r (fixes (asked_by r) k p))) at.seat

    loaded_mark : known_mark loaded_state p ≡ Some stamp
    loaded_mark =
        let low = taken_low s h p (omega (arith, loads_one s w r (reading k p) p at refl)) in
        ap (λ (x : Note). x.mark) (note_here s p (record (note_of s p) { mark = Some stamp }) low)

    pub loaded_fixed : gathers (asked_by r) ≡ false → HasFixed s loaded_state w k p stamp
    loaded_fixed e =
        has_fixed s loaded_state w r k p stamp at.seat loaded_seat (slots.reading_finds s h w r k p at)
        (slots.loaded_holds s h w r k p at) loaded_changes loaded_mark e

    loaded_gathered : gathers (asked_by r) ≡ true → HasGathered s loaded_state w k p stamp
    loaded_gathered e =
        has_gathered s loaded_state w r k p stamp at.seat loaded_seat (slots.reading_finds s h w r k p at)
        (slots.loaded_holds s h w r k p at) loaded_changes loaded_mark e

    loading : pending_of s w ≡ Some (asked_by r)
    loading = pending_at s w r at.seat (ap leaves at.stage)

    -- The plan asks the page for the errand's slot.
    loading_for : (region : ℕ) × (option_and_then wanted (pending_of s w) ≡ Some (k, region))
    loading_for =
        let seat = slots.seat_is s h w r at.seat in
        let names = (asks_named r.accepted.plan r.done (fixes (asked_by r) k p) seat.accepted.plan).0
        (slots.reading_asks s h w r k p at) in
        let wants = names_wanted r.accepted.plan.layout (asked_by r) k p names in
        (wants.0, ap (option_and_then wanted) loading ∙ wants.1)

    told_loading : (x : Ask) → pending_of s w ≡ Some x → asked_by r ≡ x
    told_loading x told = some_same (asked_by r) x (sym loading ∙ told)

    loaded_so : (came : Came) → came ≡ Image p stamp → HasLoaded s loaded_state w k p stamp came
    loaded_so came image = record {
      asked = loading_for;
      fixed = λ region told. loaded_fixed (ap gathers (told_loading (ask.Fix k region) told));
      gathered = λ region told. loaded_gathered (ap gathers (told_loading (ask.Gather k region) told));
      image = image;
    }

    -- The errand that was told is this one.
    pub same_errand : (slot page : ℕ) → errand_of s w ≡ Some (slot, page, None)
        → ◌≡◌ {A = ℕ × ℕ × Option ℕ} (k, p, None) (slot, page, None)
    same_errand slot page told = some_same (k, p, None) (slot, page, None) (sym (errand_at s w r (reading k p) at) ∙ told)

  loads_it : (w : ℕ) (came : Came) (r : Running) (k p stamp slot page mark : ℕ) → IsAt s w r (reading k p)
      → came ≡ Image p stamp
      → Told (reply.Loaded mark)
      (λ t. errand_of s w ≡ Some (slot, page, None) → HasLoaded s t w slot page mark came)
      (read_where s w r k p stamp false)
  loads_it w came r k p stamp slot page mark at image e told =
      let t = loaded_state w r k p stamp at in
      let so : HasLoaded s t w k p stamp came = loaded_so w r k p stamp at came image in
      subst (λ x. HasLoaded s t w x.0 x.1 mark came) (same_errand w r k p stamp at slot page told)
      (subst (λ m. HasLoaded s t w k p m came) (same_loaded stamp mark e) so)

  pub read_loads : ReadLoads s
  read_loads w came slot page mark =
      of_read s
      (Told (reply.Loaded mark) (λ t. errand_of s w ≡ Some (slot, page, None) → HasLoaded s t w slot page mark came))
      (no_refusal s _ _ (λ d e. cc) (λ c e. cc)) w came (record {
        loads = λ r k p stamp at image good. loads_it w came r k p stamp slot page mark at image;
        fails = λ r k p failure at e. absurd (cc);
      })

  pub read_fails : ReadFails s
  read_fails w came failure =
      of_read s (Told (reply.Failed failure) (λ t. HasLost s t w)) (no_refusal s _ _ (λ d e. cc) (λ c e. cc)) w came
      (record {
        loads = λ r k p stamp at image good e. absurd (cc);
        fails = λ r k p f at e.
            has_lost s _ w r at.seat (set_at s.seats w (Some r) (Some (at_stage r (leaving []))) at.seat)
            (ap given_back at.stage);
      })
