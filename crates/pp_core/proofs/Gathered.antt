-- The pages of bundles in their stacks, and what the moves of a worker do to them.
use Rattle.std.proofs.Common.{◌≡◌, ◌≢◌, ◌∙◌, ℕ, zero, suc, ◌+◌, ◌*◌, ◌<◌, ◌≤◌, ◌^◌, Bool, true, false, eqb, cond, Option, Some, None}
use Rattle.std.proofs.Common.{List, [], ◌∷◌, length, map, refl, sym, ap, subst, arith}
use Rattle.std.specs.Prelude.{slice_get, slice_set, slice_index_or, filter, count_by, sum_by, ◌==◌}
use Rattle.std.proofs.lemmas.Bool.{eqb-true, eqb-false}
use Rattle.std.proofs.lemmas.List.{length-map, get_or-set_same, get_or-set_other}
use Rattle.std.proofs.lemmas.List.Sums.{sum_by-cons, count_by-le-length}
use Rattle.std.proofs.lemmas.Option.{slice_get_within}
use Rattle.pp_plan.specs.declared.action.Action.{Action}
use Rattle.pp_plan.specs.declared.action.Action.TheVariants as action
use Rattle.pp_plan.specs.declared.action.Ask.{Ask}
use Rattle.pp_plan.specs.declared.action.Ask.TheVariants as ask
use Rattle.pp_cert.specs.declared.note.Held.TheVariants.{Free}
use Rattle.pp_cert.specs.Held.{Holding, Holdings, holding_slot, holding_at, holds_bundle, plain_page, bundle_page, held_in as held_for}
use Rattle.pp_cert.proofs.Slots.{slot_all}
use Rattle.pp_bundles.specs.Bundles.{PageStacks, place_count, pages_at, all_pages, with_pages}
use Rattle.pp_model.specs.Pool.{Stage, leaving, Running, State}
use Rattle.pp_model.specs.Holders.{given_back, holdings}
use Rattle.pp_model.specs.Outcome.{at_stage, having_done}
use Rattle.pp_model.specs.Moves.{seat_of}
use Rattle.pp_model.specs.Turns.{Asks}
use Rattle.pp_model.specs.Reached.{IsReached}
use Rattle.pp_model.proofs.Effects.{asked_handles, asked_places, unwound_fills, unwound_swaps}
use Rattle.pp_model.proofs.Inside.{fix_within}
use Rattle.pp_model.proofs.HoldingSteps.{seat_is, slots_are_within, stage_holds}
use Rattle.pp_model.specs.Budget.{peak_of}
use Rattle.pp_model.specs.Fixing.{fixes}
use Rattle.pp_model.proofs.BoundSteps.{seats_are_all}
use Rattle.pp_model.proofs.Room.{room as peaks_room}
use Rattle.pp_model.proofs.Seats.{good}
use Rattle.pp_model.proofs.Stuck.{takes_length, seat_takes}
use Rattle.pp_model.proofs.Sums.{sum_by-slice_set, sum_by-lt}
use Rattle.pp_model.proofs.Swaps.{Handles, as_held, by_fix}
use Rattle.pp_model.proofs.KeptSlots.{AreBundled, HasOwn, Fills, Places, found_in}
use Rattle.pp_core.specs.Gathered.{bundle_place, bundle_in, bundle_pins, all_bundle_pins, BundlesFit}
use Rattle.pp_core.specs.Effects.{stacks_after, HasRecord}
use Rattle.pp_core.proofs.Crew.{set_length, set_here, set_apart}

-- ---- the pages of a slot

-- The pages of these that are a bundle's.
abbrev pub bundled_pages : Holdings → List ℕ
bundled_pages hs = map (λ h. h.page) (filter (λ h. h.bundled) hs)

-- One for a pin of a bundle.
abbrev pub in_bundle : Holding → ℕ
in_bundle h = cond h.bundled 1 0

filter_is : (slot : ℕ) (hs : Holdings) → filter (λ x. x.slot == slot) hs ≡ slot_all holding_slot slot hs
filter_is slot [] = refl
filter_is slot (y ∷ ys) = ap (λ zs. cond (y.slot == slot) (y ∷ zs) zs) (filter_is slot ys)

pub bundle_is : (r : Running) (slot : ℕ) → bundle_in (Some r) slot ≡ bundled_pages (slot_all holding_slot slot (holdings r))
bundle_is r slot = ap bundled_pages (filter_is slot (holdings r))

pub pins_is : (hs : Holdings) → count_by (λ h. h.bundled) hs ≡ sum_by in_bundle hs
pins_is hs = refl

pub all_bundled : (hs : Holdings) → AreBundled hs → (bundled_pages hs ≡ map (λ h. h.page) hs)
    × (sum_by in_bundle hs ≡ length hs)
all_bundled [] all = (refl, refl)
all_bundled (y ∷ ys) all =
    let rest = all_bundled ys all.1 in (
      ap (λ b. map (λ h. h.page) (cond b (y ∷ filter (λ h. h.bundled) ys) (filter (λ h. h.bundled) ys))) all.0.bundled
          ∙ ap (λ ps. y.page ∷ ps) rest.0,
      omega (arith, sum_by-cons in_bundle y ys, ap {B = ℕ} (λ b. cond b 1 0) all.0.bundled, rest.1),
    )

-- ---- one seat changes

-- A seat's pages of bundles before and after: those of one slot are others, and so many pins more or fewer.
pub record Gathers (x y : Option Running) (slot : ℕ) (pages : List ℕ) : Type 0 where
  pub each : (k : ℕ) → bundle_in y k ≡ cond (eqb k slot) pages (bundle_in x k)
  pub pins : bundle_pins y + length (bundle_in x slot) ≡ bundle_pins x + length pages

-- They are the same.
pub record SameBundles (x y : Option Running) : Type 0 where
  pub each : (k : ℕ) → bundle_in y k ≡ bundle_in x k
  pub pins : bundle_pins y ≡ bundle_pins x

place_other : (w slot v k : ℕ) → slot < 32 → k < 32 → (v ≢ w) → bundle_place v k ≢ bundle_place w slot
place_other w slot v k lt less ne e = ne (omega (arith, lt, less, e))

slot_other : (w slot k : ℕ) → (k ≢ slot) → bundle_place w k ≢ bundle_place w slot
slot_other w slot k ne e = ne (omega (arith, e))

pub place_low : (w slot n : ℕ) → w < n → slot < 32 → bundle_place w slot < 32 * n
place_low w slot n lt less = omega (arith, lt, less)

module _ (stacks : PageStacks) (s t : State) (w : ℕ) (x y : Option Running) (fits : BundlesFit stacks s)
    (seat : seat_of s w ≡ Some x) (seats : t.seats ≡ slice_set s.seats w y) (settings : t.settings ≡ s.settings) where
  counted : place_count stacks ≡ 32 * length t.seats
  counted = omega (arith, fits.places, ap length seats, set_length s.seats w y)

  pub bundles_stay : SameBundles x y → BundlesFit stacks t
  bundles_stay same = record {
    places = counted;
    each = λ v k z lt at. go v k z lt (eqb v w) refl (ap (λ ys. slice_get ys v) (sym seats) ∙ at);
    room = fits.room ∙ sym (ap (λ c. c.layout.frames) settings);
    pins = omega (
      arith,
      fits.pins,
      same.pins,
      ap (sum_by bundle_pins) seats,
      sum_by-slice_set bundle_pins s.seats w x y seat,
    );
  }
    where
      go : (v k : ℕ) (z : Option Running) → k < 32 → (b : Bool) → eqb v w ≡ b
          → slice_get (slice_set s.seats w y) v ≡ Some z → pages_at stacks (bundle_place v k) ≡ bundle_in z k
      go v k z lt true e at =
          let here : v ≡ w = eqb-true v w e in
          ap (λ n. pages_at stacks (bundle_place n k)) here ∙ fits.each w k x lt seat ∙ sym (same.each k)
          ∙ ap (λ o. bundle_in o k) (sym (set_here s.seats w v y z here at))
      go v k z lt false e at =
          fits.each v k z lt (sym (set_apart s.seats w v y (λ g. eqb-false v w e g)) ∙ at)

  -- The pages of one slot are others.
  module _ (slot : ℕ) (pages : List ℕ) (low : slot < 32) (changes : Gathers x y slot pages) where
    there : bundle_place w slot < length stacks.stacks
    there = omega (arith, fits.places, place_low w slot (length s.seats) (slice_get_within s.seats w x seat) low)

    now : PageStacks
    now = with_pages stacks (bundle_place w slot) pages

    all_now : all_pages (with_pages stacks (bundle_place w slot) pages) + length (bundle_in x slot)
        ≡ all_pages stacks + length pages
    all_now =
        omega (
          arith,
          sum_by-slice_set length stacks.stacks (bundle_place w slot) (pages_at stacks (bundle_place w slot)) pages
              (slice_get_is stacks.stacks (bundle_place w slot) there),
          ap length (fits.each w slot x low seat),
        )
      where
        slice_get_is : (xs : List (List ℕ)) (i : ℕ) → i < length xs → slice_get xs i ≡ Some (slice_index_or xs i [])
        slice_get_is [] i lt = absurd (omega (arith, lt))
        slice_get_is (z ∷ zs) zero lt = refl
        slice_get_is (z ∷ zs) (suc i) lt = slice_get_is zs i (omega (arith, lt))

    pub bundles_set : BundlesFit (with_pages stacks (bundle_place w slot) pages) t
    bundles_set = record {
      places = omega (arith, set_length stacks.stacks (bundle_place w slot) pages, counted);
      each = λ v k z lt at. go v k z lt (eqb v w) refl (ap (λ ys. slice_get ys v) (sym seats) ∙ at);
      room = fits.room ∙ sym (ap (λ c. c.layout.frames) settings);
      pins = omega (
        arith,
        fits.pins,
        changes.pins,
        all_now,
        ap (sum_by bundle_pins) seats,
        sum_by-slice_set bundle_pins s.seats w x y seat,
      );
    }
      where
        mine : (k : ℕ) → k < 32 → (b : Bool) → eqb k slot ≡ b
            → pages_at (with_pages stacks (bundle_place w slot) pages) (bundle_place w k)
            ≡ cond b pages (bundle_in x k)
        mine k lt true e =
            ap (λ n. pages_at (with_pages stacks (bundle_place w slot) pages) (bundle_place w n)) (eqb-true k slot e)
            ∙ get_or-set_same stacks.stacks (bundle_place w slot) pages [] there
        mine k lt false e =
            get_or-set_other stacks.stacks (bundle_place w slot) (bundle_place w k) pages []
            (slot_other w slot k (λ g. eqb-false k slot e g))
            ∙ fits.each w k x lt seat

        go : (v k : ℕ) (z : Option Running) → k < 32 → (b : Bool) → eqb v w ≡ b
            → slice_get (slice_set s.seats w y) v ≡ Some z
            → pages_at (with_pages stacks (bundle_place w slot) pages) (bundle_place v k) ≡ bundle_in z k
        go v k z lt true e at =
            ap (λ n. pages_at (with_pages stacks (bundle_place w slot) pages) (bundle_place n k)) (eqb-true v w e)
            ∙ mine k lt (eqb k slot) refl ∙ sym (changes.each k)
            ∙ ap (λ o. bundle_in o k) (sym (set_here s.seats w v y z (eqb-true v w e) at))
        go v k z lt false e at =
            get_or-set_other stacks.stacks (bundle_place w slot) (bundle_place v k) pages []
            (place_other w slot v k low lt (λ g. eqb-false v w e g))
            ∙ fits.each v k z lt (sym (set_apart s.seats w v y (λ g. eqb-false v w e g)) ∙ at)

-- ---- what an action does

pub none_bundled : (h : Holding) → h.bundled ≡ false → bundled_pages (h ∷ []) ≡ []
none_bundled h e = ap (λ b. map (λ k. k.page) (cond b (h ∷ []) [])) e

one_bundled : (h : Holding) (hs : Holdings) → h.bundled ≡ true → bundled_pages (h ∷ hs) ≡ h.page ∷ bundled_pages hs
one_bundled h hs e =
    ap (λ b. map (λ k. k.page) (cond b (h ∷ filter (λ k. k.bundled) hs) (filter (λ k. k.bundled) hs))) e

one : (h : Holding) → sum_by in_bundle (h ∷ []) ≡ in_bundle h
one h = omega (arith, sum_by-cons in_bundle h [])

plain_one : (h : Holding) → h.bundled ≡ false → sum_by in_bundle (h ∷ []) ≡ 0
plain_one h e = one h ∙ ap {B = ℕ} (λ b. cond b 1 0) e

-- The slots of a seat, where one is filled.
filled_in : (r q : Running) (slot : ℕ) (hs : Holdings) → Fills slot hs (holdings r) (holdings q) → (k : ℕ)
    → bundle_in (Some q) k ≡ cond (eqb k slot) (bundled_pages hs) (bundle_in (Some r) k)
filled_in r q slot hs fills k =
    bundle_is q k ∙ ap bundled_pages (fills k) ∙ go (eqb k slot)
  where
    go : (b : Bool) → bundled_pages (cond b hs (slot_all holding_slot k (holdings r)))
        ≡ cond b (bundled_pages hs) (bundle_in (Some r) k)
    go true = refl
    go false = sym (bundle_is r k)

-- Where a slot without a bundle's page is filled with others that are none, all is the same.
same_filled : (r q : Running) (slot : ℕ) (hs : Holdings) → Fills slot hs (holdings r) (holdings q)
    → bundled_pages (slot_all holding_slot slot (holdings r)) ≡ [] → bundled_pages hs ≡ []
    → sum_by in_bundle (holdings q) ≡ sum_by in_bundle (holdings r) → SameBundles (Some r) (Some q)
same_filled r q slot hs fills before after sums = record {
  each = λ k. filled_in r q slot hs fills k ∙ go k (eqb k slot) refl;
  pins = pins_is (holdings q) ∙ sums ∙ sym (pins_is (holdings r));
}
  where
    go : (k : ℕ) (b : Bool) → eqb k slot ≡ b → cond b (bundled_pages hs) (bundle_in (Some r) k) ≡ bundle_in (Some r) k
    go k true e =
        after ∙ sym (bundle_is r k ∙ ap (λ n. bundled_pages (slot_all holding_slot n (holdings r))) (eqb-true k slot e)
        ∙ before)
    go k false e = refl

abbrev nothing_there : (r : Running) (slot : ℕ) → slot_all holding_slot slot (holdings r) ≡ []
    → bundled_pages (slot_all holding_slot slot (holdings r)) ≡ []
nothing_there r slot e = ap bundled_pages e

-- A page of the slot's own that is found is no bundle's.
pub plain_found : (hs : Holdings) (slot : ℕ) (x y : Holding) → holding_at hs slot ≡ Some x → HasOwn slot hs y
    → x.bundled ≡ false
plain_found hs slot x y e own =
    let found : holding_at hs slot ≡ Some y = found_in hs slot (y ∷ []) own.0 in
    let same : y ≡ x = cc in
    ap (λ z. z.bundled) (sym same) ∙ own.1

lone_plain : (r : Running) (slot : ℕ) (y : Holding) → HasOwn slot (holdings r) y
    → bundled_pages (slot_all holding_slot slot (holdings r)) ≡ []
lone_plain r slot y own = ap bundled_pages own.0 ∙ none_bundled y own.1

-- A bundle has as many pages as pins.
pages_count : (r : Running) (slot : ℕ) → AreBundled (slot_all holding_slot slot (holdings r))
    → length (bundle_in (Some r) slot) ≡ sum_by in_bundle (slot_all holding_slot slot (holdings r))
pages_count r slot all =
    let both = all_bundled (slot_all holding_slot slot (holdings r)) all in
    ap length (bundle_is r slot ∙ both.0) ∙ length-map (slot_all holding_slot slot (holdings r)) (λ h. h.page)
    ∙ sym both.1

-- What an action does to the pages of bundles.
abbrev pub Gathered : (r q : Running) → Action → Type 0
Gathered r q (action.Gather slot page) = Gathers (Some r) (Some q) slot (page ∷ bundle_in (Some r) slot)
Gathered r q (action.Scatter slot) = Gathers (Some r) (Some q) slot []
Gathered r q _ = SameBundles (Some r) (Some q)

pub gathered : (r q : Running) (a : Action) → Handles (holdings r) (holdings q) a → Places (holdings r) (holdings q) a
    → Gathered r q a
gathered r q (action.Fix slot page) h p =
    same_filled r q slot (plain_page slot page ∷ []) p.1 (nothing_there r slot p.0) refl
    (omega (arith, h.1 in_bundle, plain_one (plain_page slot page) refl))
gathered r q (action.Unfix slot) h p =
    same_filled r q slot [] p.2 (lone_plain r slot p.0 p.1) refl
    (omega (arith, h.3 in_bundle, plain_one h.0 (plain_found (holdings r) slot h.0 p.0 h.1 p.1)))
gathered r q (action.Latch slot m) h p =
    let plain = plain_found (holdings r) slot h.0 p.0 h.1 p.1 in
    same_filled r q slot (as_held (held_for m) p.0 ∷ []) p.2 (lone_plain r slot p.0 p.1)
    (none_bundled (as_held (held_for m) p.0) p.1.1)
    (omega (arith, h.3 in_bundle, plain_one h.0 plain, plain_one (as_held (held_for m) h.0) plain))
gathered r q (action.Unlatch slot) h p =
    let plain = plain_found (holdings r) slot h.0 p.0 h.1 p.1 in
    same_filled r q slot (as_held Free p.0 ∷ []) p.2 (lone_plain r slot p.0 p.1)
    (none_bundled (as_held Free p.0) p.1.1)
    (omega (arith, h.3 in_bundle, plain_one h.0 plain, plain_one (as_held Free h.0) plain))
gathered r q (action.Gather slot page) h p = record {
  each = λ k.
      filled_in r q slot (bundle_page slot page ∷ slot_all holding_slot slot (holdings r)) p.1 k
      ∙ ap (λ ps. cond (eqb k slot) ps (bundle_in (Some r) k))
      (one_bundled (bundle_page slot page) (slot_all holding_slot slot (holdings r)) refl
      ∙ ap (λ ps. page ∷ ps) (sym (bundle_is r slot)));
  pins = omega (
    arith,
    h.1 in_bundle,
    one (bundle_page slot page),
    pins_is (holdings q),
    pins_is (holdings r),
  );
}
gathered r q (action.Scatter slot) h p = record {
  each = λ k. filled_in r q slot [] p.1 k;
  pins = omega (
    arith,
    h.1 in_bundle,
    pins_is (holdings q),
    pins_is (holdings r),
    pages_count r slot p.0,
  );
}
gathered r q (action.Choose i) h p = record {
  each = λ k. ap (λ hs. bundled_pages (filter (λ x. x.slot == k) hs)) h;
  pins = ap (count_by (λ x. x.bundled)) h;
}

-- The slot of a gather or a scatter is one of 32.
abbrev pub slots_low : Action → Type 0
slots_low (action.Gather slot page) = slot < 32
slots_low (action.Scatter slot) = slot < 32
slots_low _ = Unit {0}

-- The stacks after an action stand for the next state.
pub acted_bundles : (stacks : PageStacks) (s t : State) (w : ℕ) (r : Running) (a : Action) → BundlesFit stacks s
    → seat_of s w ≡ Some (Some r) → t.seats ≡ slice_set s.seats w (Some (having_done r a))
    → t.settings ≡ s.settings → slots_low a → Gathered r (having_done r a) a → BundlesFit (stacks_after w a stacks) t
acted_bundles stacks s t w r (action.Fix slot page) fits seat seats settings low g =
    bundles_stay stacks s t w (Some r) (Some (having_done r (action.Fix slot page))) fits seat seats settings g
acted_bundles stacks s t w r (action.Unfix slot) fits seat seats settings low g =
    bundles_stay stacks s t w (Some r) (Some (having_done r (action.Unfix slot))) fits seat seats settings g
acted_bundles stacks s t w r (action.Latch slot m) fits seat seats settings low g =
    bundles_stay stacks s t w (Some r) (Some (having_done r (action.Latch slot m))) fits seat seats settings g
acted_bundles stacks s t w r (action.Unlatch slot) fits seat seats settings low g =
    bundles_stay stacks s t w (Some r) (Some (having_done r (action.Unlatch slot))) fits seat seats settings g
acted_bundles stacks s t w r (action.Choose i) fits seat seats settings low g =
    bundles_stay stacks s t w (Some r) (Some (having_done r (action.Choose i))) fits seat seats settings g
acted_bundles stacks s t w r (action.Scatter slot) fits seat seats settings low g =
    bundles_set stacks s t w (Some r) (Some (having_done r (action.Scatter slot))) fits seat seats settings slot [] low g
acted_bundles stacks s t w r (action.Gather slot page) fits seat seats settings low g =
    subst (λ ps. BundlesFit (with_pages stacks (bundle_place w slot) (page ∷ ps)) t)
    (sym (fits.each w slot (Some r) low seat))
    (bundles_set stacks s t w (Some r) (Some (having_done r (action.Gather slot page))) fits seat seats settings slot
    (page ∷ bundle_in (Some r) slot) low g)

-- A seat that holds the same has the same pages of bundles.
pub same_holdings : (r q : Running) → holdings q ≡ holdings r → SameBundles (Some r) (Some q)
same_holdings r q e = record {
  each = λ k. ap (λ hs. bundled_pages (filter (λ x. x.slot == k) hs)) e;
  pins = ap (count_by (λ x. x.bundled)) e;
}

pub nothing_held : (r : Running) → holdings r ≡ [] → SameBundles (Some r) None
nothing_held r e = record {
  each = λ k. sym (ap (λ hs. bundled_pages (filter (λ x. x.slot == k) hs)) e);
  pins = sym (ap (count_by (λ x. x.bundled)) e);
}

-- Where seats and settings stay, so do the stacks.
pub bundles_kept : (stacks : PageStacks) (s t : State) → BundlesFit stacks s → t.seats ≡ s.seats
    → t.settings ≡ s.settings → BundlesFit stacks t
bundles_kept stacks s t fits seats settings = record {
  places = omega (arith, fits.places, ap length seats);
  each = λ w slot x low at. fits.each w slot x low (ap (λ ys. slice_get ys w) (sym seats) ∙ at);
  room = fits.room ∙ sym (ap (λ c. c.layout.frames) settings);
  pins = fits.pins ∙ sym (ap (sum_by bundle_pins) seats);
}

-- ---- what is asked

module _ (s : State) (h : IsReached s) (w : ℕ) (r : Running) where
  -- An action of the plan that the worker is at.
  pub asks_gathers : (a : Action) → seat_of s w ≡ Some (Some r) → given_back r.stage ≡ [] → Asks r a
      → Gathered r (having_done r a) a
  asks_gathers a seat none asks =
      gathered r (having_done r a) a (asked_handles s.settings.layout r a (seat_is s h w r seat) none asks)
      (asked_places s.settings.layout r a (seat_is s h w r seat) none asks)

  some_found : (o : Option Holding) → holds_bundle o ≡ true → (x : Holding) × (o ≡ Some x)
  some_found None e = cc
  some_found (Some x) e = (x, refl)

  pub asks_low : (a : Action) → seat_of s w ≡ Some (Some r) → given_back r.stage ≡ [] → Asks r a → slots_low a
  asks_low (action.Fix slot page) seat none asks = tt
  asks_low (action.Unfix slot) seat none asks = tt
  asks_low (action.Latch slot m) seat none asks = tt
  asks_low (action.Unlatch slot) seat none asks = tt
  asks_low (action.Choose i) seat none asks = tt
  asks_low (action.Gather slot page) seat none asks =
      (fix_within r.accepted.plan r.done (ask.Gather slot 0) slot page (seat_is s h w r seat).accepted.plan asks).0
  asks_low (action.Scatter slot) seat none asks =
      let does = asked_handles s.settings.layout r (action.Scatter slot) (seat_is s h w r seat) none asks in
      let found = some_found (holding_at (holdings r) slot) does.0 in
      (slots_are_within s h w r seat slot found.0 found.1).few

-- The stacks after an action that is asked stand for the next state.
pub asked_bundles : (stacks : PageStacks) (s t : State) (h : IsReached s) (w : ℕ) (r : Running) (a : Action)
    → BundlesFit stacks s → seat_of s w ≡ Some (Some r) → given_back r.stage ≡ [] → Asks r a
    → t.seats ≡ slice_set s.seats w (Some (having_done r a)) → t.settings ≡ s.settings
    → BundlesFit (stacks_after w a stacks) t
asked_bundles stacks s t h w r a fits seat none asks seats settings =
    acted_bundles stacks s t w r a fits seat seats settings (asks_low s h w r a seat none asks)
    (asks_gathers s h w r a seat none asks)

-- A worker goes on to another stage, and has given the same slots back.
pub staged_bundles : (stacks : PageStacks) (s t : State) (w : ℕ) (r : Running) (g : Stage) → BundlesFit stacks s
    → seat_of s w ≡ Some (Some r) → given_back g ≡ given_back r.stage
    → t.seats ≡ slice_set s.seats w (Some (at_stage r g)) → t.settings ≡ s.settings → BundlesFit stacks t
staged_bundles stacks s t w r g fits seat same seats settings =
    bundles_stay stacks s t w (Some r) (Some (at_stage r g)) fits seat seats settings
    (same_holdings r (at_stage r g) (stage_holds r g same))

-- ---- a record is free

pins_within : (s : State) → IsReached s → (w : ℕ) (x : Option Running) → slice_get s.seats w ≡ Some x
    → bundle_pins x ≤ peak_of x
pins_within s h w None seat = omega arith
pins_within s h w (Some r) seat =
    omega (
      arith,
      count_by-le-length (λ (k : Holding). k.bundled) (holdings r),
      takes_length r,
      seat_takes s.settings.layout (Some r) ((good s h).seats w (Some r) seat),
    )

-- Where a worker may take one page more, bundles have fewer pins than there are frames: all peaks fit the frames.
pub bundles_few : (s : State) → IsReached s → (w : ℕ) (r : Running) → seat_of s w ≡ Some (Some r)
    → suc (length (holdings r)) ≤ r.accepted.peak → all_bundle_pins s < s.settings.layout.frames
bundles_few s h w r seat more =
    omega (
      arith,
      sum_by-lt bundle_pins peak_of s.seats w (Some r) (pins_within s h) seat
          (omega (arith, count_by-le-length (λ (k : Holding). k.bundled) (holdings r), more)),
      peaks_room s h,
    )

-- There are at most 1,024 workers, so the number of a place fits 32 bits.
pub place_fits : (s : State) → IsReached s → (w : ℕ) (r : Running) (slot : ℕ) → seat_of s w ≡ Some (Some r) → slot < 32
    → bundle_place w slot < 2 ^ 32
place_fits s h w r slot seat low =
    omega (
      arith,
      place_low w slot (length s.seats) (slice_get_within s.seats w (Some r) seat) low,
      seats_are_all s h,
      h.settings.workers.1,
    )

-- So a gather finds a record.
pub has_record : (stacks : PageStacks) (s : State) → IsReached s → (w : ℕ) (r : Running) (k : Ask) (slot page : ℕ)
    → BundlesFit stacks s → seat_of s w ≡ Some (Some r) → slot < 32 → all_bundle_pins s < s.settings.layout.frames
    → HasRecord w (fixes k slot page) stacks
has_record stacks s h w r k slot page fits seat low few =
    by_fix (λ a b. HasRecord w a stacks) k slot page tt (
      omega (
        arith,
        fits.places,
        place_low w slot (length s.seats) (slice_get_within s.seats w (Some r) seat) low,
      ),
      omega (arith, fits.pins, fits.room, few),
      place_fits s h w r slot seat low,
    )

-- ---- a slot that is given back on the way out

-- With a page of its own no bundle changes.
pub unwound_own : (r : Running) (slot : ℕ) (given : List ℕ) (k : Holding) → r.stage ≡ leaving given
    → slot_all holding_slot slot (holdings r) ≡ k ∷ [] → k.bundled ≡ false
    → SameBundles (Some r) (Some (at_stage r (leaving (slot ∷ given))))
unwound_own r slot given k at alone plain =
    same_filled r (at_stage r (leaving (slot ∷ given))) slot [] (unwound_fills r slot given at)
    (ap bundled_pages alone ∙ none_bundled k plain) refl
    (omega (arith, unwound_swaps r slot given at in_bundle, ap (sum_by in_bundle) alone, plain_one k plain))

-- With a bundle all its pages go.
pub unwound_bundle : (r : Running) (slot : ℕ) (given : List ℕ) → r.stage ≡ leaving given
    → AreBundled (slot_all holding_slot slot (holdings r))
    → Gathers (Some r) (Some (at_stage r (leaving (slot ∷ given)))) slot []
unwound_bundle r slot given at all =
    let y = at_stage r (leaving (slot ∷ given)) in
    record {
      each = λ k. filled_in r y slot [] (unwound_fills r slot given at) k;
      pins = omega (
        arith,
        unwound_swaps r slot given at in_bundle,
        pins_is (holdings y),
        pins_is (holdings r),
        pages_count r slot all,
      );
    }
