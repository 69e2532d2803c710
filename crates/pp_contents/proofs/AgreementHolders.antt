-- A page that is cached and isn't being loaded has its image in the vault or its hands: in its frame, or with the guard
-- of a worker that has it latched X.
use Rattle.std.proofs.Common.{◌≡◌, ◌∙◌, ◌⊎◌, ℕ, zero, suc, ◌<◌, ◌≤◌, Bool, true, false, eqb, cond, Option, Some}
use Rattle.std.proofs.Common.{None, List, [], ◌∷◌, ◌++◌, length, refl, sym, ap, subst, inl, inr, arith}
use Rattle.std.specs.Prelude.{nat_lt, slice_get, is_some, IsSome, if◌then◌else◌}
use Rattle.std.proofs.lemmas.Bool.{false≢true, cases_lt}
use Rattle.std.proofs.lemmas.Bool.Decides.{nat_tests}
use Rattle.std.proofs.lemmas.Option.{slice_get_within}
use Rattle.pp_plan.specs.declared.mode.Mode.TheVariants as mode
use Rattle.pp_cert.specs.declared.note.Held as note
use Rattle.pp_cert.specs.declared.note.Held.TheVariants.{Free, S, X}
use Rattle.pp_cert.specs.Held.{Holding, Holdings, holding_slot, is_latched, holding_at}
use Rattle.pp_cert.proofs.Slots.{slot_all}
use Rattle.pp_arc.specs.FourLists.{is_cached}
use Rattle.pp_frames.specs.declared.mode.Mode.TheVariants as latch_mode
use Rattle.pp_frames.specs.Marks.{Shared, Exclusive, is_compatible}
use Rattle.pp_model.specs.Pool.{Running, State}
use Rattle.pp_model.specs.Holders.{holdings, is_exclusive, readers_of, writers_of}
use Rattle.pp_model.specs.Using.{goes_with}
use Rattle.pp_model.specs.Moves.{seat_of}
use Rattle.pp_model.specs.Reached.{IsReached}
use Rattle.pp_model.specs.Ready.{standing_of, ready_at}
use Rattle.pp_model.proofs.KeptSlots.{AreBundled, IsKeptAt, own, packed, found_in}
use Rattle.pp_model.proofs.Effects.{holdings_kept}
use Rattle.pp_model.proofs.Seats.{good}
use Rattle.pp_model.proofs.ChangeTotals.{seat_at}
use Rattle.pp_model.proofs.Totals.{loads_of}
use Rattle.pp_model.proofs.ReadyPages.{cached_ready}
use Rattle.pp_model.proofs.ReadySteps.{shared_unwritten}
use Rattle.pp_model.proofs.TurnsLatches.{a_latch_that_is_refused_has_a_holder}
use Rattle.pp_core.specs.Queries.{own_of, held_by, held_of}
use Rattle.pp_vault.specs.declared.guards.Guard.{Guard}
use Rattle.pp_vault.specs.declared.guards.Guard.TheVariants.{Pin, Read, Write, Bundle}
use Rattle.pp_vault.specs.declared.guards.WriteGuard.{WriteGuard}
use Rattle.pp_vault.specs.declared.hands.Hands.{Hands}
use Rattle.pp_vault.specs.Parts.{Parts}
use Rattle.pp_vault.specs.Holding.{placed}
use Rattle.pp_vault.specs.Hands.{PlaceFits, HasHand}
use Rattle.pp_contents.specs.Content.{or_other, first_given, written_by, written_in, victim_in, standing_image}
use Rattle.pp_contents.specs.Content.{ready_image, image_here}
use Rattle.pp_contents.specs.ContentLaws.{Held}
use Rattle.pp_vault.proofs.FitTests.{own_is, bundle_alone, none_some, some_some}
use Rattle.pp_contents.proofs.AgreementAnswers.{same_page}

-- ---- who has a page latched X

-- What is listed stands among what its slot holds.
listed_in : (hs : Holdings) (i : ℕ) (h : Holding) → slice_get hs i ≡ Some h
    → (ys : Holdings) × (zs : Holdings) × (slot_all holding_slot h.slot hs ≡ ys ++ h ∷ zs)
listed_in [] i h e = absurd (none_some e)
listed_in (y ∷ ys) zero h e =
    let same : y ≡ h = some_some y y h e in (
      [],
      slot_all holding_slot h.slot ys,
      ap (λ b. cond b (y ∷ slot_all holding_slot h.slot ys) (slot_all holding_slot h.slot ys))
          (ap (λ (x : Holding). eqb x.slot h.slot) same ∙ same_page h.slot h.slot refl)
          ∙ ap (λ x. x ∷ slot_all holding_slot h.slot ys) same,
    )
listed_in (y ∷ ys) (suc i) h e =
    let rest = listed_in ys i h e in
    go (eqb y.slot h.slot) rest.0 rest.1 rest.2
  where
    go : (b : Bool) (us vs : Holdings) → slot_all holding_slot h.slot ys ≡ us ++ h ∷ vs
        → (ws : Holdings) × (zs : Holdings)
        × (cond b (y ∷ slot_all holding_slot h.slot ys) (slot_all holding_slot h.slot ys) ≡ ws ++ h ∷ zs)
    go true us vs f = (y ∷ us, vs, ap (λ l. y ∷ l) f)
    go false us vs f = (us, vs, f)

only_one : (us vs : Holdings) (h x : Holding) → x ∷ [] ≡ us ++ h ∷ vs → x ≡ h
only_one [] vs h x e = cc
only_one (u ∷ []) vs h x e = absurd (cc)
only_one (u ∷ v ∷ us) vs h x e = absurd (cc)

free_among : (hs us vs : Holdings) (h : Holding) → hs ≡ us ++ h ∷ vs → AreBundled hs → h.held ≡ Free
free_among [] [] vs h e all = absurd (cc)
free_among [] (u ∷ us) vs h e all = absurd (cc)
free_among (y ∷ ys) [] vs h e all =
    let same : y ≡ h = cc in ap (λ (x : Holding). x.held) (sym same) ∙ all.0.free
free_among (y ∷ ys) (u ∷ us) vs h e all =
    let same : ys ≡ us ++ h ∷ vs = cc in free_among ys us vs h same all.1

-- A latched page that is listed is found in its slot, since it is the slot's own.
latched_found : (hs : Holdings) (i : ℕ) (h : Holding) → IsKeptAt (slot_all holding_slot h.slot hs)
    → slice_get hs i ≡ Some h → is_latched h.held ≡ true → holding_at hs h.slot ≡ Some h
latched_found hs i h (own x e plain) at latched =
    let among = listed_in hs i h at in
    let same : x ≡ h = only_one among.0 among.1 h x (sym e ∙ among.2) in
    found_in hs h.slot (x ∷ []) e ∙ ap Some same
latched_found hs i h (packed all) at latched =
    let among = listed_in hs i h at in
    let free = free_among (slot_all holding_slot h.slot hs) among.0 among.1 h among.2 all in
    absurd (false≢true (sym (ap is_latched free) ∙ latched))

-- It is the slot's own.
latched_own : (hs : Holdings) (i : ℕ) (h : Holding) → IsKeptAt (slot_all holding_slot h.slot hs)
    → slice_get hs i ≡ Some h → is_latched h.held ≡ true → h.bundled ≡ false
latched_own hs i h (own x e plain) at latched =
    let among = listed_in hs i h at in
    let same : x ≡ h = only_one among.0 among.1 h x (sym e ∙ among.2) in
    ap (λ (y : Holding). y.bundled) (sym same) ∙ plain
latched_own hs i h (packed all) at latched =
    let among = listed_in hs i h at in
    let free = free_among (slot_all holding_slot h.slot hs) among.0 among.1 h among.2 all in
    absurd (false≢true (sym (ap is_latched free) ∙ latched))

-- A slot has the page latched X.
record HasExclusive (s : State) (page : ℕ) : Type 0 where
  worker : ℕ
  slot : ℕ
  held : held_of s worker slot ≡ Some (page, X)

module _ (s : State) (reached : IsReached s) (page : ℕ) (some : 0 < writers_of s page) where
  refused : goes_with s mode.S page ≡ false
  refused =
      let test : nat_lt 0 (writers_of s page) ≡ true = positive (writers_of s page) some in
      ap (λ b. is_compatible latch_mode.S (cond b Exclusive (Shared (readers_of s page)))) test
    where
      positive : (n : ℕ) → 0 < n → nat_lt 0 n ≡ true
      positive n lt = grind (arith, nat_tests)

  latch_is : (w : ℕ) (r : Running) (h : Holding) → seat_of s w ≡ Some (Some r)
      → holding_at (holdings r) h.slot ≡ Some h → h.page ≡ page → (k : note.Held) → h.held ≡ k → is_latched k ≡ true
      → k ≡ X
  latch_is w r h seat found same Free e is = absurd (false≢true is)
  latch_is w r h seat found same S e is =
      absurd
      (omega (arith, some, shared_unwritten s reached w r h.slot h seat found e, ap (writers_of s) same))
  latch_is w r h seat found same X e is = refl

  exclusive_held : HasExclusive s page
  exclusive_held =
      let has = a_latch_that_is_refused_has_a_holder s mode.S page refused in
      let h = has.holding in
      let sits = seat_at s has.worker has.running (good s reached) has.seat in
      let kept = holdings_kept s.settings.layout has.running sits h.slot in
      let found = latched_found (holdings has.running) has.place h kept has.found has.latched in
      let latch : h.held ≡ X =
      latch_is has.worker has.running h has.seat found has.same h.held refl has.latched in
      record {
        worker = has.worker;
        slot = h.slot;
        held =
            ap (λ o. held_by o h.slot) has.seat ∙ ap own_of found
            ∙ own_is h (latched_own (holdings has.running) has.place h kept has.found has.latched)
            ∙ (λ i. Some (has.same i, latch i));
      }

-- ---- its image is in a hand

or_first : {T : Type 0} (o p : Option T) → IsSome o → IsSome (or_other o p)
or_first None p e = absurd (false≢true e)
or_first (Some x) p e = refl

or_second : {T : Type 0} (o p : Option T) → IsSome p → IsSome (or_other o p)
or_second None p e = e
or_second (Some x) p e = refl

-- A search finds something where one place gives something.
given_some : {T U : Type 0} (gives : Option T → Option U) (xs : List (Option T)) (n : ℕ) (x : T)
    → placed xs n ≡ Some x → IsSome (gives (Some x)) → IsSome (first_given gives xs)
given_some gives [] n x e some = absurd (none_some e)
given_some gives (y ∷ ys) zero x e some =
    or_first (gives y) (first_given gives ys) (subst (λ o. IsSome (gives o)) (sym e) some)
given_some gives (y ∷ ys) (suc n) x e some =
    or_second (gives y) (first_given gives ys) (given_some gives ys n x e some)

abbrev holds_exclusive : Option (ℕ × note.Held) → Bool
holds_exclusive None = false
holds_exclusive (Some h) = is_exclusive h.1

page_is : {page q : ℕ} → ◌≡◌ {A = Option (ℕ × note.Held)} (Some (page, X)) (Some (q, X)) → page ≡ q
page_is {page} {q} e = ap (λ (p : ℕ × note.Held). p.0) (some_some {A = ℕ × note.Held} (page, X) (page, X) (q, X) e)

writes_page : (g : WriteGuard) (page : ℕ) → g.page ≡ page → IsSome (written_by page (Some (Write g)))
writes_page g page e = ap (λ b. is_some (if b then Some g.image else None)) (same_page g.page page e)

-- The place of a slot that has the page latched X has a guard with its image.
place_writes : (n : ℕ) (s : State) → IsReached s → (w slot page : ℕ) (guards : List (Option Guard)) (o : Option Guard)
    → placed guards slot ≡ o → PlaceFits n s w slot o → held_of s w slot ≡ Some (page, X)
    → IsSome (first_given (written_by page) guards)
place_writes n s h w slot page guards None e fits held = absurd (none_some (sym fits.no_page ∙ held))
place_writes n s h w slot page guards (Some (Bundle g)) e fits held =
    absurd (none_some (sym (bundle_alone s h w slot fits.gathered) ∙ held))
place_writes n s h w slot page guards (Some (Pin g)) e fits held =
    absurd (false≢true (ap holds_exclusive (sym fits.held ∙ held)))
place_writes n s h w slot page guards (Some (Read g)) e fits held =
    absurd (false≢true (ap holds_exclusive (sym fits.held ∙ held)))
place_writes n s h w slot page guards (Some (Write g)) e fits held =
    given_some (written_by page) guards slot (Write g) e
    (writes_page g page (page_is (sym fits.held ∙ held)))

seated_low : (s : State) (w slot page : ℕ) (o : Option (Option Running)) → seat_of s w ≡ o
    → held_by o slot ≡ Some (page, X) → w < length s.seats
seated_low s w slot page None e held = absurd (none_some held)
seated_low s w slot page (Some x) e held = slice_get_within s.seats w x e

hand_writes : (v : Parts) (s : State) (hands : Hands) → Held v s hands → (page : ℕ) → HasExclusive s page
    → IsSome (first_given (written_in page) hands.workers)
hand_writes v s hands held page has =
    let low = seated_low s has.worker has.slot page (seat_of s has.worker) refl has.held in
    let hand : HasHand v.page_bytes s hands.workers has.worker = held.fit.each has.worker low in
    given_some (written_in page) hands.workers has.worker hand.hand hand.there
    (place_writes v.page_bytes s held.stands.core.reached has.worker has.slot page hand.hand.guards
    (placed hand.hand.guards has.slot) refl (hand.fits.guards has.slot) has.held)

-- ---- a page that is cached

module _ (v : Parts) (s : State) (hands : Hands) (held : Held v s hands) (page : ℕ)
    (here : is_cached s.lists page ≡ true) (free : loads_of s page ≡ 0) where
  ready_some : ready_at s page ≡ Some (standing_of s page) → IsSome (ready_image v s page)
  ready_some at =
      ap is_some
      (ap (standing_image v) at ∙ (held.stands.images.right page (standing_of s page) at).there)

  pub cached_here : IsSome (image_here v s hands page)
  cached_here = go (cases_lt 0 (writers_of s page))
    where
      go : (0 < writers_of s page) ⊎ (writers_of s page ≤ 0) → IsSome (image_here v s hands page)
      go (inl some) =
          or_first (first_given (written_in page) hands.workers)
          (or_other (first_given (victim_in page) hands.workers) (ready_image v s page))
          (hand_writes v s hands held page (exclusive_held s held.stands.core.reached page some))
      go (inr none) =
          let at = cached_ready s held.stands.core.reached page here free (omega (arith, none)) in
          or_second (first_given (written_in page) hands.workers)
          (or_other (first_given (victim_in page) hands.workers) (ready_image v s page))
          (or_second (first_given (victim_in page) hands.workers) (ready_image v s page) (ready_some at))
