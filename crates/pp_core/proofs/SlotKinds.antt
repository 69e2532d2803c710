-- The page that is found in a slot tells of what kind the slot is: its own page alone, or a bundle's pages.
use Rattle.std.proofs.Common.{◌≡◌, ◌∙◌, ℕ, ◌<◌, ◌≤◌, true, false, Option, Some, None, List, [], ◌∷◌, length, refl, sym, ap, arith}
use Rattle.std.specs.Prelude.{unwrap_or}
use Rattle.pp_cert.specs.declared.note.Held.TheVariants.{Free}
use Rattle.pp_cert.specs.Held.{Holding, Holdings, holding_slot, holding_at, holds_bundle}
use Rattle.pp_cert.proofs.Slots.{first_of, slot_all, get_first}
use Rattle.pp_model.specs.Pool.{Running, State}
use Rattle.pp_model.specs.Holders.{holdings}
use Rattle.pp_model.specs.Moves.{seat_of}
use Rattle.pp_model.specs.Reached.{IsReached}
use Rattle.pp_model.proofs.ChangeTotals.{AreFree}
use Rattle.pp_model.proofs.Effects.{holdings_kept}
use Rattle.pp_model.proofs.HoldingSteps.{seat_is, slots_are_within}
use Rattle.pp_model.proofs.KeptSlots.{AreBundled, IsKeptAt, own, packed, nothing_in}
use Rattle.pp_core.specs.Parts.{Parts}
use Rattle.pp_core.specs.StandsFor.{StandsFor}
use Rattle.pp_core.specs.Effects.{bundle_pages}
use Rattle.pp_core.specs.Gathered.{bundle_in}
use Rattle.pp_core.specs.Queries.{gathered_of}
use Rattle.pp_core.proofs.Gathered.{bundled_pages, all_bundled, bundle_is, none_bundled}
use Rattle.pp_core.proofs.Unpinned.{pages_of}

own_found : (hs : Holdings) (h : Holding) → IsKeptAt hs → first_of hs ≡ Some h → h.bundled ≡ false → hs ≡ h ∷ []
own_found hs h (own x e plain) found isnt =
    let same : Some x ≡ Some h = sym (ap first_of e) ∙ found in
    let is : x ≡ h = cc in
    e ∙ ap {B = Holdings} (λ y. y ∷ []) is
own_found [] h (packed all) found isnt = cc
own_found (x ∷ hs) h (packed all) found isnt =
    let is : x ≡ h = cc in
    let bundled : h.bundled ≡ true = ap (λ y. y.bundled) (sym is) ∙ all.0.bundled in
    absurd (cc)

packed_found : (hs : Holdings) (h : Holding) → IsKeptAt hs → first_of hs ≡ Some h → h.bundled ≡ true → AreBundled hs
packed_found hs h (own x e plain) found bundled =
    let same : Some x ≡ Some h = sym (ap first_of e) ∙ found in
    let is : x ≡ h = cc in
    let isnt : h.bundled ≡ false = ap (λ y. y.bundled) (sym is) ∙ plain in
    absurd (cc)
packed_found hs h (packed all) found bundled = all

module _ (s : State) (h : IsReached s) (w : ℕ) (r : Running) (seat : seat_of s w ≡ Some (Some r)) where
  -- A page that is no bundle's is all that the slot holds.
  pub lone : (slot : ℕ) (x : Holding) → holding_at (holdings r) slot ≡ Some x → x.bundled ≡ false
      → slot_all holding_slot slot (holdings r) ≡ x ∷ []
  lone slot x found isnt =
      own_found (slot_all holding_slot slot (holdings r)) x
      (holdings_kept s.settings.layout r (seat_is s h w r seat) slot)
      (sym (get_first holding_slot slot (holdings r)) ∙ found) isnt

  -- With a bundle's page, the slot holds a bundle's pages alone.
  pub bundle_alone : (slot : ℕ) (x : Holding) → holding_at (holdings r) slot ≡ Some x → x.bundled ≡ true
      → AreBundled (slot_all holding_slot slot (holdings r))
  bundle_alone slot x found bundled =
      packed_found (slot_all holding_slot slot (holdings r)) x
      (holdings_kept s.settings.layout r (seat_is s h w r seat) slot)
      (sym (get_first holding_slot slot (holdings r)) ∙ found) bundled

-- None of them is latched.
pub none_latched : (hs : Holdings) → AreBundled hs → AreFree hs
none_latched [] all = tt
none_latched (h ∷ hs) all = (all.0.free, none_latched hs all.1)

-- The stack of such a slot has the pages that the worker holds there.
pub stack_told : (f : Parts) (s : State) (w slot : ℕ) (r : Running) → StandsFor f s → seat_of s w ≡ Some (Some r)
    → slot < 32 → AreBundled (slot_all holding_slot slot (holdings r))
    → bundle_pages f w slot ≡ pages_of (slot_all holding_slot slot (holdings r))
stack_told f s w slot r st seat low all =
    st.bundles.each w slot (Some r) low seat ∙ bundle_is r slot
    ∙ (all_bundled (slot_all holding_slot slot (holdings r)) all).0

-- ---- bundles that are told

some_packed : (hs : Holdings) → IsKeptAt hs → 0 < length (bundled_pages hs) → AreBundled hs
some_packed hs (own x e plain) some =
    absurd (omega (arith, some, ap (λ (ks : Holdings). length (bundled_pages ks)) e, ap length (none_bundled x plain)))
some_packed hs (packed all) some = all

-- A slot of which pins of a bundle are told has a bundle's pages alone.
pub gathered_bundle : (s : State) → IsReached s → (w : ℕ) (r : Running) (slot : ℕ) → seat_of s w ≡ Some (Some r)
    → 0 < gathered_of s w slot → AreBundled (slot_all holding_slot slot (holdings r))
gathered_bundle s h w r slot seat some =
    let told : gathered_of s w slot ≡ length (bundle_in (Some r) slot) =
    ap (λ o. length (bundle_in (unwrap_or o None) slot)) seat in
    some_packed (slot_all holding_slot slot (holdings r)) (holdings_kept s.settings.layout r (seat_is s h w r seat) slot)
    (omega (arith, some, told, ap (λ (ps : List ℕ). length ps) (bundle_is r slot)))

first_free : (hs : Holdings) (x : Holding) → first_of hs ≡ Some x → AreBundled hs → x.held ≡ Free
first_free [] x e all = cc
first_free (h ∷ hs) x e all = let is : h ≡ x = cc in ap (λ k. k.held) (sym is) ∙ all.0.free

-- What is found in it isn't latched.
pub bundle_free : (hs : Holdings) (slot : ℕ) (x : Holding) → holding_at hs slot ≡ Some x
    → AreBundled (slot_all holding_slot slot hs) → x.held ≡ Free
bundle_free hs slot x found all =
    first_free (slot_all holding_slot slot hs) x (sym (get_first holding_slot slot hs) ∙ found) all

some_pages : (hs : Holdings) → holds_bundle (first_of hs) ≡ true → AreBundled hs → 0 < length (bundled_pages hs)
some_pages [] some all = cc
some_pages (h ∷ hs) some all =
    omega (arith, ap (λ (ps : List ℕ). length ps) (all_bundled (h ∷ hs) all).0)

-- Where a bundle is found, pins of it are told.
pub scatter_some : (s : State) (w : ℕ) (r : Running) (slot : ℕ) → seat_of s w ≡ Some (Some r)
    → holds_bundle (holding_at (holdings r) slot) ≡ true → AreBundled (slot_all holding_slot slot (holdings r))
    → 0 < gathered_of s w slot
scatter_some s w r slot seat some all =
    let told : gathered_of s w slot ≡ length (bundle_in (Some r) slot) =
    ap (λ o. length (bundle_in (unwrap_or o None) slot)) seat in
    omega (
      arith,
      told,
      ap (λ (ps : List ℕ). length ps) (bundle_is r slot),
      some_pages (slot_all holding_slot slot (holdings r))
          (sym (ap holds_bundle (get_first holding_slot slot (holdings r))) ∙ some) all,
    )

-- A slot past the last one is no bundle.
pub none_past : (s : State) → IsReached s → (w : ℕ) (r : Running) (slot : ℕ) → seat_of s w ≡ Some (Some r) → 32 ≤ slot
    → bundle_in (Some r) slot ≡ []
none_past s h w r slot seat past =
    bundle_is r slot ∙ ap bundled_pages (nothing_in (holdings r) slot (go (holding_at (holdings r) slot) refl))
  where
    go : (o : Option Holding) → holding_at (holdings r) slot ≡ o → holding_at (holdings r) slot ≡ None
    go None e = e
    go (Some x) e = absurd (omega (arith, (slots_are_within s h w r seat slot x e).few, past))
