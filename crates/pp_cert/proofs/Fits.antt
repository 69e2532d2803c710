-- A note fits what is held: each slot holds what the note says of it, apart from the pins of bundles that are still to come.
use Rattle.std.proofs.Common.{◌≡◌, ℕ, zero, suc, ◌+◌, ◌<◌, ◌≤◌, Bool, true, false, cond, Option, Some, None, List, []}
use Rattle.std.proofs.Common.{◌∷◌, ◌++◌, length, get_or, refl, sym, ap, subst, ◌∙◌, append_assoc, arith, inl, inr}
use Rattle.std.specs.Prelude.{◌⊎◌, ◌==◌, ◌&&◌, ◌||◌, not, nat_lt, nat_le, if◌then◌else◌, is_some, option_map, find}
use Rattle.std.specs.Prelude.{slice_get}
use Rattle.std.specs.Prelude.{unwrap_or, All, AllPairs, IsTrue}
use Rattle.std.specs.List.{list_all}
use Rattle.std.proofs.lemmas.Bool.{and_parts, not-true, ltb-true, leb-true, eqb-true}
use Rattle.std.proofs.lemmas.List.Elements.{All-nil, All-cons, All-weaker}
use Rattle.pp_settings.specs.declared.extent.Extent.{Extent}
use Rattle.pp_settings.specs.Layout.{Geometry, HasPage, IsLayout, IsApart, has_page, class_of}
use Rattle.pp_cert.specs.declared.note.Entry.{Entry}
use Rattle.pp_cert.specs.declared.note.Entry.TheVariants.{Slot, Bundle}
use Rattle.pp_cert.specs.declared.note.Held.{Held}
use Rattle.pp_cert.specs.Slots.{slot_insert, slot_push, slot_remove, slot_clear}
use Rattle.pp_cert.specs.Held.{Holding, Holdings, holding_slot, holding_at, plain_held, held_at, holds_bundle}
use Rattle.pp_cert.specs.Held.{bundle_page, holding_as, is_latched, IsClassBelow, IsAboveLatched}
use Rattle.pp_cert.specs.Notes.{Entries, note_pins, entry_slot, entry_held, is_slot, entry_as, entry_at, noted_at}
use Rattle.pp_cert.specs.Notes.{bound_at, noted_as, without_page, without_bundle, with_bound, region_class, entry_class}
use Rattle.pp_cert.specs.Notes.{slot_class, is_above_latched}
use Rattle.pp_cert.proofs.Slots.{first_of, without_first, with_first, slot_all, get_first, push_here, push_other}
use Rattle.pp_cert.proofs.Slots.{remove_here, remove_other, clear_here, clear_other, update_here, update_other}
use Rattle.pp_cert.proofs.Slots.{member_splits}
use Rattle.pp_cert.proofs.Pages.{weight, page_weighs, bound_weighs, page_here, page_other, without_here, without_other}
use Rattle.pp_cert.proofs.Pages.{as_here, as_other, bound_page, bound_without_page, bound_as, bound_without_here}
use Rattle.pp_cert.proofs.Pages.{bound_without_other, bound_with_here, bound_with_other, page_without_bundle}
use Rattle.pp_cert.proofs.Pages.{page_with_bound}
use Rattle.pp_cert.proofs.Sums.{few}

-- ---- notes and holdings

-- The entry tells of the page that is held, which is no bundle's.
abbrev pub Tells : Geometry → Entry → Holding → Type 0
Tells g (Slot s r held) h = (held ≡ h.held) × (h.bundled ≡ false) × HasPage g r h.page
Tells g (Bundle s k) h = ⊥

-- One of a bundle's pages, of which none is latched.
abbrev pub is_of_bundle : Holding → Bool
is_of_bundle h = h.bundled && not (is_latched h.held)

abbrev pub all_bundled : Holdings → Bool
all_bundled hs = list_all is_of_bundle hs

-- Of one slot: whether the plan uses it as a bundle, the entry of its page, its bound as a bundle, how many pins of it are
-- still to come, and what it holds. A page is all that its slot holds.
abbrev pub FitsAt : Geometry → (kind : Bool) → Option Entry → (bound off : ℕ) → Holdings → Type 0
FitsAt g kind None bound off hs = (all_bundled hs ≡ true) × (length hs + off ≡ bound)
FitsAt g kind (Some e) bound off hs =
    (h : Holding) × (hs ≡ h ∷ []) × Tells g e h × (kind ≡ false) × (off ≡ bound)

-- The note fits what is held, where so many pins of each slot are still to come.
abbrev pub Fits : Geometry → (kind : ℕ → Bool) (off : ℕ → ℕ) → Entries → Holdings → Type 0
Fits g kind off n hs =
    (s : ℕ) → FitsAt g (kind s) (entry_at n s) (bound_at n s) (off s) (slot_all holding_slot s hs)

-- nothing is noted, nothing is held, and nothing is to come
pub fits_nothing : (g : Geometry) (kind : ℕ → Bool) → Fits g kind (λ s. 0) [] []
fits_nothing g kind = λ s. (refl, refl)

-- A slot holds no more pages than it has pins, so no more are held than the note has pins.
fits_weight : (g : Geometry) (kind : Bool) (n : Entries) (s : ℕ) (o : Option Entry) (off : ℕ) (hs : Holdings)
    → entry_at n s ≡ o → FitsAt g kind o (bound_at n s) off hs → length hs ≤ weight n s
fits_weight g kind n s None off hs e f = omega (arith, f.1, bound_weighs n s)
fits_weight g kind n s (Some x) off hs e f =
    let one : length hs ≡ 1 = ap length f.1 in
    omega (arith, one, page_weighs n s x e)

pub fits_few : (g : Geometry) (kind : ℕ → Bool) (off : ℕ → ℕ) (n : Entries) (hs : Holdings) → Fits g kind off n hs
    → length hs ≤ note_pins n
fits_few g kind off n hs f =
    few n hs (λ s. fits_weight g (kind s) n s (entry_at n s) (off s) (slot_all holding_slot s hs) refl (f s))

pub fits_empty : (g : Geometry) (kind : ℕ → Bool) (off : ℕ → ℕ) (hs : Holdings) → Fits g kind off [] hs → hs ≡ []
fits_empty g kind off hs f = none_left hs (fits_few g kind off [] hs f)
  where
    none_left : (hs : Holdings) → length hs ≤ 0 → hs ≡ []
    none_left [] l = refl
    none_left (h ∷ hs) l = absurd (omega (arith, l))

-- Another note with the same entries of pages, where its bounds and what is to come differ alike.
refits_at : (g : Geometry) (kind : Bool) (o p : Option Entry) (b d off to : ℕ) (hs : Holdings) → o ≡ p
    → b + to ≡ d + off → FitsAt g kind o b off hs → FitsAt g kind p d to hs
refits_at g kind o p b d off to hs e h f =
    subst (λ x. FitsAt g kind x d to hs) e (moved o f)
  where
    moved : (x : Option Entry) → FitsAt g kind x b off hs → FitsAt g kind x d to hs
    moved None k = (k.0, omega (arith, k.1, h))
    moved (Some y) k = (k.0, k.1, k.2, k.3, omega (arith, k.4, h))

pub refits : (g : Geometry) (kind : ℕ → Bool) (off to : ℕ → ℕ) (m n : Entries) (hs : Holdings)
    → ((s : ℕ) → entry_at m s ≡ entry_at n s) → ((s : ℕ) → bound_at m s + to s ≡ bound_at n s + off s)
    → Fits g kind off m hs → Fits g kind to n hs
refits g kind off to m n hs e h f =
    λ s. refits_at g (kind s) (entry_at m s) (entry_at n s) (bound_at m s) (bound_at n s) (off s) (to s)
    (slot_all holding_slot s hs) (e s) (h s) (f s)

tells_held : (g : Geometry) (e : Entry) (h : Holding) → Tells g e h → entry_held e ≡ h.held
tells_held g (Slot s r held) h t = t.0
tells_held g (Bundle s k) h t = absurd t

tells_own : (g : Geometry) (e : Entry) (h : Holding) → Tells g e h → Some (entry_held e) ≡ plain_held (Some h)
tells_own g (Slot s r held) h t = ap Some t.0 ∙ sym (ap (λ b. if b then None else Some h.held) t.1)
tells_own g (Bundle s k) h t = absurd t

-- of a bundle no page is its slot's own
not_own : (hs : Holdings) → all_bundled hs ≡ true → plain_held (first_of hs) ≡ None
not_own [] a = refl
not_own (h ∷ hs) a =
    let one = and_parts (is_of_bundle h) (all_bundled hs) a in
    ap (λ b. if b then None else Some h.held) (and_parts h.bundled (not (is_latched h.held)) one.0).0

held_here : (g : Geometry) (kind : Bool) (o : Option Entry) (b off : ℕ) (hs : Holdings) → FitsAt g kind o b off hs
    → option_map entry_held o ≡ plain_held (first_of hs)
held_here g kind None b off hs f = sym (not_own hs f.0)
held_here g kind (Some e) b off hs f =
    tells_own g e f.0 f.2 ∙ sym (ap (λ x. plain_held (first_of x)) f.1)

pub fits_held : (g : Geometry) (kind : ℕ → Bool) (off : ℕ → ℕ) (n : Entries) (hs : Holdings) (s : ℕ)
    → Fits g kind off n hs → noted_at n s ≡ held_at hs s
fits_held g kind off n hs s f =
    held_here g (kind s) (entry_at n s) (bound_at n s) (off s) (slot_all holding_slot s hs) (f s)
    ∙ sym (ap plain_held (get_first holding_slot s hs))

-- ---- one slot changes

-- the parts of a slot that are the same as before
same_parts : (g : Geometry) (kind : Bool) (off : ℕ) (o p : Option Entry) (b d : ℕ) (hs ms : Holdings) → p ≡ o → d ≡ b
    → ms ≡ hs → FitsAt g kind o b off hs → FitsAt g kind p d off ms
same_parts g kind off o p b d hs ms e h i f =
    subst (λ x. FitsAt g kind x d off ms) (sym e)
    (subst (λ x. FitsAt g kind o x off ms) (sym h) (subst (λ x. FitsAt g kind o b off x) (sym i) f))

by_slot : (s t : ℕ) (P : ℕ → Type 0) → P s → ((s == t) ≡ false → P t) → P t
by_slot s t P here other =
    elim (s == t) as (λ b. (s == t) ≡ b → P t) [
      | true ↦ λ e. subst P (eqb-true s t e) here
      | false ↦ other
    ] refl

no_more : (hs : Holdings) → length hs ≡ 0 → hs ≡ []
no_more [] h = refl
no_more (x ∷ xs) h = absurd (omega (arith, h))

-- a slot without an entry and without a bound holds nothing
empty_at : (g : Geometry) (kind : Bool) (o : Option Entry) (b off : ℕ) (hs : Holdings) → o ≡ None → b ≡ 0
    → FitsAt g kind o b off hs → (hs ≡ []) × (off ≡ 0)
empty_at g kind None b off hs e z f = (no_more hs (omega (arith, f.1, z)), omega (arith, f.1, z))
empty_at g kind (Some x) b off hs e z f = absurd (cc)

pub fits_unused : (g : Geometry) (kind : ℕ → Bool) (off : ℕ → ℕ) (n : Entries) (hs : Holdings) (s : ℕ)
    → Fits g kind off n hs → entry_at n s ≡ None → bound_at n s ≡ 0 → holding_at hs s ≡ None
fits_unused g kind off n hs s f none zero_bound =
    get_first holding_slot s hs
    ∙ ap first_of (empty_at g (kind s) (entry_at n s) (bound_at n s) (off s) (slot_all holding_slot s hs) none
    zero_bound (f s)).0

pub fits_insert : (g : Geometry) (kind : ℕ → Bool) (off : ℕ → ℕ) (n : Entries) (hs : Holdings) (r : ℕ) (h : Holding)
    → Fits g kind off n hs → kind h.slot ≡ false → entry_at n h.slot ≡ None → bound_at n h.slot ≡ 0
    → h.bundled ≡ false → HasPage g r h.page
    → Fits g kind off (slot_insert entry_slot (Slot h.slot r h.held) n) (slot_push holding_slot h hs)
fits_insert g kind off n hs r h f k none zero_bound own has = λ t.
    let s : ℕ = h.slot in
    let after : Entries = slot_insert entry_slot (Slot s r h.held) n in
    let now : Holdings = slot_push holding_slot h hs in
    let at = empty_at g (kind s) (entry_at n s) (bound_at n s) (off s) (slot_all holding_slot s hs) none zero_bound (f s) in
    let one : slot_all holding_slot s now ≡ h ∷ [] = push_here holding_slot h hs ∙ ap (λ x. h ∷ x) at.0 in
    let done : off s ≡ bound_at after s = omega (arith, at.1, zero_bound, bound_page s r h.held s n) in
    by_slot s t (λ x. FitsAt g (kind x) (entry_at after x) (bound_at after x) (off x) (slot_all holding_slot x now))
    (subst (λ o. FitsAt g (kind s) o (bound_at after s) (off s) (slot_all holding_slot s now))
    (sym (page_here s r h.held n none)) (h, one, (refl, own, has), k, done))
    (λ d. same_parts g (kind t) (off t) (entry_at n t) (entry_at after t) (bound_at n t) (bound_at after t)
    (slot_all holding_slot t hs) (slot_all holding_slot t now) (page_other s r h.held t n d)
    (bound_page s r h.held t n) (push_other holding_slot h t hs d) (f t))

-- what a slot holds goes with its entry
goes_at : (g : Geometry) (kind : Bool) (o : Option Entry) (b off : ℕ) (hs : Holdings) → is_some o ≡ true
    → FitsAt g kind o b off hs → FitsAt g kind None b off (without_first hs)
goes_at g kind None b off hs e f = absurd (cc)
goes_at g kind (Some x) b off hs e f =
    let none : without_first hs ≡ [] = ap without_first f.1 in
    let zero_length : length (without_first hs) ≡ 0 = ap length none in
    (ap all_bundled none, omega (arith, zero_length, f.4))

pub fits_remove : (g : Geometry) (kind : ℕ → Bool) (off : ℕ → ℕ) (n : Entries) (hs : Holdings) (s : ℕ)
    → Fits g kind off n hs → is_some (entry_at n s) ≡ true
    → Fits g kind off (without_page s n) (slot_remove holding_slot s hs)
fits_remove g kind off n hs s f has = λ t.
    let after : Entries = without_page s n in
    let now : Holdings = slot_remove holding_slot s hs in
    let at = goes_at g (kind s) (entry_at n s) (bound_at n s) (off s) (slot_all holding_slot s hs) has (f s) in
    by_slot s t (λ x. FitsAt g (kind x) (entry_at after x) (bound_at after x) (off x) (slot_all holding_slot x now))
    (same_parts g (kind s) (off s) None (entry_at after s) (bound_at n s) (bound_at after s)
    (without_first (slot_all holding_slot s hs)) (slot_all holding_slot s now) (without_here s n)
    (bound_without_page s s n) (remove_here holding_slot s hs) at)
    (λ d. same_parts g (kind t) (off t) (entry_at n t) (entry_at after t) (bound_at n t) (bound_at after t)
    (slot_all holding_slot t hs) (slot_all holding_slot t now) (without_other s t n d) (bound_without_page s t n)
    (remove_other holding_slot s t hs d) (f t))

-- the page of a slot is held in another way, as its entry says
abbrev with_held : Held → Holding → Holding
with_held held h = record { slot = h.slot; page = h.page; held = held; bundled = h.bundled }

tells_as : (g : Geometry) (held : Held) (e : Entry) (h : Holding) → Tells g e h
    → Tells g (entry_as held e) (with_held held h)
tells_as g held (Slot s r k) h t = (refl, t.1, t.2)
tells_as g held (Bundle s k) h t = absurd t

changes_at : (g : Geometry) (kind : Bool) (held : Held) (o : Option Entry) (b off : ℕ) (hs : Holdings)
    → is_some o ≡ true → FitsAt g kind o b off hs
    → FitsAt g kind (option_map (entry_as held) o) b off (with_first (with_held held) hs)
changes_at g kind held None b off hs e f = absurd (cc)
changes_at g kind held (Some x) b off hs e f =
    (with_held held f.0, ap (with_first (with_held held)) f.1, tells_as g held x f.0 f.2, f.3, f.4)

pub fits_held_as : (g : Geometry) (kind : ℕ → Bool) (off : ℕ → ℕ) (n : Entries) (hs : Holdings) (held : Held) (s : ℕ)
    → Fits g kind off n hs → is_some (entry_at n s) ≡ true
    → Fits g kind off (noted_as held s n) (holding_as held s hs)
fits_held_as g kind off n hs held s f has = λ t.
    let after : Entries = noted_as held s n in
    let now : Holdings = holding_as held s hs in
    by_slot s t (λ x. FitsAt g (kind x) (entry_at after x) (bound_at after x) (off x) (slot_all holding_slot x now))
    (same_parts g (kind s) (off s) (option_map (entry_as held) (entry_at n s)) (entry_at after s) (bound_at n s)
    (bound_at after s) (with_first (with_held held) (slot_all holding_slot s hs)) (slot_all holding_slot s now)
    (as_here held s n) (bound_as held s s n) (update_here holding_slot (with_held held) (λ h. refl) s hs)
    (changes_at g (kind s) held (entry_at n s) (bound_at n s) (off s) (slot_all holding_slot s hs) has (f s)))
    (λ d. same_parts g (kind t) (off t) (entry_at n t) (entry_at after t) (bound_at n t) (bound_at after t)
    (slot_all holding_slot t hs) (slot_all holding_slot t now) (as_other held s t n d) (bound_as held s t n)
    (update_other holding_slot (with_held held) (λ h. refl) s t hs d) (f t))

-- ---- a bundle changes

-- a bundle has no entry of a page, and holds its own pages alone
bundle_here : (g : Geometry) (kind : Bool) (o : Option Entry) (b off : ℕ) (hs : Holdings) → kind ≡ true
    → FitsAt g kind o b off hs → (o ≡ None) × (all_bundled hs ≡ true) × (length hs + off ≡ b)
bundle_here g kind None b off hs k f = (refl, f.0, f.1)
bundle_here g kind (Some e) b off hs k f = absurd (cc (k, f.3))

pub fits_gather : (g : Geometry) (kind : ℕ → Bool) (off : ℕ → ℕ) (n : Entries) (hs : Holdings) (s page : ℕ)
    → Fits g kind off n hs → kind s ≡ true
    → (is_some (held_at hs s) ≡ false)
    × Fits g kind off (with_bound s (bound_at n s + 1) n) (slot_push holding_slot (bundle_page s page) hs)
fits_gather g kind off n hs s page f k =
    let h : Holding = bundle_page s page in
    let after : Entries = with_bound s (bound_at n s + 1) n in
    let now : Holdings = slot_push holding_slot h hs in
    let at =
    bundle_here g (kind s) (entry_at n s) (bound_at n s) (off s) (slot_all holding_slot s hs) k (f s) in
    let own : held_at hs s ≡ None =
    ap plain_held (get_first holding_slot s hs) ∙ not_own (slot_all holding_slot s hs) at.1 in
    let here : slot_all holding_slot s now ≡ h ∷ slot_all holding_slot s hs = push_here holding_slot h hs in
    let longer : length (slot_all holding_slot s now) ≡ suc (length (slot_all holding_slot s hs)) = ap length here in
    let all : all_bundled (slot_all holding_slot s now) ≡ true = ap all_bundled here ∙ at.1 in (
      ap is_some own,
      λ t. by_slot s t
          (λ x. FitsAt g (kind x) (entry_at after x) (bound_at after x) (off x) (slot_all holding_slot x now))
          (subst (λ o. FitsAt g (kind s) o (bound_at after s) (off s) (slot_all holding_slot s now))
          (sym (page_with_bound s (bound_at n s + 1) s n ∙ at.0))
          (all, omega (arith, longer, at.2, bound_with_here s (bound_at n s + 1) n)))
          (λ d. same_parts g (kind t) (off t) (entry_at n t) (entry_at after t) (bound_at n t) (bound_at after t)
          (slot_all holding_slot t hs) (slot_all holding_slot t now) (page_with_bound s (bound_at n s + 1) t n)
          (bound_with_other s (bound_at n s + 1) t n d) (push_other holding_slot h t hs d) (f t)),
    )

some_bundled : (hs : Holdings) (b : ℕ) → all_bundled hs ≡ true → length hs ≡ b → nat_lt 0 b ≡ true
    → holds_bundle (first_of hs) ≡ true
some_bundled [] b a e l = absurd (let p = ltb-true 0 b l in omega (arith, e, p))
some_bundled (h ∷ hs) b a e l =
    (and_parts h.bundled (not (is_latched h.held)) (and_parts (is_of_bundle h) (all_bundled hs) a).0).0

pub fits_scatter : (g : Geometry) (kind : ℕ → Bool) (off : ℕ → ℕ) (n : Entries) (hs : Holdings) (s : ℕ)
    → Fits g kind off n hs → kind s ≡ true → off s ≡ 0 → nat_lt 0 (bound_at n s) ≡ true
    → (holds_bundle (holding_at hs s) ≡ true) × Fits g kind off (without_bundle s n) (slot_clear holding_slot s hs)
fits_scatter g kind off n hs s f k z l =
    let after : Entries = without_bundle s n in
    let now : Holdings = slot_clear holding_slot s hs in
    let at =
    bundle_here g (kind s) (entry_at n s) (bound_at n s) (off s) (slot_all holding_slot s hs) k (f s) in
    let none : slot_all holding_slot s now ≡ [] = clear_here holding_slot s hs in
    let no_length : length (slot_all holding_slot s now) ≡ 0 = ap length none in (
      ap holds_bundle (get_first holding_slot s hs)
          ∙ some_bundled (slot_all holding_slot s hs) (bound_at n s) at.1 (omega (arith, at.2, z)) l,
      λ t. by_slot s t
          (λ x. FitsAt g (kind x) (entry_at after x) (bound_at after x) (off x) (slot_all holding_slot x now))
          (subst (λ o. FitsAt g (kind s) o (bound_at after s) (off s) (slot_all holding_slot s now))
          (sym (page_without_bundle s s n ∙ at.0))
          (ap all_bundled none, omega (arith, no_length, bound_without_here s n, z)))
          (λ d. same_parts g (kind t) (off t) (entry_at n t) (entry_at after t) (bound_at n t) (bound_at after t)
          (slot_all holding_slot t hs) (slot_all holding_slot t now) (page_without_bundle s t n)
          (bound_without_other s t n d) (clear_other holding_slot s t hs d) (f t)),
    )

-- ---- classes

pairs_tail : (x : Extent) (xs : List Extent) → AllPairs IsApart (x ∷ xs) → AllPairs IsApart xs
pairs_tail x xs a = λ i j d h l. a (suc i) (suc j) d (omega (arith, h)) (omega (arith, l))

-- no extent but one has the page
apart_has : (x y : Extent) (page : ℕ) → IsApart x y → has_page page y ≡ true → has_page page x ≡ false
apart_has x y page a h =
    elim (has_page page x) as (λ b. has_page page x ≡ b → b ≡ false) [
      | true ↦ λ t.
          let xs = and_parts (nat_le x.first page) (nat_lt page (x.first + x.count)) t in
          let ys = and_parts (nat_le y.first page) (nat_lt page (y.first + y.count)) h in
          let x1 = leb-true x.first page xs.0 in
          let x2 = ltb-true page (x.first + x.count) xs.1 in
          let y1 = leb-true y.first page ys.0 in
          let y2 = ltb-true page (y.first + y.count) ys.1 in
          elim a [ inl l ↦ absurd (omega arith) | inr r ↦ absurd (omega arith) ]
      | false ↦ λ t. refl
    ] refl

slice_get_at : (xs : List Extent) (r : ℕ) (e : Extent) → slice_get xs r ≡ Some e → (r < length xs) × (get_or xs r e ≡ e)
slice_get_at [] r e i = absurd (cc)
slice_get_at (x ∷ xs) zero e i = (omega arith, cc)
slice_get_at (x ∷ xs) (suc r) e i = let p = slice_get_at xs r e i in (omega (arith, p.0), p.1)

find_here : (xs : List Extent) (r : ℕ) (e : Extent) (page : ℕ) → AllPairs IsApart xs → slice_get xs r ≡ Some e
    → has_page page e ≡ true → find (has_page page) xs ≡ Some e
find_here [] r e page a i h = absurd (cc)
find_here (x ∷ xs) zero e page a i h =
    let same : x ≡ e = cc in
    let has : has_page page x ≡ true = ap (has_page page) same ∙ h in
    ap (λ b. cond b (Some x) (find (has_page page) xs)) has ∙ i
find_here (x ∷ xs) (suc r) e page a i h =
    let at = slice_get_at xs r e i in
    let apart : IsApart x e = subst (λ d. IsApart x d) at.1 (a zero (suc r) e (omega arith) (omega (arith, at.0))) in
    let not_here : has_page page x ≡ false = apart_has x e page apart h in
    ap (λ b. cond b (Some x) (find (has_page page) xs)) not_here ∙ find_here xs r e page (pairs_tail x xs a) i h

-- the class of a page of a region is the region's
pub page_class : (g : Geometry) (r page : ℕ) → IsLayout g → HasPage g r page → class_of g page ≡ Some (region_class g r)
page_class g r page l p =
    ap (option_map (λ e. e.class)) (find_here g.extents r p.0 page l.apart p.1 p.2)
    ∙ ap (λ o. Some (unwrap_or (option_map (λ e. e.class) o) 0)) (sym p.1)

-- the class of a page that an entry tells of is the entry's
tells_class : (g : Geometry) (e : Entry) (h : Holding) → IsLayout g → Tells g e h
    → class_of g h.page ≡ Some (entry_class g e)
tells_class g (Slot s r k) h l t = page_class g r h.page l t.2
tells_class g (Bundle s k) h l t = absurd t

-- ---- the pages that are held: a slot's own is told of by its entry, and one of a bundle isn't latched

only_one : (us vs : Holdings) (h x : Holding) → h ∷ [] ≡ us ++ x ∷ vs → h ≡ x
only_one [] vs h x e = cc
only_one (u ∷ []) vs h x e = absurd (cc)
only_one (u ∷ v ∷ us) vs h x e = absurd (cc)

-- The entry of its slot tells of the page.
abbrev pub IsTold : Geometry → Entries → Holding → Type 0
IsTold g n h = (e : Entry) × (entry_at n h.slot ≡ Some e) × Tells g e h

abbrev pub IsKnown : Geometry → Entries → Holding → Type 0
IsKnown g n h = (is_latched h.held ≡ false) ⊎ IsTold g n h

one_of_all : (us vs : Holdings) (h : Holding) → all_bundled (us ++ h ∷ vs) ≡ true → is_of_bundle h ≡ true
one_of_all [] vs h a = (and_parts (is_of_bundle h) (all_bundled vs) a).0
one_of_all (u ∷ us) vs h a = one_of_all us vs h (and_parts (is_of_bundle u) (all_bundled (us ++ h ∷ vs)) a).1

known_at : (g : Geometry) (kind : Bool) (o : Option Entry) (b off : ℕ) (hs us vs : Holdings) (h : Holding)
    → hs ≡ us ++ h ∷ vs → FitsAt g kind o b off hs
    → (is_latched h.held ≡ false) ⊎ ((e : Entry) × (o ≡ Some e) × Tells g e h)
known_at g kind None b off hs us vs h i f =
    let one = one_of_all us vs h (sym (ap all_bundled i) ∙ f.0) in
    inl (not-true (is_latched h.held) (and_parts h.bundled (not (is_latched h.held)) one).1)
known_at g kind (Some e) b off hs us vs h i f =
    inr (e, refl, subst (λ x. Tells g e x) (only_one us vs f.0 h (sym f.1 ∙ i)) f.2)

known_from : (g : Geometry) (kind : ℕ → Bool) (off : ℕ → ℕ) (n : Entries) (us vs : Holdings)
    → Fits g kind off n (us ++ vs) → All (IsKnown g n) vs
known_from g kind off n us [] f = All-nil (IsKnown g n)
known_from g kind off n us (v ∷ vs) f =
    let split = member_splits holding_slot v us vs in
    let more : Fits g kind off n ((us ++ v ∷ []) ++ vs) =
    subst (λ (x : Holdings). Fits g kind off n x) (sym (append_assoc us (v ∷ []) vs)) f in
    All-cons (IsKnown g n) v vs
    (known_at g (kind v.slot) (entry_at n v.slot) (bound_at n v.slot) (off v.slot)
    (slot_all holding_slot v.slot (us ++ v ∷ vs)) split.0 split.1 v split.2 (f v.slot))
    (known_from g kind off n (us ++ v ∷ []) vs more)

pub fits_known : (g : Geometry) (kind : ℕ → Bool) (off : ℕ → ℕ) (n : Entries) (hs : Holdings) → Fits g kind off n hs
    → All (IsKnown g n) hs
fits_known g kind off n hs f = known_from g kind off n [] hs f

told_here : (g : Geometry) (kind : Bool) (o : Option Entry) (b off : ℕ) (hs : Holdings) (h : Holding)
    → is_some o ≡ true → first_of hs ≡ Some h → FitsAt g kind o b off hs → (e : Entry) × (o ≡ Some e) × Tells g e h
told_here g kind None b off hs h has i f = absurd (cc)
told_here g kind (Some e) b off hs h has i f =
    let first : Some f.0 ≡ Some h = sym (ap first_of f.1) ∙ i in
    let same : f.0 ≡ h = cc in
    (e, refl, subst (λ x. Tells g e x) same f.2)

-- the slot's page is told of
pub fits_at : (g : Geometry) (kind : ℕ → Bool) (off : ℕ → ℕ) (n : Entries) (hs : Holdings) (s : ℕ) (h : Holding)
    → Fits g kind off n hs → is_some (entry_at n s) ≡ true → holding_at hs s ≡ Some h
    → (e : Entry) × (entry_at n s ≡ Some e) × Tells g e h
fits_at g kind off n hs s h f has i =
    told_here g (kind s) (entry_at n s) (bound_at n s) (off s) (slot_all holding_slot s hs) h has
    (sym (get_first holding_slot s hs) ∙ i) (f s)

-- ---- latches in order

-- what holds of all entries holds of a slot's
list_all_at : (test : Entry → Bool) (n : Entries) (s : ℕ) (e : Entry) → list_all test n ≡ true
    → entry_at n s ≡ Some e → test e ≡ true
list_all_at test [] s e h i = absurd (cc)
list_all_at test (y ∷ n) s e h i =
    let parts = and_parts (test y) (list_all test n) h in
    elim (is_slot s y) as (λ b. cond b (Some y) (entry_at n s) ≡ Some e → test e ≡ true) [
      | true ↦ λ j. let same : y ≡ e = cc in ap test (sym same) ∙ parts.0
      | false ↦ λ j. list_all_at test n s e parts.1 j
    ] i

-- each page that is latched has a class below this
below_all : (g : Geometry) (l : IsLayout g) (n : Entries) (hs : Holdings) (c : ℕ) (o : Option ℕ) → o ≡ Some c
    → list_all (λ e. not (is_latched (entry_held e)) || nat_lt (entry_class g e) c) n ≡ true
    → All (IsKnown g n) hs → All (λ h. IsTrue (is_latched h.held) → IsClassBelow (class_of g h.page) o) hs
below_all g l n hs c o e t known =
    All-weaker (IsKnown g n) (λ h. IsTrue (is_latched h.held) → IsClassBelow (class_of g h.page) o) below hs known
  where
    told_below : (h : Holding) → IsTold g n h → IsTrue (is_latched h.held) → IsClassBelow (class_of g h.page) o
    told_below h told latched =
        let x : Entry = told.0 in
        let test : not (is_latched (entry_held x)) || nat_lt (entry_class g x) c ≡ true =
        list_all_at (λ e. not (is_latched (entry_held e)) || nat_lt (entry_class g e) c) n h.slot x t told.1 in
        let is : is_latched (entry_held x) ≡ true = ap is_latched (tells_held g x h told.2) ∙ latched in
        let lower : nat_lt (entry_class g x) c ≡ true = ap (λ b. not b || nat_lt (entry_class g x) c) (sym is) ∙ test in
        let less : entry_class g x < c = ltb-true (entry_class g x) c lower in
        let P : Option ℕ → Type 0 = λ p. IsClassBelow p o in
        let Q : Option ℕ → Type 0 = λ p. IsClassBelow (Some (entry_class g x)) p in
        subst P (sym (tells_class g x h l told.2)) (subst Q (sym e) less)

    below : (h : Holding) → IsKnown g n h → IsTrue (is_latched h.held) → IsClassBelow (class_of g h.page) o
    below h (inl free) latched = absurd (cc (free, latched))
    below h (inr told) latched = told_below h told latched

pub above_latched : (g : Geometry) (l : IsLayout g) (kind : ℕ → Bool) (off : ℕ → ℕ) (n : Entries) (hs : Holdings) (s : ℕ)
    → Fits g kind off n hs → is_some (entry_at n s) ≡ true → is_above_latched g n s ≡ true → IsAboveLatched g hs s
above_latched g l kind off n hs s f has t = λ h i.
    let at = fits_at g kind off n hs s h f has i in
    let class : slot_class g n s ≡ entry_class g at.0 =
    ap (λ o. unwrap_or (option_map (entry_class g) o) 0) at.1 in
    let test : list_all (λ e. not (is_latched (entry_held e)) || nat_lt (entry_class g e) (entry_class g at.0)) n
    ≡ true =
    ap (λ k. list_all (λ e. not (is_latched (entry_held e)) || nat_lt (entry_class g e) k) n) (sym class) ∙ t in
    below_all g l n hs (entry_class g at.0) (class_of g h.page) (tells_class g at.0 h l at.2) test
    (fits_known g kind off n hs f)
