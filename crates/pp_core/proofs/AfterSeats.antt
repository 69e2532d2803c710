-- What is told of a worker, by its seat; and the seats, slots and marks that a move writes.
use Rattle.std.proofs.Common.{◌≡◌, ◌≢◌, ◌∙◌, ◌<◌, ℕ, ◌+◌, Bool, true, false, eqb, cond, Option, Some, None}
use Rattle.std.proofs.Common.{List, [], ◌∷◌, length, refl, sym, ap, subst, arith}
use Rattle.std.specs.Prelude.{slice_get, slice_set, option_and_then, unwrap_or, if◌then◌else◌, is_some, IsSome}
use Rattle.std.proofs.lemmas.Bool.{eqb-true}
use Rattle.std.proofs.lemmas.Bool.Decides.{nat_tests}
use Rattle.pp_plan.specs.declared.action.Ask.{Ask}
use Rattle.pp_cert.specs.declared.note.Held.{Held}
use Rattle.pp_cert.specs.declared.note.Held.TheVariants.{Free, S, X}
use Rattle.pp_cert.specs.Held.{Holding, Holdings, holding_slot, holding_at}
use Rattle.pp_cert.proofs.Slots.{first_of, slot_all}
use Rattle.pp_model.specs.Pool.{Stage, acting, writing, reading, leaving, Running, Note, State, known_mark, mark_at}
use Rattle.pp_model.specs.Pool.{note_of}
use Rattle.pp_model.specs.Holders.{holdings}
use Rattle.pp_model.specs.Outcome.{released}
use Rattle.pp_model.specs.Moves.{asked_by, seat_of}
use Rattle.pp_model.proofs.Changes.{IsAt}
use Rattle.pp_model.proofs.ChangeTotals.{released_seats}
use Rattle.pp_model.proofs.KeptSlots.{AreBundled, Fills, found_in, filled_at}
use Rattle.pp_model.proofs.MarkChanges.{note_here}
use Rattle.pp_core.specs.Fixing.{wanted}
use Rattle.pp_core.specs.Gathered.{bundle_in}
use Rattle.pp_core.specs.Queries.{ask_in, ask_by, ask_of, leaves, leaving_by, is_leaving, own_of, held_by, held_of, errand_in}
use Rattle.pp_core.specs.Queries.{idle_by, pending_by, pending_of, bundle_of, errand_by, errand_of}
use Rattle.pp_core.specs.AfterMoves.{Acts, wanted_of, WorkerStays, SlotsStay, OtherSlotsStay, BundlesStay, OtherBundlesStay}
use Rattle.pp_core.proofs.Crew.{set_at, set_apart}
use Rattle.pp_core.proofs.Gathered.{Gathers, SameBundles}
use Rattle.pp_core.proofs.MoveWays.{IsAsking}

-- ---- what is told by a seat

-- The pages that a slot of a seat has as a bundle.
abbrev pub bundle_by : (slot : ℕ) → Option (Option Running) → List ℕ
bundle_by slot o = bundle_in (unwrap_or o None) slot

pub stays_by : (s t : State) (v : ℕ) → seat_of t v ≡ seat_of s v → WorkerStays s t v
stays_by s t v e = record {
  idle = ap idle_by e;
  leaving = ap leaving_by e;
  asks = ap ask_by e;
  pending = ap pending_by e;
  held = λ slot. ap (λ o. held_by o slot) e;
  bundles = λ slot. ap (bundle_by slot) e;
  errand = ap errand_by e;
}

-- A page of the slot's own is told, and a bundle's isn't.
abbrev pub own_unless : Bool → Holding → Option (ℕ × Held)
own_unless b h = if b then None else Some (h.page, h.held)

pub own_is : (h : Holding) → h.bundled ≡ false → own_of (Some h) ≡ Some (h.page, h.held)
own_is h plain = ap (λ b. own_unless b h) plain

own_first : (hs : Holdings) → AreBundled hs → own_of (first_of hs) ≡ None
own_first [] all = refl
own_first (h ∷ hs) all = ap (λ b. own_unless b h) all.0.bundled

-- A slot with a bundle's pages alone has none of its own.
pub none_of_its_own : (hs : Holdings) (slot : ℕ) → AreBundled (slot_all holding_slot slot hs)
    → own_of (holding_at hs slot) ≡ None
none_of_its_own hs slot all =
    ap own_of (found_in hs slot (slot_all holding_slot slot hs) refl) ∙ own_first (slot_all holding_slot slot hs) all

module _ (s : State) (w : ℕ) (r : Running) where
  pub ask_at : IsAt s w r acting → ask_of s w ≡ Some (asked_by r)
  ask_at at = ap ask_by at.seat ∙ ap (ask_in r) at.stage

  pub acts_at : IsAt s w r acting → Acts s w
  acts_at at = ap is_some (ask_at at)

  pub asked_at : (x : Ask) → IsAsking s w r x → ask_of s w ≡ Some x
  asked_at x asking = ask_at asking.at ∙ ap Some asking.asks

  pub leaving_at : (given : List ℕ) → IsAt s w r (leaving given) → is_leaving s w ≡ true
  leaving_at given at = ap leaving_by at.seat ∙ ap leaves at.stage

  pub errand_at : (g : Stage) → IsAt s w r g → errand_of s w ≡ errand_in g
  errand_at g at = ap errand_by at.seat ∙ ap errand_in at.stage

  pub held_at : (slot : ℕ) → seat_of s w ≡ Some (Some r) → held_of s w slot ≡ own_of (holding_at (holdings r) slot)
  held_at slot seat = ap (λ o. held_by o slot) seat

  pub held_found : (slot : ℕ) (h : Holding) → seat_of s w ≡ Some (Some r) → holding_at (holdings r) slot ≡ Some h
      → h.bundled ≡ false → held_of s w slot ≡ Some (h.page, h.held)
  held_found slot h seat found plain = held_at slot seat ∙ ap own_of found ∙ own_is h plain

  pub bundle_at : (slot : ℕ) → seat_of s w ≡ Some (Some r) → bundle_of s w slot ≡ bundle_in (Some r) slot
  bundle_at slot seat = ap (bundle_by slot) seat

  pub pending_at : seat_of s w ≡ Some (Some r) → leaves r.stage ≡ false → pending_of s w ≡ Some (asked_by r)
  pending_at seat stays = ap pending_by seat ∙ ap {B = Option Ask} (λ b. if b then None else Some (asked_by r)) stays

  -- What the plan asks a page for.
  pub wanted_at : IsAt s w r acting → wanted_of s w ≡ wanted (asked_by r)
  wanted_at at = ap (option_and_then wanted) (ask_at at)

-- ---- what holds, where it is told

-- A slot of worker w holds the page so.
pub record HoldsSo (s : State) (w slot page : ℕ) (how : Held) : Type 0 where
  pub by : Running
  pub seat : seat_of s w ≡ Some (Some by)
  pub holding : Holding
  pub found : holding_at (holdings by) slot ≡ Some holding
  pub plain : holding.bundled ≡ false
  pub page_is : holding.page ≡ page
  pub held_is : holding.held ≡ how

pub some_same : {A : Type 0} (x y : A) → Some x ≡ Some y → x ≡ y
some_same x y e = cc

pub same_page : (a b : ℕ) (x y : Held) → ◌≡◌ {A = Option (ℕ × Held)} (Some (a, x)) (Some (b, y)) → a ≡ b
same_page a b x y e = ap (λ p. p.0) (some_same (a, x) (b, y) e)

pub same_held : (a b : ℕ) (x y : Held) → ◌≡◌ {A = Option (ℕ × Held)} (Some (a, x)) (Some (b, y)) → x ≡ y
same_held a b x y e = ap (λ p. p.1) (some_same (a, x) (b, y) e)

in_holdings : (s : State) (w slot page : ℕ) (how : Held) (r : Running) (o : Option Holding)
    → seat_of s w ≡ Some (Some r) → holding_at (holdings r) slot ≡ o
    → own_of o ≡ Some (page, how) → HoldsSo s w slot page how
in_holdings s w slot page how r None seat e told = cc
in_holdings s w slot page how r (Some h) seat e told = go h.bundled refl told
  where
    go : (b : Bool) → h.bundled ≡ b → own_unless b h ≡ Some (page, how)
        → HoldsSo s w slot page how
    go true is so = cc
    go false is so = record {
      by = r;
      seat = seat;
      holding = h;
      found = e;
      plain = is;
      page_is = same_page h.page page h.held how so;
      held_is = same_held h.page page h.held how so;
    }

in_seat : (s : State) (w slot page : ℕ) (how : Held) (o : Option (Option Running)) → seat_of s w ≡ o
    → held_by o slot ≡ Some (page, how) → HoldsSo s w slot page how
in_seat s w slot page how None e told = cc
in_seat s w slot page how (Some None) e told = cc
in_seat s w slot page how (Some (Some r)) e told =
    in_holdings s w slot page how r (holding_at (holdings r) slot) e refl told

pub holds_so : (s : State) (w slot page : ℕ) (how : Held) → held_of s w slot ≡ Some (page, how)
    → HoldsSo s w slot page how
holds_so s w slot page how told = in_seat s w slot page how (seat_of s w) refl told

-- The errand that is out for worker w, where it writes a victim back.
pub record Writes (s : State) (w slot page victim : ℕ) : Type 0 where
  pub by : Running
  pub at : IsAt s w by (writing slot page victim)

in_stage : (s : State) (w slot page victim : ℕ) (r : Running) (g : Stage) → IsAt s w r g
    → errand_in g ≡ Some (slot, page, Some victim) → Writes s w slot page victim
in_stage s w slot page victim r acting at told = cc
in_stage s w slot page victim r (writing k p v) at told =
    let same = some_same (k, p, Some v) (slot, page, Some victim) told in
    let last = some_same v victim (ap (λ x. x.2) same) in
    record {
      by = r;
      at = record { seat = at.seat; stage = at.stage ∙ (λ i. writing ((same i).0) ((same i).1) (last i)) };
    }
in_stage s w slot page victim r (reading k p) at told =
    let not : None ≡ Some victim = ap (λ x. x.2) (some_same (k, p, None) (slot, page, Some victim) told) in cc
in_stage s w slot page victim r (leaving given) at told = cc

writes_by : (s : State) (w slot page victim : ℕ) (o : Option (Option Running)) → seat_of s w ≡ o
    → errand_by o ≡ Some (slot, page, Some victim) → Writes s w slot page victim
writes_by s w slot page victim None e told = cc
writes_by s w slot page victim (Some None) e told = cc
writes_by s w slot page victim (Some (Some r)) e told =
    in_stage s w slot page victim r r.stage (record { seat = e; stage = refl }) told

pub writes : (s : State) (w slot page victim : ℕ) → errand_of s w ≡ Some (slot, page, Some victim)
    → Writes s w slot page victim
writes s w slot page victim told = writes_by s w slot page victim (seat_of s w) refl told

-- ---- slots before and after

-- One slot holds this from now on, and the others what they held.
pub record OneSlot (s t : State) (w slot : ℕ) (now : Option (ℕ × Held)) : Type 0 where
  pub here : held_of t w slot ≡ now
  pub others : OtherSlotsStay s t w slot

its_own : (k : ℕ) → eqb k k ≡ true
its_own k = grind (arith, nat_tests)

not_its : (k slot : ℕ) → k ≢ slot → eqb k slot ≡ false
not_its k slot ne = grind (arith, nat_tests)

module _ (s t : State) (w : ℕ) (r y : Running) (before : seat_of s w ≡ Some (Some r))
    (after : seat_of t w ≡ Some (Some y)) where
  pub one_slot : (slot : ℕ) (now : Option Holding)
      → ((k : ℕ) → holding_at (holdings y) k ≡ cond (eqb k slot) now (holding_at (holdings r) k))
      → OneSlot s t w slot (own_of now)
  one_slot slot now all = record {
    here =
        held_at t w y slot after
        ∙ ap own_of
        (all slot ∙ ap (λ b. cond b now (holding_at (holdings r) slot)) (its_own slot));
    others = λ k ne.
        held_at t w y k after
        ∙ ap own_of
        (all k ∙ ap (λ b. cond b now (holding_at (holdings r) k)) (not_its k slot ne))
        ∙ sym (held_at s w r k before);
  }

  pub same_slots : holdings y ≡ holdings r → SlotsStay s t w
  same_slots e slot =
      held_at t w y slot after ∙ ap (λ hs. own_of (holding_at hs slot)) e ∙ sym (held_at s w r slot before)

  -- Where only a bundle changes, each slot holds of its own what it held.
  pub bundle_slots : (slot : ℕ) (now : Holdings) → AreBundled (slot_all holding_slot slot (holdings r)) → AreBundled now
      → Fills slot now (holdings r) (holdings y) → SlotsStay s t w
  bundle_slots slot now all all_now fills k =
      held_at t w y k after ∙ go (eqb k slot) refl ∙ sym (held_at s w r k before)
    where
      go : (b : Bool) → eqb k slot ≡ b → own_of (holding_at (holdings y) k) ≡ own_of (holding_at (holdings r) k)
      go true e =
          none_of_its_own (holdings y) k (subst AreBundled (sym (fills k
          ∙ ap (λ b. cond b now (slot_all holding_slot k (holdings r))) e)) all_now)
          ∙ sym (none_of_its_own (holdings r) k
          (subst (λ n. AreBundled (slot_all holding_slot n (holdings r))) (sym (eqb-true k slot e)) all))
      go false e =
          ap own_of
          (filled_at slot now (holdings r) (holdings y) fills k
          ∙ ap (λ b. cond b (first_of now) (holding_at (holdings r) k)) e)

  -- Each bundle has the same pins; or one is another.
  pub same_bundles : SameBundles (Some r) (Some y) → BundlesStay s t w
  same_bundles same k = bundle_at t w y k after ∙ same.each k ∙ sym (bundle_at s w r k before)

  module _ (slot : ℕ) (pages : List ℕ) (change : Gathers (Some r) (Some y) slot pages) where
    pub bundle_here : bundle_of t w slot ≡ pages
    bundle_here =
        bundle_at t w y slot after ∙ change.each slot
        ∙ ap (λ b. cond b pages (bundle_in (Some r) slot)) (its_own slot)

    pub other_bundles : OtherBundlesStay s t w slot
    other_bundles k ne =
        bundle_at t w y k after ∙ change.each k
        ∙ ap (λ b. cond b pages (bundle_in (Some r) k)) (not_its k slot ne) ∙ sym (bundle_at s w r k before)

-- ---- marks

-- A released page has a known mark where it had one.
pub released_known : (s : State) (k : Held) (p : ℕ) → p < length s.notes → IsSome (known_mark s p)
    → IsSome (known_mark (released s k p) p)
released_known s Free p low some = some
released_known s S p low some = some
released_known s X p low some =
    let n : Note = record (note_of s p) { mark = Some (mark_at s p + 1); dirty = true } in
    subst (λ (x : Note). IsSome x.mark) (sym (note_here s p n low)) refl

-- The seats after a write to one of them, where a latch went off before.
pub released_seat : (s : State) (k : Held) (p w : ℕ) (x y : Option Running) → seat_of s w ≡ Some x
    → slice_get (slice_set (released s k p).seats w y) w ≡ Some y
released_seat s k p w x y e =
    ap (λ xs. slice_get (slice_set xs w y) w) (released_seats s k p) ∙ set_at s.seats w x y e

pub released_apart : (s : State) (k : Held) (p w v : ℕ) (y : Option Running) → v ≢ w
    → slice_get (slice_set (released s k p).seats w y) v ≡ seat_of s v
released_apart s k p w v y ne =
    ap (λ xs. slice_get (slice_set xs w y) v) (released_seats s k p) ∙ set_apart s.seats w v y ne
