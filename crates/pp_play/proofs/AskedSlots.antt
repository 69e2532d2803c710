-- What a slot holds of which a worker's plan asks something: a fix, a gather and their errand find no page of its own there, an
-- unfix and a latch find one that isn't latched, an unlatch one that is, and a scatter a bundle. So it is since the checker
-- accepted the plan.
use Rattle.std.proofs.Common.{◌≡◌, ◌∙◌, ◌⊎◌, ℕ, ◌<◌, Bool, true, Option, Some, None, List, [], ◌∷◌, ◌++◌, refl, sym, ap, subst}
use Rattle.std.proofs.Common.{inl, inr, append-nil, nat_lt, arith}
use Rattle.std.specs.Prelude.{unwrap_or, if◌then◌else◌}
use Rattle.std.proofs.lemmas.Bool.Decides.{nat_tests}
use Rattle.pp_plan.specs.declared.mode.Mode.{Mode}
use Rattle.pp_plan.specs.declared.action.Action.{Action}
use Rattle.pp_plan.specs.declared.action.Action.TheVariants as action
use Rattle.pp_plan.specs.declared.action.Ask.{Ask}
use Rattle.pp_plan.specs.declared.action.Ask.TheVariants as ask
use Rattle.pp_plan.specs.Terms.{Terms, IsPlan}
use Rattle.pp_plan.specs.Traces.{IsTrace}
use Rattle.pp_cursor.specs.Cursor.{NamesAction}
use Rattle.pp_cursor.specs.Asked.{asked}
use Rattle.pp_cursor.proofs.Asking.{asks_named, asks_end}
use Rattle.pp_cert.specs.declared.note.Held.{Held}
use Rattle.pp_cert.specs.declared.note.Held.TheVariants.{Free, S, X}
use Rattle.pp_cert.specs.Held.{Holding, Holdings, holding_slot, holding_at}
use Rattle.pp_cert.proofs.Slots.{first_of, slot_all}
use Rattle.pp_model.specs.Pool.{Stage, acting, writing, reading, leaving, Running, State}
use Rattle.pp_model.specs.Holders.{holdings}
use Rattle.pp_model.specs.Fixing.{fixes}
use Rattle.pp_model.specs.Moves.{asked_by, seat_of}
use Rattle.pp_model.specs.Reached.{IsReached}
use Rattle.pp_model.proofs.Changes.{IsAt, IsAsked}
use Rattle.pp_model.proofs.HoldingSteps.{Holds, CanHold, seat_is, fix_finds, writing_finds, reading_finds, unfix_finds}
use Rattle.pp_model.proofs.HoldingSteps.{unfix_own, latch_finds, latch_own, unlatch_finds, unlatch_own}
use Rattle.pp_model.proofs.KeptSlots.{AreBundled, HasOwn, found_in}
use Rattle.pp_core.proofs.Gathered.{plain_found}
use Rattle.pp_core.proofs.AfterMoves.{after_moves}
use Rattle.pp_core.specs.Queries.{ask_in, ask_by, ask_of, own_of, held_by, held_of, gathered_of, errand_in, errand_by}
use Rattle.pp_core.specs.Queries.{errand_of}
use Rattle.pp_vault.specs.Parts.{Parts}
use Rattle.pp_vault.specs.StandsFor.{StandsFor}
use Rattle.pp_vault.specs.Fits.{is_gathered}
use Rattle.pp_play.specs.Doing.{slot_wanted}
use Rattle.pp_play.proofs.Seats.{scatter_did}

-- ---- a plan that asks a fix or a gather asks one of some page

not_end : (slot region : ℕ) → ◌≡◌ {A = Ask} (ask.Fix slot region) ask.End → ⊥
not_end slot region e = cc

gather_not_end : (slot region : ℕ) → ◌≡◌ {A = Ask} (ask.Gather slot region) ask.End → ⊥
gather_not_end slot region e = cc

module _ (p : Terms) (is : IsPlan p) (done : List Action) (slot region : ℕ)
    (e : asked p done ≡ ask.Fix slot region) where
  of_action : (a : Action) → NamesAction p.layout (ask.Fix slot region) a
      → (page : ℕ) × NamesAction p.layout (ask.Fix slot region) (action.Fix slot page)
  of_action (action.Fix t page) n = (page, (refl, n.1))
  of_action (action.Unfix t) n = absurd n
  of_action (action.Latch t m) n = absurd n
  of_action (action.Unlatch t) n = absurd n
  of_action (action.Gather t page) n = absurd n
  of_action (action.Scatter t) n = absurd n
  of_action (action.Choose i) n = absurd n

  of_rest : (rest : List Action) → IsTrace p.layout p.body (done ++ rest)
      → (page : ℕ) × NamesAction p.layout (ask.Fix slot region) (action.Fix slot page)
  of_rest [] t =
      let whole = subst (IsTrace p.layout p.body) (append-nil done) t in
      absurd (not_end slot region (sym e ∙ (asks_end p done is ([], t)).0 whole))
  of_rest (a ∷ rest) t =
      of_action a (subst (λ x. NamesAction p.layout x a) e ((asks_named p done a is).0 (rest, t)))

module _ (p : Terms) (is : IsPlan p) (done : List Action) (slot region : ℕ)
    (e : asked p done ≡ ask.Gather slot region) where
  gather_action : (a : Action) → NamesAction p.layout (ask.Gather slot region) a
      → (page : ℕ) × NamesAction p.layout (ask.Gather slot region) (action.Gather slot page)
  gather_action (action.Fix t page) n = absurd n
  gather_action (action.Unfix t) n = absurd n
  gather_action (action.Latch t m) n = absurd n
  gather_action (action.Unlatch t) n = absurd n
  gather_action (action.Gather t page) n = (page, (refl, n.1))
  gather_action (action.Scatter t) n = absurd n
  gather_action (action.Choose i) n = absurd n

  gather_rest : (rest : List Action) → IsTrace p.layout p.body (done ++ rest)
      → (page : ℕ) × NamesAction p.layout (ask.Gather slot region) (action.Gather slot page)
  gather_rest [] t =
      let whole = subst (IsTrace p.layout p.body) (append-nil done) t in
      absurd (gather_not_end slot region (sym e ∙ (asks_end p done is ([], t)).0 whole))
  gather_rest (a ∷ rest) t =
      gather_action a (subst (λ x. NamesAction p.layout x a) e ((asks_named p done a is).0 (rest, t)))

-- ---- the seat of a worker that is asked something

-- Worker w acts, and its plan asks this.
record Asking (s : State) (w : ℕ) (x : Ask) : Type 0 where
  running : Running
  at : IsAt s w running acting
  asks : asked_by running ≡ x

-- An action that the ask names is asked.
named : (s : State) (w : ℕ) (x : Ask) (of : Asking s w x) (a : Action)
    → NamesAction of.running.accepted.plan.layout x a → IsAsked s w of.running a
named s w x of a n =
    record { at = of.at; names = subst (λ y. NamesAction of.running.accepted.plan.layout y a) (sym of.asks) n }

asking_in : (s : State) (w : ℕ) (x : Ask) (r : Running) (g : Stage) → IsAt s w r g → ask_in r g ≡ Some x
    → Asking s w x
asking_in s w x r acting at e = record { running = r; at = at; asks = cc }
asking_in s w x r (writing slot page victim) at e = cc
asking_in s w x r (reading slot page) at e = cc
asking_in s w x r (leaving given) at e = cc

asking_by : (s : State) (w : ℕ) (x : Ask) (o : Option (Option Running)) → seat_of s w ≡ o → ask_by o ≡ Some x
    → Asking s w x
asking_by s w x None is e = cc
asking_by s w x (Some None) is e = cc
asking_by s w x (Some (Some r)) is e = asking_in s w x r r.stage (record { seat = is; stage = refl }) e

some_slot : (k slot : ℕ) → ◌≡◌ {A = Option ℕ} (Some k) (Some slot) → k ≡ slot
some_slot k slot e = ap (λ o. unwrap_or o k) e

no_slot : (slot : ℕ) → ◌≡◌ {A = Option ℕ} None (Some slot) → ⊥
no_slot slot e = cc

same_slot : (k p slot page : ℕ) (v u : Option ℕ)
    → ◌≡◌ {A = Option (ℕ × ℕ × Option ℕ)} (Some (k, p, v)) (Some (slot, page, u)) → k ≡ slot
same_slot k p slot page v u e = ap (λ o. (unwrap_or {T = ℕ × ℕ × Option ℕ} o (k, p, v)).0) e

-- ---- the slots

abbrev own_unless : Bool → Holding → Option (ℕ × Held)
own_unless b x = if b then None else Some (x.page, x.held)

-- A slot with a bundle's pages alone has none of its own.
own_first : (hs : Holdings) → AreBundled hs → own_of (first_of hs) ≡ None
own_first [] all = refl
own_first (x ∷ hs) all = ap (λ b. own_unless b x) all.0.bundled

none_of_its_own : (hs : Holdings) (slot : ℕ) → AreBundled (slot_all holding_slot slot hs)
    → own_of (holding_at hs slot) ≡ None
none_of_its_own hs slot all =
    ap own_of (found_in hs slot (slot_all holding_slot slot hs) refl) ∙ own_first (slot_all holding_slot slot hs) all

gathered_many : (n : ℕ) → 0 < n → nat_lt 0 n ≡ true
gathered_many n some = grind (arith, nat_tests)

module _ (v : Parts) (s : State) (st : StandsFor v s) (w : ℕ) where
  h : IsReached s
  h = st.core.reached

  asker : (x : Ask) → ask_of s w ≡ Some x → Asking s w x
  asker x e = asking_by s w x (seat_of s w) refl e

  -- The slot is one of 32, and holds no page of its own.
  abbrev pub CanTake : (slot : ℕ) → Type 0
  CanTake slot = (slot < 32) × (held_of s w slot ≡ None)

  can_take : (r : Running) (slot page : ℕ) → seat_of s w ≡ Some (Some r) → CanHold s r slot page → CanTake slot
  can_take r slot page seat can =
      (can.few, ap (λ o. held_by o slot) seat ∙ none_of_its_own (holdings r) slot can.bundled)

  held_here : (r : Running) (slot : ℕ) (held : Held) → seat_of s w ≡ Some (Some r)
      → (x : Holding) → Holds r slot x → (own : (y : Holding) × HasOwn slot (holdings r) y) → x.held ≡ held
      → held_of s w slot ≡ Some (x.page, held)
  held_here r slot held seat x holds own how =
      ap (λ o. held_by o slot) seat ∙ ap own_of holds.found
      ∙ ap (λ b. own_unless b x) (plain_found (holdings r) slot x own.0 holds.found own.1)
      ∙ ap {B = Option (ℕ × Held)} (λ k. Some (x.page, k)) how

  -- An action that brings the page goes into such a slot.
  named_takes : (x : Ask) (of : Asking s w x) (slot page : ℕ)
      → NamesAction of.running.accepted.plan.layout x (fixes x slot page) → CanTake slot
  named_takes x of slot page n =
      let r = of.running in
      let asked = named s w x of (fixes x slot page) n in
      can_take r slot page of.at.seat
      (fix_finds s h w r slot page (subst (λ y. IsAsked s w r (fixes y slot page)) (sym of.asks) asked))

  fix_takes : (slot region : ℕ) → ask_of s w ≡ Some (ask.Fix slot region) → CanTake slot
  fix_takes slot region e =
      let of = asker (ask.Fix slot region) e in
      let r = of.running in
      let seat = seat_is s h w r of.at.seat in
      let page = of_rest r.accepted.plan seat.accepted.plan r.done slot region of.asks seat.begun.0 seat.begun.1 in
      named_takes (ask.Fix slot region) of slot page.0 page.1

  gather_takes : (slot region : ℕ) → ask_of s w ≡ Some (ask.Gather slot region) → CanTake slot
  gather_takes slot region e =
      let of = asker (ask.Gather slot region) e in
      let r = of.running in
      let seat = seat_is s h w r of.at.seat in
      let page = gather_rest r.accepted.plan seat.accepted.plan r.done slot region of.asks seat.begun.0 seat.begun.1 in
      named_takes (ask.Gather slot region) of slot page.0 page.1

  -- The slot into which a page is asked holds no page of its own.
  pub wanted_takes : (a : Ask) (slot : ℕ) → ask_of s w ≡ Some a → slot_wanted a ≡ Some slot → CanTake slot
  wanted_takes (ask.Fix k region) slot e wants = subst CanTake (some_slot k slot wants) (fix_takes k region e)
  wanted_takes (ask.Gather k region) slot e wants = subst CanTake (some_slot k slot wants) (gather_takes k region e)
  wanted_takes (ask.Unfix k) slot e wants = absurd (no_slot slot wants)
  wanted_takes (ask.Latch k m) slot e wants = absurd (no_slot slot wants)
  wanted_takes (ask.Unlatch k) slot e wants = absurd (no_slot slot wants)
  wanted_takes (ask.Scatter k) slot e wants = absurd (no_slot slot wants)
  wanted_takes (ask.Choose count) slot e wants = absurd (no_slot slot wants)
  wanted_takes ask.End slot e wants = absurd (no_slot slot wants)

  -- The slot of an unfix that is asked holds a page that isn't latched; so does the slot of a latch.
  pub unfix_held : (slot : ℕ) → ask_of s w ≡ Some (ask.Unfix slot)
      → (page : ℕ) × (held_of s w slot ≡ Some (page, Free))
  unfix_held slot e =
      let of = asker (ask.Unfix slot) e in
      let r = of.running in
      let asked = named s w (ask.Unfix slot) of (action.Unfix slot) refl in
      let x = unfix_finds s h w r slot asked in
      (x.0.page, held_here r slot Free of.at.seat x.0 x.1 (unfix_own s h w r slot asked) x.2)

  pub latch_held : (slot : ℕ) (m : Mode) → ask_of s w ≡ Some (ask.Latch slot m)
      → (page : ℕ) × (held_of s w slot ≡ Some (page, Free))
  latch_held slot m e =
      let of = asker (ask.Latch slot m) e in
      let r = of.running in
      let asked = named s w (ask.Latch slot m) of (action.Latch slot m) (refl, refl) in
      let x = latch_finds s h w r slot m asked in
      let own = latch_own s h w r slot m asked in
      (x.0.page, held_here r slot Free of.at.seat x.0 x.1 (own.0, own.1) x.2)

  -- The slot of an unlatch that is asked holds a page that is latched.
  pub unlatch_held : (slot : ℕ) → ask_of s w ≡ Some (ask.Unlatch slot)
      → (page : ℕ) × ((held_of s w slot ≡ Some (page, S)) ⊎ (held_of s w slot ≡ Some (page, X)))
  unlatch_held slot e =
      let of = asker (ask.Unlatch slot) e in
      let r = of.running in
      let asked = named s w (ask.Unlatch slot) of (action.Unlatch slot) refl in
      let x = unlatch_finds s h w r slot asked in
      let both = unlatch_own s h w r slot asked in
      let own : (y : Holding) × HasOwn slot (holdings r) y = (both.0, both.1) in
      let at = of.at.seat in (
        x.0.page,
        elim (x.2) [
          | inl shared ↦ inl (held_here r slot S at x.0 x.1 own shared)
          | inr exclusive ↦ inr (held_here r slot X at x.0 x.1 own exclusive)
        ],
      )

  -- The slot of a scatter that is asked is a bundle.
  pub scatter_gathered : (slot : ℕ) → ask_of s w ≡ Some (ask.Scatter slot) → is_gathered s w slot ≡ true
  scatter_gathered slot e =
      let some = ((after_moves s h).scattered w slot (scatter_did s w slot e) e).some in
      gathered_many (gathered_of s w slot) some

  errand_in_stage : (r : Running) (g : Stage) (slot page : ℕ) (victim : Option ℕ) → IsAt s w r g
      → errand_in g ≡ Some (slot, page, victim) → CanTake slot
  errand_in_stage r acting slot page victim at e = cc
  errand_in_stage r (writing k p x) slot page victim at e =
      subst CanTake (same_slot k p slot page (Some x) victim e)
      (can_take r k p at.seat (writing_finds s h w r k p x at))
  errand_in_stage r (reading k p) slot page victim at e =
      subst CanTake (same_slot k p slot page None victim e) (can_take r k p at.seat (reading_finds s h w r k p at))
  errand_in_stage r (leaving given) slot page victim at e = cc

  errand_by_seat : (slot page : ℕ) (victim : Option ℕ) (o : Option (Option Running)) → seat_of s w ≡ o
      → errand_by o ≡ Some (slot, page, victim) → CanTake slot
  errand_by_seat slot page victim None is e = cc
  errand_by_seat slot page victim (Some None) is e = cc
  errand_by_seat slot page victim (Some (Some r)) is e =
      errand_in_stage r r.stage slot page victim (record { seat = is; stage = refl }) e

  -- The slot of an errand that is out holds no page of its own.
  pub errand_takes : (slot page : ℕ) (victim : Option ℕ) → errand_of s w ≡ Some (slot, page, victim) → CanTake slot
  errand_takes slot page victim e = errand_by_seat slot page victim (seat_of s w) refl e
