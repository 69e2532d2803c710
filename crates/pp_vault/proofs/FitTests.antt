-- What the tests of tokens tell.
use Rattle.std.proofs.Common.{◌≡◌, ◌∙◌, ℕ, ◌<◌, Bool, true, false, Option, Some, None, [], ◌∷◌, List, length, nat_lt}
use Rattle.std.proofs.Common.{inl, inr, refl, sym, ap, arith}
use Rattle.std.specs.Prelude.{◌&&◌, ◌==◌, IsSome, option_map, unwrap_or, if◌then◌else◌}
use Rattle.std.proofs.lemmas.Bool.{false≢true}
use Rattle.std.proofs.lemmas.Bool.Decides.{nat_tests}
use Rattle.pp_plan.specs.declared.mode.Mode.{Mode}
use Rattle.pp_plan.specs.declared.mode.Mode.TheVariants as mode
use Rattle.pp_plan.specs.declared.action.Ask.{Ask}
use Rattle.pp_plan.specs.declared.action.Ask.TheVariants as ask
use Rattle.pp_cert.specs.declared.note.Held.{Held}
use Rattle.pp_cert.specs.declared.note.Held.TheVariants.{Free, S, X}
use Rattle.pp_cert.specs.Held.{Holding, holding_at}
use Rattle.pp_model.specs.Pool.{Stage, acting, writing, reading, leaving, Running, State}
use Rattle.pp_model.specs.Holders.{holdings, page_in, held_in}
use Rattle.pp_model.specs.Moves.{asked_by, seat_of}
use Rattle.pp_model.specs.Reached.{IsReached}
use Rattle.pp_core.specs.Queries.{own_of, ask_in, ask_by, ask_of, held_by, held_of, bundle_of, gathered_of}
use Rattle.pp_core.proofs.AfterMoves.{after_moves}
use Rattle.pp_vault.specs.Calls.{Call}
use Rattle.pp_vault.specs.Fits.{is_acting_by, is_acting, is_same_held, is_held_by, is_held_so, is_gathered, IsEmpty}
use Rattle.pp_vault.specs.Fits.{is_same_mode, asks_unfix, asks_scatter, asks_latch, asks_unlatch, guard_call, fits_both, bundle_fits}

-- ---- tests

pub both_hold : (a b : Bool) → (a && b) ≡ true → (a ≡ true) × (b ≡ true)
both_hold true b e = (refl, e)
both_hold false b e = absurd (false≢true e)

pub nat_is : (a b : ℕ) → (a == b) ≡ true → a ≡ b
nat_is a b e = grind (arith, nat_tests)

held_is : (a b : Held) → is_same_held a b ≡ true → a ≡ b
held_is Free Free e = refl
held_is Free S e = absurd (false≢true e)
held_is Free X e = absurd (false≢true e)
held_is S Free e = absurd (false≢true e)
held_is S S e = refl
held_is S X e = absurd (false≢true e)
held_is X Free e = absurd (false≢true e)
held_is X S e = absurd (false≢true e)
held_is X X e = refl

mode_is : (a b : Mode) → is_same_mode a b ≡ true → a ≡ b
mode_is mode.S mode.S e = refl
mode_is mode.S mode.X e = absurd (false≢true e)
mode_is mode.X mode.S e = absurd (false≢true e)
mode_is mode.X mode.X e = refl

held_by_is : (page : ℕ) (held : Held) (o : Option (ℕ × Held)) → is_held_by page held o ≡ true → o ≡ Some (page, held)
held_by_is page held None e = absurd (false≢true e)
held_by_is page held (Some h) e =
    let both = both_hold (h.0 == page) (is_same_held h.1 held) e in
    λ i. Some (nat_is h.0 page both.0 i, held_is h.1 held both.1 i)

-- ---- what a plan asks

pub unfix_asked : (slot : ℕ) (o : Option Ask) → asks_unfix slot o ≡ true → o ≡ Some (ask.Unfix slot)
unfix_asked slot None e = absurd (false≢true e)
unfix_asked slot (Some (ask.Fix of region)) e = absurd (false≢true e)
unfix_asked slot (Some (ask.Unfix of)) e = ap (λ n. Some (ask.Unfix n)) (sym (nat_is slot of e))
unfix_asked slot (Some (ask.Latch of m)) e = absurd (false≢true e)
unfix_asked slot (Some (ask.Unlatch of)) e = absurd (false≢true e)
unfix_asked slot (Some (ask.Gather of region)) e = absurd (false≢true e)
unfix_asked slot (Some (ask.Scatter of)) e = absurd (false≢true e)
unfix_asked slot (Some (ask.Choose count)) e = absurd (false≢true e)
unfix_asked slot (Some ask.End) e = absurd (false≢true e)

pub scatter_asked : (slot : ℕ) (o : Option Ask) → asks_scatter slot o ≡ true → o ≡ Some (ask.Scatter slot)
scatter_asked slot None e = absurd (false≢true e)
scatter_asked slot (Some (ask.Fix of region)) e = absurd (false≢true e)
scatter_asked slot (Some (ask.Unfix of)) e = absurd (false≢true e)
scatter_asked slot (Some (ask.Latch of m)) e = absurd (false≢true e)
scatter_asked slot (Some (ask.Unlatch of)) e = absurd (false≢true e)
scatter_asked slot (Some (ask.Gather of region)) e = absurd (false≢true e)
scatter_asked slot (Some (ask.Scatter of)) e = ap (λ n. Some (ask.Scatter n)) (sym (nat_is slot of e))
scatter_asked slot (Some (ask.Choose count)) e = absurd (false≢true e)
scatter_asked slot (Some ask.End) e = absurd (false≢true e)

pub latch_asked : (slot : ℕ) (m : Mode) (o : Option Ask) → asks_latch slot m o ≡ true → o ≡ Some (ask.Latch slot m)
latch_asked slot m None e = absurd (false≢true e)
latch_asked slot m (Some (ask.Fix of region)) e = absurd (false≢true e)
latch_asked slot m (Some (ask.Unfix of)) e = absurd (false≢true e)
latch_asked slot m (Some (ask.Latch of n)) e =
    let both = both_hold (slot == of) (is_same_mode m n) e in
    λ i. Some (ask.Latch (sym (nat_is slot of both.0) i) (sym (mode_is m n both.1) i))
latch_asked slot m (Some (ask.Unlatch of)) e = absurd (false≢true e)
latch_asked slot m (Some (ask.Gather of region)) e = absurd (false≢true e)
latch_asked slot m (Some (ask.Scatter of)) e = absurd (false≢true e)
latch_asked slot m (Some (ask.Choose count)) e = absurd (false≢true e)
latch_asked slot m (Some ask.End) e = absurd (false≢true e)

pub unlatch_asked : (slot : ℕ) (o : Option Ask) → asks_unlatch slot o ≡ true → o ≡ Some (ask.Unlatch slot)
unlatch_asked slot None e = absurd (false≢true e)
unlatch_asked slot (Some (ask.Fix of region)) e = absurd (false≢true e)
unlatch_asked slot (Some (ask.Unfix of)) e = absurd (false≢true e)
unlatch_asked slot (Some (ask.Latch of m)) e = absurd (false≢true e)
unlatch_asked slot (Some (ask.Unlatch of)) e = ap (λ n. Some (ask.Unlatch n)) (sym (nat_is slot of e))
unlatch_asked slot (Some (ask.Gather of region)) e = absurd (false≢true e)
unlatch_asked slot (Some (ask.Scatter of)) e = absurd (false≢true e)
unlatch_asked slot (Some (ask.Choose count)) e = absurd (false≢true e)
unlatch_asked slot (Some ask.End) e = absurd (false≢true e)

-- ---- sessions and guards

pub acts_by : (o : Option Ask) → IsSome o → is_acting_by o ≡ true
acts_by None h = absurd (false≢true h)
acts_by (Some a) h = refl

-- The slot of a guard that fits holds its page so.
pub slot_held : (s : State) (w slot page : ℕ) (held : Held) → is_held_so s w slot page held ≡ true
    → held_of s w slot ≡ Some (page, held)
slot_held s w slot page held e = held_by_is page held (held_of s w slot) e

pub guard_held : (s : State) (w of slot page : ℕ) (held : Held) → fits_both s w of slot page held ≡ true
    → held_of s w slot ≡ Some (page, held)
guard_held s w of slot page held e =
    slot_held s w slot page held
    (both_hold (is_acting s w && (of == w)) (is_held_so s w slot page held) e).1

-- The slot of a bundle's guard that fits is a bundle.
pub guard_gathered : (s : State) (w of slot : ℕ) → bundle_fits s w of slot ≡ true → is_gathered s w slot ≡ true
guard_gathered s w of slot e = (both_hold (is_acting s w && (of == w)) (is_gathered s w slot) e).1

-- A call whose tokens fit, and which the plan asks.
pub guard_asks : (fits asked : Bool) (call : Call) → fits ≡ true → asked ≡ true → guard_call fits asked call ≡ call
guard_asks true true call e f = refl
guard_asks true false call e f = absurd (false≢true f)
guard_asks false asked call e f = absurd (false≢true e)

-- ---- the worker's seat

pub record Asking (s : State) (w : ℕ) (a : Ask) : Type 0 where
  pub run : Running
  pub seat : seat_of s w ≡ Some (Some run)
  pub ask : asked_by run ≡ a

pub none_some : {A : Type 0} {a : A} → ◌≡◌ {A = Option A} None (Some a) → ⊥
none_some e = cc

pub some_some : {A : Type 0} (d a b : A) → ◌≡◌ {A = Option A} (Some a) (Some b) → a ≡ b
some_some d a b e = cc

asking_in : (r : Running) (g : Stage) (a : Ask) → ask_in r g ≡ Some a → asked_by r ≡ a
asking_in r acting a e = some_some a (asked_by r) a e
asking_in r (writing slot page victim) a e = absurd (none_some e)
asking_in r (reading slot page) a e = absurd (none_some e)
asking_in r (leaving given) a e = absurd (none_some e)

asking_by : (s : State) (w : ℕ) (a : Ask) (o : Option (Option Running)) → seat_of s w ≡ o → ask_by o ≡ Some a
    → Asking s w a
asking_by s w a None f e = absurd (none_some e)
asking_by s w a (Some None) f e = absurd (none_some e)
asking_by s w a (Some (Some r)) f e = record { run = r; seat = f; ask = asking_in r r.stage a e }

pub asking : (s : State) (w : ℕ) (a : Ask) → ask_of s w ≡ Some a → Asking s w a
asking s w a e = asking_by s w a (seat_of s w) refl e

-- A page of the slot's own is told, and a bundle's isn't.
abbrev own_unless : Bool → Holding → Option (ℕ × Held)
own_unless b x = if b then None else Some (x.page, x.held)

pub own_is : (x : Holding) → x.bundled ≡ false → own_of (Some x) ≡ Some (x.page, x.held)
own_is x plain = ap (λ b. own_unless b x) plain

pub own_told : (x : Holding) (page : ℕ) (how : Held) → own_of (Some x) ≡ Some (page, how)
    → ◌≡◌ {A = ℕ × Held} (x.page, x.held) (page, how)
own_told x page how told = go x.bundled told
  where
    go : (b : Bool) → own_unless b x ≡ Some (page, how) → ◌≡◌ {A = ℕ × Held} (x.page, x.held) (page, how)
    go true e = absurd (none_some e)
    go false e = some_some (page, how) (x.page, x.held) (page, how) e

pub record Holds (r : Running) (slot page : ℕ) (held : Held) : Type 0 where
  pub page_is : page_in r slot ≡ page
  pub held_is : held_in r slot ≡ held

holds_by : (r : Running) (slot page : ℕ) (held : Held) (o : Option Holding) → holding_at (holdings r) slot ≡ o
    → own_of o ≡ Some (page, held) → Holds r slot page held
holds_by r slot page held None f e = absurd (none_some e)
holds_by r slot page held (Some h) f e =
    let same = own_told h page held e in
    record {
      page_is = ap (λ (o : Option Holding). unwrap_or (option_map (λ z. z.page) o) 0) f ∙ ap (λ (p : ℕ × Held). p.0) same;
      held_is = ap (λ (o : Option Holding). unwrap_or (option_map (λ z. z.held) o) Free) f ∙ ap (λ (p : ℕ × Held). p.1) same;
    }

pub holds : (s : State) (w slot page : ℕ) (held : Held) (r : Running) → seat_of s w ≡ Some (Some r)
    → held_of s w slot ≡ Some (page, held) → Holds r slot page held
holds s w slot page held r seat e =
    holds_by r slot page held (holding_at (holdings r) slot) refl (sym (ap (λ o. held_by o slot) seat) ∙ e)

-- ---- bundles

-- A slot is a bundle where pages of one are in it.
pub some_pins : (pins : ℕ) → 0 < pins → nat_lt 0 pins ≡ true
some_pins pins some = grind (arith, nat_tests)

pins_some : (pins : ℕ) → nat_lt 0 pins ≡ true → 0 < pins
pins_some pins e = grind (arith, nat_tests)

pub gathered_some : (s : State) (w slot : ℕ) → is_gathered s w slot ≡ true → 0 < gathered_of s w slot
gathered_some s w slot e = pins_some (gathered_of s w slot) e

pub none_gathered : (s : State) (w slot : ℕ) → bundle_of s w slot ≡ [] → is_gathered s w slot ≡ false
none_gathered s w slot e = ap (λ (ps : List ℕ). nat_lt 0 (length ps)) e

-- A slot that has no page of its own and no page of a bundle is empty.
pub empty_by : (s : State) (w slot : ℕ) → held_of s w slot ≡ None → bundle_of s w slot ≡ [] → IsEmpty s w slot
empty_by s w slot page bundle = record { no_page = page; no_bundle = none_gathered s w slot bundle }

pub page_gathered : (s : State) (w slot page : ℕ) (ps : List ℕ) → bundle_of s w slot ≡ page ∷ ps
    → is_gathered s w slot ≡ true
page_gathered s w slot page ps e =
    ap (λ (ps : List ℕ). nat_lt 0 (length ps)) e ∙ some_pins (length (page ∷ ps)) (omega arith)

-- No slot has a page of its own and is a bundle.
pub own_alone : (s : State) → IsReached s → (w slot : ℕ) (x : ℕ × Held) → held_of s w slot ≡ Some x
    → is_gathered s w slot ≡ false
own_alone s h w slot x held =
    elim ((after_moves s h).one_kind w slot) [
      | inl none ↦ absurd (none_some (sym none ∙ held))
      | inr e ↦ none_gathered s w slot e
    ]

pub bundle_alone : (s : State) → IsReached s → (w slot : ℕ) → is_gathered s w slot ≡ true → held_of s w slot ≡ None
bundle_alone s h w slot is =
    elim ((after_moves s h).one_kind w slot) [
      | inl none ↦ none
      | inr e ↦ absurd (false≢true (sym (none_gathered s w slot e) ∙ is))
    ]
