-- A session and a guard that fit, told by one look at the worker's seat.
use Rattle.std.proofs.Common.{◌≡◌, ◌∙◌, ℕ, Bool, true, false, Option, Some, None, refl, sym, ap, subst, arith}
use Rattle.std.specs.Prelude.{◌&&◌, ◌==◌, if◌then◌else◌}
use Rattle.std.proofs.lemmas.Bool.{false≢true}
use Rattle.std.proofs.lemmas.Bool.Decides.{nat_tests}
use Rattle.pp_plan.specs.declared.mode.Mode.{Mode}
use Rattle.pp_plan.specs.declared.mode.Mode.TheVariants as mode
use Rattle.pp_plan.specs.declared.action.Ask.{Ask}
use Rattle.pp_plan.specs.declared.action.Ask.TheVariants as ask
use Rattle.pp_cert.specs.declared.note.Held.{Held}
use Rattle.pp_cert.specs.declared.note.Held.TheVariants.{Free, S, X}
use Rattle.pp_cert.specs.Notes.{same_held}
use Rattle.pp_model.specs.declared.refusals.Cause.TheVariants.{NotAsked}
use Rattle.pp_model.specs.Pool.{State}
use Rattle.pp_core.specs.Queries.{ask_of, held_of, is_page_so, ask_holding}
use Rattle.pp_core.specs.StandsFor as core
use Rattle.pp_vault.specs.Parts.{Parts}
use Rattle.pp_vault.specs.StandsFor.{StandsFor}
use Rattle.pp_vault.specs.declared.refusal.Refusal.TheVariants.{OffPlan, Stranger}
use Rattle.pp_vault.specs.Calls.{Call, refusal_of}
use Rattle.pp_vault.specs.Fits.{is_acting_by, is_same_held, is_held_by, is_held_so, fits_both, guard_call, ask_fitting}
use Rattle.pp_vault.specs.Fits.{is_same_mode, asks_unfix, asks_latch, asks_unlatch}
use Rattle.pp_vault.proofs.FitTests.{none_some, nat_is}

-- ---- tests

same_number : (n : ℕ) → (n == n) ≡ true
same_number n = grind (arith, nat_tests)

other_number : (m n : ℕ) → (m ≡ n → ⊥) → (m == n) ≡ false
other_number m n e = go (m == n) refl
  where
    go : (b : Bool) → (m == n) ≡ b → (m == n) ≡ false
    go true is = absurd (e (nat_is m n is))
    go false is = is

some_none : {A : Type 0} {a : A} → ◌≡◌ {A = Option A} (Some a) None → ⊥
some_none e = cc

same_how : (a b : Held) → same_held a b ≡ is_same_held a b
same_how Free Free = refl
same_how Free S = refl
same_how Free X = refl
same_how S Free = refl
same_how S S = refl
same_how S X = refl
same_how X Free = refl
same_how X S = refl
same_how X X = refl

same_so : (page : ℕ) (held : Held) (o : Option (ℕ × Held)) → is_page_so page held o ≡ is_held_by page held o
same_so page held None = refl
same_so page held (Some h) = ap (λ b. (h.0 == page) && b) (same_how h.1 held)

-- ---- they fit, or don't

fit_by : (o : Option Ask) (c b d : Bool) (a : Ask) → b ≡ d
    → (if c then (if b then o else None) else None) ≡ Some a
    → ((is_acting_by o && c && d) ≡ true) × (o ≡ Some a) × ((if b then o else None) ≡ Some a)
fit_by o false b d a same e = absurd (none_some e)
fit_by o true false d a same e = absurd (none_some e)
fit_by None true true d a same e = absurd (none_some e)
fit_by (Some x) true true false a same e = absurd (false≢true (sym same))
fit_by (Some x) true true true a same e = (refl, e, e)

none_by : (o : Option Ask) (c b d : Bool) → b ≡ d → (if c then (if b then o else None) else None) ≡ None
    → (is_acting_by o && c && d) ≡ false
none_by None c b d same e = refl
none_by (Some x) false b d same e = refl
none_by (Some x) true true d same e = absurd (some_none e)
none_by (Some x) true false false same e = refl
none_by (Some x) true false true same e = absurd (false≢true same)

module _ (s : State) (w of slot page : ℕ) (held : Held) where
  so : is_page_so page held (held_of s w slot) ≡ is_held_so s w slot page held
  so = same_so page held (held_of s w slot)

  fit_all : (a : Ask) → ask_fitting s w of slot page held ≡ Some a
      → (fits_both s w of slot page held ≡ true) × (ask_of s w ≡ Some a) × (ask_holding s w slot page held ≡ Some a)
  fit_all a e =
      fit_by (ask_of s w) (of == w) (is_page_so page held (held_of s w slot)) (is_held_so s w slot page held) a so e

  pub fits_so : (a : Ask) → ask_fitting s w of slot page held ≡ Some a → fits_both s w of slot page held ≡ true
  fits_so a e = (fit_all a e).0

  pub asks_so : (a : Ask) → ask_fitting s w of slot page held ≡ Some a → ask_of s w ≡ Some a
  asks_so a e = (fit_all a e).1

  pub holding_so : (a : Ask) → ask_fitting s w of slot page held ≡ Some a → ask_holding s w slot page held ≡ Some a
  holding_so a e = (fit_all a e).2

  pub none_so : ask_fitting s w of slot page held ≡ None → fits_both s w of slot page held ≡ false
  none_so e =
      none_by (ask_of s w) (of == w) (is_page_so page held (held_of s w slot)) (is_held_so s w slot page held) so e

-- ---- refused

pub strange : (s : State) (fits asked : Bool) (call : Call) → fits ≡ false
    → refusal_of s (guard_call fits asked call) ≡ Some Stranger
strange s false asked call e = refl
strange s true asked call e = absurd (false≢true (sym e))

pub not_asked : (s : State) (fits asked : Bool) (call : Call) → fits ≡ true → asked ≡ false
    → refusal_of s (guard_call fits asked call) ≡ Some (OffPlan NotAsked)
not_asked s true false call e f = refl
not_asked s true true call e f = absurd (false≢true (sym f))
not_asked s false asked call e f = absurd (false≢true e)

-- ---- what is asked

pub asks_its_unfix : (slot : ℕ) (o : Option Ask) → o ≡ Some (ask.Unfix slot) → asks_unfix slot o ≡ true
asks_its_unfix slot o e = ap (asks_unfix slot) e ∙ same_number slot

pub asks_its_unlatch : (slot : ℕ) (o : Option Ask) → o ≡ Some (ask.Unlatch slot) → asks_unlatch slot o ≡ true
asks_its_unlatch slot o e = ap (asks_unlatch slot) e ∙ same_number slot

same_mode : (m : Mode) → is_same_mode m m ≡ true
same_mode mode.S = refl
same_mode mode.X = refl

both_true : (a b : Bool) → a ≡ true → b ≡ true → (a && b) ≡ true
both_true true b e f = f
both_true false b e f = absurd (false≢true e)

pub asks_its_latch : (slot : ℕ) (m : Mode) (o : Option Ask) → o ≡ Some (ask.Latch slot m) → asks_latch slot m o ≡ true
asks_its_latch slot m o e =
    ap (asks_latch slot m) e ∙ both_true (slot == slot) (is_same_mode m m) (same_number slot) (same_mode m)

module _ (v : Parts) (w of slot page : ℕ) where
  pub fit : (held : Held) (a : Ask) → ((s : State) → core.StandsFor v.core s → ask_fitting s w of slot page held ≡ Some a)
      → (s : State) → StandsFor v s → fits_both s w of slot page held ≡ true
  fit held a told s st = fits_so s w of slot page held a (told s st.core)

  -- The same of the slot's number as the plan has it.
  pub own_told : (held : Held) (own : ℕ) (of_slot : ℕ → Ask) → own ≡ slot
      → ((s : State) → core.StandsFor v.core s → ask_fitting s w of slot page held ≡ Some (of_slot slot))
      → (s : State) → core.StandsFor v.core s → ask_holding s w own page held ≡ Some (of_slot own)
  own_told held own of_slot e told s st =
      subst (λ n. ask_holding s w n page held ≡ Some (of_slot n)) (sym e)
      (holding_so s w of slot page held (of_slot slot) (told s st))

  pub unfix_wanted : ((s : State) → core.StandsFor v.core s → ask_fitting s w of slot page Free ≡ Some (ask.Unfix slot))
      → (s : State) → StandsFor v s → asks_unfix slot (ask_of s w) ≡ true
  unfix_wanted told s st =
      asks_its_unfix slot (ask_of s w) (asks_so s w of slot page Free (ask.Unfix slot) (told s st.core))

  pub latch_wanted : (m : Mode)
      → ((s : State) → core.StandsFor v.core s → ask_fitting s w of slot page Free ≡ Some (ask.Latch slot m))
      → (s : State) → StandsFor v s → asks_latch slot m (ask_of s w) ≡ true
  latch_wanted m told s st =
      asks_its_latch slot m (ask_of s w) (asks_so s w of slot page Free (ask.Latch slot m) (told s st.core))

  pub unlatch_wanted : (held : Held)
      → ((s : State) → core.StandsFor v.core s → ask_fitting s w of slot page held ≡ Some (ask.Unlatch slot))
      → (s : State) → StandsFor v s → asks_unlatch slot (ask_of s w) ≡ true
  unlatch_wanted held told s st =
      asks_its_unlatch slot (ask_of s w) (asks_so s w of slot page held (ask.Unlatch slot) (told s st.core))

-- ---- as it was found

module _ (v : Parts) (w of slot page : ℕ) (held : Held) (found : Option Ask)
    (told : (s : State) → core.StandsFor v.core s → found ≡ ask_fitting s w of slot page held) where
  pub found_so : (a b : Ask) → found ≡ Some a → a ≡ b
      → (s : State) → core.StandsFor v.core s → ask_fitting s w of slot page held ≡ Some b
  found_so a b is same s st = sym (told s st) ∙ is ∙ ap {B = Option Ask} Some same

  pub stranger_so : (asked : State → Bool) (call : Call) → found ≡ None
      → (s : State) → StandsFor v s
      → refusal_of s (guard_call (fits_both s w of slot page held) (asked s) call) ≡ Some Stranger
  stranger_so asked call is s st =
      strange s (fits_both s w of slot page held) (asked s) call
      (none_so s w of slot page held (sym (told s st.core) ∙ is))

  pub unasked_so : (asked : Option Ask → Bool) (call : Call) (a : Ask) → found ≡ Some a → asked (Some a) ≡ false
      → (s : State) → StandsFor v s
      → refusal_of s (guard_call (fits_both s w of slot page held) (asked (ask_of s w)) call) ≡ Some (OffPlan NotAsked)
  unasked_so asked call a is isnt s st =
      let e = found_so a a is refl s st.core in
      not_asked s (fits_both s w of slot page held) (asked (ask_of s w)) call (fits_so s w of slot page held a e)
      (ap asked (asks_so s w of slot page held a e) ∙ isnt)

-- ---- what isn't asked

pub other_unfix : (slot own : ℕ) (a : Ask) → a ≡ ask.Unfix own → (slot ≡ own → ⊥) → asks_unfix slot (Some a) ≡ false
other_unfix slot own a e other = ap (λ x. asks_unfix slot (Some x)) e ∙ other_number slot own other

pub other_unlatch : (slot own : ℕ) (a : Ask) → a ≡ ask.Unlatch own → (slot ≡ own → ⊥)
    → asks_unlatch slot (Some a) ≡ false
other_unlatch slot own a e other = ap (λ x. asks_unlatch slot (Some x)) e ∙ other_number slot own other

either_false : (a b : Bool) → a ≡ false → (a && b) ≡ false
either_false false b e = refl
either_false true b e = absurd (false≢true (sym e))

pub other_latch : (slot own : ℕ) (m n : Mode) (a : Ask) → a ≡ ask.Latch own n → (slot ≡ own → ⊥)
    → asks_latch slot m (Some a) ≡ false
other_latch slot own m n a e other =
    ap (λ x. asks_latch slot m (Some x)) e ∙ either_false (slot == own) (is_same_mode m n) (other_number slot own other)

second_false : (a b : Bool) → b ≡ false → (a && b) ≡ false
second_false false b e = refl
second_false true b e = e

pub other_mode : (slot own : ℕ) (m n : Mode) (a : Ask) → a ≡ ask.Latch own n → is_same_mode m n ≡ false
    → asks_latch slot m (Some a) ≡ false
other_mode slot own m n a e other =
    ap (λ x. asks_latch slot m (Some x)) e ∙ second_false (slot == own) (is_same_mode m n) other

pub no_unfix : (slot : ℕ) (a : Ask) → ((of : ℕ) → a ≡ ask.Unfix of → ⊥) → asks_unfix slot (Some a) ≡ false
no_unfix slot (ask.Fix of region) n = refl
no_unfix slot (ask.Unfix of) n = absurd (n of refl)
no_unfix slot (ask.Latch of m) n = refl
no_unfix slot (ask.Unlatch of) n = refl
no_unfix slot (ask.Gather of region) n = refl
no_unfix slot (ask.Scatter of) n = refl
no_unfix slot (ask.Choose count) n = refl
no_unfix slot ask.End n = refl

pub no_unlatch : (slot : ℕ) (a : Ask) → ((of : ℕ) → a ≡ ask.Unlatch of → ⊥) → asks_unlatch slot (Some a) ≡ false
no_unlatch slot (ask.Fix of region) n = refl
no_unlatch slot (ask.Unfix of) n = refl
no_unlatch slot (ask.Latch of m) n = refl
no_unlatch slot (ask.Unlatch of) n = absurd (n of refl)
no_unlatch slot (ask.Gather of region) n = refl
no_unlatch slot (ask.Scatter of) n = refl
no_unlatch slot (ask.Choose count) n = refl
no_unlatch slot ask.End n = refl

pub no_latch : (slot : ℕ) (m : Mode) (a : Ask) → ((of : ℕ) (how : Mode) → a ≡ ask.Latch of how → ⊥)
    → asks_latch slot m (Some a) ≡ false
no_latch slot m (ask.Fix of region) n = refl
no_latch slot m (ask.Unfix of) n = refl
no_latch slot m (ask.Latch of how) n = absurd (n of how refl)
no_latch slot m (ask.Unlatch of) n = refl
no_latch slot m (ask.Gather of region) n = refl
no_latch slot m (ask.Scatter of) n = refl
no_latch slot m (ask.Choose count) n = refl
no_latch slot m ask.End n = refl
