-- Where the tests of a body pass, each of its traces goes well.
use Rattle.std.proofs.Common.{◌≡◌, ℕ, zero, suc, ◌+◌, ◌-◌, ◌*◌, ◌≤◌, Bool, true, false, Option, Some, None, List, []}
use Rattle.std.proofs.Common.{◌∷◌, ◌++◌, length, refl, sym, ap, subst, ◌∙◌, arith}
use Rattle.std.specs.Prelude.{◌&&◌, ◌==◌, not, is_some, option_map, if◌then◌else◌}
use Rattle.std.proofs.lemmas.Bool.{and_parts, not-true, eqb-true}
use Rattle.pp_settings.specs.Layout.{Geometry, IsLayout, HasPage}
use Rattle.pp_plan.specs.declared.mode.Mode.{Mode}
use Rattle.pp_plan.specs.declared.action.Action.{Action}
use Rattle.pp_plan.specs.declared.action.Action.TheVariants.{Fix, Unfix, Latch, Unlatch, Gather, Scatter, Choose}
use Rattle.pp_plan.specs.Tree.{Step, fix, unfix, latch, unlatch, gather, scatter, Statement, step, loop, choice}
use Rattle.pp_plan.specs.Tree.{Sequence, skip, andthen, Alternatives, none, either, step_scatters, statement_scatters}
use Rattle.pp_plan.specs.Tree.{scatters, branches_scatter}
use Rattle.pp_plan.specs.Traces.{Does, Repeats, IsStatementTrace, IsTrace, IsBranchTrace}
use Rattle.pp_cert.specs.declared.note.Entry.{Entry}
use Rattle.pp_cert.specs.declared.note.Held.{Held}
use Rattle.pp_cert.specs.declared.note.Held.TheVariants.{Free, S, X}
use Rattle.pp_cert.specs.Held.{Holdings, held_in, holding_at, held_at, held_next, plain_page, bundle_page, holding_as}
use Rattle.pp_cert.specs.Held.{holding_slot, is_free_page, is_latched_page}
use Rattle.pp_cert.specs.Slots.{slot_push, slot_remove, slot_clear}
use Rattle.pp_cert.specs.Notes.{Entries, note_pins, entry_held, entry_at, noted_at, bound_at, noted_after}
use Rattle.pp_cert.specs.Walk.{Claims, note_at, same, after, outcome, Test, slot_unused, slot_fixed, slot_unlatched}
use Rattle.pp_cert.specs.Walk.{slot_latched, slot_in_order, bundle_gathered, loop_keeps, loop_grows, branch_agrees}
use Rattle.pp_cert.specs.Walk.{first_fault, note_tests, turn_tests, step_tests, statement_tests, sequence_tests}
use Rattle.pp_cert.specs.Walk.{later_tests, statement_end, sequence_end, alternatives_end}
use Rattle.pp_cert.proofs.Slots.{same_number}
use Rattle.pp_cert.proofs.Fits.{Fits, refits, fits_few, fits_held, fits_unused, fits_insert, fits_remove, fits_held_as}
use Rattle.pp_cert.proofs.Fits.{fits_gather, fits_scatter, above_latched}
use Rattle.pp_cert.proofs.SlotKinds.{KeepsKinds, StatementKeeps, IsOfKinds, BranchesKeep, or_left, or_right}
use Rattle.pp_cert.proofs.Passing.{first_passes, both_pass, note_same, note_passes, turn_passes, loop_fits}
use Rattle.pp_cert.proofs.Passing.{noted_told}
use Rattle.pp_cert.proofs.Goes.{Goes, MayDo, goes_on}

-- ---- one step

-- fixed and not latched is free
free_of : (o : Option Held) → is_some o ≡ true → not (is_latched_page o) ≡ true → is_free_page o ≡ true
free_of None a b = absurd (cc)
free_of (Some Free) a b = refl
free_of (Some S) a b = absurd (cc)
free_of (Some X) a b = absurd (cc)

-- the action is possible, in order, and what is held after it fits the note after the step
abbrev pub StepGoes : Geometry → (kind : ℕ → Bool) (off : ℕ → ℕ) → Entries → Step → Holdings → Action → Type 0
StepGoes g kind off n s hs a =
    MayDo g hs a × ((m : Holdings) × (held_next hs a ≡ Some m) × Fits g kind off (noted_after s n) m)

none_noted : (o : Option Entry) → is_some (option_map entry_held o) ≡ false → o ≡ None
none_noted None h = refl
none_noted (Some e) h = absurd (cc)

some_noted : (o : Option Entry) → is_some (option_map entry_held o) ≡ true → is_some o ≡ true
some_noted None h = absurd (cc)
some_noted (Some e) h = refl

-- ---- the arithmetic of a loop: what is to come before its first turn, and from one turn to the next

before_turns : (n b f l off : ℕ) → 1 ≤ n → f ≤ l → f ≡ b + (n - 1) * (l - f) → b + (off + n * (l - f)) ≡ l + off
before_turns zero b f l off h le e = absurd (omega (arith, h))
before_turns (suc m) b f l off h le e =
    let d : ℕ = l - f in
    let up : l ≡ f + d = omega (arith, le) in
    let p : suc m - 1 ≡ m = omega arith in
    let q : f ≡ b + m * d = e ∙ ap (λ x. b + x * d) p in
    let t : suc m * d ≡ d + m * d = omega arith in
    omega (arith, up, q, t)

next_turn : (m f l off : ℕ) → f ≤ l → l + (off + m * (l - f)) ≡ f + (off + suc m * (l - f))
next_turn m f l off le =
    let d : ℕ = l - f in
    let up : l ≡ f + d = omega (arith, le) in
    let t : suc m * d ≡ d + m * d = omega arith in
    omega (arith, up, t)

-- with nothing to come before the loop and no growth, nothing is to come in it
no_growth : (off m f l : ℕ) → off ≡ 0 → l - f ≡ 0 → off + m * (l - f) ≡ 0
no_growth off m f l z e = (λ i. z i + m * e i) ∙ omega arith

-- No pins of a bundle that is scattered are still to come.
abbrev pub MayWait : (scattered : ℕ → Bool) (off : ℕ → ℕ) → Type 0
MayWait scattered off = (s : ℕ) → scattered s ≡ true → off s ≡ 0

module _ (g : Geometry) (l : IsLayout g) (kind : ℕ → Bool) (c : Claims) where
  -- what is tested of a slot in a note holds of what is held
  holds_too : (off : ℕ → ℕ) (n : Entries) (hs : Holdings) (s : ℕ) (test : Option Held → Bool) (b : Bool)
      → Fits g kind off n hs → test (noted_at n s) ≡ b → test (held_at hs s) ≡ b
  holds_too off n hs s test b f h = ap test (sym (fits_held g kind off n hs s f)) ∙ h

  fix_goes : (off : ℕ → ℕ) (k s r page : ℕ) (hs : Holdings) → kind s ≡ false → HasPage g r page
      → Fits g kind off (note_at c k) hs → first_fault g c (step_tests k (fix s r)) ≡ None
      → StepGoes g kind off (note_at c k) (fix s r) hs (Fix s page)
  fix_goes off k s r page hs plain has f h =
      let p = first_passes g c (slot_unused k s) [] h in
      let q = and_parts (not (is_some (noted_at (note_at c k) s))) (bound_at (note_at c k) s == 0) p.0 in
      let free : is_some (noted_at (note_at c k) s) ≡ false = not-true (is_some (noted_at (note_at c k) s)) q.0 in
      let zero_bound : bound_at (note_at c k) s ≡ 0 = eqb-true (bound_at (note_at c k) s) 0 q.1 in
      let none = none_noted (entry_at (note_at c k) s) free in
      let unused : is_some (holding_at hs s) ≡ false =
      ap is_some (fits_unused g kind off (note_at c k) hs s f none zero_bound) in (
        tt,
        (
          slot_push holding_slot (plain_page s page) hs,
          ap (λ b. if b then None else Some (slot_push holding_slot (plain_page s page) hs)) unused,
          fits_insert g kind off (note_at c k) hs r (plain_page s page) f plain none zero_bound refl has,
        ),
      )

  -- a slot that is fixed and not latched is free
  is_free : (off : ℕ → ℕ) (k s : ℕ) (ts : List Test) (hs : Holdings) → Fits g kind off (note_at c k) hs
      → first_fault g c (slot_fixed k s ∷ slot_unlatched k s ∷ ts) ≡ None → (is_free_page (held_at hs s) ≡ true)
      × (first_fault g c ts ≡ None) × (is_some (entry_at (note_at c k) s) ≡ true)
  is_free off k s ts hs f h =
      let p = first_passes g c (slot_fixed k s) (slot_unlatched k s ∷ ts) h in
      let q = first_passes g c (slot_unlatched k s) ts p.1 in (
        holds_too off (note_at c k) hs s is_free_page true f (free_of (noted_at (note_at c k) s) p.0 q.0),
        q.1,
        some_noted (entry_at (note_at c k) s) p.0,
      )

  unfix_goes : (off : ℕ → ℕ) (k s : ℕ) (hs : Holdings) → Fits g kind off (note_at c k) hs
      → first_fault g c (step_tests k (unfix s)) ≡ None → StepGoes g kind off (note_at c k) (unfix s) hs (Unfix s)
  unfix_goes off k s hs f h =
      let p = is_free off k s [] hs f h in (
        tt,
        (
          slot_remove holding_slot s hs,
          ap (λ b. if b then Some (slot_remove holding_slot s hs) else None) p.0,
          fits_remove g kind off (note_at c k) hs s f p.2,
        ),
      )

  latch_goes : (off : ℕ → ℕ) (k s : ℕ) (m : Mode) (hs : Holdings) → Fits g kind off (note_at c k) hs
      → first_fault g c (step_tests k (latch s m)) ≡ None
      → StepGoes g kind off (note_at c k) (latch s m) hs (Latch s m)
  latch_goes off k s m hs f h =
      let p = is_free off k s (slot_in_order k s ∷ []) hs f h in
      let q = first_passes g c (slot_in_order k s) [] p.1 in (
        above_latched g l kind off (note_at c k) hs s f p.2 q.0,
        (
          holding_as (held_in m) s hs,
          ap (λ b. if b then Some (holding_as (held_in m) s hs) else None) p.0,
          fits_held_as g kind off (note_at c k) hs (held_in m) s f p.2,
        ),
      )

  unlatch_goes : (off : ℕ → ℕ) (k s : ℕ) (hs : Holdings) → Fits g kind off (note_at c k) hs
      → first_fault g c (step_tests k (unlatch s)) ≡ None
      → StepGoes g kind off (note_at c k) (unlatch s) hs (Unlatch s)
  unlatch_goes off k s hs f h =
      let p = first_passes g c (slot_fixed k s) (slot_latched k s ∷ []) h in
      let q = first_passes g c (slot_latched k s) [] p.1 in
      let latched : is_latched_page (held_at hs s) ≡ true =
      holds_too off (note_at c k) hs s is_latched_page true f q.0 in (
        tt,
        (
          holding_as Free s hs,
          ap (λ b. if b then Some (holding_as Free s hs) else None) latched,
          fits_held_as g kind off (note_at c k) hs Free s f (some_noted (entry_at (note_at c k) s) p.0),
        ),
      )

  gather_goes : (off : ℕ → ℕ) (k s r page : ℕ) (hs : Holdings) → kind s ≡ true → Fits g kind off (note_at c k) hs
      → StepGoes g kind off (note_at c k) (gather s r) hs (Gather s page)
  gather_goes off k s r page hs bundle f =
      let p = fits_gather g kind off (note_at c k) hs s page f bundle in
      let next : Holdings = slot_push holding_slot (bundle_page s page) hs in
      (tt, (next, ap (λ b. if b then None else Some next) p.0, p.1))

  scatter_goes : (off : ℕ → ℕ) (k s : ℕ) (hs : Holdings) → kind s ≡ true → off s ≡ 0
      → Fits g kind off (note_at c k) hs → first_fault g c (step_tests k (scatter s)) ≡ None
      → StepGoes g kind off (note_at c k) (scatter s) hs (Scatter s)
  scatter_goes off k s hs bundle is_whole f h =
      let some = first_passes g c (bundle_gathered k s) [] h in
      let p = fits_scatter g kind off (note_at c k) hs s f bundle is_whole some.0 in
      let next : Holdings = slot_clear holding_slot s hs in
      (tt, (next, ap (λ b. if b then Some next else None) p.0, p.1))

  step_goes : (off : ℕ → ℕ) (k : ℕ) (s : Step) (a : Action) (hs : Holdings) → KeepsKinds kind s
      → MayWait (step_scatters s) off → Does g s a → Fits g kind off (note_at c k) hs
      → first_fault g c (step_tests k s) ≡ None → StepGoes g kind off (note_at c k) s hs a
  step_goes off k (fix s r) (Fix t page) hs is w d f h =
      subst (λ u. StepGoes g kind off (note_at c k) (fix s r) hs (Fix u page)) d.0
      (fix_goes off k s r page hs is d.1 f h)
  step_goes off k (fix s r) (Unfix t) hs is w d f h = absurd d
  step_goes off k (fix s r) (Latch t o) hs is w d f h = absurd d
  step_goes off k (fix s r) (Unlatch t) hs is w d f h = absurd d
  step_goes off k (fix s r) (Gather t page) hs is w d f h = absurd d
  step_goes off k (fix s r) (Scatter t) hs is w d f h = absurd d
  step_goes off k (fix s r) (Choose i) hs is w d f h = absurd d
  step_goes off k (unfix s) (Fix t page) hs is w d f h = absurd d
  step_goes off k (unfix s) (Unfix t) hs is w d f h =
      subst (λ u. StepGoes g kind off (note_at c k) (unfix s) hs (Unfix u)) d (unfix_goes off k s hs f h)
  step_goes off k (unfix s) (Latch t o) hs is w d f h = absurd d
  step_goes off k (unfix s) (Unlatch t) hs is w d f h = absurd d
  step_goes off k (unfix s) (Gather t page) hs is w d f h = absurd d
  step_goes off k (unfix s) (Scatter t) hs is w d f h = absurd d
  step_goes off k (unfix s) (Choose i) hs is w d f h = absurd d
  step_goes off k (latch s m) (Fix t page) hs is w d f h = absurd d
  step_goes off k (latch s m) (Unfix t) hs is w d f h = absurd d
  step_goes off k (latch s m) (Latch t o) hs is w d f h =
      subst (λ u. StepGoes g kind off (note_at c k) (latch s m) hs (Latch u o)) d.0
      (subst (λ u. StepGoes g kind off (note_at c k) (latch s m) hs (Latch s u)) d.1 (latch_goes off k s m hs f h))
  step_goes off k (latch s m) (Unlatch t) hs is w d f h = absurd d
  step_goes off k (latch s m) (Gather t page) hs is w d f h = absurd d
  step_goes off k (latch s m) (Scatter t) hs is w d f h = absurd d
  step_goes off k (latch s m) (Choose i) hs is w d f h = absurd d
  step_goes off k (unlatch s) (Fix t page) hs is w d f h = absurd d
  step_goes off k (unlatch s) (Unfix t) hs is w d f h = absurd d
  step_goes off k (unlatch s) (Latch t o) hs is w d f h = absurd d
  step_goes off k (unlatch s) (Unlatch t) hs is w d f h =
      subst (λ u. StepGoes g kind off (note_at c k) (unlatch s) hs (Unlatch u)) d (unlatch_goes off k s hs f h)
  step_goes off k (unlatch s) (Gather t page) hs is w d f h = absurd d
  step_goes off k (unlatch s) (Scatter t) hs is w d f h = absurd d
  step_goes off k (unlatch s) (Choose i) hs is w d f h = absurd d
  step_goes off k (gather s r) (Fix t page) hs is w d f h = absurd d
  step_goes off k (gather s r) (Unfix t) hs is w d f h = absurd d
  step_goes off k (gather s r) (Latch t o) hs is w d f h = absurd d
  step_goes off k (gather s r) (Unlatch t) hs is w d f h = absurd d
  step_goes off k (gather s r) (Gather t page) hs is w d f h =
      subst (λ u. StepGoes g kind off (note_at c k) (gather s r) hs (Gather u page)) d.0
      (gather_goes off k s r page hs is f)
  step_goes off k (gather s r) (Scatter t) hs is w d f h = absurd d
  step_goes off k (gather s r) (Choose i) hs is w d f h = absurd d
  step_goes off k (scatter s) (Fix t page) hs is w d f h = absurd d
  step_goes off k (scatter s) (Unfix t) hs is w d f h = absurd d
  step_goes off k (scatter s) (Latch t o) hs is w d f h = absurd d
  step_goes off k (scatter s) (Unlatch t) hs is w d f h = absurd d
  step_goes off k (scatter s) (Gather t page) hs is w d f h = absurd d
  step_goes off k (scatter s) (Scatter t) hs is w d f h =
      subst (λ u. StepGoes g kind off (note_at c k) (scatter s) hs (Scatter u)) d
      (scatter_goes off k s hs is (w s (same_number s)) f h)
  step_goes off k (scatter s) (Choose i) hs is w d f h = absurd d

  -- ---- bodies

  -- the list goes well from these slots, and ends with slots that the note fits
  abbrev pub GoesTo : (off : ℕ → ℕ) → Entries → Holdings → List Action → Type 0
  GoesTo off n hs t = (last : Holdings) × Goes g c.peak hs t last × Fits g kind off n last

  -- what fits a small note is small
  small_too : (off : ℕ → ℕ) (n : Entries) (hs : Holdings) → Fits g kind off n hs → note_pins n ≤ c.peak
      → length hs ≤ c.peak
  small_too off n hs f small = omega (arith, fits_few g kind off n hs f, small)

  -- a list of no action stays
  stays : (off : ℕ → ℕ) (n : Entries) (hs : Holdings) → Fits g kind off n hs → note_pins n ≤ c.peak → GoesTo off n hs []
  stays off n hs f small = (hs, (refl, small_too off n hs f small), f)

  goes_to : (off to : ℕ → ℕ) (n m : Entries) (hs : Holdings) (t u : List Action) → GoesTo off n hs t
      → ((ms : Holdings) → Fits g kind off n ms → GoesTo to m ms u) → GoesTo to m hs (t ++ u)
  goes_to off to n m hs t u a b =
      let k = b a.0 a.2 in
      (k.0, goes_on g c.peak hs a.0 k.0 t u a.1 k.1, k.2)

  -- one more action before a list
  goes_first : (off : ℕ → ℕ) (n : Entries) (hs ms : Holdings) (a : Action) (t : List Action) → length hs ≤ c.peak
      → MayDo g hs a → held_next hs a ≡ Some ms → GoesTo off n ms t → GoesTo off n hs (a ∷ t)
  goes_first off n hs ms a t small may next to = (to.0, (small, may, (ms, next, to.1)), to.2)

  -- a note that is expected to be the same fits the same
  fits_same : (off : ℕ → ℕ) (n m : Entries) (hs : Holdings) → n ≡ m → Fits g kind off n hs → Fits g kind off m hs
  fits_same off n m hs e f = subst (λ x. Fits g kind off x hs) e f

  -- before so many more turns of a body, what is to come after them all and so many times the growth of a turn
  abbrev waiting : (off : ℕ → ℕ) (first last : Entries) → ℕ → (ℕ → ℕ)
  waiting off first last m = λ s. off s + m * (bound_at last s - bound_at first s)

  repeats_go : (off : ℕ → ℕ) (first last : Entries) (P : List Action → Type 0) → note_pins last ≤ c.peak
      → ((s : ℕ) → entry_at last s ≡ entry_at first s) → ((s : ℕ) → bound_at first s ≤ bound_at last s)
      → ((m : ℕ) (hs : Holdings) → Fits g kind (waiting off first last m) first hs → (u : List Action) → P u
      → GoesTo (waiting off first last m) last hs u) → (turns : ℕ) (hs : Holdings)
      → Fits g kind (waiting off first last turns) last hs → (t : List Action) → Repeats turns P t → GoesTo off last hs t
  repeats_go off first last P small pages rises body zero hs f t r =
      subst (λ u. GoesTo off last hs u) (sym r)
      (stays off last hs
      (refits g kind (waiting off first last 0) off last last hs (λ s. refl) (λ s. omega arith) f) small)
  repeats_go off first last P small pages rises body (suc turns) hs f t r =
      let here : Fits g kind (waiting off first last turns) first hs =
      refits g kind (waiting off first last (suc turns)) (waiting off first last turns) last first hs pages
      (λ s. next_turn turns (bound_at first s) (bound_at last s) (off s) (rises s)) f in
      subst (λ u. GoesTo off last hs u) (sym r.2)
      (goes_to (waiting off first last turns) off last last hs r.0 r.1 (body turns hs here r.0 r.3)
      (λ ms k. repeats_go off first last P small pages rises body turns ms k r.1 r.4))

  mutual
    pub statement_goes : (k : ℕ) (s : Statement) → StatementKeeps kind s → note_pins (note_at c k) ≤ c.peak
        → first_fault g c (statement_tests None k s) ≡ None
        → first_fault g c (note_tests (statement_end k s) (outcome None k s)) ≡ None → (off : ℕ → ℕ)
        → MayWait (statement_scatters s) off → (hs : Holdings) → Fits g kind off (note_at c k) hs → (t : List Action)
        → IsStatementTrace g s t → GoesTo off (note_at c (statement_end k s)) hs t
    statement_goes k (step s) is small h n off w hs f t r =
        let note = note_passes g c (k + 1) (after None s k) n in
        let goes = step_goes off k s r.0 hs is w r.2 f h in
        let fit = fits_same off (noted_after s (note_at c k)) (note_at c (k + 1)) goes.1.0
        (sym (note.1 ∙ noted_told s (note_at c k))) goes.1.2 in
        subst (λ u. GoesTo off (note_at c (k + 1)) hs u) (sym r.1)
        (goes_first off (note_at c (k + 1)) hs goes.1.0 r.0 [] (small_too off (note_at c k) hs f small) goes.0 goes.1.1
        (stays off (note_at c (k + 1)) goes.1.0 fit note.2))
    statement_goes k (loop turns b) is small h n off w hs f t r =
        let end : ℕ = sequence_end (k + 1) b in
        let first : Entries = note_at c (k + 1) in
        let last : Entries = note_at c end in
        let p =
        both_pass g c (turn_tests (k + 1) k b ++ sequence_tests None (k + 1) b)
        (loop_keeps end k b ∷ loop_grows end k (k + 1) turns b ∷ []) h in
        let q = both_pass g c (turn_tests (k + 1) k b) (sequence_tests None (k + 1) b) p.0 in
        let begins = turn_passes g c (k + 1) k b q.0 in
        let keeps = first_passes g c (loop_keeps end k b) (loop_grows end k (k + 1) turns b ∷ []) p.1 in
        let grows = first_passes g c (loop_grows end k (k + 1) turns b) [] keeps.1 in
        let fit = loop_fits turns b (note_at c k) first last begins.1 keeps.0 grows.0 in
        let out = note_passes g c (end + 1) (same end) n in
        let small_last : note_pins last ≤ c.peak = subst (λ x. note_pins x ≤ c.peak) out.1 out.2 in
        let body : (m : ℕ) (ms : Holdings) → Fits g kind (waiting off first last m) first ms → (u : List Action)
        → IsTrace g b u → GoesTo (waiting off first last m) last ms u = λ m ms i u d.
        sequence_goes (k + 1) b is.1 begins.2 q.1 (waiting off first last m) (λ s e.
        let stay = (fit.bounds s).stays e in
        no_growth (off s) m (bound_at first s) (bound_at last s) (w s e) (omega (arith, stay.0, stay.1))) ms i u d in
        let start : Fits g kind (waiting off first last turns) last hs =
        refits g kind off (waiting off first last turns) (note_at c k) last hs (λ s. sym (fit.last_pages s))
        (λ s. before_turns turns (bound_at (note_at c k) s) (bound_at first s) (bound_at last s) (off s) is.0
        (fit.bounds s).rises (fit.bounds s).starts) f in
        subst (λ x. GoesTo off x hs t) (sym out.1)
        (repeats_go off first last (IsTrace g b) small_last (λ s. fit.last_pages s ∙ sym (fit.first_pages s))
        (λ s. (fit.bounds s).rises) body turns hs start t r)
    statement_goes k (choice none) is small h n off w hs f t r = absurd r.3
    statement_goes k (choice (either b bs)) is small h n off w hs f t r =
        let end : ℕ = sequence_end (k + 1) b in
        let p =
        both_pass g c (note_tests (k + 1) (same k) ++ sequence_tests None (k + 1) b)
        (later_tests None k end (end + 1) bs) h in
        let q = both_pass g c (note_tests (k + 1) (same k)) (sequence_tests None (k + 1) b) p.0 in
        let note = note_passes g c (k + 1) (same k) q.0 in
        let last = note_passes g c (alternatives_end (end + 1) bs) (same end) n in
        let to : GoesTo off (note_at c end) hs r.1 =
        elim r.0 as (λ i. IsBranchTrace g (either b bs) i r.1 → GoesTo off (note_at c end) hs r.1) [
          | zero ↦ λ d. sequence_goes (k + 1) b is.0 note.2 q.1 off
              (λ s e. w s (or_left (scatters b s) (branches_scatter bs s) e)) hs
              (fits_same off (note_at c k) (note_at c (k + 1)) hs (sym note.1) f) r.1 d
          | suc i ↦ λ d. later_go k end (end + 1) bs is.1 p.1 off
              (λ s e. w s (or_right (scatters b s) (branches_scatter bs s) e)) hs f i r.1 d
        ] r.3 in
        let chosen =
        goes_first off (note_at c end) hs hs (Choose r.0) r.1 (small_too off (note_at c k) hs f small) tt refl to in
        subst (λ u. GoesTo off (note_at c (alternatives_end (end + 1) bs)) hs u) (sym r.2)
        (subst (λ x. GoesTo off x hs (Choose r.0 ∷ r.1)) (sym last.1) chosen)

    pub sequence_goes : (k : ℕ) (b : Sequence) → IsOfKinds kind b → note_pins (note_at c k) ≤ c.peak
        → first_fault g c (sequence_tests None k b) ≡ None → (off : ℕ → ℕ) → MayWait (scatters b) off → (hs : Holdings)
        → Fits g kind off (note_at c k) hs → (t : List Action) → IsTrace g b t
        → GoesTo off (note_at c (sequence_end k b)) hs t
    sequence_goes k skip is small h off w hs f t r =
        subst (λ u. GoesTo off (note_at c k) hs u) (sym r) (stays off (note_at c k) hs f small)
    sequence_goes k (andthen s b) is small h off w hs f t r =
        let next : ℕ = statement_end k s in
        let p =
        both_pass g c (statement_tests None k s ++ note_tests next (outcome None k s)) (sequence_tests None next b) h in
        let q = both_pass g c (statement_tests None k s) (note_tests next (outcome None k s)) p.0 in
        let note = note_passes g c next (outcome None k s) q.1 in
        subst (λ u. GoesTo off (note_at c (sequence_end k (andthen s b))) hs u) (sym r.2)
        (goes_to off off (note_at c next) (note_at c (sequence_end k (andthen s b))) hs r.0 r.1
        (statement_goes k s is.0 small q.0 q.1 off
        (λ x e. w x (or_left (statement_scatters s x) (scatters b x) e)) hs f r.0 r.3)
        (λ ms m. sequence_goes next b is.1 note.2 p.1 off
        (λ x e. w x (or_right (statement_scatters s x) (scatters b x) e)) ms m r.1 r.4))

    -- of the second and later branches
    later_go : (before first k : ℕ) (bs : Alternatives) → BranchesKeep kind bs
        → first_fault g c (later_tests None before first k bs) ≡ None → (off : ℕ → ℕ) → MayWait (branches_scatter bs) off
        → (hs : Holdings) → Fits g kind off (note_at c before) hs → (i : ℕ) (t : List Action) → IsBranchTrace g bs i t
        → GoesTo off (note_at c first) hs t
    later_go before first k none is h off w hs f i t r = absurd r
    later_go before first k (either b bs) is h off w hs f zero t r =
        let end : ℕ = sequence_end k b in
        let p =
        both_pass g c (note_tests k (same before) ++ sequence_tests None k b)
        (branch_agrees end first ∷ later_tests None before first (end + 1) bs) h in
        let q = both_pass g c (note_tests k (same before)) (sequence_tests None k b) p.0 in
        let note = note_passes g c k (same before) q.0 in
        let agrees =
        note_same (note_at c end) (note_at c first)
        (first_passes g c (branch_agrees end first) (later_tests None before first (end + 1) bs) p.1).0 in
        subst (λ x. GoesTo off x hs t) agrees
        (sequence_goes k b is.0 note.2 q.1 off (λ s e. w s (or_left (scatters b s) (branches_scatter bs s) e)) hs
        (fits_same off (note_at c before) (note_at c k) hs (sym note.1) f) t r)
    later_go before first k (either b bs) is h off w hs f (suc i) t r =
        let end : ℕ = sequence_end k b in
        let p =
        both_pass g c (note_tests k (same before) ++ sequence_tests None k b)
        (branch_agrees end first ∷ later_tests None before first (end + 1) bs) h in
        let rest = first_passes g c (branch_agrees end first) (later_tests None before first (end + 1) bs) p.1 in
        later_go before first (end + 1) bs is.1 rest.1 off
        (λ s e. w s (or_right (scatters b s) (branches_scatter bs s) e)) hs f i t r
