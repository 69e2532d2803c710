-- Each note of an accepted certificate is what some beginning of a trace holds.
use Rattle.std.proofs.Common.{◌≡◌, ℕ, zero, suc, ◌+◌, ◌-◌, ◌*◌, ◌≤◌, ◌<◌, Bool, true, false, Option, Some, None, List, []}
use Rattle.std.proofs.Common.{◌∷◌, ◌++◌, length, refl, sym, ap, subst, ◌∙◌, arith, append_assoc, inl}
use Rattle.std.specs.Prelude.{nat_le}
use Rattle.std.proofs.lemmas.Bool.{leb-true, leb-false}
use Rattle.std.proofs.lemmas.List.{append-nil}
use Rattle.pp_settings.specs.Layout.{Geometry, IsLayout}
use Rattle.pp_settings.specs.Limits.{most_slots}
use Rattle.pp_plan.specs.declared.action.Action.{Action}
use Rattle.pp_plan.specs.declared.action.Action.TheVariants.{Choose}
use Rattle.pp_plan.specs.Tree.{Statement, step, loop, choice, Sequence, skip, andthen, Alternatives, none, either}
use Rattle.pp_plan.specs.Tree.{scatters}
use Rattle.pp_plan.specs.Rules.{IsStatement, IsSequence, AreAlternatives}
use Rattle.pp_plan.specs.Traces.{Repeats, IsStatementTrace, IsTrace, IsBranchTrace, Begins}
use Rattle.pp_cert.specs.Held.{Holdings, held_next, held_after, held, size_of, pins}
use Rattle.pp_cert.specs.Notes.{Entries, note_pins, bound_at}
use Rattle.pp_cert.specs.Longest.{sequence_longest}
use Rattle.pp_cert.specs.Walk.{Claims, note_at, same, outcome, Test, loop_keeps, loop_grows, branch_agrees, first_fault}
use Rattle.pp_cert.specs.Walk.{note_tests, turn_tests, statement_tests, sequence_tests, later_tests, statement_end}
use Rattle.pp_cert.specs.Walk.{sequence_end}
use Rattle.pp_cert.proofs.Passing.{first_passes, both_pass, note_passes, turn_passes, loop_fits, LoopFits}
use Rattle.pp_cert.proofs.SlotKinds.{StatementKeeps, IsOfKinds, BranchesKeep}
use Rattle.pp_cert.proofs.Fits.{Fits, refits}
use Rattle.pp_cert.proofs.Goes.{goes_held}
use Rattle.pp_cert.proofs.Sound.{statement_goes, sequence_goes}
use Rattle.pp_cert.proofs.Lengths as lengths
use Rattle.pp_annotate.specs.Growth.{first_note}
use Rattle.pp_annotate.specs.Made.{after_statement, statement_notes, sequence_notes, branches_notes, greatest}
use Rattle.pp_annotate.proofs.Forms.{Forms}
use Rattle.pp_annotate.proofs.Rises.{first_forms}
use Rattle.pp_annotate.proofs.Stands.{Stand, stand_split, statement_places, sequence_places, is_at}
use Rattle.pp_annotate.proofs.Written.{statement_written}
use Rattle.pp_annotate.proofs.Counts.{fits_pins}

held_after-append : (o : Option Holdings) (t u : List Action) → held_after o (t ++ u) ≡ held_after (held_after o t) u
held_after-append None t u = refl
held_after-append (Some hs) [] u = refl
held_after-append (Some hs) (a ∷ t) u = held_after-append (held_next hs a) t u

-- one list more at the end
repeats_more : (m : ℕ) (P : List Action → Type 0) (t v : List Action) → Repeats m P t → P v → Repeats (suc m) P (t ++ v)
repeats_more zero P t v r d = subst (λ x. Repeats 1 P (x ++ v)) (sym r) (v, [], sym (append-nil v), d, refl)
repeats_more (suc m) P t v r d = (
  r.0,
  r.1 ++ v,
  ap (λ x. x ++ v) r.2 ∙ append_assoc r.0 r.1 v,
  r.3,
  repeats_more m P r.1 v r.4 d,
)

-- the arithmetic of the turns that are still to come
to_first : (m b f l : ℕ) → f ≡ b + (suc m - 1) * (l - f) → b + m * (l - f) ≡ f + 0
to_first m b f l e = let p : suc m - 1 ≡ m = omega arith in ap (λ x. b + x * (l - f)) (sym p) ∙ omega (arith, e)

one_turn : (m f l : ℕ) → f ≤ l → l + m * (l - f) ≡ f + suc m * (l - f)
one_turn m f l le =
    let d : ℕ = l - f in
    let up : l ≡ f + d = omega (arith, le) in
    let t : suc m * d ≡ d + m * d = omega arith in
    omega (arith, up, t)

none_waits : (m f l b : ℕ) → f ≡ b → l ≡ b → m * (l - f) ≡ 0
none_waits m f l b e h = let d : l - f ≡ 0 = omega (arith, e, h) in ap (λ x. m * x) d ∙ omega arith

last_turn : (f d : ℕ) → f + 0 ≡ f + 0 * d
last_turn f d = omega arith

module _ (g : Geometry) (l : IsLayout g) (c : Claims) (slots stop : ℕ) (some : 1 ≤ stop)
    (kind : ℕ → Bool) (few : (s : ℕ) → kind s ≡ true → s < most_slots) (low : c.peak < stop) where
  abbrev Here : ℕ → List Entries → Type 0
  Here k ns = Stand c.peak c.notes k ns

  abbrev pub none_yet : ℕ → ℕ
  none_yet s = 0

  -- ---- each part has a trace

  statement_trace : (s : Statement) → IsStatement slots (length g.extents) s
      → (t : List Action) × IsStatementTrace g s t
  statement_trace s is = let r = lengths.statement_reached g l slots s is in (r.0, r.2)

  sequence_trace : (b : Sequence) → IsSequence slots (length g.extents) b → (t : List Action) × IsTrace g b t
  sequence_trace b is = let r = lengths.sequence_reached g l slots b is in (r.0, r.2)

  turns_trace : (n : ℕ) (b : Sequence) → IsSequence slots (length g.extents) b
      → (t : List Action) × Repeats n (IsTrace g b) t
  turns_trace n b is =
      let r = lengths.sequence_reached g l slots b is in
      let all = lengths.repeats_reached g l slots n (sequence_longest b) (IsTrace g b) r.0 r.1 r.2 in
      (all.0, all.2)

  -- ---- each note is reached

  module _ (whole : Sequence) where
    -- each list of P can go on to a trace of the whole body, after the list u
    abbrev Onward : List Action → (List Action → Type 0) → Type 0
    Onward u P = (t : List Action) → P t → (rest : List Action) × IsTrace g whole (u ++ (t ++ rest))

    -- some beginning of a trace holds as many slots as the note has pins
    abbrev pub Reached : Entries → Type 0
    Reached n = (t : List Action) × (pins t ≡ note_pins n) × Begins g whole t

    abbrev pub AllReached : List Entries → Type 0
    AllReached [] = Unit {0}
    AllReached (n ∷ ns) = Reached n × AllReached ns

    reached_both : (xs ys : List Entries) → AllReached xs → AllReached ys → AllReached (xs ++ ys)
    reached_both [] ys a b = b
    reached_both (x ∷ xs) ys a b = (a.0, reached_both xs ys a.1 b)

    -- after the list the note fits what is held
    abbrev pub At : List Action → Entries → Type 0
    At u n = (hs : Holdings) × (held u ≡ Some hs) × Fits g kind none_yet n hs

    -- a list more
    at_on : (u t : List Action) (n m : Entries) (a : At u n) → (last : Holdings) → held_after (Some a.0) t ≡ Some last
        → Fits g kind none_yet m last → At (u ++ t) m
    at_on u t n m a last goes fits =
        (last, held_after-append (Some []) u t ∙ ap (λ o. held_after o t) a.1 ∙ goes, fits)

    -- a choice changes nothing
    at_choice : (u : List Action) (n : Entries) (i : ℕ) → At u n → At (u ++ Choose i ∷ []) n
    at_choice u n i a = at_on u (Choose i ∷ []) n n a a.0 refl a.2

    -- after a statement, whose tests pass and those of the note after it
    at_next : (k : ℕ) (s : Statement) (n m : Entries) (u t : List Action) → StatementKeeps kind s → note_at c k ≡ n
        → note_at c (statement_end k s) ≡ m → note_pins (note_at c k) ≤ c.peak
        → first_fault g c (statement_tests None k s) ≡ None
        → first_fault g c (note_tests (statement_end k s) (outcome None k s)) ≡ None
        → IsStatementTrace g s t → At u n → At (u ++ t) m
    at_next k s n m u t keeps e f small h note d a =
        let start : Fits g kind none_yet (note_at c k) a.0 = subst (λ x. Fits g kind none_yet x a.0) (sym e) a.2 in
        let to = statement_goes g l kind c k s keeps small h note none_yet (λ x y. refl) a.0 start t d in
        at_on u t n m a to.0 (goes_held g c.peak a.0 to.0 t to.1) (subst (λ x. Fits g kind none_yet x to.0) f to.2)

    at_reached : (u : List Action) (n : Entries) (P : List Action → Type 0) (t : List Action) → Forms kind 0 n → At u n
        → Onward u P → P t → Reached n
    at_reached u n P t f a on d =
        let w = on t d in
        (u, ap size_of a.1 ∙ fits_pins kind g n a.0 f a.2, (t ++ w.0, w.1))

    -- one more list before it
    further : (u v : List Action) (P Q : List Action → Type 0) → Onward u Q → ((t : List Action) → P t → Q (v ++ t))
        → Onward (u ++ v) P
    further u v P Q on with_v = λ t d.
        let w = on (v ++ t) (with_v t d) in
        let parts = ap (λ x. u ++ x) (append_assoc v t w.0) ∙ sym (append_assoc u v (t ++ w.0)) in
        (w.0, subst (λ x. IsTrace g whole x) parts w.1)

    -- with a list behind it
    ending : (u v : List Action) (P Q : List Action → Type 0) → Onward u Q → ((t : List Action) → P t → Q (t ++ v))
        → Onward u P
    ending u v P Q on with_v = λ t d.
        let w = on (t ++ v) (with_v t d) in
        (v ++ w.0, subst (λ x. IsTrace g whole (u ++ x)) (append_assoc t v w.0) w.1)

    -- before so many turns more, what is still to come
    abbrev waiting : (first last : Entries) → ℕ → (ℕ → ℕ)
    waiting first last m = λ s. m * (bound_at last s - bound_at first s)

    -- all turns of a loop but the last one
    turns_go : (k turns : ℕ) (b : Sequence) → IsOfKinds kind b → note_pins (note_at c (k + 1)) ≤ c.peak
        → first_fault g c (sequence_tests None (k + 1) b) ≡ None
        → LoopFits turns b (note_at c k) (note_at c (k + 1)) (note_at c (sequence_end (k + 1) b)) → (m : ℕ)
        → (hs : Holdings)
        → Fits g kind (waiting (note_at c (k + 1)) (note_at c (sequence_end (k + 1) b)) m) (note_at c (k + 1)) hs
        → (t : List Action) → Repeats m (IsTrace g b) t
        → (last : Holdings) × (held_after (Some hs) t ≡ Some last) × Fits g kind none_yet (note_at c (k + 1)) last
    turns_go k turns b keeps small h fit zero hs f t r =
        let first : Entries = note_at c (k + 1) in
        let end : Entries = note_at c (sequence_end (k + 1) b) in (
          hs,
          ap (λ x. held_after (Some hs) x) r,
          refits g kind (waiting first end 0) none_yet first first hs (λ s. refl)
              (λ s. last_turn (bound_at first s) (bound_at end s - bound_at first s)) f,
        )
    turns_go k turns b keeps small h fit (suc m) hs f t r =
        let first : Entries = note_at c (k + 1) in
        let end : Entries = note_at c (sequence_end (k + 1) b) in
        let wait : (s : ℕ) → scatters b s ≡ true → waiting first end (suc m) s ≡ 0 = λ s e.
        let stay = (fit.bounds s).stays e in
        none_waits (suc m) (bound_at first s) (bound_at end s) (bound_at (note_at c k) s) stay.0 stay.1 in
        let to =
        sequence_goes g l kind c (k + 1) b keeps small h (waiting first end (suc m)) wait hs f r.0 r.3 in
        let next : Fits g kind (waiting first end m) first to.0 =
        refits g kind (waiting first end (suc m)) (waiting first end m) end first to.0
        (λ s. fit.last_pages s ∙ sym (fit.first_pages s))
        (λ s. one_turn m (bound_at first s) (bound_at end s) (fit.bounds s).rises) to.2 in
        let rest = turns_go k turns b keeps small h fit m to.0 next r.1 r.4 in (
          rest.0,
          ap (λ x. held_after (Some hs) x) r.2
              ∙ held_after-append (Some hs) r.0 r.1
              ∙ ap (λ o. held_after o r.1) (goes_held g c.peak hs to.0 r.0 to.1)
              ∙ rest.1,
          rest.2,
        )

    mutual
      statement_reached : (k : ℕ) (s : Statement) (n : Entries) → StatementKeeps kind s → note_at c k ≡ n
          → Forms kind 0 n → Here (k + 1) (statement_notes stop kind s n) → first_fault g c (statement_tests None k s) ≡ None
          → IsStatement slots (length g.extents) s → (u : List Action) → At u n → Onward u (IsStatementTrace g s)
          → AllReached (statement_notes stop kind s n)
      statement_reached k (step s) n keeps e f here h is u a on = tt
      statement_reached k (loop zero b) n keeps e f here h is u a on = absurd (omega (arith, is.0))
      statement_reached k (loop (suc m) b) n keeps e f here h is u a on =
          let end : ℕ = sequence_end (k + 1) b in
          let first : Entries = first_note stop kind (suc m) b n in
          let at_first : note_at c (k + 1) ≡ first = is_at c (k + 1) first here.0 in
          let its_form : Forms kind 0 first = first_forms stop kind (suc m) b n some f in
          let front : List Test = turn_tests (k + 1) k b in
          let p =
          both_pass g c (front ++ sequence_tests None (k + 1) b)
          (loop_keeps end k b ∷ loop_grows end k (k + 1) (suc m) b ∷ []) h in
          let q = both_pass g c front (sequence_tests None (k + 1) b) p.0 in
          let begins = turn_passes g c (k + 1) k b q.0 in
          let ends = first_passes g c (loop_keeps end k b) (loop_grows end k (k + 1) (suc m) b ∷ []) p.1 in
          let grows = first_passes g c (loop_grows end k (k + 1) (suc m) b) [] ends.1 in
          let fit =
          loop_fits (suc m) b (note_at c k) (note_at c (k + 1)) (note_at c end) begins.1 ends.0 grows.0 in
          let before : Fits g kind none_yet (note_at c k) a.0 =
          subst (λ x. Fits g kind none_yet x a.0) (sym e) a.2 in
          let wait : Fits g kind (waiting (note_at c (k + 1)) (note_at c end) m) (note_at c (k + 1)) a.0 =
          refits g kind none_yet (waiting (note_at c (k + 1)) (note_at c end) m) (note_at c k) (note_at c (k + 1)) a.0
          (λ s. sym (fit.first_pages s))
          (λ s. to_first m (bound_at (note_at c k) s) (bound_at (note_at c (k + 1)) s) (bound_at (note_at c end) s)
          (fit.bounds s).starts) before in
          let turns = turns_trace m b is.3 in
          let to = turns_go k (suc m) b keeps.1 begins.2 q.1 fit m a.0 wait turns.0 turns.1 in
          let there : At (u ++ turns.0) first =
          at_on u turns.0 n first a to.0 to.1 (subst (λ x. Fits g kind none_yet x to.0) at_first to.2) in
          let inside : Onward (u ++ turns.0) (IsTrace g b) =
          further u turns.0 (IsTrace g b) (Repeats (suc m) (IsTrace g b)) on
          (λ t d. repeats_more m (IsTrace g b) turns.0 t turns.1 d) in
          let t = sequence_trace b is.3 in (
            at_reached (u ++ turns.0) first (IsTrace g b) t.0 its_form there inside t.1,
            sequence_reached (k + 1) b first keeps.1 at_first its_form begins.2 here.2 q.1 is.3 (u ++ turns.0) there
                inside,
          )
      statement_reached k (choice none) n keeps e f here h is u a on = tt
      statement_reached k (choice (either b bs)) n keeps e f here h is u a on =
          let end : ℕ = sequence_end (k + 1) b in
          let front : List Test = note_tests (k + 1) (same k) in
          let at : k + 1 + length (n ∷ sequence_notes stop kind b n) ≡ end + 1 =
          omega (arith, sequence_places stop kind (k + 1) b n) in
          let s =
          stand_split c.peak c.notes (k + 1) (end + 1) (n ∷ sequence_notes stop kind b n) (branches_notes stop kind bs n) at
          here in
          let p = both_pass g c (front ++ sequence_tests None (k + 1) b) (later_tests None k end (end + 1) bs) h in
          let q = both_pass g c front (sequence_tests None (k + 1) b) p.0 in
          let note = note_passes g c (k + 1) (same k) q.0 in
          let all : (i : ℕ) → Onward (u ++ Choose i ∷ []) (IsBranchTrace g (either b bs) i) = λ i.
          further u (Choose i ∷ []) (IsBranchTrace g (either b bs) i) (IsStatementTrace g (choice (either b bs))) on
          (λ t d. (i, t, refl, d)) in
          let v : List Action = u ++ Choose zero ∷ [] in
          let chosen = at_choice u n zero a in
          let t = sequence_trace b is.2.0 in
          reached_both (n ∷ sequence_notes stop kind b n) (branches_notes stop kind bs n) (
            at_reached v n (IsTrace g b) t.0 f chosen (all zero) t.1,
            sequence_reached (k + 1) b n keeps.0 (note.1 ∙ e) f note.2 s.0.2 q.1 is.2.0 v chosen (all zero),
          )
          (later_reached k end (end + 1) bs n keeps.1 e f s.1 p.1 is.2.1 u a suc (λ i. all (suc i)))

      sequence_reached : (k : ℕ) (b : Sequence) (n : Entries) → IsOfKinds kind b → note_at c k ≡ n → Forms kind 0 n
          → note_pins (note_at c k) ≤ c.peak → Here (k + 1) (sequence_notes stop kind b n)
          → first_fault g c (sequence_tests None k b) ≡ None → IsSequence slots (length g.extents) b
          → (u : List Action) → At u n → Onward u (IsTrace g b) → AllReached (sequence_notes stop kind b n)
      sequence_reached k skip n keeps e f small here h is u a on = tt
      sequence_reached k (andthen s b) n keeps e f small here h is u a on =
          let next : ℕ = statement_end k s in
          let m : Entries = after_statement stop kind s n in
          let between : List Test = note_tests next (outcome None k s) in
          let r =
          stand_split c.peak c.notes (k + 1) next (statement_notes stop kind s n) (m ∷ sequence_notes stop kind b m)
          (statement_places stop kind k s n) here in
          let p = both_pass g c (statement_tests None k s ++ between) (sequence_tests None next b) h in
          let q = both_pass g c (statement_tests None k s) between p.0 in
          let note = note_passes g c next (outcome None k s) q.1 in
          let at : note_at c next ≡ m = is_at c next m r.1.0 in
          let its_form : Forms kind 0 m =
          (statement_written g c stop some kind few (inl low) k s n keeps.0 e f (subst (λ x. note_pins x ≤ c.peak) e small)
          q.0).2 in
          let first = statement_trace s is.0 in
          let rest = sequence_trace b is.1 in
          let inside : Onward u (IsStatementTrace g s) =
          ending u rest.0 (IsStatementTrace g s) (IsTrace g (andthen s b)) on (λ t d. (t, rest.0, refl, d, rest.1)) in
          let behind : Onward (u ++ first.0) (IsTrace g b) =
          further u first.0 (IsTrace g b) (IsTrace g (andthen s b)) on (λ t d. (first.0, t, refl, first.1, d)) in
          let there : At (u ++ first.0) m = at_next k s n m u first.0 keeps.0 e at small q.0 q.1 first.1 a in
          reached_both (statement_notes stop kind s n) (m ∷ sequence_notes stop kind b m)
          (statement_reached k s n keeps.0 e f r.0 q.0 is.0 u a inside) (
            at_reached (u ++ first.0) m (IsTrace g b) rest.0 its_form there behind rest.1,
            sequence_reached next b m keeps.1 at its_form note.2 r.1.2 p.1 is.1 (u ++ first.0) there behind,
          )

      -- of the second and later branches; their numbers are told by `number`
      later_reached : (before first k : ℕ) (bs : Alternatives) (n : Entries) → BranchesKeep kind bs
          → note_at c before ≡ n → Forms kind 0 n → Here k (branches_notes stop kind bs n)
          → first_fault g c (later_tests None before first k bs) ≡ None → AreAlternatives slots (length g.extents) bs
          → (u : List Action) → At u n → (number : ℕ → ℕ)
          → ((i : ℕ) → Onward (u ++ Choose (number i) ∷ []) (IsBranchTrace g bs i))
          → AllReached (branches_notes stop kind bs n)
      later_reached before first k none n keeps e f here h is u a number on = tt
      later_reached before first k (either b bs) n keeps e f here h is u a number on =
          let end : ℕ = sequence_end k b in
          let later : ℕ = end + 1 in
          let front : List Test = note_tests k (same before) in
          let at : k + length (n ∷ sequence_notes stop kind b n) ≡ later = omega (arith, sequence_places stop kind k b n) in
          let s =
          stand_split c.peak c.notes k later (n ∷ sequence_notes stop kind b n) (branches_notes stop kind bs n) at here in
          let p =
          both_pass g c (front ++ sequence_tests None k b)
          (branch_agrees end first ∷ later_tests None before first later bs) h in
          let q = both_pass g c front (sequence_tests None k b) p.0 in
          let rest = first_passes g c (branch_agrees end first) (later_tests None before first later bs) p.1 in
          let note = note_passes g c k (same before) q.0 in
          let v : List Action = u ++ Choose (number zero) ∷ [] in
          let chosen = at_choice u n (number zero) a in
          let t = sequence_trace b is.0 in
          reached_both (n ∷ sequence_notes stop kind b n) (branches_notes stop kind bs n) (
            at_reached v n (IsTrace g b) t.0 f chosen (on zero) t.1,
            sequence_reached k b n keeps.0 (note.1 ∙ e) f note.2 s.0.2 q.1 is.0 v chosen (on zero),
          )
          (later_reached before first later bs n keeps.1 e f s.1 rest.1 is.1 u a (λ i. number (suc i))
          (λ i. on (suc i)))

    -- the notes of a body, the first one too
    pub body_reached : (k : ℕ) (b : Sequence) (n : Entries) → IsOfKinds kind b → note_at c k ≡ n → Forms kind 0 n
        → note_pins (note_at c k) ≤ c.peak → Here (k + 1) (sequence_notes stop kind b n)
        → first_fault g c (sequence_tests None k b) ≡ None → IsSequence slots (length g.extents) b
        → (u : List Action) → At u n → Onward u (IsTrace g b) → AllReached (n ∷ sequence_notes stop kind b n)
    body_reached k b n keeps e f small here h is u a on =
        let t = sequence_trace b is in (
          at_reached u n (IsTrace g b) t.0 f a on t.1,
          sequence_reached k b n keeps e f small here h is u a on,
        )

    -- the greatest note is reached
    pub greatest_reached : (n : Entries) (ns : List Entries) → AllReached (n ∷ ns) → (t : List Action)
        × (pins t ≡ greatest (n ∷ ns)) × Begins g whole t
    greatest_reached n [] a = (a.0.0, a.0.1 ∙ omega arith, a.0.2)
    greatest_reached n (m ∷ ns) a =
        let rest = greatest_reached m ns a.1 in
        elim (nat_le (note_pins n) (greatest (m ∷ ns))) as (λ x. nat_le (note_pins n) (greatest (m ∷ ns)) ≡ x
        → (t : List Action) × (pins t ≡ greatest (n ∷ (m ∷ ns))) × Begins g whole t) [
          | true ↦ λ e. (
            rest.0,
            (let le : note_pins n ≤ greatest (m ∷ ns) = leb-true (note_pins n) (greatest (m ∷ ns)) e in
                rest.1 ∙ omega arith),
            rest.2,
          )
          | false ↦ λ e. (
            a.0.0,
            (let lt : greatest (m ∷ ns) < note_pins n = leb-false (note_pins n) (greatest (m ∷ ns)) e in
                a.0.1 ∙ omega arith),
            a.0.2,
          )
        ] refl
