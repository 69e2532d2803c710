-- How the walk goes on or ends after a part of it.
use Rattle.std.proofs.Common.{◌≡◌, ℕ, ◌+◌, true, false, Option, Some, None, Result, Ok, Err, List, [], ◌∷◌, ◌++◌, sym, ap, ◌∙◌}
use Rattle.std.specs.Prelude.{if◌then◌else◌}
use Rattle.pp_settings.specs.Layout.{Geometry}
use Rattle.pp_plan.specs.Tree.{Statement, loop, choice, Sequence, andthen, Alternatives, either}
use Rattle.pp_plan.specs.View.{statement_of}
use Rattle.pp_plan.specs.declared.stmt.Stmt.{Stmt}
use Rattle.pp_cert.specs.declared.certificate.Certificate.{Certificate}
use Rattle.pp_cert.specs.declared.check_error.CheckError.{CheckError}
use Rattle.pp_cert.specs.declared.check_error.CheckError.TheVariants.{BranchDiffers}
use Rattle.pp_cert.specs.Notes.{same_note}
use Rattle.pp_cert.specs.Longest.{sequence_longest}
use Rattle.pp_cert.specs.Walk.{Claims, claims_of, note_at, Test, empty, same, same_settings, holds_nothing}
use Rattle.pp_cert.specs.Walk.{no_more_notes, steps_allowed, steps_enough, peak_allowed, same_layout, loop_keeps}
use Rattle.pp_cert.specs.Walk.{branch_agrees, passes, fault_of, first_fault, unless_fault, walked, note_tests}
use Rattle.pp_cert.specs.Walk.{statement_tests, sequence_tests, later_tests, outcome, statement_end, sequence_end}
use Rattle.pp_cert.specs.Walk.{alternatives_end, turn_tests, grow_tests}
use Rattle.pp_cert.proofs.Faults.{unless_value, past_first, in_first, at_ok, at_err, goes_on, ends_at}

-- one test at the head of a list
passed : (g : Geometry) (c : Claims) (t : Test) (ts : List Test) → passes g c t ≡ true
    → first_fault g c (t ∷ ts) ≡ first_fault g c ts
passed g c t ts h = ap (λ b. if b then first_fault g c ts else Some (fault_of t)) h

failed : (g : Geometry) (c : Claims) (t : Test) (ts : List Test) → passes g c t ≡ false
    → first_fault g c (t ∷ ts) ≡ Some (fault_of t)
failed g c t ts h = ap (λ b. if b then first_fault g c ts else Some (fault_of t)) h

-- what the walk answers over a statement, the note after it too
abbrev pub stmt_walk : Option ℕ → Geometry → Certificate → ℕ → Stmt → Result ℕ CheckError
stmt_walk stop g c k s =
    walked g c (statement_tests stop k (statement_of s) ++ note_tests (statement_end k (statement_of s))
    (outcome stop k (statement_of s))) (statement_end k (statement_of s))

-- the tests after the walk, which ended at place k
abbrev pub last_tests : ℕ → Sequence → List Test
last_tests k b =
    holds_nothing k ∷ no_more_notes (k + 1) ∷ steps_allowed ∷ steps_enough (sequence_longest b) ∷ peak_allowed ∷ []

-- all tests of a plan with this layout and body
abbrev pub all_tests : Option ℕ → Geometry → Sequence → List Test
all_tests stop layout b = same_settings layout ∷ note_tests 0 empty ++ sequence_tests stop 0 b ++ last_tests (sequence_end 0 b) b

module _ (stop : Option ℕ) (g : Geometry) (c : Certificate) where
  pub sequence_err : (k : ℕ) (s : Statement) (b : Sequence) (fault : CheckError)
      → Err fault ≡ walked g c (statement_tests stop k s ++ note_tests (statement_end k s) (outcome stop k s)) (statement_end k s)
      → Err fault ≡ walked g c (sequence_tests stop k (andthen s b)) (sequence_end k (andthen s b))
  sequence_err k s b fault h =
      sym (ends_at g (claims_of c) (statement_tests stop k s ++ note_tests (statement_end k s) (outcome stop k s))
      (sequence_tests stop (statement_end k s) b) (statement_end k s) (sequence_end k (andthen s b)) fault h)

  pub sequence_ok : (k : ℕ) (s : Statement) (b : Sequence) (v : ℕ)
      → Ok v ≡ walked g c (statement_tests stop k s ++ note_tests (statement_end k s) (outcome stop k s)) (statement_end k s)
      → walked g c (sequence_tests stop v b) (sequence_end v b)
      ≡ walked g c (sequence_tests stop k (andthen s b)) (sequence_end k (andthen s b))
  sequence_ok k s b v h =
      let at : v ≡ statement_end k s =
      unless_value (first_fault g (claims_of c)
      (statement_tests stop k s ++ note_tests (statement_end k s) (outcome stop k s))) (statement_end k s) v h in
      ap (λ n. walked g c (sequence_tests stop n b) (sequence_end n b)) at
      ∙ sym (goes_on g (claims_of c) (statement_tests stop k s ++ note_tests (statement_end k s) (outcome stop k s))
      (sequence_tests stop (statement_end k s) b) (statement_end k s) v (sequence_end k (andthen s b)) h)

  -- the tests of a loop at its body's end
  abbrev pub end_tests : (end k n : ℕ) → Sequence → List Test
  end_tests end k n b = loop_keeps end k b ∷ grow_tests stop end k (k + 1) n b

  -- the walk over a loop's body
  abbrev pub turn_walk : (k : ℕ) → Sequence → List Test
  turn_walk k b = turn_tests (k + 1) k b ++ sequence_tests stop (k + 1) b

  -- what the walk answers over a loop, its note too
  abbrev pub loop_walk : (k n : ℕ) → Sequence → Result ℕ CheckError
  loop_walk k n b =
      walked g c (statement_tests stop k (loop n b) ++ note_tests (sequence_end (k + 1) b + 1)
      (same (sequence_end (k + 1) b))) (sequence_end (k + 1) b + 1)

  pub turns_err : (k n : ℕ) (b : Sequence) (fault : CheckError)
      → Err fault ≡ walked g c (turn_walk k b) (sequence_end (k + 1) b) → Err fault ≡ loop_walk k n b
  turns_err k n b fault h =
      let inner : List Test = turn_walk k b in
      let end : ℕ = sequence_end (k + 1) b in
      let first : walked g c (inner ++ end_tests end k n b) end ≡ Err fault =
      ends_at g (claims_of c) inner (end_tests end k n b) end end fault h in
      sym (ends_at g (claims_of c) (inner ++ end_tests end k n b) (note_tests (end + 1) (same end)) end (end + 1) fault
      (sym first))

  pub turns_changed : (k n : ℕ) (b : Sequence) (v : ℕ) (fault : CheckError)
      → Ok v ≡ walked g c (turn_walk k b) (sequence_end (k + 1) b)
      → Some fault ≡ first_fault g (claims_of c) (end_tests v k n b) → Err fault ≡ loop_walk k n b
  turns_changed k n b v fault h d =
      let inner : List Test = turn_walk k b in
      let end : ℕ = sequence_end (k + 1) b in
      let at : v ≡ end = unless_value (first_fault g (claims_of c) inner) end v h in
      let ends : first_fault g (claims_of c) (end_tests end k n b) ≡ Some fault =
      ap (λ x. first_fault g (claims_of c) (end_tests x k n b)) (sym at) ∙ sym d in
      let first : walked g c (inner ++ end_tests end k n b) end ≡ Err fault =
      goes_on g (claims_of c) inner (end_tests end k n b) end v end h ∙ ap (λ f. unless_fault f end) ends in
      sym (ends_at g (claims_of c) (inner ++ end_tests end k n b) (note_tests (end + 1) (same end)) end (end + 1) fault
      (sym first))

  pub turns_ok : (k n : ℕ) (b : Sequence) (v : ℕ) → Ok v ≡ walked g c (turn_walk k b) (sequence_end (k + 1) b)
      → None ≡ first_fault g (claims_of c) (end_tests v k n b)
      → walked g c (note_tests (v + 1) (same v)) (v + 1) ≡ loop_walk k n b
  turns_ok k n b v h d =
      let inner : List Test = turn_walk k b in
      let end : ℕ = sequence_end (k + 1) b in
      let at : v ≡ end = unless_value (first_fault g (claims_of c) inner) end v h in
      let ends : first_fault g (claims_of c) (end_tests end k n b) ≡ None =
      ap (λ x. first_fault g (claims_of c) (end_tests x k n b)) (sym at) ∙ sym d in
      let first : walked g c (inner ++ end_tests end k n b) end ≡ Ok end =
      goes_on g (claims_of c) inner (end_tests end k n b) end v end h ∙ ap (λ f. unless_fault f end) ends in
      ap (λ x. walked g c (note_tests (x + 1) (same x)) (x + 1)) at
      ∙ sym (goes_on g (claims_of c) (inner ++ end_tests end k n b) (note_tests (end + 1) (same end)) end end (end + 1)
      (sym first))

  pub turn_err : (k before : ℕ) (b : Sequence) (fault : CheckError) → Err fault ≡ walked g c (turn_tests k before b) k
      → Err fault ≡ walked g c (turn_tests k before b ++ sequence_tests stop k b) (sequence_end k b)
  turn_err k before b fault h =
      sym (ends_at g (claims_of c) (turn_tests k before b) (sequence_tests stop k b) k (sequence_end k b) fault h)

  pub turn_end : (k : ℕ) (b : Sequence) (v : ℕ) → Ok v ≡ walked g c (turn_walk k b) (sequence_end (k + 1) b)
      → v ≡ sequence_end (k + 1) b
  turn_end k b v h = unless_value (first_fault g (claims_of c) (turn_walk k b)) (sequence_end (k + 1) b) v h

  pub later_err : (before first k : ℕ) (b : Sequence) (bs : Alternatives) (fault : CheckError)
      → Err fault ≡ walked g c (note_tests k (same before) ++ sequence_tests stop k b) (sequence_end k b)
      → Err fault ≡ walked g c (later_tests stop before first k (either b bs)) (alternatives_end k (either b bs))
  later_err before first k b bs fault h =
      sym (ends_at g (claims_of c) (note_tests k (same before) ++ sequence_tests stop k b)
      (branch_agrees (sequence_end k b) first ∷ later_tests stop before first (sequence_end k b + 1) bs)
      (sequence_end k b) (alternatives_end k (either b bs)) fault h)

  pub later_differs : (before first k : ℕ) (b : Sequence) (bs : Alternatives) (v : ℕ)
      → Ok v ≡ walked g c (note_tests k (same before) ++ sequence_tests stop k b) (sequence_end k b)
      → same_note (note_at (claims_of c) v) (note_at (claims_of c) first) ≡ false
      → Err (BranchDiffers v) ≡ walked g c (later_tests stop before first k (either b bs)) (alternatives_end k (either b bs))
  later_differs before first k b bs v h d =
      let inner : List Test = note_tests k (same before) ++ sequence_tests stop k b in
      let end : ℕ = sequence_end k b in
      let at : v ≡ end = unless_value (first_fault g (claims_of c) inner) end v h in
      let differs : same_note (note_at (claims_of c) end) (note_at (claims_of c) first) ≡ false =
      ap (λ n. same_note (note_at (claims_of c) n) (note_at (claims_of c) first)) (sym at) ∙ d in
      ap (λ n. Err (BranchDiffers n)) at
      ∙ sym (goes_on g (claims_of c) inner (branch_agrees end first ∷ later_tests stop before first (end + 1) bs) end v
      (alternatives_end k (either b bs)) h
      ∙ ap (λ f. unless_fault f (alternatives_end k (either b bs)))
      (failed g (claims_of c) (branch_agrees end first) (later_tests stop before first (end + 1) bs) differs))

  pub later_ok : (before first k : ℕ) (b : Sequence) (bs : Alternatives) (v : ℕ)
      → Ok v ≡ walked g c (note_tests k (same before) ++ sequence_tests stop k b) (sequence_end k b)
      → same_note (note_at (claims_of c) v) (note_at (claims_of c) first) ≡ true
      → walked g c (later_tests stop before first (v + 1) bs) (alternatives_end (v + 1) bs)
      ≡ walked g c (later_tests stop before first k (either b bs)) (alternatives_end k (either b bs))
  later_ok before first k b bs v h d =
      let inner : List Test = note_tests k (same before) ++ sequence_tests stop k b in
      let end : ℕ = sequence_end k b in
      let at : v ≡ end = unless_value (first_fault g (claims_of c) inner) end v h in
      let agrees : same_note (note_at (claims_of c) end) (note_at (claims_of c) first) ≡ true =
      ap (λ n. same_note (note_at (claims_of c) n) (note_at (claims_of c) first)) (sym at) ∙ d in
      ap (λ n. walked g c (later_tests stop before first (n + 1) bs) (alternatives_end (n + 1) bs)) at
      ∙ sym (goes_on g (claims_of c) inner (branch_agrees end first ∷ later_tests stop before first (end + 1) bs) end v
      (alternatives_end k (either b bs)) h
      ∙ ap (λ f. unless_fault f (alternatives_end k (either b bs)))
      (passed g (claims_of c) (branch_agrees end first) (later_tests stop before first (end + 1) bs) agrees))

  pub choice_err : (k : ℕ) (b : Sequence) (bs : Alternatives) (fault : CheckError)
      → Err fault ≡ walked g c (note_tests (k + 1) (same k) ++ sequence_tests stop (k + 1) b) (sequence_end (k + 1) b)
      → Err fault ≡ walked g c (statement_tests stop k (choice (either b bs))
      ++ note_tests (alternatives_end (k + 1) (either b bs)) (outcome stop k (choice (either b bs))))
      (alternatives_end (k + 1) (either b bs))
  choice_err k b bs fault h =
      let inner : List Test = note_tests (k + 1) (same k) ++ sequence_tests stop (k + 1) b in
      let end : ℕ = sequence_end (k + 1) b in
      let first : walked g c (inner ++ later_tests stop k end (end + 1) bs) end ≡ Err fault =
      ends_at g (claims_of c) inner (later_tests stop k end (end + 1) bs) end end fault h in
      sym (ends_at g (claims_of c) (inner ++ later_tests stop k end (end + 1) bs)
      (note_tests (alternatives_end (end + 1) bs) (same end)) end (alternatives_end (end + 1) bs) fault (sym first))

  pub choice_later_err : (k : ℕ) (b : Sequence) (bs : Alternatives) (v : ℕ) (fault : CheckError)
      → Ok v ≡ walked g c (note_tests (k + 1) (same k) ++ sequence_tests stop (k + 1) b) (sequence_end (k + 1) b)
      → Err fault ≡ walked g c (later_tests stop k v (v + 1) bs) (alternatives_end (v + 1) bs)
      → Err fault ≡ walked g c (statement_tests stop k (choice (either b bs))
      ++ note_tests (alternatives_end (k + 1) (either b bs)) (outcome stop k (choice (either b bs))))
      (alternatives_end (k + 1) (either b bs))
  choice_later_err k b bs v fault h d =
      let inner : List Test = note_tests (k + 1) (same k) ++ sequence_tests stop (k + 1) b in
      let end : ℕ = sequence_end (k + 1) b in
      let at : v ≡ end = unless_value (first_fault g (claims_of c) inner) end v h in
      let onward : Err fault ≡ walked g c (later_tests stop k end (end + 1) bs) (alternatives_end (end + 1) bs) = d
      ∙ ap (λ n. walked g c (later_tests stop k n (n + 1) bs) (alternatives_end (n + 1) bs)) at in
      let first : walked g c (inner ++ later_tests stop k end (end + 1) bs) (alternatives_end (end + 1) bs) ≡ Err fault =
      goes_on g (claims_of c) inner (later_tests stop k end (end + 1) bs) end v (alternatives_end (end + 1) bs) h
      ∙ sym onward in
      sym (ends_at g (claims_of c) (inner ++ later_tests stop k end (end + 1) bs)
      (note_tests (alternatives_end (end + 1) bs) (same end)) (alternatives_end (end + 1) bs)
      (alternatives_end (end + 1) bs) fault (sym first))

  pub choice_ok : (k : ℕ) (b : Sequence) (bs : Alternatives) (v w : ℕ)
      → Ok v ≡ walked g c (note_tests (k + 1) (same k) ++ sequence_tests stop (k + 1) b) (sequence_end (k + 1) b)
      → Ok w ≡ walked g c (later_tests stop k v (v + 1) bs) (alternatives_end (v + 1) bs)
      → walked g c (note_tests w (same v)) w
      ≡ walked g c (statement_tests stop k (choice (either b bs))
      ++ note_tests (alternatives_end (k + 1) (either b bs)) (outcome stop k (choice (either b bs))))
      (alternatives_end (k + 1) (either b bs))
  choice_ok k b bs v w h d =
      let inner : List Test = note_tests (k + 1) (same k) ++ sequence_tests stop (k + 1) b in
      let end : ℕ = sequence_end (k + 1) b in
      let at : v ≡ end = unless_value (first_fault g (claims_of c) inner) end v h in
      let onward : Ok w ≡ walked g c (later_tests stop k end (end + 1) bs) (alternatives_end (end + 1) bs) = d
      ∙ ap (λ n. walked g c (later_tests stop k n (n + 1) bs) (alternatives_end (n + 1) bs)) at in
      let last : w ≡ alternatives_end (end + 1) bs =
      unless_value (first_fault g (claims_of c) (later_tests stop k end (end + 1) bs)) (alternatives_end (end + 1) bs) w
      onward in
      let first : walked g c (inner ++ later_tests stop k end (end + 1) bs) (alternatives_end (end + 1) bs) ≡ Ok w =
      goes_on g (claims_of c) inner (later_tests stop k end (end + 1) bs) end v (alternatives_end (end + 1) bs) h
      ∙ sym onward in
      (λ i. walked g c (note_tests (last i) (same (at i))) (last i))
      ∙ sym (goes_on g (claims_of c) (inner ++ later_tests stop k end (end + 1) bs)
      (note_tests (alternatives_end (end + 1) bs) (same end)) (alternatives_end (end + 1) bs) w
      (alternatives_end (end + 1) bs) (sym first))

  pub sequence_end_is : (k : ℕ) (s : Statement) (v : ℕ)
      → Ok v ≡ walked g c (statement_tests stop k s ++ note_tests (statement_end k s) (outcome stop k s)) (statement_end k s)
      → v ≡ statement_end k s
  sequence_end_is k s v h =
      unless_value (first_fault g (claims_of c) (statement_tests stop k s ++ note_tests (statement_end k s) (outcome stop k s)))
      (statement_end k s) v h

  pub inside_end : (before first : ℕ) (b : Sequence) (v : ℕ)
      → Ok v ≡ walked g c (note_tests first (same before) ++ sequence_tests stop first b) (sequence_end first b)
      → v ≡ sequence_end first b
  inside_end before first b v h =
      unless_value (first_fault g (claims_of c) (note_tests first (same before) ++ sequence_tests stop first b))
      (sequence_end first b) v h

  -- what the walk answers over a choice, its note too
  abbrev pub choice_walk : ℕ → Alternatives → Result ℕ CheckError
  choice_walk k bs =
      walked g c (statement_tests stop k (choice bs) ++ note_tests (alternatives_end (k + 1) bs) (outcome stop k (choice bs)))
      (alternatives_end (k + 1) bs)

  pub plan_end : (b : Sequence) (v : ℕ)
      → Ok v ≡ walked g c (note_tests 0 empty ++ sequence_tests stop 0 b) (sequence_end 0 b) → v ≡ sequence_end 0 b
  plan_end b v h =
      unless_value (first_fault g (claims_of c) (note_tests 0 empty ++ sequence_tests stop 0 b)) (sequence_end 0 b) v h

  pub plan_err : (layout : Geometry) (b : Sequence) (fault : CheckError) → same_layout g layout ≡ true
      → Err fault ≡ walked g c (note_tests 0 empty ++ sequence_tests stop 0 b) (sequence_end 0 b)
      → Some fault ≡ first_fault g (claims_of c) (all_tests stop layout b)
  plan_err layout b fault s h =
      let inner : List Test = note_tests 0 empty ++ sequence_tests stop 0 b in
      let end : ℕ = sequence_end 0 b in
      let walk =
      in_first g (claims_of c) inner (last_tests end b) fault
      (at_err (first_fault g (claims_of c) inner) end fault h) in
      sym (passed g (claims_of c) (same_settings layout) (inner ++ last_tests end b) s ∙ walk)

  pub plan_ok : (layout : Geometry) (b : Sequence) (v : ℕ) → same_layout g layout ≡ true
      → Ok v ≡ walked g c (note_tests 0 empty ++ sequence_tests stop 0 b) (sequence_end 0 b)
      → first_fault g (claims_of c) (last_tests v b) ≡ first_fault g (claims_of c) (all_tests stop layout b)
  plan_ok layout b v s h =
      let inner : List Test = note_tests 0 empty ++ sequence_tests stop 0 b in
      let end : ℕ = sequence_end 0 b in
      let at : v ≡ end = unless_value (first_fault g (claims_of c) inner) end v h in
      let walk =
      past_first g (claims_of c) inner (last_tests end b) (at_ok (first_fault g (claims_of c) inner) end v h) in
      ap (λ n. first_fault g (claims_of c) (last_tests n b)) at
      ∙ sym (passed g (claims_of c) (same_settings layout) (inner ++ last_tests end b) s ∙ walk)
