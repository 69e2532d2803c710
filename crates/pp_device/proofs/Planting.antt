-- Where no lie is planted, no call finds one.
use Rattle.std.proofs.Common.{◌≡◌, ◌≢◌, ℕ, ◌+◌, ◌^◌, ◌&&◌, Bool, true, false, not, Option, None, Some, List, [], ◌∷◌, refl, ap, ◌∙◌}
use Rattle.std.specs.Prelude.{nat_lt, if◌then◌else◌, ◌==◌, cond, reverse, Ok, Err}
use Rattle.std.specs.List.{find}
use Rattle.std.specs.Option.{option_map}
use mathlib.Core.List.{reverse_aux}
use Rattle.pp_device.specs.declared.failing.Trouble.{Trouble}
use Rattle.pp_device.specs.declared.failing.Trouble.TheVariants.{Fail, Lie}
use Rattle.pp_device.specs.declared.fault.Fault.{Fault}
use Rattle.pp_device.specs.Answers.{Answer}
use Rattle.pp_device.specs.Honest.{IsHonest, is_lie, plants_no_lie, FailingIsHonest}
use Rattle.pp_device.specs.Troubled.{Troubled, last_for, trouble_at, ReadsBy, WritesBy}

-- No lie is found.
abbrev pub FindsNoLie : Option Trouble → Type 0
FindsNoLie None = Unit {0}
FindsNoLie (Some Fail) = Unit {0}
FindsNoLie (Some (Lie page stamp)) = ⊥

no_lie-first : (t : Trouble) (rest : Bool) → (not (is_lie t) && rest) ≡ true → FindsNoLie (Some t)
no_lie-first Fail rest is = tt
no_lie-first (Lie page stamp) rest is = cc

no_lie-rest : (t : Trouble) (rest : Bool) → (not (is_lie t) && rest) ≡ true → rest ≡ true
no_lie-rest Fail rest is = is
no_lie-rest (Lie page stamp) rest is = cc

no_lie-both : (t : Trouble) (rest acc : Bool) → (not (is_lie t) && rest) ≡ true → acc ≡ true → (not (is_lie t) && acc) ≡ true
no_lie-both Fail rest acc is more = more
no_lie-both (Lie page stamp) rest acc is more = cc

find-no_lie : (test : ℕ × Trouble → Bool) (troubles : List (ℕ × Trouble)) → plants_no_lie troubles ≡ true
    → FindsNoLie (option_map (λ entry. entry.1) (find test troubles))
find-no_lie test [] none = tt
find-no_lie test (t ∷ ts) none =
    elim (test t) as (λ b. FindsNoLie (option_map (λ entry. entry.1) (cond b (Some t) (find test ts)))) [
      | true ↦ no_lie-first t.1 (plants_no_lie ts) none
      | false ↦ find-no_lie test ts (no_lie-rest t.1 (plants_no_lie ts) none)
    ]

reverse_aux-no_lie : (troubles behind : List (ℕ × Trouble)) → plants_no_lie troubles ≡ true → plants_no_lie behind ≡ true
    → plants_no_lie (reverse_aux troubles behind) ≡ true
reverse_aux-no_lie [] behind none more = more
reverse_aux-no_lie (t ∷ ts) behind none more =
    reverse_aux-no_lie ts (t ∷ behind) (no_lie-rest t.1 (plants_no_lie ts) none)
    (no_lie-both t.1 (plants_no_lie ts) (plants_no_lie behind) none more)

-- The trouble at a call is no lie.
pub trouble_at-no_lie : (troubles : List (ℕ × Trouble)) (n : ℕ) → plants_no_lie troubles ≡ true
    → FindsNoLie (trouble_at troubles n)
trouble_at-no_lie troubles n none =
    elim (nat_lt n (2 ^ 32)) as (λ b. FindsNoLie (if b then last_for troubles n else None)) [
      | true ↦ find-no_lie (λ entry. entry.0 == n) (reverse troubles) (reverse_aux-no_lie troubles [] none refl)
      | false ↦ tt
    ]

-- ---- one call, by the trouble at it

read_gives : {D : Type 0} {are : D → Bool} {reads : D → ℕ → List ℕ → Answer → List ℕ → D → Type 0}
    {writes : D → ℕ → List ℕ → Answer → D → Type 0} {kept : D → ℕ → List ℕ} → IsHonest are reads writes kept
    → (t : Option Trouble) → FindsNoLie t → (d e : D) (page : ℕ) (slice given : List ℕ) → are d ≡ true
    → ReadsBy reads t d page slice (Ok tt) given e → given ≡ kept d page
read_gives honest None none d e page slice given is r = honest.read_gives d e page slice given is r
read_gives honest (Some Fail) none d e page slice given is r = let told = r.0 in cc
read_gives honest (Some (Lie other stamp)) none d e page slice given is r = absurd none

read_keeps : {D : Type 0} {are : D → Bool} {reads : D → ℕ → List ℕ → Answer → List ℕ → D → Type 0}
    {writes : D → ℕ → List ℕ → Answer → D → Type 0} {kept : D → ℕ → List ℕ} → IsHonest are reads writes kept
    → (t : Option Trouble) → FindsNoLie t → (d e : D) (page other : ℕ) (slice given : List ℕ) (answer : Answer)
    → are d ≡ true → ReadsBy reads t d page slice answer given e → kept e other ≡ kept d other
read_keeps honest None none d e page other slice given answer is r =
    honest.read_keeps d e page other slice given answer is r
read_keeps {kept = kept} honest (Some Fail) none d e page other slice given answer is r = ap (λ x. kept x other) r.2
read_keeps honest (Some (Lie of stamp)) none d e page other slice given answer is r = absurd none

after_read : {D : Type 0} {are : D → Bool} {reads : D → ℕ → List ℕ → Answer → List ℕ → D → Type 0}
    {writes : D → ℕ → List ℕ → Answer → D → Type 0} {kept : D → ℕ → List ℕ} → IsHonest are reads writes kept
    → (t : Option Trouble) → FindsNoLie t → (d e : D) (page : ℕ) (slice given : List ℕ) (answer : Answer)
    → are d ≡ true → ReadsBy reads t d page slice answer given e → are e ≡ true
after_read honest None none d e page slice given answer is r = honest.after_read d e page slice given answer is r
after_read {are = are} honest (Some Fail) none d e page slice given answer is r = ap are r.2 ∙ is
after_read honest (Some (Lie of stamp)) none d e page slice given answer is r = absurd none

written : {D : Type 0} {are : D → Bool} {reads : D → ℕ → List ℕ → Answer → List ℕ → D → Type 0}
    {writes : D → ℕ → List ℕ → Answer → D → Type 0} {kept : D → ℕ → List ℕ} → IsHonest are reads writes kept
    → (t : Option Trouble) → FindsNoLie t → (d e : D) (page : ℕ) (image : List ℕ) → are d ≡ true
    → WritesBy writes t d page image (Ok tt) e → kept e page ≡ image
written honest None none d e page image is r = honest.written d e page image is r
written honest (Some Fail) none d e page image is r = let told = r.0 in cc
written honest (Some (Lie other stamp)) none d e page image is r = absurd none

others : {D : Type 0} {are : D → Bool} {reads : D → ℕ → List ℕ → Answer → List ℕ → D → Type 0}
    {writes : D → ℕ → List ℕ → Answer → D → Type 0} {kept : D → ℕ → List ℕ} → IsHonest are reads writes kept
    → (t : Option Trouble) → FindsNoLie t → (d e : D) (page other : ℕ) (image : List ℕ) → are d ≡ true
    → WritesBy writes t d page image (Ok tt) e → other ≢ page → kept e other ≡ kept d other
others honest None none d e page other image is r ne = honest.others d e page other image is r ne
others honest (Some Fail) none d e page other image is r ne = let told = r.0 in cc
others honest (Some (Lie of stamp)) none d e page other image is r ne = absurd none

failed : {D : Type 0} {are : D → Bool} {reads : D → ℕ → List ℕ → Answer → List ℕ → D → Type 0}
    {writes : D → ℕ → List ℕ → Answer → D → Type 0} {kept : D → ℕ → List ℕ} → IsHonest are reads writes kept
    → (t : Option Trouble) → FindsNoLie t → (d e : D) (page other : ℕ) (image : List ℕ) (fault : Fault)
    → are d ≡ true → WritesBy writes t d page image (Err fault) e → kept e other ≡ kept d other
failed honest None none d e page other image fault is r = honest.failed d e page other image fault is r
failed {kept = kept} honest (Some Fail) none d e page other image fault is r = ap (λ x. kept x other) r.1
failed honest (Some (Lie of stamp)) none d e page other image fault is r = absurd none

after_write : {D : Type 0} {are : D → Bool} {reads : D → ℕ → List ℕ → Answer → List ℕ → D → Type 0}
    {writes : D → ℕ → List ℕ → Answer → D → Type 0} {kept : D → ℕ → List ℕ} → IsHonest are reads writes kept
    → (t : Option Trouble) → FindsNoLie t → (d e : D) (page : ℕ) (image : List ℕ) (answer : Answer) → are d ≡ true
    → WritesBy writes t d page image answer e → are e ≡ true
after_write honest None none d e page image answer is r = honest.after_write d e page image answer is r
after_write {are = are} honest (Some Fail) none d e page image answer is r = ap are r.1 ∙ is
after_write honest (Some (Lie of stamp)) none d e page image answer is r = absurd none

-- ---- a device with planted troubles

both-left : (a b : Bool) → (a && b) ≡ true → a ≡ true
both-left true b is = refl
both-left false b is = cc

both-right : (a b : Bool) → (a && b) ≡ true → b ≡ true
both-right true b is = is
both-right false b is = cc

both : (a b : Bool) → a ≡ true → b ≡ true → (a && b) ≡ true
both true b left right = right
both false b left right = cc

pub failing-honest : {D : Type 0} (reads : D → ℕ → List ℕ → Answer → List ℕ → D → Type 0)
    (writes : D → ℕ → List ℕ → Answer → D → Type 0) → FailingIsHonest reads writes
failing-honest reads writes = λ are kept honest.
    let inside = λ (f : Troubled _) (is : (are f.device && plants_no_lie f.troubles) ≡ true).
    both-left (are f.device) (plants_no_lie f.troubles) is in
    let none = λ (f : Troubled _) (is : (are f.device && plants_no_lie f.troubles) ≡ true).
    trouble_at-no_lie f.troubles (f.calls + 1) (both-right (are f.device) (plants_no_lie f.troubles) is) in
    let still = λ (f : Troubled _) (is : (are f.device && plants_no_lie f.troubles) ≡ true).
    both-right (are f.device) (plants_no_lie f.troubles) is in
    record {
      read_gives = λ d e page slice given is r.
          read_gives honest (trouble_at d.troubles (d.calls + 1)) (none d is) d.device e.device page slice given (inside d is) r.0;
      read_keeps = λ d e page other slice given answer is r.
          read_keeps honest (trouble_at d.troubles (d.calls + 1)) (none d is) d.device e.device page other slice given answer
          (inside d is) r.0;
      written = λ d e page image is r.
          written honest (trouble_at d.troubles (d.calls + 1)) (none d is) d.device e.device page image (inside d is) r.0;
      others = λ d e page other image is r ne.
          others honest (trouble_at d.troubles (d.calls + 1)) (none d is) d.device e.device page other image (inside d is) r.0 ne;
      failed = λ d e page other image fault is r.
          failed honest (trouble_at d.troubles (d.calls + 1)) (none d is) d.device e.device page other image fault (inside d is) r.0;
      after_read = λ d e page slice given answer is r.
          both (are e.device) (plants_no_lie e.troubles)
          (after_read honest (trouble_at d.troubles (d.calls + 1)) (none d is) d.device e.device page slice given answer
          (inside d is) r.0)
          (ap plants_no_lie r.1.troubles_are ∙ still d is);
      after_write = λ d e page image answer is r.
          both (are e.device) (plants_no_lie e.troubles)
          (after_write honest (trouble_at d.troubles (d.calls + 1)) (none d is) d.device e.device page image answer
          (inside d is) r.0)
          (ap plants_no_lie r.1.troubles_are ∙ still d is);
    }
