-- Columns that are added line by line.
use Rattle.std.proofs.Common.{◌≡◌, ℕ, ◌+◌, Bool, true, false, List, [], ◌∷◌, ◌++◌, Ok, refl, sym, ap, ◌∙◌, subst, append_assoc}
use Rattle.std.proofs.Common.{append-nil, Result, Err, suc, length, arith}
use Rattle.std.proofs.lemmas.Bool.Decides.{nat_tests}
use Rattle.std.specs.Prelude.{◌==◌, if◌then◌else◌}
use Rattle.pp_model.specs.Pool.{State}
use Rattle.pp_text.specs.Steps.{◌>>=◌}
use Rattle.pp_report.specs.declared.auditor.Auditor.{Auditor}
use Rattle.pp_report.specs.declared.error.AuditError.{AuditError}
use Rattle.pp_report.specs.Auditing.{Progress, pass_text, auditing_from}
use Rattle.pp_report.specs.Auditors.{IsAt, Passes}
use Rattle.pp_report.specs.Journals.{journal_lines, onto_first}
use Rattle.pp_draw.specs.declared.column.Column.{Column}
use Rattle.pp_draw.specs.declared.extent.Extent.{Extent}
use Rattle.pp_draw.specs.Walks.{Adds}
use Rattle.pp_draw.specs.Drawing.{is_nil, ends_column, Begins, AreDrawn}

-- What a line adds comes before the columns of the lines behind it.
before_others : (e : Extent) (ends : Bool) (n : ℕ) (s : State) (fresh rest : List Column) → Begins e ends n s fresh []
    → Begins e ends n s (fresh ++ rest) rest
before_others e false n s fresh rest h = ap (λ (cs : List Column). cs ++ rest) h
before_others e true n s fresh rest (c, is, line, shows) = (c, ap (λ (cs : List Column). cs ++ rest) is, line, shows)

-- Columns of all lines, where these have been drawn and those of the lines that are left follow.
abbrev pub Continues : Extent → (p q : Progress) → (n : ℕ) → (all left : List (List ℕ)) → List Column → Type 0
Continues e p q n all left columns =
    (rest : List Column) → AreDrawn e q n left rest → AreDrawn e p 0 all (columns ++ rest)

pub one_more : (e : Extent) (p q r : Progress) (n : ℕ) (all left : List (List ℕ)) (line : List ℕ)
    (after : List (List ℕ)) (columns fresh new : List Column) → Continues e p q n all left columns
    → left ≡ line ∷ after → pass_text q (n + 1) line ≡ Ok r
    → Begins e (ends_column e.width (n + 1) after) (n + 1) r.state fresh [] → new ≡ columns ++ fresh
    → Continues e p r (n + 1) all after new
one_more e p q r n all left line after columns fresh new goes is passed begins news = λ rest drawn.
    let here : AreDrawn e q n (line ∷ after) (fresh ++ rest) = (
      r,
      rest,
      passed,
      before_others e (ends_column e.width (n + 1) after) (n + 1) r.state fresh rest begins,
      drawn,
    ) in
    let there = goes (fresh ++ rest) (subst (λ (texts : List (List ℕ)). AreDrawn e q n texts (fresh ++ rest)) (sym is) here) in
    subst (λ (cs : List Column). AreDrawn e p 0 all cs)
    (sym (ap (λ (cs : List Column). cs ++ rest) news ∙ append_assoc columns fresh rest)) there

-- Nothing is left.
pub all_drawn : (e : Extent) (p q : Progress) (n : ℕ) (all left : List (List ℕ)) (columns : List Column)
    → Continues e p q n all left columns → left ≡ [] → AreDrawn e p 0 all columns
all_drawn e p q n all left columns goes none =
    subst (λ (cs : List Column). AreDrawn e p 0 all cs) (append-nil columns)
    (goes [] (subst (λ (texts : List (List ℕ)). AreDrawn e q n texts []) (sym none) refl))

-- ---- whether a line follows

some_onto : (b : ℕ) (lines : List (List ℕ)) → is_nil (onto_first b lines) ≡ false
some_onto b [] = refl
some_onto b (line ∷ lines) = refl

some_line : (t : Bool) (b : ℕ) (lines : List (List ℕ))
    → is_nil (if t then [] ∷ lines else onto_first b lines) ≡ false
some_line true b lines = refl
some_line false b lines = some_onto b lines

pub no_line : (text : List ℕ) → is_nil (journal_lines text) ≡ is_nil text
no_line [] = refl
no_line (b ∷ bs) = some_line (b == 10) b (journal_lines bs)

some_long : (n : ℕ) → (suc n == 0) ≡ false
some_long n = grind (arith, nat_tests)

pub empty_is : (text : List ℕ) → (length text == 0) ≡ is_nil text
empty_is [] = refl
empty_is (b ∷ bs) = some_long (length bs)

pub ended : (text : List ℕ) → true ≡ (length text == 0) → journal_lines text ≡ []
ended [] h = refl
ended (b ∷ bs) h = let e = h ∙ some_long (length bs) in cc

-- ---- a line

pub passed : (a : Auditor) (r : Result Progress AuditError) (x : Unit {0}) → Passes a r (Ok x)
    → (q : Progress) × (r ≡ Ok q) × IsAt a q
passed a (Ok q) x h = (q, refl, h)
passed a (Err e) x h = absurd h

-- An audit goes on with the lines behind it.
pub stepped : (q r : Progress) (n : ℕ) (lines : List (List ℕ)) (line : List ℕ) (after : List (List ℕ))
    → lines ≡ line ∷ after → pass_text q (n + 1) line ≡ Ok r
    → auditing_from q n lines ≡ auditing_from r (n + 1) after
stepped q r n lines line after is passed =
    ap (auditing_from q n) is ∙ ap (λ o. o >>= λ r. auditing_from r (n + 1) after) passed

-- A line is passed by this, and a column is added.
pub added : (e : Extent) (n : ℕ) (p q : Progress) (text : List ℕ) (first second : Auditor) (old mid new : List Column)
    (ends : Bool) → pass_text p n text ≡ Ok q → IsAt first q → second ≡ first → mid ≡ old
    → ((r : Progress) → IsAt first r → Adds e n r.state mid new) → ends ≡ true
    → (x : Progress) × (fresh : List Column) × (pass_text p n text ≡ Ok x) × IsAt second x × (new ≡ old ++ fresh)
    × Begins e ends n x.state fresh []
added e n p q text first second old mid new false is at same kept adds t = cc
added e n p q text first second old mid new true is at same kept adds t =
    let (column, news, line, shows) = adds q at in (
      q,
      column ∷ [],
      is,
      subst (λ (a : Auditor). IsAt a q) (sym same) at,
      news ∙ ap (λ (cs : List Column). cs ++ column ∷ []) kept,
      (column, refl, line, shows),
    )

-- The same where no column ends.
pub went_by : (e : Extent) (n : ℕ) (p q : Progress) (text : List ℕ) (a : Auditor) (old new : List Column)
    (ends : Bool) → pass_text p n text ≡ Ok q → IsAt a q → new ≡ old → ends ≡ false
    → (x : Progress) × (fresh : List Column) × (pass_text p n text ≡ Ok x) × IsAt a x × (new ≡ old ++ fresh)
    × Begins e ends n x.state fresh []
went_by e n p q text a old new true is at kept f = cc
went_by e n p q text a old new false is at kept f = (q, [], is, at, kept ∙ sym (append-nil old), refl)
