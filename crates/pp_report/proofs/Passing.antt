-- Lines that an auditor passes in turn.
use Rattle.std.proofs.Common.{◌≡◌, ℕ, ◌+◌, true, false, List, [], ◌∷◌, Result, Ok, Err, refl, sym, ap, ◌∙◌}
use Rattle.pp_text.specs.Steps.{◌>>=◌, must}
use Rattle.pp_report.specs.declared.auditor.Auditor.{Auditor}
use Rattle.pp_report.specs.declared.error.AuditError.{AuditError}
use Rattle.pp_report.specs.declared.error.AuditError.TheVariants.{Unfinished}
use Rattle.pp_report.specs.Auditing.{Progress, pass_text, is_over, auditing_from}
use Rattle.pp_report.specs.Auditors.{IsAt, Passes}

pub passed : (a : Auditor) (r : Result Progress AuditError) (x : Unit {0}) → Passes a r (Ok x)
    → (q : Progress) × (r ≡ Ok q) × IsAt a q
passed a (Ok q) x h = (q, refl, h)
passed a (Err e) x h = absurd h

pub stopped : (a : Auditor) (r : Result Progress AuditError) (e : AuditError) → Passes a r (Err e) → r ≡ Err e
stopped a (Ok q) e h = absurd h
stopped a (Err d) e h = ap (λ x. Err x) (sym h)

-- A line that is passed leads on.
pub went_on : (a : Auditor) (q : Progress) (n : ℕ) (lines : List (List ℕ)) (line : List ℕ) (rest : List (List ℕ))
    (x : Unit {0}) → lines ≡ line ∷ rest → Passes a (pass_text q (n + 1) line) (Ok x)
    → (r : Progress) × IsAt a r × (auditing_from q n lines ≡ auditing_from r (n + 1) rest)
went_on a q n lines line rest x e h =
    let (r, is, at) = passed a (pass_text q (n + 1) line) x h in
    (r, at, ap (auditing_from q n) e ∙ ap (λ o. o >>= λ r. auditing_from r (n + 1) rest) is)

-- A fault ends the audit.
pub went_wrong : (a : Auditor) (q : Progress) (n : ℕ) (lines : List (List ℕ)) (line : List ℕ) (rest : List (List ℕ))
    (error : AuditError) → lines ≡ line ∷ rest → Passes a (pass_text q (n + 1) line) (Err error)
    → auditing_from q n lines ≡ Err error
went_wrong a q n lines line rest error e h =
    ap (auditing_from q n) e
    ∙ ap (λ o. o >>= λ r. auditing_from r (n + 1) rest) (stopped a (pass_text q (n + 1) line) error h)

pub went_through : (q : Progress) (n : ℕ) → is_over q ≡ true → auditing_from q n [] ≡ Ok n
went_through q n e = ap (λ b. must b Unfinished >>= λ passed. Ok n) e

pub went_short : (q : Progress) (n : ℕ) → is_over q ≡ false → auditing_from q n [] ≡ Err Unfinished
went_short q n e = ap (λ b. must b Unfinished >>= λ passed. Ok n) e
