-- Lines of a text of lives that an auditor passes in turn.
use Rattle.std.proofs.Common.{◌≡◌, ℕ, ◌+◌, true, false, List, [], ◌∷◌, Ok, Err, ap, ◌∙◌}
use Rattle.pp_text.specs.Steps.{◌>>=◌, must}
use Rattle.pp_report.specs.declared.auditor.Auditor.{Auditor}
use Rattle.pp_report.specs.declared.error.AuditError.{AuditError}
use Rattle.pp_report.specs.declared.error.AuditError.TheVariants.{Unfinished}
use Rattle.pp_report.specs.Auditing.{Progress, is_over}
use Rattle.pp_report.specs.AuditingLives.{pass_in_lives, lives_from}
use Rattle.pp_report.specs.Auditors.{IsAt, Passes}
use Rattle.pp_report.proofs.Passing.{passed, stopped}

-- A line that is passed leads on.
pub went_on : (a : Auditor) (q : Progress) (n : ℕ) (lines : List (List ℕ)) (line : List ℕ) (rest : List (List ℕ))
    (x : Unit {0}) → lines ≡ line ∷ rest → Passes a (pass_in_lives q (n + 1) line) (Ok x)
    → (r : Progress) × IsAt a r × (lives_from q n lines ≡ lives_from r (n + 1) rest)
went_on a q n lines line rest x e h =
    let (r, is, at) = passed a (pass_in_lives q (n + 1) line) x h in
    (r, at, ap (lives_from q n) e ∙ ap (λ o. o >>= λ r. lives_from r (n + 1) rest) is)

-- A fault ends the audit.
pub went_wrong : (a : Auditor) (q : Progress) (n : ℕ) (lines : List (List ℕ)) (line : List ℕ) (rest : List (List ℕ))
    (error : AuditError) → lines ≡ line ∷ rest → Passes a (pass_in_lives q (n + 1) line) (Err error)
    → lives_from q n lines ≡ Err error
went_wrong a q n lines line rest error e h =
    ap (lives_from q n) e
    ∙ ap (λ o. o >>= λ r. lives_from r (n + 1) rest) (stopped a (pass_in_lives q (n + 1) line) error h)

pub went_through : (q : Progress) (n : ℕ) → is_over q ≡ true → lives_from q n [] ≡ Ok n
went_through q n e = ap (λ b. must b Unfinished >>= λ passed. Ok n) e

pub went_short : (q : Progress) (n : ℕ) → is_over q ≡ false → lives_from q n [] ≡ Err Unfinished
went_short q n e = ap (λ b. must b Unfinished >>= λ passed. Ok n) e
