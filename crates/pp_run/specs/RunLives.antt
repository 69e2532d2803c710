-- Runs over one pool are its lives.
use Rattle.std.specs.Prelude.{◌≡◌, List, [], ◌∷◌, ◌++◌, length, Ok}
use Rattle.pp_settings.specs.Settings.{Configuration}
use Rattle.pp_settings.specs.declared.span.Span.TheVariants.{Bounded}
use Rattle.pp_cert.specs.Accepted.{Acceptance}
use Rattle.pp_core.specs.Opening.{kept_of}
use Rattle.pp_model.specs.declared.event.Event.{Event}
use Rattle.pp_model.specs.Pool.{opening}
use Rattle.pp_model.specs.Lives.{Life, IsLife, AreLives, life_end}
use Rattle.pp_outset.specs.Outsets.{new_outset}
use Rattle.pp_report.specs.Audits.{IsOver}
use Rattle.pp_report.specs.AuditingLives.{auditing_lives}
use Rattle.pp_report.specs.Lives.{journals_of, lives_lines, lives_words, next_opening, plans_of}
use Rattle.pp_run.specs.Rested.{Rested, opening_of, ComesBack}

-- The runs over a pool with these settings were these lives, and the next one begins where they lead to.
pub record HasLived (c : Configuration) (lives : List Life) (p : Rested) : Type 0 where
  pub over : AreLives (opening (kept_of c)) lives
  pub next : opening_of p ≡ next_opening c lives

-- A pool in which nothing was done yet has no life behind it.
abbrev pub NewHasNotLived : Type 0
NewHasNotLived =
    (c : Configuration) (p : Rested) → p.settings ≡ kept_of c → p.began ≡ new_outset (kept_of c) → HasLived c [] p

-- The pool that comes back has one life more behind it.
abbrev pub RunsAreLives : Type 0
RunsAreLives =
    (c : Configuration) (lives : List Life) (p q : Rested) (l : Life) → HasLived c lives p → IsLife (opening_of p) l
    → ComesBack p l.plans l.journal q → HasLived c (lives ++ l ∷ []) q

-- The journals of all lives, which are bounded, in one text with the last run's behind them, are audited Ok.
abbrev pub LivesAreAudited : (journals : List (List Event)) (last : List Event) → Type 0
LivesAreAudited journals last =
    (c : Configuration) (lives : List Life) (p : Rested) (plans : List Acceptance) → c.span ≡ Bounded → HasLived c lives p
    → journals_of lives ≡ journals → IsLife (opening_of p) (record { plans = plans; journal = last })
    → IsOver plans (life_end (opening_of p) (record { plans = plans; journal = last }))
    → auditing_lives c (plans_of lives ++ plans) (lives_words journals last) ≡ Ok (length (lives_lines journals last))
