-- When a text is the journals of a pool's lives, one behind the other, and what is its first fault where it isn't.
use Rattle.std.specs.Prelude.{◌≡◌, ◌≢◌, ◌⊎◌, ℕ, ◌+◌, Some, List, [], ◌∷◌, ◌++◌, length, map, flat_map, codes}
use Rattle.std.specs.List.{AllByRecursion}
use Rattle.pp_settings.specs.Settings.{Configuration}
use Rattle.pp_cert.specs.Accepted.{Acceptance}
use Rattle.pp_model.specs.declared.event.Event.{Event}
use Rattle.pp_model.specs.declared.refusals.RenewError.{RenewError}
use Rattle.pp_model.specs.Pool.{State, opening}
use Rattle.pp_model.specs.Turns.{next_turn}
use Rattle.pp_model.specs.Journals.{IsTrueFrom}
use Rattle.pp_model.specs.Renewing.{renew_error}
use Rattle.pp_model.specs.Lives.{Life, life_end, AreLives, after_lives}
use Rattle.pp_core.specs.Opening.{kept_of}
use Rattle.pp_report.specs.declared.error.Next.{Next}
use Rattle.pp_report.specs.declared.error.AuditError.{AuditError}
use Rattle.pp_report.specs.declared.error.AuditError.TheVariants.{NotALine, NotPossible, ReplyDiffers, NotRenewed}
use Rattle.pp_report.specs.declared.error.AuditError.TheVariants.{Unfinished, OutOfMemory}
use Rattle.pp_report.specs.Journals.{journal_lines}
use Rattle.pp_report.specs.Lines.{line_of, line_words, journal_words, FitsEvent}
use Rattle.pp_report.specs.Audits.{IsOver, IsNoLine, AsksImpossible, TellsOther}
use Rattle.pp_report.specs.AuditingLives.{renewal_line}

-- ---- texts

-- The text of lives: the journal of each that is over with the line of a renewal behind it, and then the last journal.
abbrev pub lives_words : List (List Event) → (last : List Event) → List ℕ
lives_words [] last = journal_words last
lives_words (es ∷ journals) last = journal_words es ++ (renewal_line ++ codes "\n") ++ lives_words journals last

-- Its lines.
abbrev pub lives_lines : List (List Event) → (last : List Event) → List (List ℕ)
lives_lines [] last = map (λ e. line_words (line_of e)) last
lives_lines (es ∷ journals) last = map (λ e. line_words (line_of e)) es ++ (renewal_line ∷ lives_lines journals last)

-- The events may stand in journals.
pub record FitLives (journals : List (List Event)) (last : List Event) : Type 0 where
  pub each : AllByRecursion (AllByRecursion FitsEvent) journals
  pub latest : AllByRecursion FitsEvent last

-- The text spells these journals: their events may stand in journals, and the text is theirs, or it lacks the last line
-- feed.
pub record SpellsLives (text : List ℕ) (journals : List (List Event)) (last : List Event) : Type 0 where
  pub fits : FitLives journals last
  pub text_is : (text ≡ lives_words journals last) ⊎ (text ++ codes "\n" ≡ lives_words journals last)

-- ---- lives of these plans

abbrev pub journals_of : List Life → List (List Event)
journals_of lives = map (λ l. l.journal) lives

-- The plans of the first life, then those of the second, and so on.
abbrev pub plans_of : List Life → List Acceptance
plans_of lives = flat_map (λ l. l.plans) lives

-- The state in which the life after these begins, of a pool with these settings.
abbrev pub next_opening : Configuration → List Life → State
next_opening c lives = after_lives (opening (kept_of c)) lives

-- The lives are over, and the journal of the present one is true from where the pool was renewed after them. The plans are
-- theirs, and behind these the plans of the present life.
pub record AreTrueLives (c : Configuration) (plans : List Acceptance) (lives : List Life) (present : Life) : Type 0 where
  pub over : AreLives (opening (kept_of c)) lives
  pub is_true : IsTrueFrom present.plans (next_opening c lives) present.journal
  pub plans_are : plans ≡ plans_of lives ++ present.plans

-- The state to which all of it leads.
abbrev pub lives_end : Configuration → List Life → (present : Life) → State
lives_end c lives present = life_end (next_opening c lives) present

-- They are the whole lives of a pool with these plans: true ones, and at the end of the last one its plans are all
-- submitted and ended, and no flush is in flight.
pub record AreWholeLives (c : Configuration) (plans : List Acceptance) (lives : List Life) (last : Life) : Type 0 where
  pub are_true : AreTrueLives c plans lives last
  pub over : IsOver last.plans (lives_end c lives last)

-- These are the journals of such lives.
pub record AreWholeJournals (c : Configuration) (plans : List Acceptance) (journals : List (List Event))
    (last : List Event) : Type 0 where
  pub lives : List Life
  pub rest : List Acceptance
  pub journals_are : journals ≡ journals_of lives
  pub whole : AreWholeLives c plans lives (record { plans = rest; journal = last })

-- The text is the journals of whole lives of a pool with these plans, in so many lines.
pub record IsAuditedLives (c : Configuration) (plans : List Acceptance) (text : List ℕ) (lines : ℕ) : Type 0 where
  pub lives : List Life
  pub last : Life
  pub spelled : SpellsLives text (journals_of lives) last.journal
  pub whole : AreWholeLives c plans lives last
  pub number : lines ≡ length (lives_lines (journals_of lives) last.journal)

-- No line of the text is the one between two lives.
abbrev pub HasNoRenewal : List ℕ → Type 0
HasNoRenewal text = AllByRecursion (λ line. line ≢ renewal_line) (journal_lines text)

-- ---- the first fault

-- The lines before the one with this number, from 1, are those of true lives, and this line is wrong in the state after
-- them. The plans that no life before took may go into the present one.
pub record StopsInLives (c : Configuration) (plans : List Acceptance) (text : List ℕ) (number : ℕ)
    (IsWrong : List Acceptance → State → List ℕ → Type 0) : Type 0 where
  pub lives : List Life
  pub present : Life
  pub line : List ℕ
  pub after : List (List ℕ)
  pub fits : FitLives (journals_of lives) present.journal
  pub are_true : AreTrueLives c plans lives present
  pub stands : journal_lines text ≡ lives_lines (journals_of lives) present.journal ++ (line ∷ after)
  pub number_is : number ≡ length (lives_lines (journals_of lives) present.journal) + 1
  pub wrong : IsWrong present.plans (lives_end c lives present) line

-- It is neither a line of a journal nor the one between two lives.
abbrev pub IsNoLineOfLives : List Acceptance → State → List ℕ → Type 0
IsNoLineOfLives plans s text = IsNoLine s text × (text ≢ renewal_line)

-- It is the line between two lives, and the pool can't be renewed there.
abbrev pub CannotRenew : RenewError → Next → List Acceptance → State → List ℕ → Type 0
CannotRenew why next plans s text =
    (text ≡ renewal_line) × (renew_error s ≡ Some why) × (next.turn ≡ next_turn s)

-- All lines are those of true lives, and in the last one some plan isn't submitted or ended, or a flush is in flight.
pub record LivesEndEarly (c : Configuration) (plans : List Acceptance) (text : List ℕ) : Type 0 where
  pub lives : List Life
  pub last : Life
  pub spelled : SpellsLives text (journals_of lives) last.journal
  pub are_true : AreTrueLives c plans lives last
  pub early : ¬ IsOver last.plans (lives_end c lives last)

-- The error tells the first fault of the text. Want of memory tells nothing.
abbrev pub TellsFaultOfLives : Configuration → List Acceptance → List ℕ → AuditError → Type 0
TellsFaultOfLives c plans text (NotALine n) = StopsInLives c plans text n IsNoLineOfLives
TellsFaultOfLives c plans text (NotPossible n asked next) =
    StopsInLives c plans text n (λ ps. AsksImpossible ps asked next)
TellsFaultOfLives c plans text (ReplyDiffers n told right) =
    StopsInLives c plans text n (λ ps. TellsOther ps told right)
TellsFaultOfLives c plans text (NotRenewed n why next) = StopsInLives c plans text n (CannotRenew why next)
TellsFaultOfLives c plans text Unfinished = LivesEndEarly c plans text
TellsFaultOfLives c plans text OutOfMemory = Unit {0}
