-- A pool between two runs, and what a run makes of one.
use Rattle.std.specs.Prelude.{◌≡◌, ◌≢◌, ◌⊎◌, ◌<◌, ℕ, true, [], List, Option, None, Some, length, take, drop}
use Rattle.std.specs.List.{list_all}
use Rattle.pp_settings.specs.Layout.{Geometry}
use Rattle.pp_cert.specs.Accepted.{Acceptance}
use Rattle.pp_model.specs.Pool.{State, Settings, dirty_pages}
use Rattle.pp_model.specs.declared.event.Event.{Event}
use Rattle.pp_model.specs.Journals.{replay}
use Rattle.pp_model.specs.Renewing.{renew_error, renewed}
use Rattle.pp_model.specs.Turns.{IsUnderWay, next_turn}
use Rattle.pp_outset.specs.Outsets.{Outset, outset_of, opens_with}
use Rattle.pp_vault.specs.declared.hands.Hands.{Hands}
use Rattle.pp_vault.specs.declared.stage.Hand.{Hand}
use Rattle.pp_vault.specs.Holding.{placed}
use Rattle.pp_vault.specs.Stages.{idle_hand}
use Rattle.pp_pool.specs.Parts.{Parts, settings_of, plans_of, state_of}
use Rattle.pp_pool.specs.Parts as parts
use Rattle.pp_report.specs.Reports.{is_move}
use Rattle.pp_run.specs.declared.error.RunError.{RunError}
use Rattle.pp_run.specs.declared.error.RunError.TheVariants.{Broken}
use Rattle.pp_run.specs.Calling.{begun_flushes_in, sought_behind}
use Rattle.pp_run.specs.Runs.{submits}

-- What clauses see of a pool between two runs.
pub record Rested : Type 0 where
  -- what it keeps of its settings
  pub settings : Settings
  -- how many bytes a page has
  pub page_bytes : ℕ
  -- what its next life begins with
  pub began : Outset
  -- the page number from which its next run's first flush is sought
  pub from : ℕ

-- The state in which its next life begins.
abbrev pub opening_of : Rested → State
opening_of p = opens_with p.settings p.began

-- The pool that a run gives back: of the same settings, and its next life begins with what the run's life left. That is the
-- state of a pool which is renewed at the run's end. It keeps the number behind the page whose flush the run began last.
pub record ComesBack (p : Rested) (plans : List Acceptance) (events : List Event) (q : Rested) : Type 0 where
  pub settings : q.settings ≡ p.settings
  pub page_bytes : q.page_bytes ≡ p.page_bytes
  pub began : q.began ≡ outset_of (replay plans (opening_of p) events)
  pub from : q.from ≡ sought_behind p.from events
  pub opens : opening_of q ≡ renewed (replay plans (opening_of p) events)

-- ---- tokens

-- In the place of each worker below this number is its hand, which is idle and holds nothing.
abbrev pub AreIdleBelow : List (Option Hand) → (n : ℕ) → Type 0
AreIdleBelow places n = (w : ℕ) → w < n → placed places w ≡ Some (idle_hand (record { worker = w }))

-- So it is for each worker, and no flush is in hand.
pub record AreIdle (workers : ℕ) (hands : Hands) : Type 0 where
  pub each : AreIdleBelow hands.workers workers
  pub no_flush : hands.flushing ≡ None

-- ---- how it is kept

abbrev pub rested_in : Parts → (page_bytes from : ℕ) → Rested
rested_in b page_bytes from =
    record { settings = settings_of b; page_bytes = page_bytes; began = b.began; from = from }

-- Nothing was done in the book's life yet: no plan was submitted, and no token is in use. The layout is the book's, and a page has
-- as many bytes as in its vault.
pub record IsRested (b : Parts) (hands : Hands) (geometry : Geometry) (bytes : ℕ) : Type 0 where
  pub journal : b.journal ≡ []
  pub plans : plans_of b ≡ []
  pub idle : AreIdle b.workers hands
  pub layout : geometry ≡ b.vault.core.layout
  pub page_bytes : bytes ≡ b.vault.page_bytes

-- ---- the end of a run

-- A book at the end of a life that began in this state. Its journal is the submits of all these plans, in their order, and then
-- moves; no plan waits or is unfinished, and no flush is in flight. So many pages are newer than the device's, and one is only
-- where all flushes of the settings were begun.
pub record IsEnd (o : State) (plans : List Acceptance) (b : Parts) (dirty : ℕ) : Type 0 where
  pub opened : parts.opening_of b ≡ o
  pub planned : plans_of b ≡ plans
  pub submits_first : take (length plans) b.journal ≡ submits 0 (length plans)
  pub then_moves : list_all is_move (drop (length plans) b.journal) ≡ true
  pub ended : next_turn (state_of b) ≡ None
  pub over : IsUnderWay (state_of b) → ⊥
  pub newer : dirty ≡ dirty_pages (state_of b)
  pub flushed : 0 < dirty → begun_flushes_in b.journal ≡ o.settings.flushes

-- The book can't be renewed, or a token is still in use.
abbrev pub IsKeptBack : Parts → Hands → Type 0
IsKeptBack b hands = (renew_error (state_of b) ≢ None) ⊎ ¬ AreIdle b.workers hands

-- A pool isn't renewed because it can't be, which is told by the flusher's number.
abbrev pub KeptFor : Parts → Hands → RunError → Type 0
KeptFor b hands (Broken w) = (w ≡ b.workers) × IsKeptBack b hands
KeptFor b hands _ = ⊥

-- A run of these plans from this opening state came to its end, and the pool that it leaves can't be renewed.
pub record IsUnrenewed (o : State) (plans : List Acceptance) (b : Parts) (hands : Hands) : Type 0 where
  pub end : IsEnd o plans b (dirty_pages (state_of b))
  pub cause : IsKeptBack b hands

-- The error tells that the pool can't be renewed, by the flusher's number.
abbrev pub IsNotRenewed : State → List Acceptance → Parts → Hands → RunError → Type 0
IsNotRenewed o plans b hands (Broken w) = (w ≡ o.settings.workers) × IsUnrenewed o plans b hands
IsNotRenewed o plans b hands _ = ⊥
