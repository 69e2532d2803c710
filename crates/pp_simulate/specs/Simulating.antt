-- What playing a script over a new pool may come to.
use Rattle.std.specs.Prelude.{◌≡◌, ◌≢◌, ℕ, ◌≤◌, ◌<◌, true, List, [], ◌∷◌, ◌++◌, length, slice_get, take, Some, Ok, Err, ⊤}
use Rattle.pp_cert.specs.Accepted.{Acceptance}
use Rattle.pp_cert.specs.Walk.{same_layout}
use Rattle.pp_core.specs.Limits.{most_kept}
use Rattle.pp_core.specs.Opening.{kept_of}
use Rattle.pp_device.specs.Disk.{Disk, new_disk, image_of, DiskReads, DiskWrites}
use Rattle.pp_device.specs.Troubled.{Troubled, TroubledReads, TroubledWrites}
use Rattle.pp_model.specs.Pool.{State, opening}
use Rattle.pp_model.specs.Submitting.{after_submits, submit_error}
use Rattle.pp_play.specs.ByStates.{ComeInTurn}
use Rattle.pp_play.specs.Following.{AllOver}
use Rattle.pp_play.specs.declared.line.Line.{Line}
use Rattle.pp_script.specs.Scripts.{Scenario}
use Rattle.pp_settings.specs.Layout.{page_count}
use Rattle.pp_settings.specs.Settings.{Configuration, geometry_of}
use Rattle.pp_settings.specs.declared.span.Span.TheVariants.{Bounded}
use Rattle.pp_contents.specs.Agreeing.{Agrees}
use Rattle.pp_vault.specs.Hands.{HandsFit}
use Rattle.pp_vault.specs.Parts.{Parts}
use Rattle.pp_vault.specs.StandsFor.{StandsFor}
use Rattle.pp_vault.specs.declared.hands.Hands.{Hands}
use Rattle.pp_simulate.specs.Lines.{transcript}
use Rattle.pp_simulate.specs.declared.error.SimulateError.{SimulateError}
use Rattle.pp_simulate.specs.declared.error.SimulateError.TheVariants.{Submit, TooManyPrepared, OutOfMemory}

-- All plans are taken in from this state, and the vault stands for the state after.
pub record TakesAll (s : State) (plans : List Acceptance) (v : Parts) : Type 0 where
  pub after : State
  pub taken_in : after_submits s plans ≡ Ok after
  pub stands : StandsFor v after

-- In an endless life the pool keeps no plan more: the first plans are taken in, as many as it keeps. Behind them
-- stands one more, which is of the pool's layout.
pub record KeepsNoMore (s : State) (plans : List Acceptance) : Type 0 where
  pub endless : s.settings.span ≢ Bounded
  pub after : State
  pub taken_in : after_submits s (take (most_kept s.settings.span) plans) ≡ Ok after
  pub next : Acceptance
  pub there : slice_get plans (most_kept s.settings.span) ≡ Some next
  pub same : same_layout s.settings.layout next.plan.layout ≡ true

-- Why not all plans are taken in from this state: the refusal of the first that isn't, or that the pool keeps no plan
-- more. Want of memory tells nothing.
abbrev pub IsSimulateError : State → List Acceptance → SimulateError → Type 0
IsSimulateError s plans (Submit error) = after_submits s plans ≡ Err error
IsSimulateError s plans TooManyPrepared = KeepsNoMore s plans
IsSimulateError s plans OutOfMemory = ⊤

-- In an endless life one plan more was kept, behind the others, which were fewer than may be kept.
abbrev pub Keeps : (old : Parts) → Acceptance → (new : Parts) → Type 0
Keeps old a new =
    old.core.span ≢ Bounded
    → (length old.core.plans < most_kept old.core.span) × (new.core.plans ≡ old.core.plans ++ a ∷ [])

-- Why a plan isn't taken in: the model refuses it so. Or it is of the pool's layout, but the life is endless, and
-- as many plans are kept as may be.
abbrev pub TakeFails : Parts → Acceptance → SimulateError → Type 0
TakeFails v a (Submit error) = (s : State) → StandsFor v s → submit_error s a ≡ Some error
TakeFails v a TooManyPrepared =
    (v.core.span ≢ Bounded) × (same_layout v.core.layout a.plan.layout ≡ true)
    × (most_kept v.core.span ≤ length v.core.plans)
TakeFails v a OutOfMemory = ⊥

-- A device in memory that was just formatted, behind the script's troubles.
abbrev pub device_for : Configuration → Scenario → Troubled Disk
device_for c script =
    record {
      device = new_disk (page_count (geometry_of c)) c.page_bytes;
      troubles = script.troubles;
      calls = 0;
      failures = 0;
    }

-- What that device keeps of each page: its number, the stamp 0, and a body of zeros.
abbrev pub formatted : Configuration → ℕ → List ℕ
formatted c page = image_of (new_disk (page_count (geometry_of c)) c.page_bytes) page

-- A vault that stands for the one state, with hands that fit it and pages of the settings' length, plays the cues over that device to these lines, and then
-- stands for the other state. So each call of the device is that of a cue, what it answered is told, and the bytes that
-- are looked at are those of the contents, which go by what was written and read.
pub record IsPlayed (c : Configuration) (script : Scenario) (s : State) (lines : List Line) (t : State) : Type 0 where
  pub vault : Parts
  pub hands : Hands
  pub after : Parts
  pub left : Hands
  pub device : Troubled Disk
  pub told : ℕ → List ℕ
  pub stands : StandsFor vault s
  pub fits : HandsFit vault hands
  pub length : vault.page_bytes ≡ c.page_bytes
  pub agrees : Agrees vault s hands (formatted c)
  pub plays :
      AllOver (TroubledReads DiskReads) (TroubledWrites DiskWrites) vault s hands (device_for c script) (formatted c)
      script.cues lines after t left device told
  pub ends : StandsFor after t

-- The text is one that playing the script may come to: the plans are all taken in, each cue in its turn comes to its
-- line, from the state with these plans up to a last state, and the text has the lines of the plans, of the cues, and
-- of that last state. A cue is done, refused, written or looked at exactly as the states tell; a done one has the
-- model's reply, and every other leaves the state. Bytes are those of a vault that played it over the device.
pub record Simulates (c : Configuration) (plans : List Acceptance) (script : Scenario) (told : List ℕ) : Type 0 where
  pub taken_in : State
  pub submits : after_submits (opening (kept_of c)) plans ≡ Ok taken_in
  pub lines : List Line
  pub last : State
  pub comes : ComeInTurn taken_in script.cues lines last
  pub bytes : IsPlayed c script taken_in lines last
  pub text : told ≡ transcript (length plans) script.cues lines last
