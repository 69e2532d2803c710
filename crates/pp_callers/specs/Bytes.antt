-- What a script over a device in memory leaves of the bytes of pages.
use Rattle.std.specs.Prelude.{◌≡◌, ◌++◌, ◌<◌, ℕ, true, false, None, List, length}
use Rattle.pp_arc.specs.FourLists.{is_cached}
use Rattle.pp_model.specs.Pool.{State}
use Rattle.pp_core.specs.Queries.{is_idle}
use Rattle.pp_device.specs.Disk.{Disk, DiskReads, DiskWrites, image_of}
use Rattle.pp_device.specs.Honest.{is_any}
use Rattle.pp_vault.specs.declared.hands.Hands.{Hands}
use Rattle.pp_vault.specs.Parts.{Parts}
use Rattle.pp_vault.specs.StandsFor.{StandsFor}
use Rattle.pp_vault.specs.Hands.{HandsFit}
use Rattle.pp_script.specs.declared.cue.Cue.{Cue}
use Rattle.pp_play.specs.declared.line.Line.{Line}
use Rattle.pp_play.specs.Honest.{AllHonestly}

-- All workers are idle, nothing is cached, and no flush is in flight.
pub record Rests (s : State) : Type 0 where
  pub idle : (w : ℕ) → w < length s.seats → is_idle s w ≡ true
  pub empty : (page : ℕ) → is_cached s.lists page ≡ false
  pub no_flush : s.flush ≡ None

-- From a vault that rests, with hands that fit it, and any device in memory: between two cues there are a vault, hands and
-- a device in which no cue but a write that is done has changed the content of a page, and such a write has set its first
-- byte. The content is the body with the worker that has the page latched X, else that with the errand that writes it back,
-- else that in its frame, else that on the device.
abbrev pub KeepsEveryByte : (old : Parts) → Hands → Disk → List Cue → (before now : List Line) → (new : Parts)
    → (left : Hands) → Disk → Type 0
KeepsEveryByte old hands d cues before now new left e =
    HandsFit old hands → (s : State) → StandsFor old s → Rests s
    → (lines : List Line) × (t : State) × (now ≡ before ++ lines)
    × AllHonestly is_any DiskReads DiskWrites image_of old s hands d cues lines new t left e
