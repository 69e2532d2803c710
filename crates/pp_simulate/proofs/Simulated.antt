-- What a played script comes to, from what its steps did.
use Rattle.std.proofs.Common.{◌≡◌, ℕ, List, [], ◌++◌, length, sym, ap, subst, ◌∙◌}
use Rattle.pp_cert.specs.Accepted.{Acceptance}
use Rattle.pp_core.specs.Opening.{kept_of}
use Rattle.pp_device.specs.Disk.{Disk, DiskReads, DiskWrites}
use Rattle.pp_device.specs.Troubled.{Troubled, TroubledReads, TroubledWrites}
use Rattle.pp_model.specs.Pool.{State, opening}
use Rattle.pp_play.specs.Following.{AllOver, PlaysOverDevice}
use Rattle.pp_play.specs.declared.line.Line.{Line}
use Rattle.pp_script.specs.Scripts.{Scenario}
use Rattle.pp_script.specs.declared.cue.Cue.{Cue}
use Rattle.pp_settings.specs.Settings.{Configuration}
use Rattle.pp_contents.specs.ContentLaws.{EmptyAgree}
use Rattle.pp_vault.specs.Hands.{HandsFit}
use Rattle.pp_vault.specs.Parts.{Parts}
use Rattle.pp_vault.specs.StandsFor.{StandsFor}
use Rattle.pp_vault.specs.declared.hands.Hands.{Hands}
use Rattle.pp_simulate.specs.Lines.{transcript}
use Rattle.pp_simulate.specs.Simulating.{device_for, formatted, Simulates, TakesAll}
use Rattle.pp_simulate.proofs.Begun.{begun_agrees}
use Rattle.pp_simulate.proofs.Exactly.{in_turn}

-- No line was there before.
all_new : (before lines told : List Line) → before ≡ [] → lines ≡ before ++ told → told ≡ lines
all_new before lines told begun is = sym (is ∙ ap (λ xs. xs ++ told) begun)

pub simulated : (c : Configuration) (plans : List Acceptance) (script : Scenario) (told : List ℕ)
    (between after : Parts) (hands left : Hands) (device : Troubled Disk) (cues : List Cue) (before lines : List Line)
    → EmptyAgree → TakesAll (opening (kept_of c)) plans between → HandsFit between hands
    → between.page_bytes ≡ c.page_bytes
    → before ≡ [] → cues ≡ script.cues
    → PlaysOverDevice (TroubledReads DiskReads) (TroubledWrites DiskWrites) between hands (device_for c script) cues
    before lines after left device
    → ((s : State) → StandsFor after s → told ≡ transcript (length plans) cues lines s)
    → Simulates c plans script told
simulated c plans script told between after hands left device cues before lines empty takes fits size begun same follows text =
    let agrees =
    begun_agrees (kept_of c) plans takes.after between hands (formatted c) empty takes.taken_in takes.stands fits in
    let w = follows fits takes.after takes.stands (formatted c) agrees in
    let played : AllOver (TroubledReads DiskReads) (TroubledWrites DiskWrites) between takes.after hands
    (device_for c script) (formatted c) script.cues lines after w.1 left device w.2 =
    subst
    (λ xs. AllOver (TroubledReads DiskReads) (TroubledWrites DiskWrites) between takes.after hands (device_for c script)
    (formatted c) xs lines after w.1 left device w.2) same
    (subst
    (λ ls. AllOver (TroubledReads DiskReads) (TroubledWrites DiskWrites) between takes.after hands (device_for c script)
    (formatted c) cues ls after w.1 left device w.2) (all_new before lines w.0 begun w.3) w.4) in
    record {
      taken_in = takes.after;
      submits = takes.taken_in;
      lines = lines;
      last = w.1;
      comes =
          in_turn (TroubledReads DiskReads) (TroubledWrites DiskWrites) between takes.after hands (device_for c script)
          (formatted c) script.cues lines after w.1 left device w.2 takes.stands played;
      bytes =
          record {
            vault = between;
            hands = hands;
            after = after;
            left = left;
            device = device;
            told = w.2;
            stands = takes.stands;
            fits = fits;
            length = size;
            agrees = agrees;
            plays = played;
            ends = w.5;
          };
      text = text w.1 w.5 ∙ ap (λ xs. transcript (length plans) xs lines w.1) same;
    }
