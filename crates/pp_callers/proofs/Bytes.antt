-- A script over a device in memory, from what is proved of any device that keeps every byte.
use Rattle.std.proofs.Common.{◌≡◌, ℕ, ◌≤◌, Bool, true, false, Option, Some, None, List, length, Result, Ok, Err, refl, ap}
use Rattle.std.proofs.Common.{arith}
use Rattle.std.specs.Prelude.{OnOk, nat_lt, slice_get}
use Rattle.std.proofs.lemmas.Bool.{false≢true}
use Rattle.std.proofs.lemmas.Bool.Decides.{nat_tests}
use Rattle.std.proofs.lemmas.Option.{slice_get_past}
use Rattle.pp_model.specs.Pool.{Running, State}
use Rattle.pp_model.specs.Moves.{seat_of}
use Rattle.pp_core.specs.Queries.{idle_by, errand_by, errand_of}
use Rattle.pp_device.specs.Disk.{Disk, DiskReads, DiskWrites, image_of}
use Rattle.pp_device.specs.Honest.{SoloIsHonest, is_any}
use Rattle.pp_vault.specs.declared.hands.Hands.{Hands}
use Rattle.pp_vault.specs.Parts.{Parts}
use Rattle.pp_vault.specs.StandsFor.{StandsFor}
use Rattle.pp_contents.specs.ContentLaws.{EmptyAgree}
use Rattle.pp_script.specs.declared.cue.Cue.{Cue}
use Rattle.pp_play.specs.declared.line.Line.{Line}
use Rattle.pp_play.specs.Honest.{IsHonestPlay}
use Rattle.pp_callers.specs.Bytes.{Rests, KeepsEveryByte}

no_errand_by : (o : Option (Option Running)) → idle_by o ≡ true → errand_by o ≡ None
no_errand_by None e = absurd (false≢true e)
no_errand_by (Some None) e = refl
no_errand_by (Some (Some r)) e = absurd (false≢true e)

no_errand : (s : State) → Rests s → (w : ℕ) (b : Bool) → nat_lt w (length s.seats) ≡ b → errand_of s w ≡ None
no_errand s rests w true e = no_errand_by (seat_of s w) (rests.idle w (grind (arith, nat_tests, e)))
no_errand s rests w false e =
    let beyond : length s.seats ≤ w = grind (arith, nat_tests) in ap errand_by (slice_get_past s.seats w beyond)

pub on_ok : {T E : Type 0} {A B : Type 0} (r : Result T E) → (A → B) → OnOk r A → OnOk r B
on_ok (Ok x) f a = f a
on_ok (Err e) f a = a

pub keeps : (old : Parts) (hands : Hands) (d : Disk) (cues : List Cue) (before now : List Line) (new : Parts)
    (left : Hands) (e : Disk) → SoloIsHonest → EmptyAgree
    → IsHonestPlay DiskReads DiskWrites old hands d cues before now new left e
    → KeepsEveryByte old hands d cues before now new left e
keeps old hands d cues before now new left e honest empty played fits s st rests =
    let agrees =
    empty old s hands (image_of d) (record { stands = st; fit = fits s st })
    (λ w. no_errand s rests w (nat_lt w (length s.seats)) refl) rests.empty rests.no_flush in
    let w = played is_any image_of honest refl fits s st agrees in
    (w.0, w.1, w.2, w.3)
