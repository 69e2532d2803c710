-- What the functions that move the guards of a worker tell one another.
use Rattle.std.specs.Prelude.{◌≡◌, ℕ, false, Option, None, Some, List, slice_set}
use Rattle.pp_cert.specs.declared.note.Held.TheVariants.{S}
use Rattle.pp_plan.specs.declared.action.Ask.{Ask}
use Rattle.pp_plan.specs.declared.action.Ask.TheVariants as ask
use Rattle.pp_model.specs.Pool.{State}
use Rattle.pp_core.specs.Queries.{ask_of}
use Rattle.pp_vault.specs.declared.tokens.Session.{Session}
use Rattle.pp_vault.specs.declared.guards.Guard.{Guard}
use Rattle.pp_vault.specs.declared.guards.Guard.TheVariants.{Pin, Read, Write, Bundle}
use Rattle.pp_vault.specs.declared.stage.Stage.{Stage}
use Rattle.pp_vault.specs.declared.stage.Hand.{Hand}
use Rattle.pp_vault.specs.Parts.{Parts}
use Rattle.pp_vault.specs.StandsFor.{StandsFor}
use Rattle.pp_vault.specs.Calls.{Call, stranger}
use Rattle.pp_vault.specs.Events.{Does}
use Rattle.pp_vault.specs.Fits.{unlatch_call, put_back_call}
use Rattle.pp_vault.specs.Tokens.{is_long, SessionFits}
use Rattle.pp_vault.specs.Hands.{GuardFits}
use Rattle.pp_vault.specs.HandLaws.{FitsIn}
use Rattle.pp_vault.specs.Holding.{slot_by}
use Rattle.pp_script.specs.declared.cue.Cue.{Cue}
use Rattle.pp_script.specs.declared.cue.Cue.TheVariants.{Unfix, Latch, Unlatch}
use Rattle.pp_play.specs.declared.line.Line.{Line}
use Rattle.pp_play.specs.Doing.{has_room, slot_wanted, HandPlays}

-- The hand with this token and these guards.
abbrev pub hand_of : Stage → List (Option Guard) → Hand
hand_of stage guards = record { stage = stage; guards = guards }

-- A cue of worker w is played with a hand, where that fits.
abbrev pub PlaysHand : (old : Parts) → (w : ℕ) → Hand → Cue → Line → (new : Parts) → (left : Hand) → Type 0
PlaysHand old w hand cue line new left = FitsIn old w hand → HandPlays old w hand cue line new left

-- The plan of worker w asks a page into a slot that has no room for it.
abbrev pub FixLacksPlace : Parts → (w : ℕ) → List (Option Guard) → Type 0
FixLacksPlace v w places =
    (s : State) → StandsFor v s
    → (a : Ask) × (slot : ℕ) × (ask_of s w ≡ Some a) × (slot_wanted a ≡ Some slot) × (has_room s w places slot ≡ false)

-- The worker of a cue that uses a slot which the plan names, by an unfix, a latch or an unlatch.
abbrev pub uses_slot : Cue → Option ℕ
uses_slot (Unfix w) = Some w
uses_slot (Latch w) = Some w
uses_slot (Unlatch w) = Some w
uses_slot cue = None

-- The slot of which a plan asks what the cue does; None where it asks something else.
abbrev pub slot_asked : Cue → Ask → Option ℕ
slot_asked (Unfix w) (ask.Unfix slot) = Some slot
slot_asked (Unfix w) (ask.Scatter slot) = Some slot
slot_asked (Latch w) (ask.Latch slot mode) = Some slot
slot_asked (Unlatch w) (ask.Unlatch slot) = Some slot
slot_asked cue a = None

-- The places once a guard, if there is one, was put into its own.
abbrev pub put_left : List (Option Guard) → Option Guard → List (Option Guard)
put_left places None = places
put_left places (Some g) = slice_set places (slot_by g) (Some g)

-- The call that takes the latch off the page of a guard; a guard that isn't of a latch is a stranger's.
abbrev pub unlatch_with : Parts → Session → Guard → State → Call
unlatch_with v x (Pin g) = λ s. stranger
unlatch_with v x (Read g) = unlatch_call S x.worker g.worker g.slot g.page
unlatch_with v x (Write g) = put_back_call (is_long v g.image) x.worker g.worker g.slot g.page
unlatch_with v x (Bundle g) = λ s. stranger

-- The call is done, and worker w has a session and a guard of the slot, which fit.
pub record ChangesGuard (old : Parts) (call : State → Call) (w slot : ℕ) (new : Parts) (session : Session)
    (guard : Guard) : Type 0 where
  pub does : Does old call new
  pub session_fits : SessionFits new w session
  pub guard_fits : (s : State) → StandsFor new s → GuardFits new.page_bytes s w slot guard
