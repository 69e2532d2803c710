-- What a cue comes to where the hands fit the vault: which refusal, which byte, and what the hands have then.
use Rattle.std.specs.Prelude.{◌≡◌, ◌++◌, ℕ, Bool, true, false, Option, None, Some, List, [], ◌∷◌, slice_get, slice_set}
use Rattle.std.specs.Option.{is_some}
use Rattle.pp_cert.specs.declared.note.Held.{Held}
use Rattle.pp_cert.specs.declared.note.Held.TheVariants.{S, X}
use Rattle.pp_model.specs.declared.moves.Move.TheVariants as move
use Rattle.pp_model.specs.declared.refusals.Cause.TheVariants.{NoErrand}
use Rattle.pp_model.specs.Pool.{State}
use Rattle.pp_model.specs.Moves.{reply_of}
use Rattle.pp_core.specs.Queries.{held_of, errand_of, flushed_page}
use Rattle.pp_device.specs.Image.{body_of}
use Rattle.pp_vault.specs.declared.refusal.Refusal.{Refusal}
use Rattle.pp_vault.specs.declared.refusal.Refusal.TheVariants.{OffPlan}
use Rattle.pp_vault.specs.declared.guards.WriteGuard.{WriteGuard}
use Rattle.pp_vault.specs.declared.guards.Guard.{Guard}
use Rattle.pp_vault.specs.declared.guards.Guard.TheVariants as guard
use Rattle.pp_vault.specs.declared.stage.Hand.{Hand}
use Rattle.pp_vault.specs.declared.hands.Hands.{Hands}
use Rattle.pp_vault.specs.Calls.{refusal_in}
use Rattle.pp_vault.specs.Parts.{Parts}
use Rattle.pp_vault.specs.StandsFor.{StandsFor}
use Rattle.pp_vault.specs.Holding.{placed}
use Rattle.pp_vault.specs.Flushes.{IsImageOf}
use Rattle.pp_vault.specs.Hands.{HandsFit}
use Rattle.pp_script.specs.declared.cue.Cue.{Cue}
use Rattle.pp_script.specs.declared.cue.Cue.TheVariants.{Take, Fix, Device, Unfix, Latch, Unlatch, Choose, Unwind, Finish}
use Rattle.pp_script.specs.declared.cue.Cue.TheVariants.{Flush, FlushDevice, Write, Look}
use Rattle.pp_play.specs.declared.line.Line.{Line}
use Rattle.pp_play.specs.declared.line.Line.TheVariants.{Did, Refused, Wrote, Looked, NoLatch}
use Rattle.pp_play.specs.Plays.{ComesTo}

-- ---- refusals

-- A cue for a device is refused where no errand is out.
abbrev pub unless_out : (out : Bool) → Option Refusal
unless_out true = None
unless_out false = Some (OffPlan NoErrand)

-- Why the cue is refused, if it is: as the model refuses the move that the cue asks. Whatever a device answers to an
-- errand that is out is taken, and a cue that writes or looks is never refused.
abbrev pub refusal_to : State → Cue → Option Refusal
refusal_to s (Take w) = refusal_in (reply_of s (move.Take w))
refusal_to s (Fix w page) = refusal_in (reply_of s (move.Fix w page))
refusal_to s (Device w) = unless_out (is_some (errand_of s w))
refusal_to s (Unfix w) = refusal_in (reply_of s (move.Unfix w))
refusal_to s (Latch w) = refusal_in (reply_of s (move.Latch w))
refusal_to s (Unlatch w) = refusal_in (reply_of s (move.Unlatch w))
refusal_to s (Choose w branch) = refusal_in (reply_of s (move.Choose w branch))
refusal_to s (Unwind w slot) = refusal_in (reply_of s (move.Unwind w slot))
refusal_to s (Finish w) = refusal_in (reply_of s (move.Finish w))
refusal_to s (Flush page) = refusal_in (reply_of s (move.FlushBegin page))
refusal_to s FlushDevice = unless_out (is_some (flushed_page s))
refusal_to s (Write w slot byte) = None
refusal_to s (Look w slot) = None

-- ---- bytes

-- Whether a slot is latched X; whether it is latched at all.
abbrev pub may_write : Option (ℕ × Held) → Bool
may_write (Some (page, X)) = true
may_write _ = false

abbrev pub may_look : Option (ℕ × Held) → Bool
may_look (Some (page, S)) = true
may_look (Some (page, X)) = true
may_look _ = false

-- The image that the guard in a place lets its worker see: of a page that it has latched S the one in the page's frame,
-- of one that it has latched X its own.
abbrev pub Lets : Parts → State → Option Guard → (image : List ℕ) → Type 0
Lets v s (Some (guard.Read g)) image = IsImageOf v s g.page image
Lets v s (Some (guard.Write g)) image = image ≡ g.image
Lets v s _ image = ⊥

-- The first byte of a body.
abbrev pub first_of : (image : List ℕ) → Option ℕ
first_of image = slice_get (body_of image) 0

-- The guards of worker w; none where its hand isn't there.
abbrev pub guards_by : Option Hand → List (Option Guard)
guards_by None = []
guards_by (Some hand) = hand.guards

abbrev pub guards_of : Hands → (w : ℕ) → List (Option Guard)
guards_of hands w = guards_by (placed hands.workers w)

-- The guard of a slot is a writer's, and its image has got this byte at the front of its body.
pub record Writes (slot byte : ℕ) (old new : List (Option Guard)) : Type 0 where
  pub writer : WriteGuard
  pub there : placed old slot ≡ Some (guard.Write writer)
  pub now : new ≡ slice_set old slot (Some (guard.Write (record writer { image = slice_set writer.image 12 byte })))

-- ---- lines

-- The line of a cue, from this state, with the guards that its worker has before and after it. A cue is done exactly
-- where nothing refuses it, and refused with that refusal. A byte is written exactly where the slot is latched X, and
-- looked at exactly where it is latched.
abbrev pub IsLineOf : Parts → State → (old new : List (Option Guard)) → Cue → Line → Type 0
IsLineOf v s old new cue (Did m reply) = refusal_to s cue ≡ None
IsLineOf v s old new cue (Refused asked why) = refusal_to s cue ≡ Some why
IsLineOf v s old new (Write w slot byte) Wrote = (may_write (held_of s w slot) ≡ true) × Writes slot byte old new
IsLineOf v s old new (Write w slot byte) NoLatch = (may_write (held_of s w slot) ≡ false) × (new ≡ old)
IsLineOf v s old new (Look w slot) (Looked byte) =
    (may_look (held_of s w slot) ≡ true) × (new ≡ old)
    × ((image : List ℕ) × Lets v s (placed old slot) image × (first_of image ≡ Some byte))
IsLineOf v s old new (Look w slot) NoLatch = (may_look (held_of s w slot) ≡ false) × (new ≡ old)
IsLineOf v s old new cue line = ⊥

-- The worker whose guards a cue writes or looks at. (0 for other cues, whose lines tell of no guard.)
abbrev pub looker : Cue → ℕ
looker (Write w slot byte) = w
looker (Look w slot) = w
looker _ = 0

-- ---- what stays

-- The hand, if it is there, with these guards in place of its own.
abbrev pub hand_with : List (Option Guard) → Option Hand → Option Hand
hand_with guards None = None
hand_with guards (Some hand) = Some (record hand { guards = guards })

-- The hands, in which worker w has these guards in place of its own.
abbrev pub hands_with : Hands → (w : ℕ) → List (Option Guard) → Hands
hands_with hands w guards =
    record hands { workers = slice_set hands.workers w (hand_with guards (placed hands.workers w)) }

-- What a cue leaves that isn't done: the vault and all hands. Where it writes a byte, the guards of its worker may change,
-- and nothing else of the hands. Of a cue that is done nothing is said here.
abbrev pub Leaves : Parts → Hands → Cue → Line → (next : Parts) → (left : Hands) → Type 0
Leaves v hands cue (Did m reply) next left = Unit {0}
Leaves v hands cue Wrote next left =
    (next ≡ v) × (left ≡ hands_with hands (looker cue) (guards_of left (looker cue)))
Leaves v hands cue line next left = (next ≡ v) × (left ≡ hands)

-- ---- scripts

-- A cue is played where the hands fit: its line is exact, it leaves all else where it isn't done, and the hands still
-- fit.
pub record Plays (v : Parts) (hands : Hands) (cue : Cue) (line : Line) (next : Parts) (left : Hands) : Type 0 where
  pub comes : ComesTo v cue line next
  pub exact : (s : State) → StandsFor v s
      → IsLineOf v s (guards_of hands (looker cue)) (guards_of left (looker cue)) cue line
  pub leaves : Leaves v hands cue line next left
  pub fit : HandsFit next left

-- Each cue in its turn, a line for each.
abbrev pub PlaysAll : Parts → Hands → List Cue → List Line → (next : Parts) → (left : Hands) → Type 0
PlaysAll v hands [] [] next left = (next ≡ v) × (left ≡ hands)
PlaysAll v hands [] (line ∷ lines) next left = ⊥
PlaysAll v hands (cue ∷ cues) [] next left = ⊥
PlaysAll v hands (cue ∷ cues) (line ∷ lines) next left =
    (mid : Parts) × (held : Hands) × Plays v hands cue line mid held × PlaysAll mid held cues lines next left

-- A script is so played where the hands fit at its start; its lines come behind those that were there.
abbrev pub PlaysFrom : (old : Parts) → Hands → List Cue → (before now : List Line) → (new : Parts) → Hands → Type 0
PlaysFrom old hands cues before now new left =
    (told : List Line) × (now ≡ before ++ told) × PlaysAll old hands cues told new left
