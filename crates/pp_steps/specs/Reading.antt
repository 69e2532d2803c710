-- Readings of pages that are cached: each is begun by one call, and ended by one.
use Rattle.std.specs.Prelude.{◌≡◌, ◌⊎◌, ℕ, Bool, true, false, Option, None, Some, Ok, Err, Result, List, length, slice_set}
use Rattle.std.specs.Option.{MatchOption}
use Rattle.pp_model.specs.Pool.{State}
use Rattle.pp_plan.specs.declared.action.Ask.{Ask}
use Rattle.pp_plan.specs.declared.action.Ask.TheVariants as ask
use Rattle.pp_vault.specs.declared.guards.Guard.{Guard}
use Rattle.pp_vault.specs.declared.guards.Guard.TheVariants as guard
use Rattle.pp_vault.specs.declared.guards.ReadGuard.{ReadGuard}
use Rattle.pp_vault.specs.declared.stage.Hand.{Hand}
use Rattle.pp_vault.specs.declared.stage.Stage.{Stage}
use Rattle.pp_vault.specs.declared.stage.Stage.TheVariants as stage
use Rattle.pp_vault.specs.declared.tokens.Session.{Session}
use Rattle.pp_vault.specs.Holding.{is_free, placed}
use Rattle.pp_vault.specs.Parts as vault
use Rattle.pp_vault.specs.Reads.{may_read, may_end_read}
use Rattle.pp_vault.specs.StandsFor.{StandsFor}
use Rattle.pp_hall.specs.declared.told.Told.{Told}
use Rattle.pp_hall.specs.Halls as halls
use Rattle.pp_hall.specs.Calls as hall
use Rattle.pp_steps.specs.declared.error.AtOnceError.{AtOnceError}
use Rattle.pp_steps.specs.declared.error.AtOnceError.TheVariants as at_once
use Rattle.pp_steps.specs.declared.error.PassError.TheVariants as pass_error
use Rattle.pp_steps.specs.declared.pass.Pass.{Pass}
use Rattle.pp_steps.specs.declared.rings.Rings.{Rings}
use Rattle.pp_steps.specs.declared.reading.Begun.{Begun}
use Rattle.pp_steps.specs.declared.reading.Ended.{Ended}
use Rattle.pp_steps.specs.declared.seated.Seated.{Seated}
use Rattle.pp_steps.specs.declared.step.Step.{Step}
use Rattle.pp_steps.specs.Bytes.{ReadsShared, lies_in, no_errand}
use Rattle.pp_steps.specs.Calls.{step_seated}
use Rattle.pp_steps.specs.Parts.{Parts}
use Rattle.pp_steps.specs.Ringing.{AreRings, nobody}
use Rattle.pp_steps.specs.Seats.{seated_at, with_seat}

-- ---- with the tokens of a worker

-- The tokens of a worker that acts in a plan, with this session and these guards.
abbrev pub acting : Session → List (Option Guard) → Hand
acting session guards = record { stage = stage.In session; guards = guards }

-- With the session at this stage the page was fixed and latched S, by one call of the hall, which has told these; this guard comes.
pub record BeginsBy (old : Stage) (h : halls.Parts) (page : ℕ) (got : ReadGuard) (told : Told) (h' : halls.Parts) (new : Stage)
    : Type 0 where
  pub session : Session
  pub acts : old ≡ stage.In session
  pub next : Session
  pub frame : ℕ
  pub reads : hall.Reads h session page next got frame told h'
  pub stays : new ≡ stage.In next

-- The plan has fixed this page and latched it S so. The guard is in the place of its slot, which was free, and these are bytes of the
-- page's body, from this one on.
pub record Gets (old : Hand) (h : halls.Parts) (page from : ℕ) (bytes : List ℕ) (told : Told) (h' : halls.Parts) (new : Hand)
    : Type 0 where
  pub got : ReadGuard
  pub begins : BeginsBy old.stage h page got told h' new.stage
  pub free : is_free old.guards got.slot ≡ true
  pub copies : ReadsShared h'.seating.vault got from bytes
  pub placed_is : new.guards ≡ slice_set old.guards got.slot (Some (guard.Read got))

-- Whether the plan asks a fix into a slot whose place is free.
abbrev pub can_get : List (Option Guard) → Ask → Bool
can_get guards (ask.Fix slot region) = is_free guards slot
can_get guards _ = false

-- The same at a stage, where a plan is acted in.
abbrev pub may_begin : List (Option Guard) → Stage → Bool
may_begin guards (stage.In session) = can_get guards session.ask
may_begin guards _ = false

-- Why both moves aren't made: no plan is acted in, or the vault can't make them at once.
abbrev pub CannotBegin : Stage → vault.Parts → (page : ℕ) → Type 0
CannotBegin (stage.In session) v page = (s : State) → StandsFor v s → may_read session page s ≡ false
CannotBegin _ v page = Unit {0}

-- Why no reading of this page is begun: no plan is acted in, or it asks no fix into a slot whose place is free; or the vault can't make both
-- moves at once.
abbrev pub CannotGet : Stage → List (Option Guard) → vault.Parts → (page : ℕ) → Type 0
CannotGet at guards v page = (may_begin guards at ≡ false) ⊎ CannotBegin at v page

-- With the session at this stage the guard's latch S was taken off and its page unfixed, by one call of the hall, which has told these. The
-- guard is spent.
pub record EndsBy (old : Stage) (h : halls.Parts) (off : ReadGuard) (told : Told) (h' : halls.Parts) (new : Stage) : Type 0 where
  pub session : Session
  pub acts : old ≡ stage.In session
  pub next : Session
  pub mark : ℕ
  pub ends : hall.EndsRead h session off next mark told h'
  pub stays : new ≡ stage.In next

-- The slot whose latch a plan that asks this takes off next, if it does.
abbrev pub asked_off : Ask → Option ℕ
asked_off (ask.Unlatch slot) = Some slot
asked_off _ = None

-- The same at a stage, where a plan is acted in.
abbrev pub slot_off : Stage → Option ℕ
slot_off (stage.In session) = asked_off session.ask
slot_off _ = None

-- The guard of a page that is latched S.
abbrev pub read_guard : Option Guard → Option ReadGuard
read_guard (Some (guard.Read g)) = Some g
read_guard _ = None

-- The guard whose latch the plan takes off next, where that is a latch S.
abbrev pub guard_off : List (Option Guard) → Option ℕ → Option ReadGuard
guard_off guards None = None
guard_off guards (Some slot) = read_guard (placed guards slot)

-- The plan has taken off the latch S that it takes off next, and unfixed its page.
pub record Puts (old : Hand) (h : halls.Parts) (told : Told) (h' : halls.Parts) (new : Hand) : Type 0 where
  pub off : ReadGuard
  pub its : guard_off old.guards (slot_off old.stage) ≡ Some off
  pub ends : EndsBy old.stage h off told h' new.stage
  pub left_is : new.guards ≡ slice_set old.guards off.slot None

-- Why both moves aren't made with this guard: no plan is acted in, or the vault can't make them at once.
abbrev pub CannotEnd : Stage → ReadGuard → vault.Parts → Type 0
CannotEnd (stage.In session) off v = (s : State) → StandsFor v s → may_end_read session off s ≡ false
CannotEnd _ off v = Unit {0}

-- Why no reading is ended: no plan is acted in; or it doesn't take a latch off next; or that slot has no reader's guard; or the vault can't
-- make both moves at once.
abbrev pub CannotPut : Stage → List (Option Guard) → vault.Parts → Type 0
CannotPut at guards v = MatchOption (guard_off guards (slot_off at)) (Unit {0}) (λ off. CannotEnd at off v)

-- ---- of a pool

-- The one that runs, with these tokens.
abbrev pub with_hand : Seated → Hand → Seated
with_hand s hand = record s { worker = record s.worker { hand = hand } }

-- It has begun a reading.
pub record Begins (s : Seated) (h : halls.Parts) (page from : ℕ) (begun : Begun) (bytes : List ℕ) (h' : halls.Parts) (t : Seated)
    : Type 0 where
  pub hand : Hand
  pub gets : Gets s.worker.hand h page from bytes begun.told h' hand
  pub left_is : t ≡ with_hand s hand
  pub step_is : begun.step ≡ step_seated t

-- It has ended one.
pub record Ends (s : Seated) (h : halls.Parts) (ended : Ended) (h' : halls.Parts) (t : Seated) : Type 0 where
  pub hand : Hand
  pub puts : Puts s.worker.hand h ended.told h' hand
  pub left_is : t ≡ with_hand s hand
  pub step_is : ended.step ≡ step_seated t

-- Nothing was done, and nobody told.
pub record IsLeft (old : Parts) (why : AtOnceError) (result : Result Step AtOnceError) (rings : Rings) (new : Parts) : Type 0 where
  pub result_is : result ≡ Err why
  pub rings_are : rings ≡ nobody
  pub same : new ≡ old

-- The one with this pass has begun a reading, and its hall is another by that.
pub record BeginsReading (old : Parts) (pass : Pass) (s : Seated) (page from : ℕ) (result : Result Step AtOnceError) (rings : Rings)
    (bytes : List ℕ) (new : Parts) : Type 0 where
  pub begun : Begun
  pub hall : halls.Parts
  pub left : Seated
  pub begins : Begins s old.hall page from begun bytes hall left
  pub result_is : result ≡ Ok begun.step
  pub rings_are : AreRings old.line begun.told rings
  pub new_is : new ≡ record old { hall = hall; seats = with_seat old.seats pass left }

-- It has ended one.
pub record EndsReading (old : Parts) (pass : Pass) (s : Seated) (result : Result Step AtOnceError) (rings : Rings) (new : Parts)
    : Type 0 where
  pub ended : Ended
  pub hall : halls.Parts
  pub left : Seated
  pub ends : Ends s old.hall ended hall left
  pub result_is : result ≡ Ok ended.step
  pub rings_are : AreRings old.line ended.told rings
  pub new_is : new ≡ record old { hall = hall; seats = with_seat old.seats pass left }

-- Where the bytes lie in a body, the reading is begun, or can't be at once. Else their length is wrong.
abbrev pub GetsIf : (lies : Bool) → Parts → Pass → Seated → (page from : ℕ) → (before : List ℕ) → Result Step AtOnceError → Rings
    → (after : List ℕ) → Parts → Type 0
GetsIf false old pass s page from before result rings after new =
    IsLeft old (at_once.Pass pass_error.WrongLength) result rings new × (after ≡ before)
GetsIf true old pass s page from before result rings after new =
    BeginsReading old pass s page from result rings after new
    ⊎ (CannotGet s.worker.hand.stage s.worker.hand.guards old.hall.seating.vault page
    × IsLeft old at_once.NotAtOnce result rings new × (after ≡ before))

-- What a pass is answered that asks to begin a reading.
abbrev pub GetIs : Option Seated → Parts → Pass → (page from : ℕ) → (before : List ℕ) → Result Step AtOnceError → Rings
    → (after : List ℕ) → Parts → Type 0
GetIs None old pass page from before result rings after new =
    IsLeft old (at_once.Pass (no_errand old pass)) result rings new × (after ≡ before)
GetIs (Some s) old pass page from before result rings after new =
    GetsIf (lies_in old.hall.seating.vault.page_bytes from (length before)) old pass s page from before result rings after new

-- What a pass is answered that asks to end one.
abbrev pub PutIs : Option Seated → Parts → Pass → Result Step AtOnceError → Rings → Parts → Type 0
PutIs None old pass result rings new = IsLeft old (at_once.Pass (no_errand old pass)) result rings new
PutIs (Some s) old pass result rings new =
    EndsReading old pass s result rings new
    ⊎ (CannotPut s.worker.hand.stage s.worker.hand.guards old.hall.seating.vault
    × IsLeft old at_once.NotAtOnce result rings new)
