-- Bytes that a host hands in, and is handed.
use Rattle.std.specs.Prelude.{◌≡◌, ◌⊎◌, ℕ, ◌+◌, ◌-◌, ◌==◌, ◌||◌, nat_le, Bool, true, false, Option, None, Some, Ok, Err, Result}
use Rattle.std.specs.Prelude.{is_some, List, ◌++◌, length, take, drop, slice_set, if◌then◌else◌}
use Rattle.pp_device.specs.Image.{body_of}
use Rattle.pp_vault.specs.declared.tokens.Errand.{Errand}
use Rattle.pp_vault.specs.declared.guards.Guard.{Guard}
use Rattle.pp_vault.specs.declared.guards.Guard.TheVariants as guard
use Rattle.pp_vault.specs.declared.guards.ReadGuard.{ReadGuard}
use Rattle.pp_vault.specs.declared.guards.WriteGuard.{WriteGuard}
use Rattle.pp_vault.specs.declared.hands.Flushing.{Flushing}
use Rattle.pp_vault.specs.declared.hands.Flushing.TheVariants as flushing
use Rattle.pp_vault.specs.declared.stage.Stage.{Stage}
use Rattle.pp_vault.specs.declared.stage.Stage.TheVariants as stage
use Rattle.pp_vault.specs.Duties.{is_reading}
use Rattle.pp_vault.specs.Holding.{placed}
use Rattle.pp_vault.specs.Lending.{with_body}
use Rattle.pp_vault.specs.Looks.{may_see, ShowsBody}
use Rattle.pp_vault.specs.Parts as vault
use Rattle.pp_vault.specs.StandsFor.{StandsFor}
use Rattle.pp_model.specs.Pool.{State}
use Rattle.pp_steps.specs.declared.device.Answer.TheVariants as answer
use Rattle.pp_steps.specs.declared.error.PassError.{PassError}
use Rattle.pp_steps.specs.declared.error.PassError.TheVariants as pass_error
use Rattle.pp_steps.specs.declared.pass.Pass.{Pass}
use Rattle.pp_steps.specs.declared.seated.Seated.{Seated}
use Rattle.pp_steps.specs.declared.seats.Place.{Place}
use Rattle.pp_steps.specs.Calls.{flush_in}
use Rattle.pp_steps.specs.Lines.{waiter_at}
use Rattle.pp_steps.specs.Parts.{Parts, is_flushers}
use Rattle.pp_steps.specs.Seats.{seated_at, with_seat}

-- ---- images

-- The errand of a stage, where a device has to be called.
abbrev pub errand_at : Stage → Option Errand
errand_at (stage.Out errand) = Some errand
errand_at _ = None

-- That of the flusher.
abbrev pub flush_errand : Option Flushing → Option Errand
flush_errand (Some (flushing.Out errand)) = Some errand
flush_errand _ = None

-- That of one that runs.
abbrev pub errand_seated : Option Seated → Option Errand
errand_seated None = None
errand_seated (Some s) = errand_at s.worker.hand.stage

-- The errand that the one with this pass has in hand.
abbrev pub errand_of : (flushers : Bool) → Parts → Pass → Option Errand
errand_of true x pass = flush_errand (flush_in x.flusher)
errand_of false x pass = errand_seated (seated_at x.seats pass)

-- Why a pass is refused with which nobody runs, or that isn't at a step of the device: the step is wrong where one waits or runs with it,
-- or it is the flusher's; else it isn't a pass.
abbrev pub no_errand : Parts → Pass → PassError
no_errand x pass =
    if is_flushers x pass || (is_some (seated_at x.seats pass) || is_some (waiter_at x.line pass)) then pass_error.WrongStep
    else pass_error.BadPass

-- The image that is to be written is copied, where it is as long as the slice. Else the slice stays.
abbrev pub CopiesIf : (reading fits : Bool) → (image before : List ℕ) → Result (Unit {0}) PassError → (after : List ℕ) → Type 0
CopiesIf true fits image before result after = (result ≡ Err pass_error.WrongStep) × (after ≡ before)
CopiesIf false false image before result after = (result ≡ Err pass_error.WrongLength) × (after ≡ before)
CopiesIf false true image before result after = (result ≡ Ok tt) × (after ≡ image)

abbrev pub CopiesImage : Option Errand → Parts → Pass → (before : List ℕ) → Result (Unit {0}) PassError → (after : List ℕ) → Type 0
CopiesImage None x pass before result after = (result ≡ Err (no_errand x pass)) × (after ≡ before)
CopiesImage (Some e) x pass before result after =
    CopiesIf (is_reading e.duty) (length before == length e.image) e.image before result after

-- The one that runs, whose device has these bytes.
abbrev pub brought : Seated → List ℕ → Seated
brought s bytes =
    record s { worker = record s.worker { device = record s.worker.device { image = bytes; told = answer.Came } } }

-- The bytes are taken where a page is to be read, and as many as an image has. Else nothing changes.
abbrev pub BringsIf : (reading fits : Bool) → Seated → List ℕ → Result (Unit {0}) PassError → Seated → Type 0
BringsIf false fits s bytes result t = (result ≡ Err pass_error.WrongStep) × (t ≡ s)
BringsIf true false s bytes result t = (result ≡ Err pass_error.WrongLength) × (t ≡ s)
BringsIf true true s bytes result t = (result ≡ Ok tt) × (t ≡ brought s bytes)

-- Whether a device has to read for it.
abbrev pub reads : Option Errand → Bool
reads None = false
reads (Some e) = is_reading e.duty

-- What comes of bytes that are brought to one that runs.
abbrev pub Brings : Seated → List ℕ → Result (Unit {0}) PassError → Seated → Type 0
Brings s bytes result t =
    BringsIf (reads (errand_at s.worker.hand.stage)) (length bytes == length s.worker.device.image) s bytes result t

-- ---- bodies

-- So many bytes from this one on lie in the body of an image of this length.
abbrev pub lies_in : (page_bytes from count : ℕ) → Bool
lies_in page_bytes from count = nat_le (from + count) (page_bytes - 12)

-- The bytes of a body from this one on, so many.
abbrev pub part_of : List ℕ → (from count : ℕ) → List ℕ
part_of body from count = take count (drop from body)

-- The bytes of a body with these in the place of those from this one on.
abbrev pub with_part : List ℕ → (from : ℕ) → List ℕ → List ℕ
with_part body from bytes = take from body ++ (bytes ++ drop (from + length bytes) body)

-- A page that is latched S: the guard is one of the vault's, which shows this body of the page, and these are bytes of it.
pub record ReadsShared (v : vault.Parts) (g : ReadGuard) (from : ℕ) (bytes : List ℕ) : Type 0 where
  pub fits : (s : State) → StandsFor v s → may_see g s ≡ true
  pub body : List ℕ
  pub shown : ShowsBody v g.page body
  pub part : bytes ≡ part_of body from (length bytes)

-- Why so many bytes from this one on aren't read of such a page: the guard isn't one of the vault's, or the body hasn't so many.
abbrev pub CannotSee : vault.Parts → ReadGuard → (from count : ℕ) → Type 0
CannotSee v g from count =
    ((s : State) → StandsFor v s → may_see g s ≡ false)
    ⊎ ((body : List ℕ) × ShowsBody v g.page body × (nat_le (from + count) (length body) ≡ false))

-- The bytes are those of the page in the slot, which is latched.
abbrev pub ReadsGuard : vault.Parts → Option Guard → (from : ℕ) → List ℕ → Type 0
ReadsGuard v (Some (guard.Read g)) from bytes = ReadsShared v g from bytes
ReadsGuard v (Some (guard.Write g)) from bytes = bytes ≡ part_of (body_of g.image) from (length bytes)
ReadsGuard v _ from bytes = ⊥

-- Whether so many bytes from this one on lie in the body of the guard's image.
abbrev pub fits_in : WriteGuard → (from count : ℕ) → Bool
fits_in g from count = nat_le (from + count) (length (body_of g.image))

-- Why so many bytes from this one on aren't read of the page in such a slot: it isn't latched; or it is latched S, and the vault shows
-- no such bytes; or it is latched X, and its body hasn't so many.
abbrev pub CannotRead : vault.Parts → Option Guard → (from count : ℕ) → Type 0
CannotRead v (Some (guard.Read g)) from count = CannotSee v g from count
CannotRead v (Some (guard.Write g)) from count = fits_in g from count ≡ false
CannotRead v _ from count = Unit {0}

abbrev pub ReadFailsBy : (lies : Bool) → Parts → Seated → (slot from count : ℕ) → PassError → Type 0
ReadFailsBy false x s slot from count error = error ≡ pass_error.WrongLength
ReadFailsBy true x s slot from count error =
    (error ≡ pass_error.WrongStep) × CannotRead x.hall.seating.vault (placed s.worker.hand.guards slot) from count

-- Why bytes aren't read: nobody runs with the pass; or so many don't lie in a body; or the page in the slot can't be read.
abbrev pub ReadFails : Option Seated → Parts → Pass → (slot from count : ℕ) → PassError → Type 0
ReadFails None x pass slot from count error = error ≡ no_errand x pass
ReadFails (Some s) x pass slot from count error =
    ReadFailsBy (lies_in x.hall.seating.vault.page_bytes from count) x s slot from count error

-- One with this pass runs, and the bytes are those of the body of the page in its slot.
pub record ReadsBody (x : Parts) (pass : Pass) (slot from : ℕ) (bytes : List ℕ) : Type 0 where
  pub seated : Seated
  pub there : seated_at x.seats pass ≡ Some seated
  pub lies : lies_in x.hall.seating.vault.page_bytes from (length bytes) ≡ true
  pub reads : ReadsGuard x.hall.seating.vault (placed seated.worker.hand.guards slot) from bytes

-- The guard of a page that is latched X, with these bytes in its body.
abbrev pub with_bytes : WriteGuard → (from : ℕ) → List ℕ → WriteGuard
with_bytes g from bytes = record g { image = with_body g.image (with_part (body_of g.image) from bytes) }

-- The guards, with these bytes in the body of the page in the slot, which is latched X.
pub record WritesSlot (guards : List (Option Guard)) (slot from : ℕ) (bytes : List ℕ) (after : List (Option Guard)) : Type 0 where
  pub g : WriteGuard
  pub there : placed guards slot ≡ Some (guard.Write g)
  pub new_is : after ≡ slice_set guards slot (Some (guard.Write (with_bytes g from bytes)))

-- Why so many bytes from this one on aren't put into the page in such a slot: it isn't latched X, or its body hasn't so many.
abbrev pub CannotWrite : Option Guard → (from count : ℕ) → PassError → Type 0
CannotWrite (Some (guard.Write g)) from count error = (error ≡ pass_error.WrongLength) × (fits_in g from count ≡ false)
CannotWrite _ from count error = error ≡ pass_error.WrongStep

abbrev pub WriteFailsBy : (lies : Bool) → Seated → (slot from count : ℕ) → PassError → Type 0
WriteFailsBy false s slot from count error = error ≡ pass_error.WrongLength
WriteFailsBy true s slot from count error = CannotWrite (placed s.worker.hand.guards slot) from count error

-- Why bytes aren't written: nobody runs with the pass; or so many don't lie in a body; or the page in the slot can't be written.
abbrev pub WriteFails : Option Seated → Parts → Pass → (slot from count : ℕ) → PassError → Type 0
WriteFails None x pass slot from count error = error ≡ no_errand x pass
WriteFails (Some s) x pass slot from count error =
    WriteFailsBy (lies_in x.hall.seating.vault.page_bytes from count) s slot from count error

-- It is so, unless bytes went in or out.
abbrev pub OnNoRead : Option (Result (Unit {0}) PassError) → Type 0 → Type 0
OnNoRead (Some (Ok u)) P = Unit {0}
OnNoRead _ P = P

-- One with this pass runs, and the body of the page in its slot has these bytes from then on.
pub record WritesSeat (old : List (Place Seated)) (pass : Pass) (slot from : ℕ) (bytes : List ℕ) (new : List (Place Seated))
    : Type 0 where
  pub seated : Seated
  pub there : seated_at old pass ≡ Some seated
  pub left : Seated
  pub writes : WritesSlot seated.worker.hand.guards slot from bytes left.worker.hand.guards
  pub rest : left
      ≡ record seated {
        worker = record seated.worker { hand = record seated.worker.hand { guards = left.worker.hand.guards } };
      }
  pub new_is : new ≡ with_seat old pass left

-- The same in a pool, where the bytes lie in a body.
pub record WritesBody (old : Parts) (pass : Pass) (slot from : ℕ) (bytes : List ℕ) (new : Parts) : Type 0 where
  pub lies : lies_in old.hall.seating.vault.page_bytes from (length bytes) ≡ true
  pub seats : WritesSeat old.seats pass slot from bytes new.seats
  pub rest : new ≡ record old { seats = new.seats }
