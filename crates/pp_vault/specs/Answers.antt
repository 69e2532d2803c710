-- What the answer of a device comes to.
use Rattle.std.specs.Prelude.{◌≡◌, ℕ, Bool, true, false, ◌&&◌, ◌==◌, Option, None, Some, List, length, if◌then◌else◌}
use Rattle.std.specs.Prelude.{Result, Ok, Err, is_ok}
use Rattle.pp_plan.specs.declared.action.Ask.TheVariants as ask
use Rattle.pp_model.specs.declared.moves.Came.{Came}
use Rattle.pp_model.specs.declared.moves.Came.TheVariants.{Fault, Image}
use Rattle.pp_model.specs.declared.moves.Move.TheVariants.{WriteDone, ReadDone, FlushDone}
use Rattle.pp_model.specs.declared.reply.Failure.{Failure}
use Rattle.pp_model.specs.declared.reply.Failure.TheVariants.{WriteFault}
use Rattle.pp_model.specs.declared.reply.Reply.TheVariants.{MustRead, Failed, Loaded, Flushed}
use Rattle.pp_model.specs.Pool.{State, frame_of, known_mark}
use Rattle.pp_model.specs.Moves.{reply_of, next_of}
use Rattle.pp_core.specs.Queries.{pending_of, errand_of, flushed_page, is_leaving}
use Rattle.pp_device.specs.Image.{head_of}
use Rattle.pp_vault.specs.declared.tokens.Duty.{Duty}
use Rattle.pp_vault.specs.declared.tokens.Duty.TheVariants.{Read, Write, Flush}
use Rattle.pp_vault.specs.declared.tokens.Errand.{Errand}
use Rattle.pp_vault.specs.declared.tokens.Leaver.{Leaver}
use Rattle.pp_vault.specs.declared.tokens.Returned.{Returned}
use Rattle.pp_vault.specs.declared.tokens.Session.{Session}
use Rattle.pp_vault.specs.declared.guards.PinGuard.{PinGuard}
use Rattle.pp_vault.specs.declared.guards.BundleGuard.{BundleGuard}
use Rattle.pp_vault.specs.declared.answering.Answered.{Answered}
use Rattle.pp_vault.specs.declared.answering.Answered.TheVariants as answered
use Rattle.pp_vault.specs.Parts.{Parts}
use Rattle.pp_vault.specs.StandsFor.{StandsFor}
use Rattle.pp_vault.specs.Calls.{Call, asks, stranger}
use Rattle.pp_vault.specs.Events.{Does}
use Rattle.pp_vault.specs.ImageMoves.{PutIn, ImagesStay}
use Rattle.pp_vault.specs.Fits.{is_gathered, IsEmpty}
use Rattle.pp_vault.specs.Tokens.{ErrandFits, SessionFits, PinFits, BundleFits}
use Rattle.pp_vault.specs.Fixes.{Gathers}

-- ---- a flush

-- Whether this page is the one, if any is, and its buffer is as long as it has to be.
abbrev pub is_of_flush : (page : ℕ) → (long : Bool) → Option ℕ → Bool
is_of_flush page long None = false
is_of_flush page long (Some flushed) = (flushed == page) && long

-- Whether the buffer is that of the flush that is in flight.
abbrev pub is_flush_out : (page_bytes page : ℕ) → (image : List ℕ) → State → Bool
is_flush_out page_bytes page image s = is_of_flush page (length image == page_bytes) (flushed_page s)

-- The call that the answer to a flush comes to: the move, or a stranger's.
abbrev pub flushed_call : (page_bytes page : ℕ) → (image : List ℕ) → (ok : Bool) → State → Call
flushed_call page_bytes page image ok s = if is_flush_out page_bytes page image s then asks (FlushDone ok) else stranger

-- The flush is over, and whether the page is clean is told. The buffer is back, and no image has moved.
pub record IsFlushed (old : Parts) (page : ℕ) (image : List ℕ) (ok clean : Bool) (new : Parts) : Type 0 where
  pub does : Does old (flushed_call old.page_bytes page image ok) new
  pub replies : (s : State) → StandsFor old s → reply_of s (FlushDone ok) ≡ Flushed clean
  pub images : new.images ≡ old.images
  pub spare : new.spare ≡ Some image

-- ---- a victim's write

-- Whether a head is of this page, with the mark that is known, if one is.
abbrev pub is_head_of : (page : ℕ) → (head : ℕ × ℕ) → Option ℕ → Bool
is_head_of page head None = false
is_head_of page head (Some mark) = (head.0 == page) && (head.1 == mark)

-- Whether the errand is to write this victim back for this page and slot, and this holds too.
abbrev pub is_of_write : (slot page victim : ℕ) → (holds : Bool) → Option (ℕ × ℕ × Option ℕ) → Bool
is_of_write slot page victim holds None = false
is_of_write slot page victim holds (Some (k, p, None)) = false
is_of_write slot page victim holds (Some (k, p, Some v)) = (k == slot) && (p == page) && (v == victim) && holds

-- Whether this write of a victim is out for worker w: the image is as long as it has to be, and names the victim and
-- its known mark.
abbrev pub is_write_out : (page_bytes w slot page victim : ℕ) → (image : List ℕ) → State → Bool
is_write_out page_bytes w slot page victim image s =
    is_of_write slot page victim
    ((length image == page_bytes) && is_head_of victim (head_of image) (known_mark s victim)) (errand_of s w)

-- The call that the answer to a victim's write comes to.
abbrev pub write_call : (page_bytes w slot page victim : ℕ) → (image : List ℕ) → (ok : Bool) → State → Call
write_call page_bytes w slot page victim image ok s =
    if is_write_out page_bytes w slot page victim image s then asks (WriteDone w ok) else stranger

-- The victim is written. The image goes on with an errand to read the page, and no image in a frame has moved.
pub record IsWritten (old : Parts) (w slot page victim : ℕ) (image : List ℕ) (errand : Errand)
    (new : Parts) : Type 0 where
  pub replies : (s : State) → StandsFor old s
      → (frame : ℕ) × (reply_of s (WriteDone w true) ≡ MustRead frame)
      × (frame_of (next_of s (WriteDone w true)) page ≡ Some frame)
  pub duty : errand.duty ≡ Read w slot page
  pub same : errand.image ≡ image
  pub fits : ErrandFits new errand
  pub images : ImagesStay old new

-- The victim isn't written. The victim of the worker's errand has the frame again that the page had, with its image in
-- it, and the worker leaves its plan.
pub record IsUnwritten (old : Parts) (w page : ℕ) (image : List ℕ) (leaver : Leaver) (new : Parts) : Type 0 where
  pub replies : (s : State) → StandsFor old s → reply_of s (WriteDone w false) ≡ Failed WriteFault
  pub worker : leaver.worker ≡ w
  pub leaves : (s : State) → StandsFor new s → is_leaving s w ≡ true
  pub victim : (s : State) → StandsFor old s
      → (slot : ℕ) × (victim : ℕ) × (errand_of s w ≡ Some (slot, page, Some victim))
      × (frame_of (next_of s (WriteDone w false)) victim ≡ frame_of s page)
  pub images : (s : State) → StandsFor old s → (frame : ℕ) × (frame_of s page ≡ Some frame) × PutIn old new frame image

-- What the answer of a victim's write comes to, where it isn't refused.
abbrev pub WriteEnds : (old : Parts) → (w slot page victim : ℕ) → (image : List ℕ) → (ok : Bool)
    → Result Errand Leaver → (new : Parts) → Type 0
WriteEnds old w slot page victim image ok (Ok errand) new =
    (ok ≡ true) × Does old (write_call old.page_bytes w slot page victim image ok) new
    × IsWritten old w slot page victim image errand new
WriteEnds old w slot page victim image ok (Err leaver) new =
    (ok ≡ false) × Does old (write_call old.page_bytes w slot page victim image ok) new
    × IsUnwritten old w page image leaver new

-- ---- a read

-- What the core is told that came: the head of the image, or a fault.
abbrev pub came_of : (ok : Bool) → (head : ℕ × ℕ) → Came
came_of true head = Image head.0 head.1
came_of false head = Fault

-- Whether the errand is to read this page for this slot, and this holds too.
abbrev pub is_of_read : (slot page : ℕ) → (holds : Bool) → Option (ℕ × ℕ × Option ℕ) → Bool
is_of_read slot page holds None = false
is_of_read slot page holds (Some (k, p, None)) = (k == slot) && (p == page) && holds
is_of_read slot page holds (Some (k, p, Some v)) = false

-- Whether this read is out for worker w, with an image as long as it has to be.
abbrev pub is_read_out : (page_bytes w slot page : ℕ) → (image : List ℕ) → State → Bool
is_read_out page_bytes w slot page image s = is_of_read slot page (length image == page_bytes) (errand_of s w)

-- The call that the answer to a read comes to.
abbrev pub read_call : (page_bytes w slot page : ℕ) → (image : List ℕ) → (ok : Bool) → State → Call
read_call page_bytes w slot page image ok s =
    if is_read_out page_bytes w slot page image s then asks (ReadDone w (came_of ok (head_of image))) else stranger

-- The page is read for a fix: the image that came names it and the mark that is told, and stands in the page's frame. The
-- slot holds the page.
pub record IsRead (old : Parts) (w slot page : ℕ) (image : List ℕ) (ok : Bool) (x : Session) (g : PinGuard)
    (new : Parts) : Type 0 where
  pub replies : (s : State) → StandsFor old s
      → (mark : ℕ) × (reply_of s (ReadDone w (came_of ok (head_of image))) ≡ Loaded mark)
      × (head_of image ≡ (page, mark))
  pub asked : (s : State) → StandsFor old s → (region : ℕ) × (pending_of s w ≡ Some (ask.Fix slot region))
  pub was : (s : State) → StandsFor old s → IsEmpty s w slot
  pub session : SessionFits new w x
  pub guard : PinFits new w g
  pub of_slot : g.slot ≡ slot
  pub of_page : g.page ≡ page
  pub images : (s : State) → StandsFor old s → (frame : ℕ) × (frame_of s page ≡ Some frame) × PutIn old new frame image

-- The page is read for a gather: it is the first of the slot's bundle, which held nothing.
pub record IsReadFirst (old : Parts) (w slot page : ℕ) (image : List ℕ) (ok : Bool) (x : Session) (g : BundleGuard)
    (new : Parts) : Type 0 where
  pub replies : (s : State) → StandsFor old s
      → (mark : ℕ) × (reply_of s (ReadDone w (came_of ok (head_of image))) ≡ Loaded mark)
      × (head_of image ≡ (page, mark))
  pub asked : (s : State) → StandsFor old s → (region : ℕ) × (pending_of s w ≡ Some (ask.Gather slot region))
  pub was : (s : State) → StandsFor old s → IsEmpty s w slot
  pub session : SessionFits new w x
  pub guard : BundleFits new w g
  pub of_slot : g.slot ≡ slot
  pub gathers : Gathers old new w slot page
  pub images : (s : State) → StandsFor old s → (frame : ℕ) × (frame_of s page ≡ Some frame) × PutIn old new frame image

-- The page is read for a gather: it is one more of the slot's bundle, which held a page.
pub record IsReadFurther (old : Parts) (w slot page : ℕ) (image : List ℕ) (ok : Bool) (x : Session)
    (new : Parts) : Type 0 where
  pub replies : (s : State) → StandsFor old s
      → (mark : ℕ) × (reply_of s (ReadDone w (came_of ok (head_of image))) ≡ Loaded mark)
      × (head_of image ≡ (page, mark))
  pub asked : (s : State) → StandsFor old s → (region : ℕ) × (pending_of s w ≡ Some (ask.Gather slot region))
  pub was : (s : State) → StandsFor old s → is_gathered s w slot ≡ true
  pub session : SessionFits new w x
  pub gathers : Gathers old new w slot page
  pub images : (s : State) → StandsFor old s → (frame : ℕ) × (frame_of s page ≡ Some frame) × PutIn old new frame image

-- The page isn't read. The image is back in the frame that the page had, and the worker leaves its plan.
pub record IsUnread (old : Parts) (w page : ℕ) (image : List ℕ) (ok : Bool) (leaver : Leaver)
    (new : Parts) : Type 0 where
  pub replies : (s : State) → StandsFor old s
      → (failure : Failure) × (reply_of s (ReadDone w (came_of ok (head_of image))) ≡ Failed failure)
  pub worker : leaver.worker ≡ w
  pub leaves : (s : State) → StandsFor new s → is_leaving s w ≡ true
  pub images : (s : State) → StandsFor old s → (frame : ℕ) × (frame_of s page ≡ Some frame) × PutIn old new frame image

-- What the answer of a read comes to, where it isn't refused: the page is the slot's own, or in its bundle, as the plan asks
-- it; or it isn't read.
abbrev pub ReadEnds : (old : Parts) → (w slot page : ℕ) → (image : List ℕ) → (ok : Bool) → Answered → (new : Parts) → Type 0
ReadEnds old w slot page image ok (answered.Got session guard) new =
    Does old (read_call old.page_bytes w slot page image ok) new
    × IsRead old w slot page image ok session guard new
ReadEnds old w slot page image ok (answered.Opened session guard) new =
    Does old (read_call old.page_bytes w slot page image ok) new
    × IsReadFirst old w slot page image ok session guard new
ReadEnds old w slot page image ok (answered.Joined session) new =
    Does old (read_call old.page_bytes w slot page image ok) new
    × IsReadFurther old w slot page image ok session new
ReadEnds old w slot page image ok (answered.Lost leaver) new =
    Does old (read_call old.page_bytes w slot page image ok) new × IsUnread old w page image ok leaver new
ReadEnds old w slot page image ok out new = ⊥

-- ---- of any duty

-- The call that the answer of a device to a duty comes to.
abbrev pub duty_call : (page_bytes : ℕ) → Duty → (image : List ℕ) → (ok : Bool) → State → Call
duty_call page_bytes (Read w slot page) image ok s = read_call page_bytes w slot page image ok s
duty_call page_bytes (Write w slot page victim) image ok s = write_call page_bytes w slot page victim image ok s
duty_call page_bytes (Flush page) image ok s = flushed_call page_bytes page image ok s

-- The call that what was made of an errand comes to.
abbrev pub answer_call : (page_bytes : ℕ) → Returned → State → Call
answer_call page_bytes returned s = duty_call page_bytes returned.duty returned.image (is_ok returned.answer) s

-- What it comes to, by the duty, where it isn't refused: a read brings the page or is lost, a victim's write goes on
-- with the read or is lost, and a flush tells whether the page is clean.
abbrev pub DutyEnds : (old : Parts) → Duty → (image : List ℕ) → (ok : Bool) → Answered → (new : Parts) → Type 0
DutyEnds old (Read w slot page) image ok out new = ReadEnds old w slot page image ok out new
DutyEnds old (Write w slot page victim) image ok (answered.Away errand) new =
    WriteEnds old w slot page victim image ok (Ok errand) new
DutyEnds old (Write w slot page victim) image ok (answered.Lost leaver) new =
    WriteEnds old w slot page victim image ok (Err leaver) new
DutyEnds old (Flush page) image ok (answered.Flushed clean) new = IsFlushed old page image ok clean new
DutyEnds old duty image ok out new = ⊥

-- What the answer of a device comes to, where it isn't refused.
abbrev pub AnswerComesTo : (old : Parts) → Returned → Answered → (new : Parts) → Type 0
AnswerComesTo old returned out new = DutyEnds old returned.duty returned.image (is_ok returned.answer) out new
