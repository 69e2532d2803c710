-- What each move leaves alone: the flush in flight, the settings, and the seats of the other workers.
use Rattle.std.specs.Prelude.{◌≡◌, ◌≢◌, ℕ, Bool, None, Some}
use Rattle.pp_cert.specs.Accepted.{Acceptance}
use Rattle.pp_model.specs.declared.moves.Move.{Move}
use Rattle.pp_model.specs.declared.moves.Move.TheVariants.{FlushBegin, FlushDone}
use Rattle.pp_model.specs.declared.reply.Reply.TheVariants.{Flushing, Flushed}
use Rattle.pp_model.specs.Pool.{Flush, State}
use Rattle.pp_model.specs.Moves.{seat_of, reply_of, next_of}
use Rattle.pp_model.specs.Submitting.{after_submit}
use Rattle.pp_model.specs.WorkerParts.{worker_of}

-- ---- the flush in flight

-- A worker's move leaves it.
abbrev pub FlushStays : State → Type 0
FlushStays s = (m : Move) (w : ℕ) → worker_of m ≡ Some w → (next_of s m).flush ≡ s.flush

-- A flush that begins is the only one, of this page, with the mark that is told.
abbrev pub FlushStarts : State → Type 0
FlushStarts s =
    (page mark : ℕ) → reply_of s (FlushBegin page) ≡ Flushing mark
    → (s.flush ≡ None)
    × ((next_of s (FlushBegin page)).flush ≡ Some (record { page = page; began = mark }))

-- One that is over was in flight, and is no more.
abbrev pub FlushEnds : State → Type 0
FlushEnds s =
    (ok clean : Bool) → reply_of s (FlushDone ok) ≡ Flushed clean
    → ((f : Flush) × (s.flush ≡ Some f)) × ((next_of s (FlushDone ok)).flush ≡ None)

-- ---- the settings and the seats

-- No move changes the settings.
abbrev pub SettingsStay : State → Type 0
SettingsStay s = (m : Move) → (next_of s m).settings ≡ s.settings

-- A worker's move leaves the seat of each other worker.
abbrev pub OthersSit : State → Type 0
OthersSit s = (m : Move) (w v : ℕ) → worker_of m ≡ Some w → v ≢ w → seat_of (next_of s m) v ≡ seat_of s v

-- A move of the flusher leaves all seats.
abbrev pub AllSit : State → Type 0
AllSit s = (m : Move) → worker_of m ≡ None → (next_of s m).seats ≡ s.seats

-- ---- plans that are submitted

-- A plan that is taken in or refused leaves all of these.
abbrev pub SubmitLeaves : State → Type 0
SubmitLeaves s =
    (a : Acceptance) → ((after_submit s a).flush ≡ s.flush) × ((after_submit s a).settings ≡ s.settings)
    × ((after_submit s a).seats ≡ s.seats)
