-- When a page becomes newer than the device's, and when it is so no longer.
use Rattle.std.specs.Prelude.{◌≡◌, ◌≢◌, ℕ, true, false, Some}
use Rattle.pp_plan.specs.declared.action.Ask.TheVariants as ask
use Rattle.pp_cert.specs.declared.note.Held.TheVariants.{X}
use Rattle.pp_model.specs.declared.moves.Move.{Move}
use Rattle.pp_model.specs.declared.moves.Move.TheVariants.{Fix, WriteDone, Unlatch, Unwind, FlushDone}
use Rattle.pp_model.specs.declared.reply.Reply.TheVariants.{MustRead}
use Rattle.pp_model.specs.Pool.{writing, Running, Flush, State, is_dirty, frame_of, mark_at}
use Rattle.pp_model.specs.Holders.{page_in, held_in}
use Rattle.pp_model.specs.Moves.{seat_of, asked_by, reply_of, next_of}

-- Worker w holds the page latched X, in this slot.
abbrev pub HoldsExclusive : State → (w slot page : ℕ) → Type 0
HoldsExclusive s w slot page =
    (r : Running) × (seat_of s w ≡ Some (Some r)) × (held_in r slot ≡ X) × (page_in r slot ≡ page)

-- What worker w's plan asks for next is that this slot's latch goes.
abbrev pub AsksUnlatch : State → (w slot : ℕ) → Type 0
AsksUnlatch s w slot = (r : Running) × (seat_of s w ≡ Some (Some r)) × (asked_by r ≡ ask.Unlatch slot)

-- The move ends a latch X on the page: its worker's plan lets it go, or its worker gives the slot back on the way out.
abbrev pub EndsExclusive : State → Move → (page : ℕ) → Type 0
EndsExclusive s (Unlatch w) page = (slot : ℕ) × AsksUnlatch s w slot × HoldsExclusive s w slot page
EndsExclusive s (Unwind w slot) page = HoldsExclusive s w slot page
EndsExclusive s m page = ⊥

-- The move tells that the device has the page: it was written back as a victim; or a flush of it is over that went well,
-- and the page has the mark that it had as the flush began.
abbrev pub IsWritten : State → Move → (page : ℕ) → Type 0
IsWritten s (WriteDone w true) page =
    (r : Running) × (slot : ℕ) × (loaded : ℕ) × (seat_of s w ≡ Some (Some r)) × (r.stage ≡ writing slot loaded page)
IsWritten s (FlushDone true) page =
    (f : Flush) × (s.flush ≡ Some f) × (f.page ≡ page) × (mark_at s page ≡ f.began)
IsWritten s m page = ⊥

-- A page becomes newer than the device's only where a latch X on it ends.
abbrev pub DirtyRises : State → Type 0
DirtyRises s =
    (m : Move) (page : ℕ) → is_dirty s page ≡ false → is_dirty (next_of s m) page ≡ true → EndsExclusive s m page

-- It is so no longer only where the device has it.
abbrev pub DirtyFalls : State → Type 0
DirtyFalls s =
    (m : Move) (page : ℕ) → is_dirty s page ≡ true → is_dirty (next_of s m) page ≡ false → IsWritten s m page

-- A page that leaves its frame for another one that is read at once isn't newer than the device's.
abbrev pub CleanAreEvicted : State → Type 0
CleanAreEvicted s =
    (w page frame victim : ℕ) → reply_of s (Fix w page) ≡ MustRead frame → victim ≢ page
    → frame_of (next_of s (Fix w page)) victim ≢ frame_of s victim → is_dirty s victim ≡ false
