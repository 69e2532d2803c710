-- What the end of a hall comes to.
use Rattle.std.specs.Prelude.{◌≡◌, ◌≢◌, ℕ, ◌<◌, true, None, Some, List, slice_get}
use Rattle.pp_frames.specs.Marks.{marks_of}
use Rattle.pp_model.specs.Pool.{State, dirty_pages, known_mark}
use Rattle.pp_model.specs.Marks.{marks}
use Rattle.pp_vault.specs.Parts as vault
use Rattle.pp_vault.specs.StandsFor.{StandsFor}
use Rattle.pp_pool.specs.declared.request.Request.{Request}
use Rattle.pp_pool.specs.declared.response.Response.{Response}
use Rattle.pp_hall.specs.declared.counts.Stats.{Stats}
use Rattle.pp_hall.specs.declared.error.CloseError.{CloseError}
use Rattle.pp_hall.specs.declared.error.CloseError.TheVariants.{Busy, WriteFault, FlushesSpent}
use Rattle.pp_hall.specs.Askers.{asker}
use Rattle.pp_hall.specs.Seatings as seatings
use Rattle.pp_hall.specs.Seatings.{Performs, first_out}
use Rattle.pp_hall.specs.Halls.{Parts}
use Rattle.pp_hall.specs.Calls.{StatsAre, with_seating}

-- The second comes of the first by the flusher's requests alone, one after another.
pub data ComesBy (x : seatings.Parts) : seatings.Parts → Type 0 where
  stays : ComesBy x x
  further : (y z : seatings.Parts) (asked : Request) (response : Response) → ComesBy x y → asker asked ≡ None
      → Performs y asked response z → ComesBy x z

-- No chair is out, and the flusher is home.
pub record IsAllHome (h : Parts) : Type 0 where
  pub chairs : first_out h.seating.peaks ≡ None
  pub flusher : h.posts.is_flusher_home ≡ true

-- No page is newer than the device's.
abbrev pub IsClean : seatings.Parts → Type 0
IsClean x = (s : State) → StandsFor x.vault s → dirty_pages s ≡ 0

-- A hall whose chairs and flusher were home was closed: by flushes alone it came to a vault that no page is newer in
-- than on the device.
pub record IsClosed (old : Parts) (stats : Stats) : Type 0 where
  pub home : IsAllHome old
  pub last : seatings.Parts
  pub by : ComesBy old.seating last
  pub clean : IsClean last
  pub told : StatsAre (with_seating old last) stats
  pub dirty : stats.dirty ≡ 0

-- Why it isn't closed. It is busy where a chair is out, or the flusher. Else all are home; and where it says that no
-- flush is left, pages are newer than the device's.
abbrev pub CloseFails : Parts → CloseError → Parts → Type 0
CloseFails old Busy new = ¬ IsAllHome old
CloseFails old (WriteFault page) new = IsAllHome old
CloseFails old FlushesSpent new =
    IsAllHome old × ((s : State) → StandsFor new.seating.vault s → dirty_pages s ≢ 0)

-- The hall comes back whole: nothing was done but flushes.
pub record IsBack (old : Parts) (error : CloseError) (new : Parts) : Type 0 where
  pub why : CloseFails old error new
  pub by : ComesBy old.seating new.seating
  pub rest : new ≡ record old { seating = new.seating; waiters = new.waiters }

-- The page is newer than the device's, and this is its mark.
pub record IsDirtyPage (v : vault.Parts) (page mark : ℕ) : Type 0 where
  pub dirty : (s : State) → StandsFor v s → (marks_of (marks s) page).dirty ≡ true
  pub known : (s : State) → StandsFor v s → known_mark s page ≡ Some mark

-- The page stands with this mark in one of the first places of the list.
pub record IsListed (count : ℕ) (list : List (ℕ × ℕ)) (page mark : ℕ) : Type 0 where
  pub at : ℕ
  pub first : at < count
  pub there : slice_get list at ≡ Some (page, mark)
