-- What holds of a pool at any time, in the words of those who use one.
use Rattle.std.specs.Prelude.{◌≤◌}
use Rattle.pp_model.specs.Pool.{State}
use Rattle.pp_model.specs.Budget.{running_peaks}
use Rattle.pp_model.specs.Laws.{NoneStuck, FlushHoldsAlone, InOrder, LatchesAgree, WithinPeaks, OneErrand, BoundFalls}
use Rattle.pp_model.specs.Laws.{PlansAreAccounted, MarksAreTheJournals, MarksFollow, NextWhileUnderWay, NextIsOpen}
use Rattle.pp_core.specs.Parts.{Parts}
use Rattle.pp_core.specs.StandsFor.{StandsFor}

pub record Headline (s : State) : Type 0 where
  -- no worker can find all frames fixed at a fix that its plan asks
  pub none_finds_all_fixed : NoneStuck s
  -- a fix is told that a flush holds the frames only while a page is being flushed that no slot holds or loads
  pub flush_holds_an_untaken_page : FlushHoldsAlone s
  -- no worker asks a latch against the order of the classes
  pub latches_in_order : InOrder s
  -- the latches on a page are all S, or a single X
  pub latches_agree : LatchesAgree s
  -- each worker holds and loads at most its plan's peak
  pub within_its_peak : WithinPeaks s
  -- the peaks of the running plans sum to at most the frames
  pub peaks_fit_the_frames : running_peaks s ≤ s.settings.layout.frames
  -- no page has two errands out, of workers or of the flusher
  pub one_errand_a_page : OneErrand s
  -- each plan that was taken is with one worker, or was ended once
  pub plans_are_accounted : PlansAreAccounted s
  -- the known mark of each page is the one that any journal of the state tells of it, from the settings' opening state on
  pub known_marks_are_the_journals : MarksAreTheJournals s
  -- from any reached state on, that of a life's beginning as well, it follows from the journal and the mark known there
  pub known_marks_follow : MarksFollow s
  -- while a plan waits or isn't ended, or a flush is in flight, there is a next turn, and only then
  pub someone_moves_next : NextWhileUnderWay s
  -- the moves of the next turn are possible, whatever is decided in them
  pub next_turn_is_open : NextIsOpen s
  -- each move that is done lowers the bound on the moves that are left
  pub bound_falls : BoundFalls s

-- It holds of each state that the parts stand for.
abbrev pub HeadlineHolds : Parts → Type 0
HeadlineHolds f = (s : State) → StandsFor f s → Headline s
