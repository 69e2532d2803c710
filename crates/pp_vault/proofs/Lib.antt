pub mod Images
pub mod CoreSteps
pub mod Done
pub mod FixSteps
pub mod FixDone
pub mod DutyEnds
pub mod Looked
pub mod AnswerSteps
pub mod ErrandSteps
pub mod BackSteps
pub mod WriteSteps
pub mod ReadSteps
pub mod Kept
pub mod Actors
pub mod Plain
pub mod SeatMoves
pub mod OpeningFits
pub mod Submitted
mod Renewed
pub mod FitTests
mod Asked
pub mod AfterSteps
pub mod UseReplies
pub mod Using
mod Readings
pub mod Writing
pub mod Flushed
pub mod GoingBack
pub mod HeldFrames
pub mod Heads
pub mod Unlatching
pub mod Unwinding
pub mod LeavesDone
mod RefusalTies
mod Placed
mod StillFits
mod OpeningHands
mod Bodies
mod SubmitFits
mod AllStill
mod RenewFits
