mod SeatSteps
pub mod PlanTies
mod Crew
mod Asking
mod SlotTies
pub mod Gathered
mod Unpinned
mod SlotKinds
mod Scattering
mod Ties
mod ActTies
mod UsingMoves
mod LatchMoves
mod SentTies
mod MapLaws
mod FixMoves
mod AnswerMoves
mod FlushMoves
mod LeaveMoves
mod TakeMoves
mod UnwindMoves
mod RefusalTies
pub mod ReadAsks
mod ReadTies
mod ReadMoves
pub mod Standing
mod OpeningTies
mod SubmitTies
mod RunTies
mod QueryTies
mod RenewTies
pub mod HoldingTies
pub mod Alike
mod TurnTies
mod DrainTies
mod DrainRuns
mod MoveWays
mod AfterSeats
mod AfterFixes
mod AfterFrames
mod AfterActs
mod AfterOthers
mod AfterFlushes
pub mod AfterMoves
mod KnowsTies
