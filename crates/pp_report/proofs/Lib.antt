pub mod Growing
pub mod Sides
pub mod Plain
pub mod Spoken
pub mod Splitting
pub mod Same
pub mod Passing
pub mod LivesPassing
pub mod Verdicts
pub mod LivesLines
pub mod LivesPassed
pub mod LivesAudited
pub mod Few
pub mod Whole
pub mod LivesWhole
pub mod Readback
pub mod Columns
pub mod OneMore
pub mod Complete
mod Stepped
mod Submitted
