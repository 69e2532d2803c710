pub mod Content
pub mod Told
pub mod Agreeing
pub mod HandMoves
pub mod ContentLaws
