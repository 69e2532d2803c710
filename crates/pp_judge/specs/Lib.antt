pub mod Steps
pub mod Judgement
pub mod Passed
pub mod Answers
pub mod Lines
