pub mod Cues
pub mod Lines
pub mod Scripts
pub mod Reading
pub mod Refusals
