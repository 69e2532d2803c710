pub mod Lines
pub mod Simulating
pub mod Refusals
