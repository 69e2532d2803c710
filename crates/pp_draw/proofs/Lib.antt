pub mod Counting
pub mod Drawn
