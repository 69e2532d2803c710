pub mod Sums
pub mod Effects
pub mod Complete
pub mod Short
pub mod Text
