pub mod Texts
pub mod Submits
pub mod Exactly
pub mod Simulated
pub mod Begun
