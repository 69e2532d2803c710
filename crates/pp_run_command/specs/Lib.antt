-- What the contracts of this crate cite.
pub mod Choices
pub mod Endings
pub mod Runs
pub mod Showing
