-- What the contracts of this crate cite.
pub mod Ends
pub mod Leaves
pub mod Numbers
pub mod Power
