-- What the contracts of this crate cite.
pub mod End
pub mod Refusals
pub mod Stores
