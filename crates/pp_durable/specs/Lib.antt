-- What the contracts of this crate cite.
pub mod Ahead
pub mod Checked
pub mod Crash
pub mod Honest
pub mod Noticed
pub mod Sum
pub mod Syncing
