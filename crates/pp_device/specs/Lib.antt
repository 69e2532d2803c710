-- What the contracts of this crate cite.
pub mod Answers
pub mod DeviceFile
pub mod Disk
pub mod Faults
pub mod Honest
pub mod Image
pub mod Troubled
