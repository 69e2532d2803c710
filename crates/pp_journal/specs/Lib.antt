pub mod Events
pub mod Coding
pub mod Entries
pub mod Packing
