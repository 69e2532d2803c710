pub mod Cache
pub mod Bytes
