mod CacheLemmas
pub mod Bytes
