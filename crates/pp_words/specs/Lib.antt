pub mod CommandLine
pub mod Faults
pub mod Refusals
pub mod Texts
