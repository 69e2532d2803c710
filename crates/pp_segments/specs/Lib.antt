-- What contracts cite, lowest first.
pub mod Lines
pub mod Reading
pub mod Segments
pub mod Refusals
pub mod Auditing
pub mod Audits
pub mod Auditors
