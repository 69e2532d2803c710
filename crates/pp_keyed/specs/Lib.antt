-- What contracts cite.
pub mod Renamed
pub mod Keyed
