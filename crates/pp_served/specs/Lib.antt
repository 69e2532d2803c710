-- What contracts cite, lowest first.
pub mod Texts
pub mod Runs
pub mod Served
