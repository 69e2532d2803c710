-- What contracts cite, lowest first.
pub mod Counting
pub mod Complete
