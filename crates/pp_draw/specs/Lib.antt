pub mod Columns
pub mod Counted
pub mod Drawing
pub mod Walks
