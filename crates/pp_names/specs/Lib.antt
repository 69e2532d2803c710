-- What contracts cite. Slots and Kept say how a table is kept.
pub mod Names
pub mod Slots
pub mod Kept
pub mod Ordered
