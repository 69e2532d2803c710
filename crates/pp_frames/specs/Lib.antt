-- What the contracts of this crate cite.
pub mod Arrays
pub mod ArraysInside
pub mod Kept
pub mod KeptInside
pub mod Least
pub mod Marks
pub mod Numbers
pub mod Words
pub mod WordsFall
