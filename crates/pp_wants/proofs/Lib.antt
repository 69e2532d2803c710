-- Lemmas, lowest first.
pub mod Masks
pub mod Places
pub mod Settling
pub mod Lawful
