-- The lemmas of this crate.
mod Bits
mod Firsts
mod HandedOn
mod Moves
mod Narrow
mod Opening
mod Search
mod Spelling
mod Steps
mod Tables
mod Whole
