pub mod Sites
pub mod Executing
pub mod Running
pub mod Halls
pub mod Copies
pub mod Opening
pub mod Checkpoints
