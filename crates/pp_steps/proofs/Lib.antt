pub mod Bodies
pub mod Home
pub mod Places
pub mod Keeping
pub mod Seating
pub mod Halls
mod Entering
pub mod Turns
mod AtOnce
