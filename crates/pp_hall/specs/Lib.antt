-- What contracts cite, lowest first.
pub mod Counting
pub mod Askers
pub mod Telling
pub mod Seatings
pub mod Waiters
pub mod Posts
pub mod Halls
pub mod Calls
pub mod Closing
pub mod Coding
pub mod Inside
