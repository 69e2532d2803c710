-- What contracts cite, lowest first. Inside says how sleepers are kept.
pub mod Masks
pub mod Wants
pub mod Sleepers
pub mod WakeUps
pub mod Laws
pub mod Inside
