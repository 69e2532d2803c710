pub mod Steps
pub mod Trees
pub mod Keys
pub mod Values
pub mod Escapes
pub mod Positions
pub mod Cutting
pub mod Printed
