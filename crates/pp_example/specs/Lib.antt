pub mod Figures
pub mod Node
