pub mod Answers
pub mod Asks
pub mod Calls
pub mod Figures
pub mod Held
pub mod Texts
