pub mod Walking
pub mod Noting
pub mod Beginning
