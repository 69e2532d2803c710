-- Lowest first.
pub mod Named
pub mod Fitting
pub mod Written
pub mod Audited
pub mod Prepared
pub mod Served
