pub mod Growth
pub mod Made
pub mod Annotation
pub mod Refusals
