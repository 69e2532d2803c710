-- What contracts cite, lowest first. Inside says how an outset is kept.
pub mod Outsets
pub mod OutsetLaws
pub mod Coding
pub mod Inside
