pub mod Counted
pub mod Added
pub mod Going
pub mod Performed
pub mod Replying
pub mod Answering
pub mod Handing
pub mod Joined
