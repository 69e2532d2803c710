-- What contracts cite, lowest first. Places and Kept say how a queue is kept.
pub mod Queues
pub mod Histories
pub mod Places
pub mod Kept
