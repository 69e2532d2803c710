-- What contracts cite, lowest first. Table, Fields and Names say how the values are kept.
pub mod Pages
pub mod FourLists
pub mod Bounds
pub mod Figure
pub mod Laws
pub mod Links
pub mod Sizes
pub mod Search
pub mod Tournament
pub mod Passed
pub mod Table
pub mod Fields
pub mod Names
pub mod Slots
