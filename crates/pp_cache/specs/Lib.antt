-- What contracts cite. Kept and KeptInside say how the frames are kept.
pub mod Frames
pub mod Kept
pub mod KeptInside
pub mod Cache
pub mod Names
pub mod Searched
