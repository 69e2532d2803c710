-- The lemmas: on the frames, on the lists and the frames together, on the laws, on names, and on a walk over the lists.
pub mod FrameLemmas
pub mod CacheLemmas
pub mod LawLemmas
pub mod NameLemmas
pub mod WalkLemmas
pub mod SearchTies
pub mod TouchLemmas
