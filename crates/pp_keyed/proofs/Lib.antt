-- The lemmas: that ARC's figure is the same under other names, and so is a cache.
pub mod RenamedLemmas
pub mod PlacedLemmas
pub mod ByKeysLemmas
pub mod TakenLemmas
pub mod CallLemmas
pub mod BringLemmas
pub mod RekeyLemmas
pub mod ManyLemmas
pub mod WalkLemmas
pub mod CountLemmas
pub mod AnswerLemmas
pub mod SweepLemmas
