-- The lemmas: on handles for the walks, and on what the calls answer.
pub mod HandleLemmas
pub mod CallLemmas
