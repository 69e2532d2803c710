-- The lemmas: on handles for the walks, on texts that are read and refused, and on what the calls answer.
pub mod HandleLemmas
pub mod TextLemmas
pub mod CallLemmas
