-- The lemmas, lowest first: on one chain of records, on the table of stacks, and on the places.
pub mod ChainLemmas
pub mod LookLemmas
pub mod MoveLemmas
pub mod FreshLemmas
pub mod PlaceLemmas
