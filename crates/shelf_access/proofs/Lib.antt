pub mod GatherLemmas
pub mod GotLemmas
pub mod ReachedLemmas
pub mod RunLemmas
pub mod SightLemmas
