pub mod KeptLists
pub mod Listing
pub mod MoveLemmas
pub mod StandingLemmas
pub mod Untouched
