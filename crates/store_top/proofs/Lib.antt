mod Complete
pub mod Calls
pub mod InputLemmas
pub mod OnDiskLemmas
pub mod RanLemmas
pub mod ReadFaults
pub mod Runs
pub mod CallsServed
pub mod CallsTallied
pub mod RanMadeLemmas
pub mod RanAsLemmas
pub mod TogetherLemmas
