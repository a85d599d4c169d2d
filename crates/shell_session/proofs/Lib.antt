pub mod CalledLemmas
pub mod CrashLemmas
pub mod FailedLemmas
pub mod LifeLemmas
pub mod NameLemmas
pub mod OpeningLemmas
pub mod PieceLemmas
pub mod StandingLemmas
