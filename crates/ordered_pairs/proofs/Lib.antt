pub mod HasLemmas
pub mod RangeLemmas
pub mod RightsLemmas
