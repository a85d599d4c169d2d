pub mod AreaCalls
pub mod Filled
pub mod JournalState
pub mod Retired
