pub mod Counts
pub mod Fronts
pub mod Lists
pub mod Stretches
pub mod TextCalls
