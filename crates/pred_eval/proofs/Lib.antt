pub mod FirstKey
pub mod PinnedParts
pub mod Ranges
pub mod ShortCuts
