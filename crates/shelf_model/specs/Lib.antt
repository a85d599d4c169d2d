pub mod At
pub mod EdgePlaces
pub mod IsCopy
pub mod Seen
pub mod Shelf
