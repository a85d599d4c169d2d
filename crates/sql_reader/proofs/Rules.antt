-- Each rule is right for its language.
pub mod Values
pub mod Conditions
pub mod Lists
pub mod Creates
pub mod Items
pub mod Queries
pub mod Slots
pub mod Selects
pub mod Kinds
pub mod Levels
pub mod Statements
