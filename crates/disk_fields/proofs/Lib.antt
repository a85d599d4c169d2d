pub mod Texts
pub mod Loop
pub mod ReadNumbers
pub mod ReadFields
pub mod ReadWhole
