pub mod NullTest
pub mod Pinned
pub mod RowPair
pub mod ValueFault
