pub mod Key
pub mod RowValues
pub mod Name
pub mod Row
pub mod formers
