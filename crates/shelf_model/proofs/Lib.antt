pub mod KeptRows
pub mod ShelfLemmas
