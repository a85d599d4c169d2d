mod HeldTables
pub mod Holders
mod TableItems
mod SessionItems
mod RowLemmas
mod Searched
mod TestLemmas
