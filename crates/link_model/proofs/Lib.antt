pub mod EdgeColumns
pub mod HolderLemmas
