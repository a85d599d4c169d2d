mod EntryLemmas
mod HalfwayLemmas
mod HoldersLemmas
pub mod PutUnder
mod StandsLemmas
mod TableLemmas
pub mod TellLemmas
