mod Dooming
pub mod Elsewhere
mod ItemsThere
pub mod RepresentsSteps
mod Lowest
mod NetNames
mod NetTo
mod NoMemory
pub mod OpenBlocks
pub mod OrderedWrites
mod Quiet
pub mod Runs
pub mod SoundBases
pub mod RepresentsLemmas
pub mod Statements
mod ViewsLeft
