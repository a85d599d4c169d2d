mod BelowLemmas
mod CountLemmas
mod CutLemmas
mod MadeLemmas
mod MergeLemmas
mod NetLemmas
pub mod OverLemmas
mod PlaceSteps
mod PutLemmas
mod RoomLemmas
mod RunsLeft
mod SameLemmas
pub mod SoundLemmas
mod SpotLemmas
mod WalkLemmas
pub mod WriteNet
