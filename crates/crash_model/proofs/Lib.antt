pub mod AloneLemmas
pub mod FlatLemmas
pub mod LeftLemmas
pub mod Moves
pub mod RoomLemmas
pub mod SinceLemmas
pub mod StoreLemmas
