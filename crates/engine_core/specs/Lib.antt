pub mod Answered
pub mod Asked
pub mod Came
pub mod Made
pub mod Seen
pub mod HasDoomed
pub mod RepresentsWorld
pub mod Stored
