pub mod Numbers
pub mod Spelled
pub mod PayloadLength
pub mod SoundAfter
pub mod AreaLaws
pub mod OneValue
pub mod JudgedOnce
pub mod JudgedStores
