pub mod Printed
pub mod TellsMemory
pub mod Together
pub mod Transcript
