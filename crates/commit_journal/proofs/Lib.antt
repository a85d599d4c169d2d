pub mod AreaBytes
pub mod FirstByte
pub mod Steps
pub mod Stores
