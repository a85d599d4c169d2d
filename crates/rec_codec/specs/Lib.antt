pub mod Encodable
pub mod Framed
pub mod Reading
