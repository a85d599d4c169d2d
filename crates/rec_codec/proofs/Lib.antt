pub mod RisingNames
pub mod ReadPayload
pub mod ShortPayloads
pub mod FramedCommits
