pub mod KeptViews
pub mod Looked
pub mod Sent
pub mod SentPages
pub mod SentParts
pub mod SentVersion
pub mod SentViews
pub mod Subjects
