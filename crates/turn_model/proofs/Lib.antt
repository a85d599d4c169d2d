pub mod Sent
pub mod SentCalls
pub mod SentSchemas
