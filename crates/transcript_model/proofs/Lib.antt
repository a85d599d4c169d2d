pub mod PrintedLemmas
pub mod SparedLemmas
pub mod TranscriptLemmas
