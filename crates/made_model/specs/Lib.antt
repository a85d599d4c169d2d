pub mod Answered
pub mod Draw
pub mod Made
pub mod MadeTexts
pub mod Summary
pub mod SummaryText
