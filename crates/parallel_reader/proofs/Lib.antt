pub mod CutTexts
pub mod ReadTexts
pub mod SentTexts
