pub mod LargeCalls
pub mod ShortTexts
pub mod AnsweredLemmas
