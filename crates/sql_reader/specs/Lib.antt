pub mod AnswerOf
pub mod InputFaults
pub mod reading
pub mod scripts
