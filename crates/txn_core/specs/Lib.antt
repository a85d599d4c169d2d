pub mod SessionStates
pub mod Runs
pub mod Single
pub mod RepresentsBlock
pub mod Transactions
