pub mod Alone
pub mod LeavesSince
pub mod LeftBy
pub mod MovesDisk
pub mod Room
pub mod StoreIn
