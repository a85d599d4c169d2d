pub mod KeepsEdges
pub mod MoveOrder
pub mod Moves
pub mod Standing
pub mod Touches
