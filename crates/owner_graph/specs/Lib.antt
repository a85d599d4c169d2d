pub mod Ends
pub mod Fault
pub mod Graph
pub mod Marking
pub mod TopologicalSort
pub mod WayBack
