pub mod Ahead
pub mod Look
pub mod Steps
