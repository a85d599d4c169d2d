pub mod Gathered
pub mod Jobs
pub mod Learning
pub mod Serving
pub mod Sessions
pub mod Telling
pub mod ToldCalls
pub mod Written
