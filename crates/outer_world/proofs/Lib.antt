pub mod CrashSteps
pub mod DiskSteps
mod Filling
pub mod FuseSteps
pub mod Moments
mod RamSteps
pub mod Tabulated
