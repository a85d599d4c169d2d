pub mod Unlinked
