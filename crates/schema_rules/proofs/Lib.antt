pub mod FirstBroken
pub mod Firsts
pub mod Repeats
pub mod Reported
