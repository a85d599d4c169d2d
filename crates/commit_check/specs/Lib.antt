pub mod Firsts
pub mod ValueCounts
pub mod Saturated
pub mod Judged
