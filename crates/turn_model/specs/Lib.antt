pub mod Places
pub mod Start
