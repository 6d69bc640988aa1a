pub mod Gates
pub mod Judging
