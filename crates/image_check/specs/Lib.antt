pub mod Answer
pub mod Statements
