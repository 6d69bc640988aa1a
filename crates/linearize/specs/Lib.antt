pub mod StartContext
pub mod MainStatement
pub mod Linearizes
