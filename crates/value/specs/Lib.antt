pub mod Value
pub mod Promise
