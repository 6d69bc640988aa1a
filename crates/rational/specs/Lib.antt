pub mod Gcd
pub mod Root
pub mod Rational
pub mod Promise
