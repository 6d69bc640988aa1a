pub mod KeptValues
pub mod Operands
pub mod NamedExpressions
