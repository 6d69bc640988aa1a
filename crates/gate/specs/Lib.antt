pub mod RunContext
pub mod PlainStatement
pub mod RanSteps
pub mod CallStatement
pub mod Running
