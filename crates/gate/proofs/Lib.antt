pub mod RanStepsLaws
pub mod CallStatementLaws
pub mod OpenGateLaws
pub mod RunContextLaws
pub mod PrimitiveStatementLaws
pub mod BodiesKeptLaws
pub mod RunningLaws
