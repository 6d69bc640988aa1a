pub mod HeadLaws
pub mod MarkedLaws
