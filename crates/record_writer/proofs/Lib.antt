pub mod WroteStepsLaws
pub mod AngleWordsLaws
pub mod PutLaws
