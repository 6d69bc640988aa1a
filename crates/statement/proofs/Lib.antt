pub mod LoopedLaws
pub mod RoundLaws
pub mod OverlapsLaws
pub mod WroteDistinctLaws
pub mod MarksLaws
pub mod WithValuesLaws
