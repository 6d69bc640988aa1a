pub mod ReadFrontLaws
pub mod ReadBackLaws
pub mod LongInputLaws
