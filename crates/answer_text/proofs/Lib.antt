pub mod AnswersLaws
pub mod LongInputLaws
