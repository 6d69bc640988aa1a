pub mod AnswerWordsLaws
