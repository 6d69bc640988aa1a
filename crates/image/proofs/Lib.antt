pub mod ArgumentSizeLaws
pub mod ContentsLaws
pub mod QubitsLaws
pub mod RegisterStartsLaws
pub mod StatementsOfLaws
pub mod GatesAcceptedLaws
