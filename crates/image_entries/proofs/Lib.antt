pub mod JudgementLaws
pub mod MatchingLaws
pub mod RegisterFlawLaws
pub mod ScopeLaws
pub mod UnusedLaws
