pub mod PutLaws
pub mod SignedTextLaws
pub mod NumberLineLaws
pub mod RecordLineLaws
pub mod RecordTextLaws
pub mod WordLaws
