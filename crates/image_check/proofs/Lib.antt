pub mod CallFitsLaws
pub mod CheckLaws
pub mod FirstBadLaws
pub mod FlawLaws
pub mod FirstOfLaws
