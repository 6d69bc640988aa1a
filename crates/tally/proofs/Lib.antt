pub mod BodyTallyLaws
pub mod CappedLaws
pub mod FigureTableLaws
pub mod FiguresLaws
pub mod GateTallyLaws
pub mod PlainTallyLaws
