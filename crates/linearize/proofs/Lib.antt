pub mod MainContextLaws
pub mod LinearizesLaws
