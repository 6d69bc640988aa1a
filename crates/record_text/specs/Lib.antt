pub mod ReadBack
pub mod ReadFront
