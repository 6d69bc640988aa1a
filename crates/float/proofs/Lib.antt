pub mod PowerOfTwoLaws
pub mod ApproximateFloatLaws
pub mod NanLaws
pub mod RoundLaws
pub mod DyadicLaws
pub mod OfBitsLaws
pub mod NearestLaws
