pub mod ArithmeticCases
pub mod SoundLaws
pub mod TurnLaws
pub mod IntoFloatLaws
pub mod NegationLaws
pub mod TangentLaws
