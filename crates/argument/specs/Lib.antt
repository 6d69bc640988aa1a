pub mod Frames
pub mod OneProof
