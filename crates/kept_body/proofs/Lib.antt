pub mod SlotLaws
pub mod KeptBodiesLaws
pub mod BodyCopiedLaws
