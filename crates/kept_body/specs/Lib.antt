pub mod Slot
pub mod KeptBodies
