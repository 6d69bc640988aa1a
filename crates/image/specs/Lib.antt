pub mod Answer
pub mod Entries
pub mod Layout
pub mod Reading
pub mod RegisterStarts
