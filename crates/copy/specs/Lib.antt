pub mod Renaming
pub mod BodyRecord
pub mod BodyKept
pub mod CopiedRecord
pub mod CopiedRecords
pub mod Renamed
