pub mod Put
pub mod NumberLine
pub mod RecordLine
