pub mod RecordsLaws
pub mod EndTextLaws
pub mod RunLaws
pub mod InputTextLaws
