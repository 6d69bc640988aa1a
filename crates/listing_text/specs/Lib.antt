pub mod EndText
pub mod InputText
