pub mod AnglesLaws
pub mod KeptValuesLaws
pub mod EntryLaws
pub mod NamedExpressionLaws
pub mod ParameterLaws
