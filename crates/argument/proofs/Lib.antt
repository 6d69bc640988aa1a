pub mod ArgumentLaws
pub mod CallArgumentsLaws
