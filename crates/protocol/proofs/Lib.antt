pub mod Sizes
pub mod BodyLayout
pub mod NameForms
pub mod Naming
pub mod Inside
pub mod Verdicts
