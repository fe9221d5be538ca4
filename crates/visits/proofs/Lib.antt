pub mod Theorems
pub mod Examples
pub mod HowMany
