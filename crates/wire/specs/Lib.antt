pub mod Base128
pub mod Fields
pub mod Walk
pub mod Written
pub mod Forms
pub mod Numbered
