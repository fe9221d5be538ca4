pub mod Codes
pub mod Premises
