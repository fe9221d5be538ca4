pub mod Call
pub mod Zeros
