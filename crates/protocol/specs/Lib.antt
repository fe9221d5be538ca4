pub mod Numbers
pub mod Names
pub mod Subcommands
pub mod Decode
pub mod Frame
pub mod Cases
pub mod Inside
pub mod Verdict
