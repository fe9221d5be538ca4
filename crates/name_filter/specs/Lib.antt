pub mod Hash
pub mod Filter
pub mod Seen
pub mod Examples
