pub mod Laws
pub mod Streaming
pub mod Examples
