pub mod After
pub mod Sent
