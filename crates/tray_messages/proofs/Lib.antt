pub mod Placed
pub mod Progress
